-- `list_refusal` meets its contract.
use Rattle.listing.specs.Printed.{printed}
use Rattle.listing.proofs.Placed.{placed_none, placed_all}
use Rattle.listing.proofs.list_refusal.Goals as goal

pub returns-then-out-size : goal.returns-then-out-size
unfolding printed
returns-then-out-size c = rw (← c.number-number.ensures, ← c.second-second.ensures) (placed_none c.put_refusal-size.ensures c.if-out-size.true)

pub returns : goal.returns
unfolding printed
returns c = rw (← c.number-number.ensures, ← c.second-second.ensures) (placed_all c.put_refusal-size.ensures c.if-out-size.false c.put_refusal.ensures)
