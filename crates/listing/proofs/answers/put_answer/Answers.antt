-- `answers::put_answer` meets its contract.
use Rattle.std.proofs.Common.{rules}
use Rattle.listing.specs.Printed.{printed}
use Rattle.writing.proofs.Putting.{puts_on, puts_in}
use Rattle.listing.proofs.answers.put_answer.Goals as goal

pub returns : goal.returns
unfolding printed
returns c = let p = puts_on c.put_rules.ensures (puts_on c.put_changes.ensures (puts_on c.put_card.ensures c.put_tally.ensures)) in puts_in {s1 = c.put_tally.new.sheet} p (search (rules, p.same_output))
