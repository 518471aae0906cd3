-- `answers::put_card` meets its contract.
use Rattle.laws.specs.Quoted.{bytes_from, bytes}
use Rattle.listing.specs.Printed.{card_text}
use Rattle.writing.proofs.Putting.{puts_on}
use Rattle.listing.proofs.answers.put_card.Goals as goal

pub returns : goal.returns
unfolding card_text bytes bytes_from
returns c = puts_on c.put.ensures (puts_on c.put_bytes.ensures c.put-2.ensures)
