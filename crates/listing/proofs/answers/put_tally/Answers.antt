-- `answers::put_tally` meets its contract.
use Rattle.laws.specs.Quoted.{bytes_from, bytes}
use Rattle.listing.specs.Printed.{tally_text}
use Rattle.writing.proofs.Putting.{puts_on}
use Rattle.listing.proofs.answers.put_tally.Goals as goal

pub returns : goal.returns
unfolding tally_text bytes bytes_from
returns c = puts_on c.put.ensures (puts_on c.put_number.ensures (puts_on c.put-2.ensures (puts_on c.put_number-2.ensures (puts_on c.put-3.ensures (puts_on c.put_number-3.ensures c.put-4.ensures)))))
