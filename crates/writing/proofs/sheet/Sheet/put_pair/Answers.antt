-- `sheet::Sheet::put_pair` meets its contract.
use Rattle.writing.specs.inner.Spelled.{spelled_pair}
use Rattle.writing.proofs.Putting.{puts_on}
use Rattle.writing.proofs.sheet.Sheet.put_pair.Goals as goal

pub returns : goal.returns
unfolding spelled_pair
returns c = puts_on (rw c.from.ensures at c.put_name.ensures) (puts_on c.put.ensures c.put_value.ensures)
