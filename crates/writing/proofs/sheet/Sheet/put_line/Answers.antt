-- `sheet::Sheet::put_line` meets its contract.
use Rattle.laws.specs.Quoted.{bytes_from, bytes}
use Rattle.writing.specs.inner.Written.{line_bytes}
use Rattle.writing.proofs.Putting.{puts_on}
use Rattle.writing.proofs.sheet.Sheet.put_line.Goals as goal

pub returns : goal.returns
unfolding line_bytes bytes bytes_from
returns c = puts_on c.put.ensures (puts_on c.put_name.ensures (puts_on c.put-2.ensures (puts_on c.put_values.ensures c.put-3.ensures)))
