-- `sheet::Sheet::put_rule` meets its contract.
use Rattle.laws.specs.Quoted.{bytes_from, bytes}
use Rattle.writing.specs.inner.Written.{rule_bytes}
use Rattle.writing.proofs.Putting.{puts_on}
use Rattle.writing.proofs.sheet.Sheet.put_rule.Goals as goal

pub returns : goal.returns
unfolding rule_bytes bytes bytes_from
returns c = puts_on c.put.ensures (puts_on c.put_pair.ensures (puts_on c.put-2.ensures (puts_on c.put_condition.ensures (puts_on c.put-3.ensures (puts_on c.put_assign.ensures c.put-4.ensures)))))
