-- `table::empty_table` meets its contract.
use Rattle.table.proofs.empty_table.Goals as goal

pub returns : goal.returns
returns c = rw c.empty_rule-rule.ensures
