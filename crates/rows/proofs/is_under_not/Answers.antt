-- `rows::is_under_not` meets its contract.
use mathlib.Core.Path.{sym}
use Rattle.rows.proofs.Laws.{under_not_number}
use Rattle.rows.proofs.is_under_not.Goals as goal

pub returns : goal.returns
returns c = sym (under_not_number c.args.number c.requires)
