-- `rows::is_plain` meets its contract.
use mathlib.Core.Path.{sym}
use Rattle.rows.proofs.Laws.{plain_number}
use Rattle.rows.proofs.is_plain.Goals as goal

pub returns : goal.returns
returns c = sym (plain_number c.args.number c.requires)
