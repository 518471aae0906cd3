-- `rows::above` meets its contract.
use mathlib.Core.Path.{sym}
use Rattle.rows.proofs.Laws.{above_number}
use Rattle.rows.proofs.above.Goals as goal

pub returns : goal.returns
returns c = sym (above_number c.args.number c.requires)
