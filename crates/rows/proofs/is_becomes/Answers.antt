-- `rows::is_becomes` meets its contract.
use mathlib.Core.Path.{refl}
use Rattle.model.specs.Strata.{is_becomes}
use Rattle.rows.proofs.is_becomes.Goals as goal

pub returns : goal.returns
unfolding is_becomes
returns c = refl
