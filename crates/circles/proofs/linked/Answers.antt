-- `circles::linked` meets its contract.
use mathlib.Core.Path.{refl}
use Rattle.laws.specs.Words.{bit}
use Rattle.circles.specs.inner.Links.{linked}
use Rattle.circles.proofs.linked.Goals as goal

pub returns : goal.returns
unfolding linked bit
returns c = refl
