-- `truths::not` meets its contract.
use mathlib.Core.Path.{refl}
use Rattle.truths.specs.Truths.{NOT₃, number}
use Rattle.truths.proofs.not.Goals as goal

pub returns-in-False : goal.returns-in-False
unfolding NOT₃ number
returns-in-False c = rw c.in-False.is (refl, refl)

pub returns-in-True : goal.returns-in-True
unfolding NOT₃ number
returns-in-True c = rw c.in-True.is (refl, refl)

pub returns-in-Unknown : goal.returns-in-Unknown
unfolding NOT₃ number
returns-in-Unknown c = rw c.in-Unknown.is (refl, refl)
