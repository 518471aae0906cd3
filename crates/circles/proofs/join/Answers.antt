-- `circles::join` meets its contract.
use native.Mathlib.Numerals.{add-one}
use mathlib.Core.Path.{◌≡◌, refl}
use Rattle.circles.specs.inner.Links.{pair_words, join_words}
use native.Mathlib.Omega.{arith}
use Rattle.circles.proofs.join.Goals as goal

pub loop-w-init : goal.loop-w-init
unfolding join_words
loop-w-init c = refl

pub loop-w-preserved : goal.loop-w-preserved
unfolding join_words
loop-w-preserved c = rw (c.loop-w.invariant, add-one c.loop-w.w)

pub returns : goal.returns
returns c = let e : c.loop-w.w ≡ pair_words = omega arith in rw e at c.loop-w.invariant
