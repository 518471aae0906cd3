use mathlib.Core.Path.{◌≡◌}
use Rattle.circles.specs.inner.Links.{join_words}
use Rattle.circles.proofs.join.Given as goal

abbrev pub invariant-loop-w : goal.invariant-loop-w
invariant-loop-w l = l.links ≡ join_words l.initial.links l.p l.k l.w
