use mathlib.Core.Path.{◌≡◌}
use Rattle.circles.specs.inner.Links.{pair_words, is_empty}
use Rattle.circles.proofs.is_empty.Given as goal

abbrev pub invariant-loop-w : goal.invariant-loop-w
invariant-loop-w l = is_empty l.links l.p l.w ≡ is_empty l.links l.p pair_words
