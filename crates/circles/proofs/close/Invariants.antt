use mathlib.Core.Path.{◌≡◌}
use Rattle.circles.specs.inner.Links.{join_through, close_through}
use Rattle.circles.proofs.close.Given as goal

abbrev pub invariant-from : goal.invariant-from
invariant-from l = l.links ≡ join_through l.initial.links l.k l.p

abbrev pub invariant-through : goal.invariant-through
invariant-through l = l.links ≡ close_through l.initial.links l.k
