use mathlib.Core.Path.{◌≡◌}
use Rattle.circles.specs.inner.Links.{spread}
use Rattle.circles.proofs.spread.Given as goal

abbrev pub invariant-flagged : goal.invariant-flagged
invariant-flagged l = l.all ≡ spread l.links l.flags l.k
