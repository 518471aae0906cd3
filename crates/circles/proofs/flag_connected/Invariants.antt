use mathlib.Core.Path.{◌≡◌}
use Rattle.circles.specs.inner.Links.{flag_connected}
use Rattle.circles.proofs.flag_connected.Given as goal

abbrev pub invariant-pairs : goal.invariant-pairs
invariant-pairs l = l.flags ≡ flag_connected l.links l.k l.initial.flags l.p
