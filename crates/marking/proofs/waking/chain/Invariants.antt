use mathlib.Core.Path.{◌≡◌}
use Prim.Native.Nat.{◌+◌}
use lib.ListN.{length}
use Rattle.marking.specs.inner.Waking.{Chained}
use Rattle.marking.proofs.waking.chain.Given as goal

abbrev pub invariant-literals : goal.invariant-literals
invariant-literals l = (length l.nexts ≡ length l.initial.nexts) × (Chained (l.first + 1) l.initial.heads l.initial.nexts → Chained (l.first + 1 + l.j) l.heads l.nexts)
