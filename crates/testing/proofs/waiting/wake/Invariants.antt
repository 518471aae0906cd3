use mathlib.Core.Path.{◌≡◌}
use Prim.Native.Nat.{◌-◌, ◌≤◌}
use lib.ListN.{length}
use Rattle.testing.specs.inner.Waiting.{Woken}
use Rattle.testing.proofs.waiting.wake.Given as goal

abbrev pub invariant-loop-top : goal.invariant-loop-top
invariant-loop-top l = (l.x ≤ l.n) × (length l.woken ≡ length l.initial.woken) × Woken l.n l.top l.woken

abbrev pub decreases-loop-top : goal.decreases-loop-top
decreases-loop-top l = l.n - l.top
