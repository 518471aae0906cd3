use mathlib.Core.Path.{◌≡◌}
use Prim.Native.Nat.{◌*◌, ◌≤◌}
use lib.ListN.{length}
use Rattle.testing.specs.inner.Waiting.{Woken}
use Rattle.marking.proofs.waking.wake.Given as goal

abbrev pub invariant-chain : goal.invariant-chain
invariant-chain l =
    (l.x ≤ l.n * 9) × (length l.queued ≡ length l.initial.queued) × (length l.woken ≡ length l.initial.woken) × Woken l.n l.top l.woken

abbrev pub decreases-chain : goal.decreases-chain
decreases-chain l = l.x
