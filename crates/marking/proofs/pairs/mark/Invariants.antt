use mathlib.Core.Path.{◌≡◌}
use lib.ListN.{length}
use Rattle.testing.specs.inner.Waiting.{Woken}
use Rattle.marking.specs.inner.Marked.{rivals_out}
use Rattle.marking.proofs.pairs.mark.Given as goal

abbrev pub invariant-values : goal.invariant-values
invariant-values l = (l.marks ≡ rivals_out l.p l.rival l.initial.marks) × Woken l.n l.top l.woken × (length l.queued ≡ length l.initial.queued) × (length l.woken ≡ length l.initial.woken)
