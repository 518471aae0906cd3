use mathlib.Core.Path.{◌≡◌}
use mathlib.Core.List.{List}
use Prim.Native.Nat.{ℕ}
use lib.ListN.{length}
use Rattle.table.specs.inner.Flat.{pair_places, add_pairs}
use Rattle.table.proofs.Walks.{assigned_from}
use Rattle.rows.specs.inner.Rows.{rule_in}
use Rattle.testing.specs.inner.Truth.{Truth}
use Rattle.testing.specs.inner.Waiting.{Waiting, Woken}
use Rattle.firing.proofs.assign.Given as goal

abbrev pub invariant-loop-k : goal.invariant-loop-k
invariant-loop-k l = (length l.changes ≡ pair_places) × (length l.woken ≡ length l.initial.woken) × (add_pairs (assigned_from (rule_in l.assigning.numbers) l.k) l.changes ≡ add_pairs (assigned_from (rule_in l.assigning.numbers) 0) l.initial.changes) × ((S : List ℕ) → Truth S l.initial.changes l.initial.truth → Truth S l.changes l.truth) × Waiting l.n l.heads l.nexts × Woken l.n l.top l.woken
