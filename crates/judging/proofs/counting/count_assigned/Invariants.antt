use mathlib.Core.Path.{◌≡◌}
use Prim.Native.Nat.{ℕ, ◌+◌, ◌≤◌, ◌<◌}
use lib.ListN.{length, get_or}
use Rattle.table.specs.inner.Flat.{pair_places}
use Rattle.table.proofs.Walks.{assigned_from}
use Rattle.rows.specs.inner.Rows.{rule_in}
use Rattle.judging.specs.inner.Times.{times}
use Rattle.judging.proofs.counting.count_assigned.Given as goal

abbrev pub invariant-loop-k : goal.invariant-loop-k
invariant-loop-k l = (length l.live ≡ pair_places) × ((q : ℕ) → q < pair_places → get_or l.live q 0 + times q (assigned_from (rule_in l.row.numbers) l.k) ≡ get_or l.initial.live q 0 + times q (assigned_from (rule_in l.row.numbers) 0)) × ((q : ℕ) → get_or l.live q 0 ≤ 65000 + l.k)
