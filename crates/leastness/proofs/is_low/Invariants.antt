use mathlib.Core.List.{[]}
use Prim.Native.Nat.{ℕ, ◌≤◌, ◌<◌}
use lib.ListN.{get_or, length}
use Rattle.rows.specs.inner.RuleRows.{numbers_of}
use Rattle.leastness.proofs.is_low.Given as goal

abbrev pub invariant-loop-row : goal.invariant-loop-row
invariant-loop-row l = (k : ℕ) → k < l.row-index → get_or (get_or (numbers_of l.rows) k []) 3 0 ≤ length l.rows
