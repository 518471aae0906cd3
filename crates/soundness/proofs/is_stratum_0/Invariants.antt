use Prim.Native.Nat.{ℕ, ◌<◌}
use mathlib.Core.Path.{◌≡◌}
use mathlib.Core.List.{[]}
use lib.ListN.{get_or}
use Rattle.rows.specs.inner.RuleRows.{numbers_of}
use Rattle.soundness.proofs.is_stratum_0.Given as goal

abbrev pub invariant-loop-row : goal.invariant-loop-row
invariant-loop-row l = (k : ℕ) → k < l.row-index → get_or (get_or (numbers_of l.rows) k []) 3 0 ≡ 0
