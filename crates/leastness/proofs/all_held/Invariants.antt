use Prim.Native.Nat.{ℕ, ◌<◌}
use mathlib.Core.Bool.{false}
use lib.Dec.{T}
use lib.ListN.{get_or}
use Rattle.leastness.proofs.all_held.Given as goal

abbrev pub invariant-loop-is_held : goal.invariant-loop-is_held
invariant-loop-is_held l = (e : ℕ) → e < l.is_held-index → T (get_or l.held e false)
