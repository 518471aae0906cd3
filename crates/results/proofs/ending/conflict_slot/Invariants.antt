use mathlib.Core.Path.{◌≡◌}
use Prim.Native.Nat.{◌≤◌}
use Rattle.results.proofs.Values.{values_below, CalmBelow}
use Rattle.results.proofs.ending.conflict_slot.Given as goal

abbrev pub invariant-values : goal.invariant-values
invariant-values l = (l.count ≤ l.v) × (l.count ≡ values_below l.changes l.s l.v)

abbrev pub invariant-slots : goal.invariant-slots
invariant-slots l = CalmBelow l.changes l.s
