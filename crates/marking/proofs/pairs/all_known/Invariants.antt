use mathlib.Core.Path.{◌≡◌}
use mathlib.Core.Bool.{Bool, true, false}
use mathlib.Core.List.{List}
use Prim.Native.Nat.{ℕ, ◌+◌, ◌*◌}
use lib.ListN.{get_or}
use Rattle.laws.specs.Truth.{◌∨ᵇ◌}
use Rattle.laws.specs.Limits.{row}
use Rattle.marking.proofs.Slots.{UpTo}
use Rattle.marking.proofs.pairs.all_known.Given as goal

-- NONE or a value of a slot is positive or negative.
abbrev pub IsMarked : List Bool → List Bool → ℕ → ℕ → Type 0
IsMarked positive negative s v = get_or positive (s * row + v) false ∨ᵇ get_or negative (s * row + v) false ≡ true

abbrev pub invariant-values : goal.invariant-values
invariant-values l = UpTo l.counts (IsMarked l.marks.positive l.marks.negative) l.s l.v

abbrev pub invariant-slots : goal.invariant-slots
invariant-slots l = UpTo l.counts (IsMarked l.marks.positive l.marks.negative) l.s 0
