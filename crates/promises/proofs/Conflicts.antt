-- What an answer and 40 tell of conflicts; no slot in conflict, one value for each slot, and the lowest slot in conflict, each told by the others.
-- Assumes nothing.
use Prim.Native.Nat.{ℕ, ◌≤◌, ◌<◌}
use native.Mathlib.Omega.{arith}
use native.Mathlib.Nat.{le_antisymm}
use mathlib.Core.Path.{◌≡◌, refl}
use mathlib.Core.Bool.{Bool, true, false, cond}
use mathlib.Core.List.{List}
use mathlib.Core.Logic.{⊎_elim}
use lib.Dec.{T, ltb}
use borrow.Author.Tests.{ltb-true, ltb-false}
use Rattle.laws.specs.Answers.{taken, refused}
use Rattle.laws.proofs.Truth.{le_or_lt}
use Rattle.model.specs.Rules.{Pair, Pairs, Rule}
use Rattle.model.specs.Orders.{changes}
use Rattle.model.specs.Paper.{SlotConsistent, firing_of}
use Rattle.model.specs.Result.{pair, conflict_slot, Bounded}
use Rattle.model.proofs.Results.{conflict_e, conflict_i, conflict_slot_right, conflict_slot_lowest, conflict_slot_top, no_conflict_e}
use Rattle.laws.specs.Limits.{row}
use Rattle.response.specs.Ending.{Answer, answer_of, unless_conflict}
use Rattle.promises.specs.Agreement.{InConflict, LowestConflict}

-- An answer: no slot is in conflict, and these are its bytes.
pub unless_conflict_taken : (width count : ℕ) (S : List ℕ) (C : Pairs) (ns : List ℕ) (a : Answer) → unless_conflict width count S C ns ≡ taken a
    → (conflict_slot width row C ≡ width) × (answer_of width count S C ns ≡ a)
unfolding unless_conflict
unless_conflict_taken width count S C ns a e = go (ltb (conflict_slot width row C) width) refl e
  where
    go : (b : Bool) → ltb (conflict_slot width row C) width ≡ b → cond b (refused 40 (conflict_slot width row C)) (taken (answer_of width count S C ns)) ≡ taken a
        → (conflict_slot width row C ≡ width) × (answer_of width count S C ns ≡ a)
    go true q z = absurd (let z : ◌≡◌ {A = ℕ} 0 1 = cc in omega arith)
    go false q z =
        (le_antisymm (conflict_slot_top row C width) (ltb-false (conflict_slot width row C) width q), let x : answer_of width count S C ns ≡ a = cc in x)

-- 40: a slot is in conflict, and this is its lowest.
pub unless_conflict_40 : (width count : ℕ) (S : List ℕ) (C : Pairs) (ns : List ℕ) (s : ℕ) → unless_conflict width count S C ns ≡ refused 40 s
    → (conflict_slot width row C < width) × (conflict_slot width row C ≡ s)
unfolding unless_conflict
unless_conflict_40 width count S C ns s e = go (ltb (conflict_slot width row C) width) refl e
  where
    go : (b : Bool) → ltb (conflict_slot width row C) width ≡ b → cond b (refused 40 (conflict_slot width row C)) (taken (answer_of width count S C ns)) ≡ refused 40 s
        → (conflict_slot width row C < width) × (conflict_slot width row C ≡ s)
    go true q z = (ltb-true (conflict_slot width row C) width q, let x : conflict_slot width row C ≡ s = cc in x)
    go false q z = absurd (let z : ◌≡◌ {A = ℕ} 0 1 = cc in omega arith)

-- Where every value in C is one of an array's row, this is the lowest slot to which C gives two.
pub lowest_of : (C : Pairs) (width : ℕ) → ((p : Pair) → T (C p) → p.value < row) → conflict_slot width row C < width → LowestConflict C (conflict_slot width row C)
unfolding InConflict
lowest_of C width small l = record {
  conflict = (let w = conflict_e row C (conflict_slot width row C) (conflict_slot_right row C width l) in (w.0, w.1, w.2, w.4, w.5));
  lowest = λ r h w. conflict_slot_lowest row C width r h (conflict_i row C r w.0 w.1 w.2 (small (pair r w.1) w.4) w.3 w.4);
}

module _ (rs : List Rule) (I : List Pair) (ns : List ℕ) where
  -- There is one value for each slot where none is in conflict.
  pub one_value : ((s : ℕ) → ¬ InConflict (changes rs I ns) s) → SlotConsistent (firing_of rs I ns)
  unfolding SlotConsistent firing_of InConflict
  one_value none x v w s t =
      ⊎_elim (λ h. ⊎_elim (λ k. omega (arith, h, k)) (λ (k : v < w). absurd (none x (v, w, k, s, t))) (le_or_lt w v)) (λ (k : w < v). absurd (none x (w, v, k, t, s))) (le_or_lt v w)

  -- Then the lowest slot in conflict is none.
  pub none_lowest : SlotConsistent (firing_of rs I ns) → (width : ℕ) → conflict_slot width row (changes rs I ns) ≡ width
  unfolding SlotConsistent firing_of
  none_lowest one width = ⊎_elim (le_antisymm (conflict_slot_top row C width)) there (le_or_lt width (conflict_slot width row C))
    where
      C : Pairs
      C = changes rs I ns

      there : conflict_slot width row C < width → conflict_slot width row C ≡ width
      there l = let w = conflict_e row C (conflict_slot width row C) (conflict_slot_right row C width l) in absurd (let e = one (conflict_slot width row C) w.0 w.1 w.4 w.5 in omega (arith, e, w.2))

  -- Where a slot has two values, a slot is in conflict.
  pub some_conflict : (width : ℕ) → Bounded width row (changes rs I ns) → ¬ SlotConsistent (firing_of rs I ns) → (s : ℕ) × InConflict (changes rs I ns) s
  unfolding SlotConsistent firing_of
  some_conflict width bounded two =
      ⊎_elim (λ (l : width ≤ conflict_slot width row C). absurd (two (λ x v w s t. no_conflict_e row C width bounded (le_antisymm (conflict_slot_top row C width) l) x v w s t)))
      (λ (l : conflict_slot width row C < width). (conflict_slot width row C, (lowest_of C width bounded.value_below l).conflict)) (le_or_lt width (conflict_slot width row C))
    where
      C : Pairs
      C = changes rs I ns
