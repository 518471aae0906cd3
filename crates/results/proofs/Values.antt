-- Going through the values of a slot in an array indexed by pair, and through the slots.
-- Assumes nothing.
use mathlib.Core.Path.{◌≡◌, refl, sym}
use mathlib.Core.Bool.{Bool, true, false, cond, ◌||◌}
use mathlib.Core.List.{List, [], ◌∷◌, ◌++◌, append-nil}
use mathlib.Core.Logic.{⊎_elim}
use Prim.Native.Nat.{ℕ, ◌+◌, ◌*◌, ◌≤◌, ◌<◌}
use native.Mathlib.Numerals.{add-one}
use native.Mathlib.Nat.{eq-or-lt_of_le}
use native.Mathlib.Omega.{arith}
use lib.Dec.{T, leb→le, le→leb, ltb→lt}
use lib.ListN.{get_or, set}
use borrow.Author.Tests.{lt-ltb, le-ltb}
use Rattle.laws.specs.Below.{first_below, count_below}
use Rattle.laws.specs.Filled.{filled}
use Rattle.laws.specs.Tabulated.{tabulate}
use Rattle.laws.proofs.Truth.{bool_ext}
use Rattle.laws.proofs.Equations.{is_true, from_true}
use Rattle.laws.proofs.Below.{first_below_is}
use Rattle.laws.proofs.Tabulated.{tabulate_length}
use Rattle.laws.proofs.Filled.{filled_snoc}
use Rattle.laws.proofs.Fronts.{tabulate_next}
use Rattle.model.specs.Rules.{Pairs}
use Rattle.model.specs.Result.{pair, value_in, is_changed, in_conflict, new_value, conflict_slot, changes_slip}
use Rattle.model.proofs.Results.{value_in_right, is_changed_i}
use Rattle.laws.specs.Limits.{row}
use Rattle.table.specs.inner.Flat.{set_of}
use Rattle.table.proofs.Flat.{set_in}

module _ (bs : List Bool) (s : ℕ) where
  -- No value of the slot below v is in the array.
  unfoldable pub NoneBelow : ℕ → Type 0
  NoneBelow v = (w : ℕ) → w < v → ¬ T (set_of bs (pair s w))

  pub none_start : NoneBelow 0
  unfolding NoneBelow
  none_start w h t = omega arith

  pub none_next : (v : ℕ) → v < row → get_or bs (s * row + v) false ≡ false → NoneBelow v → NoneBelow (v + 1)
  unfolding NoneBelow
  none_next v h e none w l t =
      let le : w ≤ v = omega arith in
      ⊎_elim (λ (q : w ≡ v). rw (q, set_in bs (pair s v) h, e) at t) (λ (k : w < v). none w k t) (eq-or-lt_of_le le)

  pub value_found : (v : ℕ) → v < row → get_or bs (s * row + v) false ≡ true → NoneBelow v → v ≡ value_in row (set_of bs) s
  unfolding NoneBelow value_in
  value_found v h e none = sym (first_below_is (λ w. set_of bs (pair s w)) row v (omega arith) (λ l. rw (set_in bs (pair s v) h, e) tt) none)

  pub value_none : (v : ℕ) → v ≡ row → NoneBelow v → v ≡ value_in row (set_of bs) s
  unfolding NoneBelow value_in
  value_none v e none = sym (first_below_is (λ w. set_of bs (pair s w)) row v (omega arith) (λ l. absurd (omega arith)) none)

  -- A slot without values is not changed.
  pub changed_start : false ≡ is_changed 0 (set_of bs) s
  unfolding is_changed value_in first_below
  changed_start = refl

  -- One value more changes it where it is in the array.
  pub changed_next : (v : ℕ) (b : Bool) → v < row → b ≡ is_changed v (set_of bs) s → b || get_or bs (s * row + v) false ≡ is_changed (v + 1) (set_of bs) s
  unfolding is_changed
  changed_next v true h e =
      let w = value_in v (set_of bs) s in
      let t = from_true (is_changed v (set_of bs) s) (sym e) in
      let l : w < v = ltb→lt w v t in
      sym (is_true _ (is_changed_i (v + 1) (set_of bs) s w (omega arith) (value_in_right v (set_of bs) s t)))
  changed_next v false h e = rw (← set_in bs (pair s v) h) (bool_ext _ _ (is_changed_i (v + 1) (set_of bs) s v (omega arith)) last)
    where
      last : T (is_changed (v + 1) (set_of bs) s) → T (set_of bs (pair s v))
      last t =
          let w = value_in (v + 1) (set_of bs) s in
          let i : T (set_of bs (pair s w)) = value_in_right (v + 1) (set_of bs) s t in
          let l : w < v + 1 = ltb→lt w (v + 1) t in
          let le : w ≤ v = omega arith in
          ⊎_elim (λ (q : w ≡ v). rw q at i) (λ (k : w < v). absurd (rw (← e) at (is_changed_i v (set_of bs) s w k i))) (eq-or-lt_of_le le)

  -- How many values of the slot below v are in the array.
  unfoldable pub values_below : ℕ → ℕ
  values_below v = count_below (λ w. set_of bs (pair s w)) v

  pub values_start : ◌≡◌ {A = ℕ} 0 (values_below 0)
  unfolding values_below count_below
  values_start = refl

  pub values_next : (v : ℕ) → v < row → values_below (v + 1) ≡ cond (get_or bs (s * row + v) false) 1 0 + values_below v
  unfolding values_below count_below
  values_next v h = rw (add-one v, set_in bs (pair s v) h)

module _ (bs : List Bool) where
  -- No slot below s is in conflict.
  unfoldable pub CalmBelow : ℕ → Type 0
  CalmBelow s = (x : ℕ) → x < s → ¬ T (in_conflict row (set_of bs) x)

  pub calm_start : CalmBelow 0
  unfolding CalmBelow
  calm_start x h t = omega arith

  pub calm_next : (s : ℕ) → values_below bs s row < 2 → CalmBelow s → CalmBelow (s + 1)
  unfolding CalmBelow values_below in_conflict
  calm_next s h calm x l t =
      let le : x ≤ s = omega arith in
      ⊎_elim (λ (q : x ≡ s). omega (arith, leb→le 2 (count_below (λ w. set_of bs (pair s w)) row) (rw q at t))) (λ (k : x < s). calm x k t) (eq-or-lt_of_le le)

  pub conflict_found : (width s : ℕ) → s < width → 2 ≤ values_below bs s row → CalmBelow s → s ≡ conflict_slot width row (set_of bs)
  unfolding CalmBelow values_below in_conflict conflict_slot
  conflict_found width s h two calm = sym (first_below_is (in_conflict row (set_of bs)) width s (omega arith) (λ l. le→leb 2 _ two) calm)

  pub conflict_none : (width s : ℕ) → s ≡ width → CalmBelow s → s ≡ conflict_slot width row (set_of bs)
  unfolding CalmBelow conflict_slot
  conflict_none width s e calm = sym (first_below_is (in_conflict row (set_of bs)) width s (omega arith) (λ l. absurd (omega arith)) calm)

-- The new value of a slot.
pub new_changed : (C : Pairs) (S : List ℕ) (s v : ℕ) → v ≡ value_in row C s → v < row → v ≡ new_value row C S s
unfolding new_value is_changed
new_changed C S s v e h = rw (← e, lt-ltb v row h)

pub new_kept : (C : Pairs) (S : List ℕ) (s v : ℕ) → v ≡ value_in row C s → row ≤ v → get_or S s 0 ≡ new_value row C S s
unfolding new_value is_changed
new_kept C S s v e h = rw (← e, le-ltb v row h)

-- The changes as a slip, one slot after the other.
pub slip_changed : (C : Pairs) (s v : ℕ) → v ≡ value_in row C s → v < row → changes_slip (s + 1) row C ≡ changes_slip s row C ++ pair s v ∷ []
unfolding changes_slip is_changed
slip_changed C s v e h = rw (add-one s, ← e, lt-ltb v row h)

pub slip_kept : (C : Pairs) (s v : ℕ) → v ≡ value_in row C s → row ≤ v → changes_slip (s + 1) row C ≡ changes_slip s row C
unfolding changes_slip is_changed
slip_kept C s v e h = rw (add-one s, ← e, le-ltb v row h) (append-nil (changes_slip s row C))

-- One place of an array filled up.
pub filled_next : (n s : ℕ) (f : ℕ → ℕ) → s < n → set (filled n 0 (tabulate f s)) s (f s) ≡ filled n 0 (tabulate f (s + 1))
filled_next n s f h =
    let l = tabulate_length f s in
    rw (add-one s, tabulate_next f s) (rw l at (filled_snoc n 0 (f s) (tabulate f s) (omega arith)))
