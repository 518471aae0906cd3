-- The pairs that are negative at first, found one after the other.
-- Assumes nothing.
use mathlib.Core.Path.{◌≡◌, refl, ◌∙◌}
use mathlib.Core.Bool.{Bool, true, false, not}
use mathlib.Core.List.{List}
use mathlib.Core.Logic.{⊎_elim}
use Prim.Native.Nat.{ℕ, ◌+◌, ◌*◌, ◌/◌, ◌≤◌, ◌<◌}
use native.Mathlib.Nat.{eq-or-lt_of_le}
use native.Mathlib.Omega.{arith}
use lib.Dec.{eqb}
use lib.ListN.{length, get_or, set, replicate, length-set, length-replicate}
use lib.Seq.{get_or-set_same, get_or-set_other}
use Rattle.laws.specs.Truth.{◌∧ᵇ◌, ◌∨ᵇ◌, notᵇ}
use Rattle.laws.specs.Limits.{row}
use Rattle.laws.proofs.Numbers.{is_false}
use Rattle.model.specs.Result.{pair, is_changed}
use Rattle.model.proofs.Results.{is_changed_i}
use Rattle.table.specs.inner.Flat.{pair_places, set_of}
use Rattle.table.proofs.Flat.{set_in}
use Rattle.marking.specs.inner.Marked.{FirstNegative}

module _ (live : List ℕ) (positive : List Bool) where
  -- Whether the pair at q is negative at first.
  unfoldable pub is_negative : ℕ → Bool
  is_negative q = notᵇ (get_or positive q false) ∧ᵇ (is_changed row (set_of positive) (q / row) ∨ᵇ eqb (get_or live q 0) 0)

  -- In a slot that the slip changes, the values that it does not give are.
  pub others_are : (s v : ℕ) → v < row → is_changed row (set_of positive) s ≡ true → not (get_or positive (s * row + v) false) ≡ is_negative (s * row + v)
  unfolding is_negative notᵇ ◌∧ᵇ◌ ◌∨ᵇ◌
  others_are s v h e =
      let z : (s * row + v) / row ≡ s = omega arith in
      rw (z, e) (go (get_or positive (s * row + v) false))
    where
      go : (b : Bool) → not b ≡ (notᵇ b ∧ᵇ true)
      go true = refl
      go false = refl

  -- In any other slot, the values that nothing assigns are.
  pub unassigned_are : (s v : ℕ) → v < row → is_changed row (set_of positive) s ≡ false → eqb (get_or live (s * row + v) 0) 0 ≡ is_negative (s * row + v)
  unfolding is_negative notᵇ ◌∧ᵇ◌ ◌∨ᵇ◌
  unassigned_are s v h e =
      let z : (s * row + v) / row ≡ s = omega arith in
      let not_given : get_or positive (s * row + v) false ≡ false = is_false _ (λ t. rw e at (is_changed_i row (set_of positive) s v h (rw (set_in positive (pair s v) h) t))) in
      rw (z, e, not_given) refl

  -- They are found among the pairs below m.
  pub record Found (negative : List Bool) (m : ℕ) : Type 0 where
    pub size : length negative ≡ pair_places
    pub right : (q : ℕ) → q < m → get_or negative q false ≡ is_negative q

  -- One value more of a slot.
  pub found_next : (negative : List Bool) (s v : ℕ) (b : Bool) → s * row + v < pair_places → b ≡ is_negative (s * row + v) → Found negative (s * row + v)
      → Found (set negative (s * row + v) b) (s * row + (v + 1))
  found_next negative s v b h e f =
      let at = s * row + v in
      let z = f.size in
      record {
        size = length-set negative at b ∙ z;
        right = λ q l. ⊎_elim
            (λ (i : q ≡ at). rw i (get_or-set_same negative at b false (omega arith) ∙ e))
            (λ (k : q < at). get_or-set_other negative at q b false (λ i. omega arith) ∙ f.right q k)
            (eq-or-lt_of_le (let y : q ≤ at = omega arith in y));
      }

  -- At last the values of every slot are done.
  pub found_end : (negative : List Bool) (width s : ℕ) → width ≤ s → Found negative (s * row) → FirstNegative width live positive negative
  unfolding is_negative
  found_end negative width s h f = record {
    size = f.size;
    at = λ x v k l. let z : (x * row + v) / row ≡ x = omega arith in rw z at (f.right (x * row + v) (omega arith));
  }
