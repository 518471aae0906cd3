-- Laws of the tally.
-- Assumes nothing.
use mathlib.Core.Path.{◌≡◌, sym, subst, ◌∙◌}
use mathlib.Core.Bool.{Bool, true, false}
use Prim.Native.Nat.{◌≤◌, ◌<◌}
use borrow.Author.Tests.{le-leb, lt-leb}
use Rattle.laws.specs.Limits.{tally_limit}
use Rattle.laws.specs.Truth.{◌∨ᵇ◌}
use Rattle.laws.proofs.Truth.{le_or_lt}
use mathlib.Core.Logic.{⊎_elim}
use Rattle.tally.specs.declared.Tally.{Tally}
use Rattle.tally.specs.Counting.{is_full}

-- A tally is full by either count.
pub full_answered : (y : Tally) → tally_limit ≤ y.answered → is_full y ≡ true
unfolding is_full ◌∨ᵇ◌
full_answered y h = rw (le-leb tally_limit y.answered h)

pub full_refused : (y : Tally) → y.answered < tally_limit → tally_limit ≤ y.refused → is_full y ≡ true
unfolding is_full ◌∨ᵇ◌
full_refused y l h = rw (lt-leb tally_limit y.answered l, le-leb tally_limit y.refused h)

pub not_full : (y : Tally) → y.answered < tally_limit → y.refused < tally_limit → is_full y ≡ false
unfolding is_full ◌∨ᵇ◌
not_full y l h = rw (lt-leb tally_limit y.answered l, lt-leb tally_limit y.refused h)

-- Where it is not full, both counts have room.
pub room_left : (y : Tally) → is_full y ≡ false → (y.answered < tally_limit) × (y.refused < tally_limit)
room_left y e =
    ⊎_elim (λ h. absurd (subst is_it (sym (full_answered y h) ∙ e) tt))
    (λ l. ⊎_elim (λ h. absurd (subst is_it (sym (full_refused y l h) ∙ e) tt)) (λ k. (l, k)) (le_or_lt tally_limit y.refused))
    (le_or_lt tally_limit y.answered)
  where
    is_it : Bool → Type 0
    is_it true = Unit
    is_it false = ⊥
