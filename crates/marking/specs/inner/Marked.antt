-- How marks in arrays change, which pairs are negative at first, and whether every pair is marked.
use Rattle.std.specs.Prelude.{◌≡◌, Bool, true, false, cond, List, [], ◌∷◌, ℕ, zero, suc, ◌+◌, ◌*◌, ◌/◌, ◌≤◌, ◌<◌, eqb, length, get_or, set}
use Rattle.laws.specs.Truth.{◌∧ᵇ◌, ◌∨ᵇ◌, notᵇ}
use Rattle.laws.specs.Limits.{row}
use Rattle.model.specs.Rules.{Pair}
use Rattle.model.specs.Result.{is_changed}
use Rattle.table.specs.inner.Flat.{pair_places, place_of, set_of}
use Rattle.truths.specs.declared.Truth3.TheVariants.{False, True}
use Rattle.truths.specs.Truths.{is_true}
use Rattle.judging.specs.declared.truth.Known.{Known}
use Rattle.judging.specs.inner.Known.{known}

-- The pair at p is ruled out.
unfoldable pub ruled_out : ℕ → Known → Known
ruled_out p k = known k.positive (set k.negative p true) (set k.truth (pair_places + p) False)

-- The pair at p becomes positive.
unfoldable pub made_positive : ℕ → Known → Known
made_positive p k = known (set k.positive p true) k.negative (set k.truth (pair_places + p) (cond (is_true (get_or k.truth p False)) False True))

-- The pair at q is ruled out unless it is the one at p or negative.
unfoldable pub rival_out : ℕ → ℕ → Known → Known
rival_out p q k = cond (eqb q p ∨ᵇ get_or k.negative q false) k (ruled_out q k)

-- So are the values below v of the slot of the pair at p.
unfoldable pub rivals_out : ℕ → ℕ → Known → Known
rivals_out p zero k = k
rivals_out p (suc v) k = rival_out p (p / row * row + v) (rivals_out p v k)

-- The pair at p becomes positive, and NONE and the values of its slot, which has so many, negative but for its own.
unfoldable pub marked : ℕ → ℕ → Known → Known
marked p count k = rivals_out p (suc count) (made_positive p k)

-- A pair that is assigned becomes positive, unless it is.
unfoldable pub assigned_one : List ℕ → Pair → Known → Known
assigned_one counts p k = cond (get_or k.positive (place_of p) false) k (marked (place_of p) (get_or counts p.slot 0) k)

-- So do the pairs of a list.
unfoldable pub assigned : List ℕ → List Pair → Known → Known
assigned counts [] k = k
assigned counts (p ∷ ps) k = assigned counts ps (assigned_one counts p k)

-- One of them is negative when its turn comes.
unfoldable pub clashes : List ℕ → List Pair → Known → Bool
clashes counts [] k = false
clashes counts (p ∷ ps) k = get_or k.negative (place_of p) false ∨ᵇ clashes counts ps (assigned_one counts p k)

-- A pair is ruled out if no assignment to it is left and it is unknown.
unfoldable pub unassigned_one : List ℕ → Pair → Known → Known
unassigned_one live p k =
    cond (notᵇ (eqb (get_or live (place_of p) 0) 0) ∨ᵇ get_or k.positive (place_of p) false ∨ᵇ get_or k.negative (place_of p) false) k (ruled_out (place_of p) k)

-- So are the pairs of a list.
unfoldable pub unassigned_out : List ℕ → List Pair → Known → Known
unassigned_out live [] k = k
unassigned_out live (p ∷ ps) k = unassigned_out live ps (unassigned_one live p k)

-- The negative pairs at first: those that the slip does not give, where it gives their slot another value or nothing assigns them.
pub record FirstNegative (width : ℕ) (live : List ℕ) (positive negative : List Bool) : Type 0 where
  pub size : length negative ≡ pair_places
  pub at : (s v : ℕ) → s < width → v < row
      → get_or negative (s * row + v) false ≡ (notᵇ (get_or positive (s * row + v) false) ∧ᵇ (is_changed row (set_of positive) s ∨ᵇ eqb (get_or live (s * row + v) 0) 0))

-- NONE and every value of each slot is positive or negative, the slots given by how many values each of them has.
unfoldable pub AllMarked : List ℕ → List Bool → List Bool → Type 0
AllMarked counts positive negative =
    (s v : ℕ) → s < length counts → v ≤ get_or counts s 0 → get_or positive (s * row + v) false ∨ᵇ get_or negative (s * row + v) false ≡ true

-- One of them is neither.
pub record NotMarked (counts : List ℕ) (positive negative : List Bool) : Type 0 where
  pub slot : ℕ
  pub value : ℕ
  pub in_width : slot < length counts
  pub in_count : value ≤ get_or counts slot 0
  pub neither : get_or positive (slot * row + value) false ∨ᵇ get_or negative (slot * row + value) false ≡ false
