-- Sets of pairs as arrays indexed by pair: the pair (s, v) stands at s * 16 + v.
use Rattle.std.specs.Prelude.{◌≡◌, Bool, true, false, cond, List, [], ◌∷◌, ℕ, zero, suc, ◌+◌, ◌*◌, ◌/◌, ◌%◌, ◌<◌, ltb, get_or, set}
use Rattle.laws.specs.Truth.{◌∧ᵇ◌}
use Rattle.laws.specs.Tabulated.{tabulate}
use Rattle.model.specs.Rules.{Pair, Pairs}
use Rattle.model.specs.Result.{pair}
use Rattle.laws.specs.Limits.{slot_limit, row}

-- The places of all slots.
abbrev pub pair_places : ℕ
pair_places = slot_limit * row

-- The array has a place for a pair: the slot is one of 32, the value at most 15.
pub record Placed (slot value : ℕ) : Type 0 where
  pub in_slots : slot < slot_limit
  pub in_row : value < row

-- `k` is that place, and lies in the array.
pub record At (slot value k : ℕ) : Type 0 where
  pub is : k ≡ slot * row + value
  pub inside : k < pair_places

-- The place of a pair.
abbrev pub place_of : Pair → ℕ
place_of p = p.slot * row + p.value

-- The pair of a place.
abbrev pub pair_at : ℕ → Pair
pair_at k = pair (k / row) (k % row)

-- The set of pairs that an array of flags stands for.
unfoldable pub set_of : List Bool → Pairs
set_of bs p = ltb p.value row ∧ᵇ get_or bs (place_of p) false

-- The array of flags that stands for a set of pairs.
unfoldable pub flags_of : Pairs → List Bool
flags_of C = tabulate (λ k. C (pair_at k)) pair_places

-- The pairs flagged below place k.
unfoldable pub pairs_below : List Bool → ℕ → List Pair
pairs_below bs zero = []
pairs_below bs (suc k) = cond (get_or bs k false) (pair_at k ∷ pairs_below bs k) (pairs_below bs k)

-- The pairs flagged, as a list.
unfoldable pub pairs_of : List Bool → List Pair
pairs_of bs = pairs_below bs pair_places

-- An array with the pairs of a list added.
unfoldable pub add_pairs : List Pair → List Bool → List Bool
add_pairs [] bs = bs
add_pairs (p ∷ ps) bs = add_pairs ps (set bs (place_of p) true)
