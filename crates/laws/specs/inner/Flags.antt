-- Arrays of flags.
use Rattle.std.specs.Prelude.{ℕ, zero, suc, ◌+◌, Bool, true, false, cond, List, [], ◌∷◌, get_or}
use Rattle.laws.specs.Truth.{◌∧ᵇ◌}

-- How many flags are set.
unfoldable pub flags_set : List Bool → ℕ
flags_set [] = 0
flags_set (b ∷ bs) = cond b 1 0 + flags_set bs

-- The first n flags are set.
unfoldable pub all_set : List Bool → ℕ → Bool
all_set bs zero = true
all_set bs (suc n) = all_set bs n ∧ᵇ get_or bs n false
