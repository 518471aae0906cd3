-- What is worked out of the changes, for arrays of 32 places: document 01, 'If C then holds two values for a slot ..'.
use Rattle.std.specs.Prelude.{Bool, List, ℕ}
use Rattle.laws.specs.Filled.{filled}
use Rattle.model.specs.Result.{new_card}
use Rattle.laws.specs.Limits.{slot_limit, row}
use Rattle.table.specs.inner.Flat.{set_of}

-- The new card of so many slots, with no value in the places that are not used.
unfoldable pub new_places : ℕ → List Bool → List ℕ → List ℕ
new_places width changes card = filled slot_limit 0 (new_card width row (set_of changes) card)
