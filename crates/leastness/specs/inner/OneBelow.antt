-- A number that stands one above that of a pair under NOT.
-- A reader need not believe what stands here: `carries_least` says what is tested.
use Rattle.std.specs.Prelude.{Bool, false, List, [], ◌∷◌, ℕ, ◌+◌, eqb, get_or}
use Rattle.laws.specs.Truth.{◌∨ᵇ◌}
use Rattle.model.specs.Rules.{Pair}
use Rattle.table.specs.inner.Flat.{place_of}

-- One of some pairs has a number that is one below s.
unfoldable pub one_below : List ℕ → ℕ → List Pair → Bool
one_below hs s [] = false
one_below hs s (p ∷ ps) = eqb (get_or hs (place_of p) 0 + 1) s ∨ᵇ one_below hs s ps
