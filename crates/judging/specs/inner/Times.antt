-- Assignments counted.
use Rattle.std.specs.Prelude.{cond, List, [], ◌∷◌, ℕ, ◌+◌, eqb}
use Rattle.model.specs.Rules.{Pair}
use Rattle.table.specs.inner.Flat.{place_of}

-- How often the pair at q is among some pairs.
unfoldable pub times : ℕ → List Pair → ℕ
times q [] = 0
times q (p ∷ ps) = cond (eqb (place_of p) q) 1 0 + times q ps
