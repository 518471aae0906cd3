-- Computed examples of every kind of literal and of enabled rules: document 01, 'Preconditions and response'; the RL paper, section 2.
-- Assumes nothing.
use Prim.Native.Nat.{ℕ}
use mathlib.Core.Path.{◌≡◌, refl}
use mathlib.Core.Bool.{Bool, true, false}
use mathlib.Core.List.{List, [], ◌∷◌, map}
use Rattle.model.specs.Rules.{Pair, Literal, among, holds, enabled}
use Rattle.model.specs.Result.{pair}
use Rattle.model.proofs.CaseRules.{computes, x, y, z, v0, v1, had, not_had, turns, not_turns, rule, all_0}

-- A literal where C is empty, has the value 0 for x, has the value 1 for x, has the value 0 for y.
unfoldable pub row : Literal → List ℕ → List Bool
row l S = map (λ I. holds S (λ p. among p I) l) ([] ∷ (pair x v0 ∷ []) ∷ (pair x v1 ∷ []) ∷ (pair y v0 ∷ []) ∷ [])

-- A row for each card: no value in x, the value 0, the value 1.
unfoldable pub rows : Literal → List (List Bool)
rows l = row l (0 ∷ v0 ∷ []) ∷ row l (v0 ∷ v0 ∷ []) ∷ row l (v1 ∷ v0 ∷ []) ∷ []

-- `x |= 0` holds where the card has it; C plays no part, and no value is not the first value.
pub had_rows : rows (had x v0)
    ≡ (false ∷ false ∷ false ∷ false ∷ [])
    ∷ (true ∷ true ∷ true ∷ true ∷ [])
    ∷ (false ∷ false ∷ false ∷ false ∷ [])
    ∷ []
unfolding computes row rows
had_rows = refl

-- `NOT x |= 0`.
pub not_had_rows : rows (not_had x v0)
    ≡ (true ∷ true ∷ true ∷ true ∷ [])
    ∷ (false ∷ false ∷ false ∷ false ∷ [])
    ∷ (true ∷ true ∷ true ∷ true ∷ [])
    ∷ []
unfolding computes row rows
not_had_rows = refl

-- `x *= 0` holds where the card does not have it and C does.
pub turns_rows : rows (turns x v0)
    ≡ (false ∷ true ∷ false ∷ false ∷ [])
    ∷ (false ∷ false ∷ false ∷ false ∷ [])
    ∷ (false ∷ true ∷ false ∷ false ∷ [])
    ∷ []
unfolding computes row rows
turns_rows = refl

-- `NOT x *= 0`.
pub not_turns_rows : rows (not_turns x v0)
    ≡ (true ∷ false ∷ true ∷ true ∷ [])
    ∷ (true ∷ true ∷ true ∷ true ∷ [])
    ∷ (true ∷ false ∷ true ∷ true ∷ [])
    ∷ []
unfolding computes row rows
not_turns_rows = refl

-- A slot that the card does not reach has no value.
pub beyond : row (had x v0) [] ≡ false ∷ false ∷ false ∷ false ∷ []
unfolding computes row
beyond = refl

-- A literal on the pair that withdraws x (document 02, section 6: NONE, number 0) where C is empty, withdraws x, has a value for x; for a card without and with a value.
unfoldable pub withdrawn : Literal → List (List Bool)
withdrawn l = map (λ S. map (λ I. holds S (λ p. among p I) l) ([] ∷ (pair x 0 ∷ []) ∷ (pair x v0 ∷ []) ∷ [])) ((0 ∷ []) ∷ (v0 ∷ []) ∷ [])

-- `x |= NONE` holds where the card has nothing there.
pub had_none : withdrawn (had x 0) ≡ (true ∷ true ∷ true ∷ []) ∷ (false ∷ false ∷ false ∷ []) ∷ []
unfolding computes withdrawn
had_none = refl

-- `x *= NONE` holds where it had something and the withdrawal is among the changes.
pub turns_none : withdrawn (turns x 0) ≡ (false ∷ false ∷ false ∷ []) ∷ (false ∷ true ∷ false ∷ []) ∷ []
unfolding computes withdrawn
turns_none = refl

-- `WHEN x *= 1 IF y |= 0 AND NOT z *= 1`.
unfoldable pub enabled_at : List ℕ → List Pair → Bool
enabled_at S I = enabled S (λ p. among p I) (rule (pair x v1) (had y v0 ∷ not_turns z v1 ∷ []) [])

-- It is enabled where trigger and both literals hold, and not where the trigger, the first literal, the second, or trigger and second fail.
pub enabled_rows : enabled_at all_0 (pair x v1 ∷ [])
    ∷ enabled_at all_0 []
    ∷ enabled_at (v0 ∷ v1 ∷ v0 ∷ []) (pair x v1 ∷ [])
    ∷ enabled_at all_0 (pair x v1 ∷ pair z v1 ∷ [])
    ∷ enabled_at all_0 (pair z v1 ∷ [])
    ∷ []
    ≡ true ∷ false ∷ false ∷ false ∷ false ∷ []
unfolding computes enabled_at
enabled_rows = refl

-- TRUE: with no literal the trigger decides.
pub enabled_true : map (λ I. enabled all_0 (λ p. among p I) (rule (pair x v1) [] [])) ((pair x v1 ∷ []) ∷ (pair x v0 ∷ []) ∷ []) ≡ true ∷ false ∷ []
unfolding computes
enabled_true = refl
