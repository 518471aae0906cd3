-- The response: document 01, 'The response fires, while it can, an enabled unfired rule of the lowest stratum that has one'.
use Rattle.std.specs.Prelude.{ℕ, zero, suc, cond, List, [], ◌∷◌, ltb, length}
use Rattle.model.specs.Rules.{Pair, Rule}
use Rattle.model.specs.Orders.{ready}
use Rattle.model.specs.Strata.{Grading}
use Rattle.model.specs.Least.{strata_of}

-- Of two rules, the one of the lower stratum, and the first where they are level; 0 is no rule.
unfoldable pub lower : (ℕ → ℕ) → ℕ → ℕ → ℕ
lower t zero m = m
lower t (suc n) m = cond (ltb (t m) (t (suc n))) m (suc n)

-- A list that begins with a rule and goes on after it; empty for no rule.
unfoldable pub fire_then : ℕ → (ℕ → List ℕ) → List ℕ
fire_then zero rest = []
fire_then (suc n) rest = suc n ∷ rest (suc n)

module _ (rs : List Rule) (S : List ℕ) (I : List Pair) (t : ℕ → ℕ) where
  -- Of the rules 1 to k, one that is ready and of the lowest stratum; 0 where none is ready.
  unfoldable pub next_of : List ℕ → ℕ → ℕ
  next_of done zero = 0
  next_of done (suc k) = cond (ready rs S I done (suc k)) (lower t (next_of done k) (suc k)) (next_of done k)

  -- The rules that fire, in their order, where the rules of `done` have fired; at most k.
  unfoldable pub fire_on : ℕ → List ℕ → List ℕ
  fire_on zero done = []
  fire_on (suc k) done = fire_then (next_of done (length rs)) (λ n. fire_on k (n ∷ done))

  -- The response by the numbers t: each rule fires once at most.
  unfoldable pub response_by : List ℕ
  response_by = fire_on (length rs) []

-- The response, by the least strata.
unfoldable pub response : Grading → List Rule → List ℕ → List Pair → List ℕ
response G rs S I = response_by rs S I (strata_of G rs)
