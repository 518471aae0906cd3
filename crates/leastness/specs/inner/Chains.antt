-- Chains of the places where rules need a pair: one chain for each pair.
-- A reader need not believe what stands here: `carries_least` says what is tested.
use Rattle.std.specs.Prelude.{cond, List, [], ◌∷◌, ℕ, ◌+◌, ◌*◌, eqb, get_or, set}
use Rattle.laws.specs.Limits.{rule_limit, literal_limit}
use Rattle.model.specs.Rules.{Pair}
use Rattle.table.specs.inner.Flat.{place_of}

-- The places of all rules where pairs are needed: for each rule its trigger and its literals.
abbrev pub needs_places : ℕ
needs_places = rule_limit * (literal_limit + 1)

-- The chains with the place o at the pair of place k, if that has the number s. A chain is followed by numbers one above the place; 0 ends it.
unfoldable pub head_at : List ℕ → ℕ → ℕ → ℕ → List ℕ → List ℕ
head_at hs s k o heads = cond (eqb (get_or hs k 0) s) (set heads k (o + 1)) heads

unfoldable pub nexts_at : List ℕ → ℕ → ℕ → ℕ → List ℕ → List ℕ → List ℕ
nexts_at hs s k o heads nexts = cond (eqb (get_or hs k 0) s) (set nexts o (get_or heads k 0)) nexts

-- The chains with the pairs of a list, from the place o on.
unfoldable pub heads_with : List ℕ → ℕ → List Pair → ℕ → List ℕ → List ℕ
heads_with hs s [] o heads = heads
heads_with hs s (p ∷ ps) o heads = heads_with hs s ps (o + 1) (head_at hs s (place_of p) o heads)

unfoldable pub nexts_with : List ℕ → ℕ → List Pair → ℕ → List ℕ → List ℕ → List ℕ
nexts_with hs s [] o heads nexts = nexts
nexts_with hs s (p ∷ ps) o heads nexts = nexts_with hs s ps (o + 1) (head_at hs s (place_of p) o heads) (nexts_at hs s (place_of p) o heads nexts)
