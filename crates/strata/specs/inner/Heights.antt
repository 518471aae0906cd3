-- Numbers at pairs, in an array indexed by pair.
-- A reader need not believe what stands here: `least_numbers` of a table and `circle_of` say what is found.
use Rattle.std.specs.Prelude.{◌≡◌, Bool, true, false, cond, List, [], ◌∷◌, ℕ, suc, ◌+◌, ◌≤◌, ◌<◌, max, ltb, get_or, set, Option, Some, None}
use Rattle.laws.specs.Tabulated.{tabulate}
use Rattle.model.specs.Rules.{Pair}
use Rattle.model.specs.Rules as model
use Rattle.model.specs.Strata.{weak, needed, barred}
use Rattle.model.specs.Least.{strata_of}
use Rattle.table.specs.declared.Table.{Table}
use Rattle.laws.specs.Limits.{rule_limit}
use Rattle.table.specs.declared.Rule.{Rule}
use Rattle.table.specs.Link.{rule_of, rules_of, assignments_of}
use Rattle.table.specs.inner.Flat.{place_of}

-- The highest number at the places of some pairs.
unfoldable pub highest_at : List ℕ → List Pair → ℕ
highest_at hs [] = 0
highest_at hs (p ∷ ps) = max (get_or hs (place_of p) 0) (highest_at hs ps)

-- The least number that a rule can have where these numbers stand at the pairs: none below one that stands at a pair it needs, and above each at a pair it bars; from 1.
unfoldable pub asked_at : List ℕ → model.Rule → ℕ
asked_at hs r = max (highest_at hs (needed r)) (highest_at hs (barred r) + 1)

-- All numbers are small enough to be raised by one.
pub record Small (hs : List ℕ) : Type 0 where
  pub below : (k : ℕ) → get_or hs k 0 < 65535

-- The places of some pairs raised to s.
unfoldable pub raise_all : List Pair → ℕ → List ℕ → List ℕ
raise_all [] s hs = hs
raise_all (p ∷ ps) s hs = raise_all ps s (set hs (place_of p) (max (get_or hs (place_of p) 0) s))

-- What a visit of rule r, the one at place i of `top`, makes of the numbers of the rules and of those at the pairs: it would stand too high, or stands as high as it is asked, or is raised.
abbrev pub Visited : Rule → ℕ → ℕ → List ℕ → List ℕ → List ℕ → List ℕ → Option Bool → Type 0
Visited r top i ns hs ns' hs' None = top < asked_at hs (rule_of r)
Visited r top i ns hs ns' hs' (Some false) = (asked_at hs (rule_of r) ≤ top) × (asked_at hs (rule_of r) ≤ get_or ns i 0) × (ns' ≡ ns) × (hs' ≡ hs)
Visited r top i ns hs ns' hs' (Some true) =
    (asked_at hs (rule_of r) ≤ top) × (get_or ns i 0 < asked_at hs (rule_of r)) × (ns' ≡ set ns i (asked_at hs (rule_of r))) × (hs' ≡ raise_all (assignments_of r) (asked_at hs (rule_of r)) hs)

-- The least strata of a table's rules, with 0 beyond the rules used.
unfoldable pub least_numbers : Table → List ℕ
least_numbers t = tabulate (λ i. cond (ltb i t.count) (strata_of weak (rules_of t) (suc i)) 0) rule_limit
