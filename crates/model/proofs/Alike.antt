-- The response looks at the card only for the value of each slot, and at the slip only for its pairs: cards and slips alike in these have the same response.
-- Assumes nothing.
use Prim.Native.Nat.{ℕ, zero, suc}
use mathlib.Core.Path.{◌≡◌, refl, ap, fun_ext, ◌∙◌}
use mathlib.Core.List.{List, [], ◌∷◌}
use lib.ListN.{length, get_or}
use Rattle.laws.specs.Truth.{◌∨ᵇ◌}
use Rattle.model.specs.Rules.{Pair, Pairs, Literal, Rule, among, was, became, test, holds, all_hold, enabled}
use Rattle.model.specs.Orders.{rule_at, changes, ready}
use Rattle.model.specs.Strata.{Grading}
use Rattle.model.specs.Least.{strata_of}
use Rattle.model.specs.Response.{next_of, fire_then, fire_on, response_by, response}

-- Two cards have the same value in each slot, where a slot that a card lacks has none.
unfoldable pub SameCard : List ℕ → List ℕ → Type 0
SameCard S S' = (s : ℕ) → get_or S s 0 ≡ get_or S' s 0

-- Two slips have the same pairs.
unfoldable pub SamePairs : List Pair → List Pair → Type 0
SamePairs I I' = (p : Pair) → among p I ≡ among p I'

module _ (S S' : List ℕ) (alike : SameCard S S') where
  was_same : (p : Pair) → was S p ≡ was S' p
  unfolding was SameCard
  was_same p = rw (alike p.slot)

  became_same : (C : Pairs) (p : Pair) → became S C p ≡ became S' C p
  unfolding became
  became_same C p = rw (was_same p)

  test_same : (C : Pairs) (l : Literal) → test S C l ≡ test S' C l
  unfolding test
  test_same C l = rw (became_same C l.pair, was_same l.pair)

  holds_same : (C : Pairs) (l : Literal) → holds S C l ≡ holds S' C l
  unfolding holds
  holds_same C l = rw (test_same C l)

  all_hold_same : (C : Pairs) (ls : List Literal) → all_hold S C ls ≡ all_hold S' C ls
  unfolding all_hold
  all_hold_same C [] = refl
  all_hold_same C (l ∷ ls) = rw (holds_same C l, all_hold_same C ls)

  -- The same rules are enabled.
  pub enabled_same : (C : Pairs) (r : Rule) → enabled S C r ≡ enabled S' C r
  unfolding enabled
  enabled_same C r = rw (became_same C r.trigger, all_hold_same C r.literals)

-- The same C is reached.
pub changes_alike : (rs : List Rule) (I I' : List Pair) → SamePairs I I' → (ns : List ℕ) → changes rs I ns ≡ changes rs I' ns
unfolding changes SamePairs
changes_alike rs I I' same [] = fun_ext same
changes_alike rs I I' same (n ∷ ns) = ap {B = Pairs} (λ (C : Pairs) (p : Pair). among p (rule_at rs n).assignments ∨ᵇ C p) (changes_alike rs I I' same ns)

module _ (rs : List Rule) (S S' : List ℕ) (I I' : List Pair) (card : SameCard S S') (slip : SamePairs I I') where
  enabled_alike : (done : List ℕ) (n : ℕ) → enabled S (changes rs I done) (rule_at rs n) ≡ enabled S' (changes rs I' done) (rule_at rs n)
  enabled_alike done n = enabled_same S S' card (changes rs I done) (rule_at rs n) ∙ ap (λ (C : Pairs). enabled S' C (rule_at rs n)) (changes_alike rs I I' slip done)

  -- The same rules can fire.
  pub ready_alike : (done : List ℕ) (n : ℕ) → ready rs S I done n ≡ ready rs S' I' done n
  unfolding ready
  ready_alike done n = rw (enabled_alike done n)

  module _ (t : ℕ → ℕ) where
    next_alike : (done : List ℕ) (k : ℕ) → next_of rs S I t done k ≡ next_of rs S' I' t done k
    unfolding next_of
    next_alike done zero = refl
    next_alike done (suc k) = rw (ready_alike done (suc k), next_alike done k)

    fire_alike : (k : ℕ) (done : List ℕ) → fire_on rs S I t k done ≡ fire_on rs S' I' t k done
    unfolding fire_on
    fire_alike zero done = refl
    fire_alike (suc k) done =
        ap (λ (n : ℕ). fire_then n (λ m. fire_on rs S I t k (m ∷ done))) (next_alike done (length rs))
        ∙ ap (λ (f : ℕ → List ℕ). fire_then (next_of rs S' I' t done (length rs)) f) (fun_ext (λ m. fire_alike k (m ∷ done)))

    -- The response by any numbers is the same.
    pub response_by_alike : response_by rs S I t ≡ response_by rs S' I' t
    unfolding response_by
    response_by_alike = fire_alike (length rs) []

  -- The response is the same.
  pub response_alike : (G : Grading) → response G rs S I ≡ response G rs S' I'
  unfolding response
  response_alike G = response_by_alike (strata_of G rs)

  -- So is the C that it ends with.
  pub response_changes_alike : (G : Grading) → changes rs I (response G rs S I) ≡ changes rs I' (response G rs S' I')
  response_changes_alike G = changes_alike rs I I' slip (response G rs S I) ∙ ap (changes rs I') (response_alike G)
