-- Computed examples of dependence, circles and strata: document 01, 'Preconditions and response' and refusal 18; document 02, section 2.
-- Assumes nothing.
use native.Mathlib.Omega.{arith}
use mathlib.Core.Path.{◌≡◌, refl}
use mathlib.Core.Bool.{true, false}
use mathlib.Core.List.{List, [], ◌∷◌, map}
use Rattle.laws.specs.Numbers.{Numbered}
use Rattle.model.specs.Rules.{Rule}
use Rattle.model.specs.Strata.{depends, depends_plainly, depends_under_not, strict, weak, Strata}
use Rattle.model.specs.Circles.{on_circle, circle_of}
use Rattle.model.specs.Least.{least_above}
use Rattle.model.specs.Result.{pair}
use Rattle.model.proofs.CaseRules.{computes, x, y, z, v0, v1, had, not_had, turns, not_turns, rule, rule_a, rule_c, rule_d, rule_e, strata_list}

first : Numbered 2 1
first = record { first = omega arith; last = omega arith }

second : Numbered 2 2
second = record { first = omega arith; last = omega arith }

-- Under NOT strata fall: where rule 1 bars what rule 2 assigns, level numbers are no strata.
pub falls_under_not : ¬ Strata weak (rule_d ∷ rule_e ∷ []) (λ n. 1)
unfolding computes
falls_under_not s = omega (arith, s.smaller 1 2 first second tt)

-- A rule that assigns x := 1, then one for each way to test x: `*=` in the trigger, plainly, under NOT, `|=`, `NOT |=`, and `*=` of another value.
unfoldable pub ways : List Rule
ways = rule (pair z v0) [] (pair x v1 ∷ [])
    ∷ rule (pair x v1) [] []
    ∷ rule (pair y v1) (turns x v1 ∷ []) []
    ∷ rule (pair y v1) (not_turns x v1 ∷ []) []
    ∷ rule (pair y v1) (had x v1 ∷ []) []
    ∷ rule (pair y v1) (not_had x v1 ∷ []) []
    ∷ rule (pair y v1) (turns x v0 ∷ []) []
    ∷ []

-- `*=` binds, plain or under NOT; `|=` binds nothing; the binding is on the pair.
pub ways_depend : map (λ n. depends ways n 1) (2 ∷ 3 ∷ 4 ∷ 5 ∷ 6 ∷ 7 ∷ []) ≡ true ∷ true ∷ true ∷ false ∷ false ∷ false ∷ []
unfolding computes ways
ways_depend = refl

-- Trigger and plain literal alone depend plainly.
pub ways_plainly : map (λ n. depends_plainly ways n 1) (2 ∷ 3 ∷ 4 ∷ 5 ∷ 6 ∷ 7 ∷ []) ≡ true ∷ true ∷ false ∷ false ∷ false ∷ false ∷ []
unfolding computes ways
ways_plainly = refl

-- The literal under NOT alone depends under NOT.
pub ways_under_not : map (λ n. depends_under_not ways n 1) (2 ∷ 3 ∷ 4 ∷ 5 ∷ 6 ∷ 7 ∷ []) ≡ false ∷ false ∷ true ∷ false ∷ false ∷ false ∷ []
unfolding computes ways
ways_under_not = refl

-- The least strata of section 7, which fall along every `*=`.
pub ways_strict : strata_list strict ways ≡ 1 ∷ 2 ∷ 2 ∷ 2 ∷ 1 ∷ 1 ∷ 1 ∷ []
unfolding computes strata_list ways
ways_strict = refl

-- The least strata that the table carries.
pub ways_weak : strata_list weak ways ≡ 1 ∷ 1 ∷ 1 ∷ 2 ∷ 1 ∷ 1 ∷ 1 ∷ []
unfolding computes strata_list ways
ways_weak = refl

-- A rule that tests plainly what it assigns itself.
unfoldable pub own_plain : List Rule
own_plain = rule (pair x v1) [] (pair x v1 ∷ []) ∷ []

-- A rule that tests under NOT what it assigns itself.
unfoldable pub own_under_not : List Rule
own_under_not = rule (pair x v1) (not_turns y v1 ∷ []) (pair y v1 ∷ []) ∷ []

-- The second alone is on a circle through a NOT; with section 7's strata both are on a circle.
pub own_circles : map (λ G. circle_of G own_plain ∷ circle_of G own_under_not ∷ []) (weak ∷ strict ∷ []) ≡ (0 ∷ 1 ∷ []) ∷ (1 ∷ 1 ∷ []) ∷ []
unfolding computes own_plain own_under_not
own_circles = refl

-- Rules 2 and 3 are a circle through a NOT: 2 bars what 3 assigns, 3 needs what 2 assigns. Rule 1 only depends on it, and it only depends on rule 4.
unfoldable pub beside_circle : List Rule
beside_circle =
    rule (pair y v1) [] []
    ∷ rule (pair z v0) (not_turns x v1 ∷ []) (pair y v1 ∷ [])
    ∷ rule (pair y v1) [] (pair x v1 ∷ [])
    ∷ rule (pair z v1) [] (pair x v1 ∷ [])
    ∷ []

-- Neither rule 1 nor rule 4 is on a circle.
pub beside_on : map (on_circle weak beside_circle) (1 ∷ 2 ∷ 3 ∷ 4 ∷ []) ≡ false ∷ true ∷ true ∷ false ∷ []
unfolding computes beside_circle
beside_on = refl

-- The lowest rule on the circle is 2.
pub beside_lowest : circle_of weak beside_circle ≡ 2
unfolding computes beside_circle
beside_lowest = refl

-- A circle may meet a rule more than once: 1 and 2 test plainly what the other assigns, 2 bars what 3 assigns, 3 tests what 2 assigns.
-- Each circle through the NOT that meets rule 1 meets rule 2 twice.
unfoldable pub twice : List Rule
twice = rule (pair y v1) [] (pair x v1 ∷ []) ∷ rule (pair x v1) (not_turns z v1 ∷ []) (pair y v1 ∷ []) ∷ rule (pair y v1) [] (pair z v1 ∷ []) ∷ []

-- Rule 1 is on such a circle.
pub twice_lowest : circle_of weak twice ≡ 1
unfolding computes twice
twice_lowest = refl

-- The equation of least strata holds for other numbers too: in case D for 2, 2 as for 1, 1.
pub weak_equation : least_above weak (rule_a ∷ rule_c ∷ []) (λ n. 2) 1 2 ∷ least_above weak (rule_a ∷ rule_c ∷ []) (λ n. 2) 2 2 ∷ [] ≡ 2 ∷ 2 ∷ []
unfolding computes
weak_equation = refl
