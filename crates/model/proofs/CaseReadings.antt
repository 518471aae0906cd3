-- Readings that look natural and are wrong (document 01, end of 'Cases'), each shown wrong by a computed example.
-- Assumes nothing.
use mathlib.Core.Path.{◌≡◌, refl}
use mathlib.Core.Bool.{true, false}
use mathlib.Core.List.{List, [], ◌∷◌, map}
use Rattle.model.specs.Rules.{Pair, Rule, among, became}
use Rattle.model.specs.Orders.{changes, firing_order, complete, consistent, whole_order}
use Rattle.model.specs.Strata.{weak}
use Rattle.model.specs.Response.{response}
use Rattle.model.specs.Result.{pair, conflict_slot}
use Rattle.model.proofs.CaseRules.{computes, x, y, z, v0, v1, rule, rule_a, rule_b, rule_c, rule_d, rule_e, all_0, no_values}

-- 1. Loading no value as the first value: in case F the card without values fires nothing, the card of first values fires both rules.
pub first_value : map (λ S. response weak (rule_a ∷ rule_b ∷ []) S (pair x v1 ∷ [])) (no_values ∷ all_0 ∷ []) ≡ [] ∷ (1 ∷ 2 ∷ []) ∷ []
unfolding computes
first_value = refl

-- 2. Calling `s *= v` true when the card already had v: the slip's pair is in C, and `x *= 0` does not hold.
pub card_had_it : among (pair x v0) (pair x v0 ∷ []) ∷ became all_0 (λ p. among p (pair x v0 ∷ [])) (pair x v0) ∷ [] ≡ true ∷ false ∷ []
unfolding computes
card_had_it = refl

-- The rule that waits for it is idle.
pub card_had_it_idle : response weak (rule (pair x v0) [] (pair y v1 ∷ []) ∷ []) all_0 (pair x v0 ∷ []) ≡ []
unfolding computes
card_had_it_idle = refl

-- 3. Firing d before e in case E: it is a firing order and complete, but d is no longer enabled at its end.
pub d_before_e : map (λ f. f (rule_d ∷ rule_e ∷ []) all_0 (pair y v1 ∷ []) (1 ∷ 2 ∷ [])) (firing_order ∷ complete ∷ consistent ∷ whole_order ∷ [])
    ≡ true ∷ true ∷ false ∷ false ∷ []
unfolding computes
d_before_e = refl

-- The response fires e alone.
pub e_alone : response weak (rule_d ∷ rule_e ∷ []) all_0 (pair y v1 ∷ []) ≡ 2 ∷ []
unfolding computes
e_alone = refl

-- 4. Stopping at the first conflict seen: the slip sets x and z, rule 1 gives z another value, rule 2 gives x another. After rule 1 alone the
-- conflict seen is in slot 2, after rule 2 alone in slot 0; at the end of either order the lowest is slot 0.
unfoldable pub two_conflicts : List Rule
two_conflicts = rule (pair x v1) [] (pair z v0 ∷ []) ∷ rule (pair x v1) [] (pair x v0 ∷ []) ∷ []

-- The slip sets x to 1 and z to 1.
unfoldable pub slip_xz : List Pair
slip_xz = pair x v1 ∷ pair z v1 ∷ []

-- The lowest slot in conflict after rule 1, after rule 2, and at the end of either order.
pub first_conflict : map (λ ns. conflict_slot 3 3 (changes two_conflicts slip_xz ns)) ((1 ∷ []) ∷ (2 ∷ []) ∷ (1 ∷ 2 ∷ []) ∷ (2 ∷ 1 ∷ []) ∷ [])
    ≡ 2 ∷ 0 ∷ 0 ∷ 0 ∷ []
unfolding computes two_conflicts slip_xz
first_conflict = refl

-- Both orders are complete and consistent; neither rule alone is.
pub both_orders : map (whole_order two_conflicts all_0 slip_xz) ((1 ∷ 2 ∷ []) ∷ (2 ∷ 1 ∷ []) ∷ (1 ∷ []) ∷ (2 ∷ []) ∷ []) ≡ true ∷ true ∷ false ∷ false ∷ []
unfolding computes two_conflicts slip_xz
both_orders = refl

-- 5. Treating a rule's own assignment as its cause: a rule that assigns what it waits for is enabled once it has fired, and every rule enabled then
-- has fired; but it cannot fire. The same for the two rules of case D (the RL paper, section 3, r3 and r4).
unfoldable pub own_cause : List Rule
own_cause = rule (pair z v1) [] (pair z v1 ∷ []) ∷ []

-- Complete and consistent it would be; a firing order it is not.
pub own_tests : map (λ f. f own_cause all_0 (pair y v1 ∷ []) (1 ∷ [])) (complete ∷ consistent ∷ firing_order ∷ []) ≡ true ∷ true ∷ false ∷ []
unfolding computes own_cause
own_tests = refl

-- The response fires nothing.
pub own_response : response weak own_cause all_0 (pair y v1 ∷ []) ≡ []
unfolding computes own_cause
own_response = refl

-- Two rules that each assign what the other waits for.
pub each_other : map (λ f. f (rule_a ∷ rule_c ∷ []) all_0 (pair y v1 ∷ []) (1 ∷ 2 ∷ [])) (complete ∷ consistent ∷ firing_order ∷ []) ≡ true ∷ true ∷ false ∷ []
unfolding computes
each_other = refl
