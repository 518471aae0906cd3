-- Computed examples of firing orders: document 01, 'Preconditions and response'.
-- Assumes nothing.
use Prim.Native.Nat.{ℕ}
use mathlib.Core.Path.{◌≡◌, refl}
use mathlib.Core.Bool.{true, false}
use mathlib.Core.List.{List, [], ◌∷◌, map}
use lib.ListN.{get_or}
use Rattle.model.specs.Rules.{Pair, Rule}
use Rattle.model.specs.Orders.{changes, firing_order, complete, consistent, whole_order}
use Rattle.model.specs.Strata.{weak}
use Rattle.model.specs.Response.{next_of, response}
use Rattle.model.specs.Result.{pair}
use Rattle.model.proofs.CaseRules.{computes, x, y, z, v0, v1, rule, rule_a, rule_b, rule_d, rule_e, all_0}

-- Case E: rule 1 (d) bars what rule 2 (e) assigns; both are enabled at the slip.
unfoldable pub rules_E : List Rule
rules_E = rule_d ∷ rule_e ∷ []

-- The slip of case E: y to 1.
unfoldable pub slip_E : List Pair
slip_E = pair y v1 ∷ []

-- Lists of rule numbers: none; each rule; both, in either order; a rule twice; numbers that no rule has.
unfoldable pub lists : List (List ℕ)
lists = [] ∷ (1 ∷ []) ∷ (2 ∷ []) ∷ (1 ∷ 2 ∷ []) ∷ (2 ∷ 1 ∷ []) ∷ (2 ∷ 2 ∷ []) ∷ (0 ∷ []) ∷ (3 ∷ []) ∷ []

-- Each rule named must be unfired and enabled at its moment: after e, d is not.
pub orders_E : map (firing_order rules_E all_0 slip_E) lists ≡ true ∷ true ∷ true ∷ true ∷ false ∷ false ∷ false ∷ false ∷ []
unfolding computes rules_E slip_E lists
orders_E = refl

-- At the end no unfired rule is enabled: after the empty list both are, after d alone e is.
pub complete_E : map (complete rules_E all_0 slip_E) ([] ∷ (1 ∷ []) ∷ (2 ∷ []) ∷ (1 ∷ 2 ∷ []) ∷ []) ≡ false ∷ false ∷ true ∷ true ∷ []
unfolding computes rules_E slip_E
complete_E = refl

-- Every fired rule is still enabled at the end: d, enabled when it fired before e, is not.
pub consistent_E : map (consistent rules_E all_0 slip_E) ([] ∷ (1 ∷ []) ∷ (2 ∷ []) ∷ (1 ∷ 2 ∷ []) ∷ []) ≡ true ∷ true ∷ true ∷ false ∷ []
unfolding computes rules_E slip_E
consistent_E = refl

-- Only e alone is all three.
pub whole_E : map (whole_order rules_E all_0 slip_E) lists ≡ false ∷ false ∷ true ∷ false ∷ false ∷ false ∷ false ∷ false ∷ []
unfolding computes rules_E slip_E lists
whole_E = refl

-- C starts at the slip, and each rule fired adds its assignments.
pub changes_C : map (λ ns. map (changes (rule_a ∷ rule_b ∷ []) (pair x v1 ∷ []) ns) (pair x v1 ∷ pair y v1 ∷ pair z v1 ∷ pair z v0 ∷ [])) ([] ∷ (1 ∷ []) ∷ (1 ∷ 2 ∷ []) ∷ [])
    ≡ (true ∷ false ∷ false ∷ false ∷ [])
    ∷ (true ∷ false ∷ true ∷ false ∷ [])
    ∷ (true ∷ true ∷ true ∷ false ∷ [])
    ∷ []
unfolding computes
changes_C = refl

-- A rule fires though its assignments are in C already.
pub repeats : response weak (rule (pair x v1) [] (pair y v1 ∷ []) ∷ rule (pair x v1) [] (pair y v1 ∷ []) ∷ []) all_0 (pair x v1 ∷ []) ≡ 1 ∷ 2 ∷ []
unfolding computes
repeats = refl

-- The numbers a and b for the rules 1 and 2.
unfoldable pub numbers : ℕ → ℕ → ℕ → ℕ
numbers a b n = get_or (0 ∷ a ∷ b ∷ []) n 0

-- The next rule is of the lowest stratum that has a ready rule: by the strata 2, 1 it is rule 2, by 1, 2 and where both are level it is rule 1; with an empty slip it is none.
pub next_E : next_of rules_E all_0 slip_E (numbers 2 1) [] 2
    ∷ next_of rules_E all_0 slip_E (numbers 1 2) [] 2
    ∷ next_of rules_E all_0 slip_E (numbers 1 1) [] 2
    ∷ next_of rules_E all_0 [] (numbers 2 1) [] 2
    ∷ []
    ≡ 2 ∷ 1 ∷ 1 ∷ 0 ∷ []
unfolding computes rules_E slip_E numbers
next_E = refl
