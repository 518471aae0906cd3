-- The rules, card and slips of the worked examples: document 01, 'Cases', over the slots x, y, z with the values 0 and 1.
-- Assumes nothing.
use Prim.Native.Nat.{ℕ, suc}
use mathlib.Core.Bool.{true, false}
use mathlib.Core.List.{List, [], ◌∷◌}
use Rattle.laws.specs.Truth.{◌∧ᵇ◌, ◌∨ᵇ◌, notᵇ}
use Rattle.laws.specs.Numbers.{some_of, first_of}
use Rattle.laws.specs.Below.{first_below, count_below}
use Rattle.laws.specs.Tabulated.{tabulate}
use lib.ListN.{length}
use Rattle.model.specs.Rules.{Pair, Literal, Rule, same, among, was, became, test, holds, all_hold, enabled}
use Rattle.model.specs.Orders.{no_rule, rule_at, names, each, changes, ready, can_fire, firing_order, complete, consistent, whole_order}
use Rattle.model.specs.Strata.{pairs_where, is_becomes, is_plain, is_under_not, tested, needed, barred, meet, depends, depends_plainly, depends_under_not, Grading, may_stay_level, must_fall}
use Rattle.model.specs.Circles.{within, reach, step, behind, on_circle, circle_of}
use Rattle.model.specs.Least.{least_above, round, strata_of}
use Rattle.model.specs.Response.{lower, next_of, fire_then, fire_on, response_by, response}
use Rattle.model.specs.Result.{pair, value_in, is_changed, in_conflict, conflict_slot, new_value, new_card, changes_slip}

-- What the tests of rules run.
unfoldable runs_rules : Unit {0}
unfolding ◌∧ᵇ◌ ◌∨ᵇ◌ notᵇ same among was became test holds all_hold enabled no_rule rule_at
runs_rules = tt

-- What the tests of firing orders run.
unfoldable runs_orders : Unit {0}
unfolding some_of names each changes ready can_fire firing_order complete consistent whole_order
runs_orders = tt

-- What dependence runs.
unfoldable runs_strata : Unit {0}
unfolding is_becomes is_plain is_under_not pairs_where tested needed barred meet depends depends_plainly depends_under_not may_stay_level must_fall
runs_strata = tt

-- What circles and least strata run.
unfoldable runs_circles : Unit {0}
unfolding first_of within reach step behind on_circle circle_of least_above round strata_of
runs_circles = tt

-- What the response and its results run.
unfoldable runs_response : Unit {0}
unfolding lower next_of fire_then fire_on response_by response first_below count_below tabulate value_in is_changed in_conflict new_value conflict_slot new_card changes_slip
runs_response = tt

-- `unfolding computes` opens every definition that an example runs.
unfoldable pub computes : Unit {0}
unfolding runs_rules runs_orders runs_strata runs_circles runs_response
computes = tt

-- The slot x.
abbrev pub x : ℕ
x = 0

-- The slot y.
abbrev pub y : ℕ
y = 1

-- The slot z.
abbrev pub z : ℕ
z = 2

-- The value 0, declared first.
abbrev pub v0 : ℕ
v0 = 1

-- The value 1, declared second.
abbrev pub v1 : ℕ
v1 = 2

-- `s |= v`.
abbrev pub had : ℕ → ℕ → Literal
had s v = record { becomes = false; negated = false; pair = pair s v }

-- `NOT s |= v`.
abbrev pub not_had : ℕ → ℕ → Literal
not_had s v = record { becomes = false; negated = true; pair = pair s v }

-- `s *= v`.
abbrev pub turns : ℕ → ℕ → Literal
turns s v = record { becomes = true; negated = false; pair = pair s v }

-- `NOT s *= v`.
abbrev pub not_turns : ℕ → ℕ → Literal
not_turns s v = record { becomes = true; negated = true; pair = pair s v }

-- WHEN a pair IF literals THEN assignments.
abbrev pub rule : Pair → List Literal → List Pair → Rule
rule p ls as' = record { trigger = p; literals = ls; assignments = as' }

-- a `WHEN x *= 1 IF y |= 0 THEN z := 1;`
abbrev pub rule_a : Rule
rule_a = rule (pair x v1) (had y v0 ∷ []) (pair z v1 ∷ [])

-- b `WHEN z *= 1 IF y |= 0 THEN y := 1;`
abbrev pub rule_b : Rule
rule_b = rule (pair z v1) (had y v0 ∷ []) (pair y v1 ∷ [])

-- c `WHEN z *= 1 IF y |= 0 THEN x := 1;`
abbrev pub rule_c : Rule
rule_c = rule (pair z v1) (had y v0 ∷ []) (pair x v1 ∷ [])

-- d `WHEN y *= 1 IF NOT x *= 1 THEN z := 1;`
abbrev pub rule_d : Rule
rule_d = rule (pair y v1) (not_turns x v1 ∷ []) (pair z v1 ∷ [])

-- e `WHEN y *= 1 IF x |= 0 THEN x := 1;`
abbrev pub rule_e : Rule
rule_e = rule (pair y v1) (had x v0 ∷ []) (pair x v1 ∷ [])

-- `WHEN x *= 1 IF TRUE THEN x := 0;`
abbrev pub rule_h : Rule
rule_h = rule (pair x v1) [] (pair x v0 ∷ [])

-- The card with all slots 0.
abbrev pub all_0 : List ℕ
all_0 = v0 ∷ v0 ∷ v0 ∷ []

-- The card without values.
abbrev pub no_values : List ℕ
no_values = 0 ∷ 0 ∷ 0 ∷ []

-- The strata of a list of rules, rule 1 first.
unfoldable pub strata_list : Grading → List Rule → List ℕ
unfolding computes
strata_list G rs = tabulate (λ i. strata_of G rs (suc i)) (length rs)

-- A response: the rules fired in their order, the changes, the new card, the lowest slot in conflict (3 where none is).
pub record Answer : Type 0 where
  pub fired : List ℕ
  pub changed : List Pair
  pub card : List ℕ
  pub conflict : ℕ

-- What the rules of a list give once they have fired.
unfoldable pub answer_of : List Rule → List Pair → List ℕ → List ℕ → Answer
answer_of rs I S ns = record {
  fired = ns;
  changed = changes_slip 3 3 (changes rs I ns);
  card = new_card 3 3 (changes rs I ns) S;
  conflict = conflict_slot 3 3 (changes rs I ns);
}

-- What the response gives.
unfoldable pub answer : Grading → List Rule → List ℕ → List Pair → Answer
answer G rs S I = answer_of rs I S (response G rs S I)
