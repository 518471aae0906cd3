-- Marks of pairs, and what rules come to at marks: the RL paper, section 6.1; document 02, section 3.
use Rattle.std.specs.Prelude.{ℕ, zero, suc, Bool, false, cond, List, [], ◌∷◌, ◌++◌, eqb}
use Rattle.laws.specs.Truth.{◌∧ᵇ◌, ◌∨ᵇ◌, notᵇ}
use Rattle.model.specs.Rules.{Pair, Pairs, Literal, Rule, same, among, was}
use Rattle.model.specs.Result.{pair}
use Rattle.truths.specs.declared.Truth3.{Truth3}
use Rattle.truths.specs.declared.Truth3.TheVariants.{True, False, Unknown}
use Rattle.truths.specs.Truths.{NOT₃, ◌AND₃◌}

-- The pairs of a slot with NONE, which is value 0, and with the values 1 to k.
unfoldable pub slot_pairs : ℕ → ℕ → List Pair
slot_pairs s zero = pair s 0 ∷ []
slot_pairs s (suc k) = slot_pairs s k ++ pair s (suc k) ∷ []

-- The declared pairs of the slots from s on, given how many values each of them has.
unfoldable pub declared_from : ℕ → List ℕ → List Pair
declared_from s [] = []
declared_from s (k ∷ ks) = slot_pairs s k ++ declared_from (suc s) ks

-- Every declared pair, given how many values each slot has; NONE of each slot is among them (document 02, section 6: 'unknown marks do so throughout').
unfoldable pub declared_pairs : List ℕ → List Pair
declared_pairs ks = declared_from 0 ks

-- The marks Z: the pairs marked positive and the pairs marked negative.
pub record Marks : Type 0 where
  pub positive : Pairs
  pub negative : Pairs

-- A pair that is neither is unknown.
unfoldable pub is_unknown : Marks → Pair → Bool
is_unknown Z p = notᵇ (Z.positive p) ∧ᵇ notᵇ (Z.negative p)

-- A pair that is both shows slot-inconsistency; where there is one the paper has the empty set in the place of Z.
unfoldable pub is_both : Marks → Pair → Bool
is_both Z p = Z.positive p ∧ᵇ Z.negative p

-- The evaluation at (S, Z).
module _ (S : List ℕ) (Z : Marks) where
  -- [x |= v] is True if S has v in x; False if S has not v in x.
  unfoldable pub truth_had : Pair → Truth3
  truth_had p = cond (was S p) True False

  -- [x *= v] is True if (x, v) is positive and S has not v in x; False if (x, v) is negative or S has v in x; Unknown otherwise.
  unfoldable pub truth_turns : Pair → Truth3
  truth_turns p = cond (Z.positive p ∧ᵇ notᵇ (was S p)) True (cond (Z.negative p ∨ᵇ was S p) False Unknown)

  -- The test of a literal, without its NOT.
  unfoldable pub truth_test : Literal → Truth3
  truth_test l = cond l.becomes (truth_turns l.pair) (truth_had l.pair)

  -- A literal.
  unfoldable pub truth_literal : Literal → Truth3
  truth_literal l = cond l.negated (NOT₃ (truth_test l)) (truth_test l)

  -- A condition: its literals joined by AND. TRUE is the condition with none.
  unfoldable pub truth_condition : List Literal → Truth3
  truth_condition [] = True
  truth_condition (l ∷ ls) = truth_literal l AND₃ truth_condition ls

  -- A rule: its trigger and its condition. It is 3-enabled where this is True, and 3-non-enabled where it is False.
  unfoldable pub truth_rule : Rule → Truth3
  truth_rule r = truth_turns r.trigger AND₃ truth_condition r.literals

-- Every pair is unknown.
unfoldable pub no_marks : Marks
no_marks = record { positive = λ p. false; negative = λ p. false }

-- A pair has the slot of one of some pairs, and another value.
unfoldable pub rivals : Pair → List Pair → Bool
rivals p [] = false
rivals p (q ∷ qs) = eqb p.slot q.slot ∧ᵇ notᵇ (eqb p.value q.value) ∨ᵇ rivals p qs

-- The update by C⁺, for a list C of pairs: they become positive, and the other values of their slots negative.
unfoldable pub update : Marks → List Pair → Marks
update Z C = record { positive = λ p. among p C ∨ᵇ Z.positive p; negative = λ p. rivals p C ∨ᵇ Z.negative p }

-- The update by one negative change.
unfoldable pub rule_out : Marks → Pair → Marks
rule_out Z q = record { positive = Z.positive; negative = λ p. same p q ∨ᵇ Z.negative p }
