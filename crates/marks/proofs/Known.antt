-- What a rule comes to stays as more pairs are marked; where every pair is marked it comes to what it is by the changes alone.
-- Assumes nothing.
use Prim.Native.Nat.{ℕ}
use mathlib.Core.Path.{◌≡◌, refl, ap, ap₂, ◌∙◌}
use mathlib.Core.Bool.{Bool, true, false, cond}
use mathlib.Core.List.{List, [], ◌∷◌}
use mathlib.Core.Logic.{⊎_elim}
use lib.Dec.{T}
use Rattle.laws.specs.Truth.{◌∧ᵇ◌, ◌∨ᵇ◌, notᵇ}
use Rattle.laws.proofs.Truth.{and_l, and_r, and_i, or_l, or_r, or_e, not_e}
use Rattle.model.specs.Rules.{Pair, Pairs, Literal, Rule, among, was, became, test, holds, all_hold, enabled}
use Rattle.model.specs.Strata.{is_becomes, pairs_where, tested}
use Rattle.model.proofs.Pairs.{same_refl, where_here, where_later}
use Rattle.truths.specs.declared.Truth3.{Truth3}
use Rattle.truths.specs.declared.Truth3.TheVariants.{True, False, Unknown}
use Rattle.truths.specs.Truths.{NOT₃, ◌AND₃◌, is_true, is_false}
use Rattle.marks.specs.Marks.{Marks, truth_had, truth_turns, truth_test, truth_literal, truth_condition, truth_rule}
use Rattle.truths.proofs.Laws.{Stays, stays_same, not_stays, and_stays}

-- A pair keeps its mark from Z to Z', and does not clash there.
pub record Kept (Z Z' : Marks) (p : Pair) : Type 0 where
  pub positive_kept : T (Z.positive p) → T (Z'.positive p)
  pub negative_kept : T (Z.negative p) → T (Z'.negative p)
  pub not_both : T (Z'.positive p) → ¬ T (Z'.negative p)

-- The three cases of [x *= v], for any two tests.
cases_stay : (a b a' b' : Bool) → (T a → T a') → (T b → T b') → (T b → ¬ T a') → Stays (cond a True (cond b False Unknown)) (cond a' True (cond b' False Unknown))
unfolding is_true is_false
cases_stay a b a' b' f g h = record { stays_true = λ t. true_i a' b' (f (true_e a b t)); stays_false = λ t. false_i a' b' (h (false_e a b t)) (g (false_e a b t)) }
  where
    true_e : (a b : Bool) → T (is_true (cond a True (cond b False Unknown))) → T a
    true_e true b t = tt
    true_e false true t = t
    true_e false false t = t

    true_i : (a b : Bool) → T a → T (is_true (cond a True (cond b False Unknown)))
    true_i true b t = tt
    true_i false b t = absurd t

    false_e : (a b : Bool) → T (is_false (cond a True (cond b False Unknown))) → T b
    false_e true b t = absurd t
    false_e false true t = tt
    false_e false false t = t

    false_i : (a b : Bool) → (¬ T a) → T b → T (is_false (cond a True (cond b False Unknown)))
    false_i true b n t = absurd (n tt)
    false_i false true n t = tt
    false_i false false n t = t

-- A relation of truth values that each has to itself and that NOT and AND keep.
module _ (R : Truth3 → Truth3 → Type 0) (itself : (p : Truth3) → R p p) (nots : (p q : Truth3) → R p q → R (NOT₃ p) (NOT₃ q))
    (ands : (p p' q q' : Truth3) → R p p' → R q q' → R (p AND₃ q) (p' AND₃ q')) (S : List ℕ) (Y Z : Marks) where
  literal_related : (l : Literal) → (T (is_becomes l) → R (truth_turns S Y l.pair) (truth_turns S Z l.pair)) → R (truth_literal S Y l) (truth_literal S Z l)
  unfolding truth_literal truth_test truth_had is_becomes
  literal_related l = go l.becomes l.negated l.pair
    where
      go : (b n : Bool) (p : Pair) → (T b → R (truth_turns S Y p) (truth_turns S Z p))
          → R (cond n (NOT₃ (cond b (truth_turns S Y p) (truth_had S Y p))) (cond b (truth_turns S Y p) (truth_had S Y p)))
          (cond n (NOT₃ (cond b (truth_turns S Z p) (truth_had S Z p))) (cond b (truth_turns S Z p) (truth_had S Z p)))
      go true true p k = nots _ _ (k tt)
      go true false p k = k tt
      go false true p k = itself (NOT₃ (truth_had S Y p))
      go false false p k = itself (truth_had S Y p)

  condition_related : (ls : List Literal) → ((p : Pair) → T (among p (pairs_where is_becomes ls)) → R (truth_turns S Y p) (truth_turns S Z p))
      → R (truth_condition S Y ls) (truth_condition S Z ls)
  unfolding truth_condition
  condition_related [] k = itself True
  condition_related (l ∷ ls) k =
      ands _ _ _ _ (literal_related l (λ t. k l.pair (where_here is_becomes l ls t))) (condition_related ls (λ p t. k p (where_later is_becomes l ls p t)))

  -- It holds of what a rule comes to at two marks, where it holds of each `*=` of the rule.
  pub rule_related : (r : Rule) → ((p : Pair) → T (among p (tested r)) → R (truth_turns S Y p) (truth_turns S Z p)) → R (truth_rule S Y r) (truth_rule S Z r)
  unfolding truth_rule tested among
  rule_related r k = ands _ _ _ _ (k r.trigger (or_l _ _ (same_refl r.trigger))) (condition_related r.literals (λ p t. k p (or_r _ _ t)))

module _ (S : List ℕ) (Z Z' : Marks) where
  turns_stays : (p : Pair) → Kept Z Z' p → Stays (truth_turns S Z p) (truth_turns S Z' p)
  unfolding truth_turns
  turns_stays p k =
      cases_stay (Z.positive p ∧ᵇ notᵇ (was S p)) (Z.negative p ∨ᵇ was S p) (Z'.positive p ∧ᵇ notᵇ (was S p)) (Z'.negative p ∨ᵇ was S p)
      (λ t. and_i _ _ (k.positive_kept (and_l _ _ t)) (and_r _ _ t))
      (λ t. ⊎_elim (λ x. or_l _ _ (k.negative_kept x)) (λ x. or_r _ _ x) (or_e _ _ t))
      (λ t u. ⊎_elim (λ x. k.not_both (and_l _ _ u) (k.negative_kept x)) (λ x. not_e _ (and_r _ _ u) x) (or_e _ _ t))

  -- A rule whose tested pairs keep their marks stays True or False.
  pub rule_stays : (r : Rule) → ((p : Pair) → T (among p (tested r)) → Kept Z Z' p) → Stays (truth_rule S Z r) (truth_rule S Z' r)
  rule_stays r k = rule_related Stays stays_same not_stays and_stays S Z Z' r (λ p t. turns_stays p (k p t))

-- A test as a truth value.
unfoldable pub of_test : Bool → Truth3
of_test true = True
of_test false = False

-- The marks by which the pairs of C are positive and all others negative.
unfoldable pub exact : Pairs → Marks
exact C = record { positive = C; negative = λ p. notᵇ (C p) }

not_test : (b : Bool) → NOT₃ (of_test b) ≡ of_test (notᵇ b)
unfolding of_test NOT₃ notᵇ
not_test true = refl
not_test false = refl

and_test : (a b : Bool) → of_test a AND₃ of_test b ≡ of_test (a ∧ᵇ b)
unfolding of_test is_true is_false ◌AND₃◌ ◌∧ᵇ◌ ◌∨ᵇ◌
and_test true true = refl
and_test true false = refl
and_test false true = refl
and_test false false = refl

true_test : (b : Bool) → T (is_true (of_test b)) → T b
unfolding is_true of_test
true_test true t = tt
true_test false t = t

test_true : (b : Bool) → T b → T (is_true (of_test b))
unfolding is_true of_test
test_true true t = tt
test_true false t = t

false_test : (b : Bool) → T (is_false (of_test b)) → ¬ T b
unfolding is_false of_test
false_test true t u = t
false_test false t u = u

module _ (S : List ℕ) (C : Pairs) where
  exact_turns : (p : Pair) → truth_turns S (exact C) p ≡ of_test (became S C p)
  unfolding truth_turns exact became of_test ◌∧ᵇ◌ ◌∨ᵇ◌ notᵇ
  exact_turns p = go (was S p) (C p)
    where
      go : (w c : Bool) → cond (c ∧ᵇ notᵇ w) True (cond (notᵇ c ∨ᵇ w) False Unknown) ≡ of_test (notᵇ w ∧ᵇ c)
      go true true = refl
      go true false = refl
      go false true = refl
      go false false = refl

  exact_had : (p : Pair) → truth_had S (exact C) p ≡ of_test (was S p)
  unfolding truth_had of_test
  exact_had p = go (was S p)
    where
      go : (w : Bool) → cond w True False ≡ of_test w
      go true = refl
      go false = refl

  exact_literal : (l : Literal) → truth_literal S (exact C) l ≡ of_test (holds S C l)
  unfolding truth_literal truth_test holds test
  exact_literal l = go l.becomes l.negated l.pair
    where
      go : (b n : Bool) (p : Pair)
          → cond n (NOT₃ (cond b (truth_turns S (exact C) p) (truth_had S (exact C) p))) (cond b (truth_turns S (exact C) p) (truth_had S (exact C) p))
          ≡ of_test (cond n (notᵇ (cond b (became S C p) (was S p))) (cond b (became S C p) (was S p)))
      go true true p = ap NOT₃ (exact_turns p) ∙ not_test (became S C p)
      go true false p = exact_turns p
      go false true p = ap NOT₃ (exact_had p) ∙ not_test (was S p)
      go false false p = exact_had p

  exact_condition : (ls : List Literal) → truth_condition S (exact C) ls ≡ of_test (all_hold S C ls)
  unfolding truth_condition all_hold of_test
  exact_condition [] = refl
  exact_condition (l ∷ ls) = ap₂ ◌AND₃◌ (exact_literal l) (exact_condition ls) ∙ and_test (holds S C l) (all_hold S C ls)

  -- Where every pair is marked a rule is True or False, as it is enabled or not.
  pub exact_rule : (r : Rule) → truth_rule S (exact C) r ≡ of_test (enabled S C r)
  unfolding truth_rule enabled
  exact_rule r = ap₂ ◌AND₃◌ (exact_turns r.trigger) (exact_condition r.literals) ∙ and_test (became S C r.trigger) (all_hold S C r.literals)

  -- True there is enabled.
  pub exact_true : (r : Rule) → T (is_true (truth_rule S (exact C) r)) → T (enabled S C r)
  exact_true r t = true_test (enabled S C r) (rw exact_rule at t)

  -- And back.
  pub enabled_true : (r : Rule) → T (enabled S C r) → T (is_true (truth_rule S (exact C) r))
  enabled_true r t = rw exact_rule (test_true (enabled S C r) t)

  -- False there is not enabled.
  pub exact_false : (r : Rule) → T (is_false (truth_rule S (exact C) r)) → ¬ T (enabled S C r)
  exact_false r t = false_test (enabled S C r) (rw exact_rule at t)
