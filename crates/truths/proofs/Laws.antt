-- Laws of AND and NOT: the section's words, their numbers, their order; and truth values that stay as more becomes known.
-- Assumes nothing.
use Prim.Native.Nat.{◌-◌, min}
use native.Mathlib.Nat.{min_comm}
use native.Mathlib.Omega.{arith}
use mathlib.Core.Path.{◌≡◌, refl, sym, ◌∙◌}
use mathlib.Core.Bool.{cond}
use mathlib.Core.Logic.{⊎_elim}
use lib.Dec.{T}
use Rattle.laws.specs.Truth.{◌∧ᵇ◌, ◌∨ᵇ◌}
use Rattle.laws.proofs.Truth.{and_l, and_r, and_i, or_l, or_r, or_e}
use Rattle.truths.specs.declared.Truth3.{Truth3}
use Rattle.truths.specs.declared.Truth3.TheVariants.{True, False, Unknown}
use Rattle.truths.specs.Truths.{NOT₃, ◌AND₃◌, is_true, is_false, number}

-- `unfolding by_cases` opens the truth values.
unfoldable by_cases : Unit {0}
unfolding NOT₃ ◌AND₃◌ is_true is_false number ◌∧ᵇ◌ ◌∨ᵇ◌
by_cases = tt

-- The list of AND in words: True if both are True, False if one of them is False, Unknown otherwise.
pub and_in_words : (p q : Truth3) → p AND₃ q ≡ cond (is_true p ∧ᵇ is_true q) True (cond (is_false p ∨ᵇ is_false q) False Unknown)
unfolding by_cases
and_in_words True True = refl
and_in_words True False = refl
and_in_words True Unknown = refl
and_in_words False True = refl
and_in_words False False = refl
and_in_words False Unknown = refl
and_in_words Unknown True = refl
and_in_words Unknown False = refl
and_in_words Unknown Unknown = refl

-- The list of NOT in words: True if p is False, False if p is True, Unknown otherwise.
pub not_in_words : (p : Truth3) → NOT₃ p ≡ cond (is_false p) True (cond (is_true p) False Unknown)
unfolding by_cases
not_in_words True = refl
not_in_words False = refl
not_in_words Unknown = refl

-- AND is the smaller of two numbers.
pub and_smaller : (p q : Truth3) → number (p AND₃ q) ≡ min (number p) (number q)
unfolding by_cases
and_smaller True True = refl
and_smaller True False = refl
and_smaller True Unknown = refl
and_smaller False True = refl
and_smaller False False = refl
and_smaller False Unknown = refl
and_smaller Unknown True = refl
and_smaller Unknown False = refl
and_smaller Unknown Unknown = refl

-- NOT is two minus the number.
pub not_two_minus : (p : Truth3) → number (NOT₃ p) ≡ 2 - number p
unfolding by_cases
not_two_minus True = refl
not_two_minus False = refl
not_two_minus Unknown = refl

-- A number stands for one truth value.
pub number_one : (p q : Truth3) → number p ≡ number q → p ≡ q
unfolding by_cases
number_one True True e = refl
number_one True False e = absurd (omega arith)
number_one True Unknown e = absurd (omega arith)
number_one False True e = absurd (omega arith)
number_one False False e = refl
number_one False Unknown e = absurd (omega arith)
number_one Unknown True e = absurd (omega arith)
number_one Unknown False e = absurd (omega arith)
number_one Unknown Unknown e = refl

-- False decides.
pub and_false : (q : Truth3) → False AND₃ q ≡ False
unfolding by_cases
and_false True = refl
and_false False = refl
and_false Unknown = refl

-- AND does not look at the order of two, as the smaller of two numbers does not,
pub and_comm : (p q : Truth3) → p AND₃ q ≡ q AND₃ p
and_comm p q = number_one (p AND₃ q) (q AND₃ p) (and_smaller p q ∙ min_comm (number p) (number q) ∙ sym (and_smaller q p))

-- nor at the order of the first two of three.
pub and_swap : (p q r : Truth3) → p AND₃ (q AND₃ r) ≡ q AND₃ (p AND₃ r)
and_swap p q r = number_one (p AND₃ (q AND₃ r)) (q AND₃ (p AND₃ r)) (omega (arith, and_smaller p (q AND₃ r), and_smaller q r, and_smaller q (p AND₃ r), and_smaller p r))

-- (S, Z) ⊢₃: AND is True exactly where both are.
and_is_true : (p q : Truth3) → is_true (p AND₃ q) ≡ (is_true p ∧ᵇ is_true q)
unfolding by_cases
and_is_true True True = refl
and_is_true True False = refl
and_is_true True Unknown = refl
and_is_true False True = refl
and_is_true False False = refl
and_is_true False Unknown = refl
and_is_true Unknown True = refl
and_is_true Unknown False = refl
and_is_true Unknown Unknown = refl

-- (S, Z) ⊬₃: AND is False exactly where one of them is.
and_is_false : (p q : Truth3) → is_false (p AND₃ q) ≡ (is_false p ∨ᵇ is_false q)
unfolding by_cases
and_is_false True True = refl
and_is_false True False = refl
and_is_false True Unknown = refl
and_is_false False True = refl
and_is_false False False = refl
and_is_false False Unknown = refl
and_is_false Unknown True = refl
and_is_false Unknown False = refl
and_is_false Unknown Unknown = refl

-- No truth value is both.
pub true_not_false : (p : Truth3) → T (is_true p) → ¬ T (is_false p)
unfolding by_cases
true_not_false True s t = t
true_not_false False s t = s
true_not_false Unknown s t = s

-- A truth value is what another was, or the other was Unknown.
pub record Stays (p q : Truth3) : Type 0 where
  pub stays_true : T (is_true p) → T (is_true q)
  pub stays_false : T (is_false p) → T (is_false q)

-- It stays itself.
pub stays_same : (p : Truth3) → Stays p p
stays_same p = record { stays_true = λ t. t; stays_false = λ t. t }

-- NOT keeps this.
pub not_stays : (p q : Truth3) → Stays p q → Stays (NOT₃ p) (NOT₃ q)
unfolding by_cases
not_stays True True s = stays_same False
not_stays True False s = absurd (s.stays_true tt)
not_stays True Unknown s = absurd (s.stays_true tt)
not_stays False True s = absurd (s.stays_false tt)
not_stays False False s = stays_same True
not_stays False Unknown s = absurd (s.stays_false tt)
not_stays Unknown q s = record { stays_true = λ t. absurd t; stays_false = λ t. absurd t }

-- So does AND.
pub and_stays : (p p' q q' : Truth3) → Stays p p' → Stays q q' → Stays (p AND₃ q) (p' AND₃ q')
and_stays p p' q q' s t = record {
  stays_true = λ h. let w = rw and_is_true at h in rw and_is_true (and_i _ _ (s.stays_true (and_l _ _ w)) (t.stays_true (and_r _ _ w)));
  stays_false = λ h. rw and_is_false (⊎_elim (λ x. or_l _ _ (s.stays_false x)) (λ x. or_r _ _ (t.stays_false x)) (or_e _ _ (rw and_is_false at h)));
}
