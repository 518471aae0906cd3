-- Laws of the array of tests: how it is filled, and what it says of a literal.
-- Assumes nothing.
use mathlib.Core.Path.{◌≡◌, refl, ap, ◌∙◌}
use mathlib.Core.Bool.{Bool, true, false, cond}
use mathlib.Core.List.{List}
use Prim.Native.Nat.{ℕ, ◌+◌, ◌*◌, ◌/◌, ◌%◌, ◌<◌}
use native.Mathlib.Omega.{arith}
use lib.Dec.{eqb}
use lib.ListN.{get_or, set}
use borrow.Author.Tests.{eq-eqb, eqb-true, eqb-false}
use Rattle.laws.specs.Truth.{◌∧ᵇ◌, ◌∨ᵇ◌, notᵇ}
use Rattle.laws.specs.Limits.{slot_limit, row}
use Rattle.model.specs.Rules.{Literal, was}
use Rattle.table.specs.Link.{literal_of}
use Rattle.table.specs.inner.Flat.{pair_places, pair_at, place_of, set_of}
use Rattle.table.proofs.Flat.{set_in}
use Rattle.rows.specs.inner.Rows.{pair_in, literal_in}
use Rattle.testing.proofs.Filling.{had_here, not_there, Begun, begun_next}
use Rattle.truths.specs.declared.Truth3.{Truth3}
use Rattle.truths.specs.declared.Truth3.TheVariants.{True, False, Unknown}
use Rattle.truths.specs.Truths.{NOT₃}
use Rattle.marks.specs.Marks.{Marks, truth_had, truth_turns, truth_test, truth_literal}
use Rattle.judging.specs.declared.truth.Known.{Known}
use Rattle.judging.specs.inner.Known.{known, marks_of, Truths}

-- A pair that the card has: `|=` is True and `*=` is False.
is_had : (S : List ℕ) (Z : Marks) (q : ℕ) → was S (pair_at q) ≡ true → True ≡ truth_had S Z (pair_at q)
unfolding truth_had
is_had S Z q e = rw e

is_turned : (S : List ℕ) (Z : Marks) (q : ℕ) → was S (pair_at q) ≡ true → False ≡ truth_turns S Z (pair_at q)
unfolding truth_turns ◌∧ᵇ◌ ◌∨ᵇ◌ notᵇ
is_turned S Z q e = rw e (go (Z.positive (pair_at q)) (Z.negative (pair_at q)))
  where
    go : (a b : Bool) → False ≡ cond (a ∧ᵇ notᵇ true) True (cond (b ∨ᵇ true) False Unknown)
    go true true = refl
    go true false = refl
    go false true = refl
    go false false = refl

-- Another: `|=` is False.
is_had_not : (S : List ℕ) (Z : Marks) (q : ℕ) → was S (pair_at q) ≡ false → False ≡ truth_had S Z (pair_at q)
unfolding truth_had
is_had_not S Z q e = rw e

-- What a pair comes to by its marks alone.
abbrev pub mark_at : List Bool → List Bool → ℕ → Truth3
mark_at positive negative q = cond (get_or positive q false) True (cond (get_or negative q false) False Unknown)

module _ (S : List ℕ) (positive negative : List Bool) where
  -- The marks of two arrays.
  abbrev Z : Marks
  Z = record { positive = set_of positive; negative = set_of negative }

  -- What the two tests of each pair come to.
  abbrev pub had_at : ℕ → Truth3
  had_at q = truth_had S Z (pair_at q)

  abbrev pub turns_at : ℕ → Truth3
  turns_at q = truth_turns S Z (pair_at q)

  -- Of a pair that the card has not, `*=` is what the marks say.
  is_marked : (q : ℕ) → was S (pair_at q) ≡ false → mark_at positive negative q ≡ turns_at q
  unfolding truth_turns ◌∧ᵇ◌ ◌∨ᵇ◌ notᵇ
  is_marked q e =
      let z : place_of (pair_at q) ≡ q = omega arith in
      rw (e, set_in positive (pair_at q) (omega arith), set_in negative (pair_at q) (omega arith), z) (go (get_or positive q false) (get_or negative q false))
    where
      go : (a b : Bool) → cond a True (cond b False Unknown) ≡ cond (a ∧ᵇ notᵇ false) True (cond (b ∨ᵇ false) False Unknown)
      go true true = refl
      go true false = refl
      go false true = refl
      go false false = refl

  -- The value of one slot more is entered.
  pub slot_next : (truth : List Truth3) (s v : ℕ) → s < slot_limit → get_or S s 0 ≡ v → v < row → Begun False (mark_at positive negative) had_at turns_at truth s
      → Begun False (mark_at positive negative) had_at turns_at (set (set truth (s * row + v) True) (pair_places + (s * row + v)) False) (s + 1)
  slot_next truth s v h e k b = begun_next False (mark_at positive negative) had_at turns_at truth s v True False h k (is_had S Z (s * row + v) there) (is_turned S Z (s * row + v) there)
      (λ q d n. let z = not_there S s v q e d n in (is_had_not S Z q z, is_marked q z)) b
    where
      there : was S (pair_at (s * row + v)) ≡ true
      there = had_here S s v k e

  pub slots_end : (truth : List Truth3) → Begun False (mark_at positive negative) had_at turns_at truth slot_limit → Truths S (known positive negative truth)
  slots_end truth b = record { size = b.size; had = λ q h. b.had_in q (omega arith); turns = λ q h. b.turns_in q (omega arith) }

module _ (S : List ℕ) (Z : Marks) where
  -- The test of a `*=` and of a `|=`.
  test_turns : (l : Literal) → l.becomes ≡ true → truth_test S Z l ≡ truth_turns S Z l.pair
  unfolding truth_test
  test_turns l e = rw e

  test_had : (l : Literal) → l.becomes ≡ false → truth_test S Z l ≡ truth_had S Z l.pair
  unfolding truth_test
  test_had l e = rw e

  -- A literal under NOT, and a plain one, by its test.
  pub literal_not : (l : Literal) → l.negated ≡ true → NOT₃ (truth_test S Z l) ≡ truth_literal S Z l
  unfolding truth_literal
  literal_not l e = rw e

  pub literal_plain : (l : Literal) → l.negated ≡ false → truth_test S Z l ≡ truth_literal S Z l
  unfolding truth_literal
  literal_plain l e = rw e

  -- What a test comes to does not go by what its number has more under NOT.
  pub test_without_not : (x : ℕ) → truth_test S Z (literal_of (literal_in (x % (2 * pair_places)))) ≡ truth_test S Z (literal_of (literal_in x))
  unfolding truth_test
  test_without_not x =
      let becomes : x % (2 * pair_places) / pair_places % 2 ≡ x / pair_places % 2 = omega arith in
      let place : x % (2 * pair_places) % pair_places ≡ x % pair_places = omega arith in
      rw (becomes, place)

  -- The test that a trigger waits for is a `*=`.
  pub trigger_test : (x : ℕ) → x / pair_places ≡ 1 → truth_test S Z (literal_of (literal_in x)) ≡ truth_turns S Z (pair_in x)
  trigger_test x e = test_turns (literal_of (literal_in x)) (let h : x / pair_places % 2 ≡ 1 = omega arith in eq-eqb (x / pair_places % 2) 1 h)

-- A test that is not under NOT stands at its number.
pub test_at : (S : List ℕ) (k : Known) (x : ℕ) → x < 2 * pair_places → Truths S k → get_or k.truth x False ≡ truth_test S (marks_of k) (literal_of (literal_in x))
test_at S k x h t = go (eqb (x / pair_places % 2) 1) refl
  where
    go : (b : Bool) → eqb (x / pair_places % 2) 1 ≡ b → get_or k.truth x False ≡ truth_test S (marks_of k) (literal_of (literal_in x))
    go true e =
        let y = eqb-true (x / pair_places % 2) 1 e in
        let z : x ≡ pair_places + x % pair_places = omega arith in
        ap (λ (q : ℕ). get_or k.truth q False) z ∙ (rw (test_turns S (marks_of k) (literal_of (literal_in x)) e) (t.turns (x % pair_places) (omega arith)))
    go false e =
        let y = eqb-false (x / pair_places % 2) 1 e in
        let z : x ≡ x % pair_places = omega arith in
        ap (λ (q : ℕ). get_or k.truth q False) z ∙ (rw (test_had S (marks_of k) (literal_of (literal_in x)) e) (t.had (x % pair_places) (omega arith)))
