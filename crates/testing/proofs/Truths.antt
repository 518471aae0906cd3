-- Laws of the array of tests: how it is filled, that an assignment keeps it true, and what it says of a literal.
-- Assumes nothing.
use mathlib.Core.Path.{◌≡◌, refl, sym, ◌∙◌}
use mathlib.Core.Bool.{Bool, true, false, not}
use mathlib.Core.List.{List, ◌++◌}
use mathlib.Core.Logic.{⊎_elim}
use Prim.Native.Nat.{ℕ, ◌-◌, ◌+◌, ◌*◌, ◌/◌, ◌%◌, ◌<◌}
use native.Mathlib.Omega.{arith}
use lib.Dec.{eqb}
use lib.ListN.{length, get_or, set, take, replicate, length-set, length-append, length-replicate, get_or-append}
use Rattle.std.proofs.lemmas.List.{get_or-append_right, get_or-take, get_or-replicate, length-take-le}
use lib.Seq.{get_or-set_same, get_or-set_other}
use borrow.Author.Tests.{eqb-true, eqb-false, eq-eqb, ne_eqb}
use Rattle.laws.specs.Truth.{◌∧ᵇ◌, notᵇ}
use Rattle.laws.proofs.Equations.{either}
use Rattle.laws.specs.Limits.{slot_limit, row}
use Rattle.model.specs.Rules.{Pairs, was, became, test, holds}
use Rattle.table.specs.Link.{literal_of}
use Rattle.table.specs.inner.Flat.{pair_places, pair_at, place_of, set_of}
use Rattle.table.proofs.Flat.{set_in}
use Rattle.rows.specs.inner.Rows.{pair_in, literal_in}
use Rattle.testing.specs.inner.Truth.{Truth}
use Rattle.testing.proofs.Holding.{test_becomes, test_was, holds_plain}
use Rattle.testing.proofs.Filling.{had_here, not_there, Copied, Begun, begun_next}

-- A pair that the card has did not become, another did where the changes have it.
not_become : (b : Bool) → false ≡ (notᵇ true ∧ᵇ b)
unfolding ◌∧ᵇ◌ notᵇ
not_become b = refl

may_become : (b : Bool) → b ≡ (notᵇ false ∧ᵇ b)
unfolding ◌∧ᵇ◌ notᵇ
may_become b = refl

-- What is copied first, and what the two tests of each pair come to.
abbrev pub flag_at : List Bool → ℕ → Bool
flag_at bs q = get_or bs q false

abbrev pub had_at : List ℕ → ℕ → Bool
had_at S q = was S (pair_at q)

abbrev pub came_at : List ℕ → List Bool → ℕ → Bool
came_at S bs q = notᵇ (was S (pair_at q)) ∧ᵇ get_or bs q false

-- The value of one slot more is entered.
pub slot_next : (S : List ℕ) (bs truth : List Bool) (s v : ℕ) → s < slot_limit → get_or S s 0 ≡ v → v < row → Begun false (flag_at bs) (had_at S) (came_at S bs) truth s
    → Begun false (flag_at bs) (had_at S) (came_at S bs) (set (set truth (s * row + v) true) (pair_places + (s * row + v)) false) (s + 1)
slot_next S bs truth s v h e k b = begun_next false (flag_at bs) (had_at S) (came_at S bs) truth s v true false h k (sym there) (rw there (not_become (get_or bs (s * row + v) false)))
    (λ q d n. let z = not_there S s v q e d n in (sym z, rw z (may_become (get_or bs q false)))) b
  where
    there : was S (pair_at (s * row + v)) ≡ true
    there = had_here S s v k e

pub slots_end : (S : List ℕ) (bs truth : List Bool) → Begun false (flag_at bs) (had_at S) (came_at S bs) truth slot_limit → Truth S bs truth
slots_end S bs truth b = record { size = b.size; had = λ q h. b.had_in q (omega arith); came = λ q h. b.turns_in q (omega arith) }

-- What became, from the array of changes.
became_at : (S : List ℕ) (bs : List Bool) (q : ℕ) → became S (set_of bs) (pair_at q) ≡ (notᵇ (was S (pair_at q)) ∧ᵇ get_or bs q false)
unfolding became
became_at S bs q = let z : place_of (pair_at q) ≡ q = omega arith in rw (set_in bs (pair_at q) (omega arith), z)

not_and : (b : Bool) → not b ≡ (notᵇ b ∧ᵇ true)
unfolding ◌∧ᵇ◌ notᵇ
not_and true = refl
not_and false = refl

-- A pair that is added became, unless the card has it.
pub truth_more : (S : List ℕ) (bs truth : List Bool) (p : ℕ) → p < pair_places → length bs ≡ pair_places → Truth S bs truth → Truth S (set bs p true) (set truth (pair_places + p) (not (get_or truth p false)))
truth_more S bs truth p h l t =
    let z = t.size in
    record {
      size = length-set truth _ _ ∙ z;
      had = λ q k. get_or-set_other truth (pair_places + p) q _ false (λ e. omega arith) ∙ t.had q k;
      came = λ q k. ⊎_elim
          (λ (e : q ≡ p). rw (e, get_or-set_same truth (pair_places + p) (not (get_or truth p false)) false (omega arith), t.had p h, get_or-set_same bs p true false (omega arith)) (not_and (was S (pair_at p))))
          (λ n. rw (get_or-set_other bs p q true false n) (get_or-set_other truth (pair_places + p) (pair_places + q) _ false (λ e. n (omega arith)) ∙ t.came q k))
          (either q p);
    }

-- The test of a literal, without its NOT, stands at the rest of its number.
pub truth_test : (S : List ℕ) (bs truth : List Bool) (x : ℕ) → Truth S bs truth → get_or truth (x % (2 * pair_places)) false ≡ test S (set_of bs) (literal_of (literal_in x))
truth_test S bs truth x t = go (eqb (x / pair_places % 2) 1) refl
  where
    go : (b : Bool) → eqb (x / pair_places % 2) 1 ≡ b → get_or truth (x % (2 * pair_places)) false ≡ test S (set_of bs) (literal_of (literal_in x))
    go true e =
        let y = eqb-true (x / pair_places % 2) 1 e in
        let z : x % (2 * pair_places) ≡ pair_places + x % pair_places = omega arith in
        rw z (t.came (x % pair_places) (omega arith) ∙ sym (became_at S bs (x % pair_places)) ∙ sym (test_becomes S (set_of bs) (literal_of (literal_in x)) e))
    go false e =
        let y = eqb-false (x / pair_places % 2) 1 e in
        let z : x % (2 * pair_places) ≡ x % pair_places = omega arith in
        rw z (t.had (x % pair_places) (omega arith) ∙ sym (test_was S (set_of bs) (literal_of (literal_in x)) e))

-- The test that a trigger waits for is a plain `*=`.
pub trigger_holds : (S : List ℕ) (C : Pairs) (x : ℕ) → x / pair_places ≡ 1 → holds S C (literal_of (literal_in x)) ≡ became S C (pair_in x)
trigger_holds S C x e =
    sym (holds_plain S C (literal_of (literal_in x)) (test S C (literal_of (literal_in x))) (ne_eqb (x / (2 * pair_places)) 1 (λ z. omega arith)) refl)
    ∙ test_becomes S C (literal_of (literal_in x)) (eq-eqb (x / pair_places % 2) 1 (omega arith))

-- All pairs are copied.
pub copied_all : (bs : List Bool) → length bs ≡ pair_places → Copied false (flag_at bs) (take pair_places (replicate (2 * pair_places) false) ++ bs) pair_places
copied_all bs l =
    let z = replicate (2 * pair_places) false in
    let k : length (take pair_places z) ≡ pair_places = length-take-le pair_places z (omega (arith, length-replicate {A = Bool} (2 * pair_places) false)) in
    record {
      size = length-append (take pair_places z) bs ∙ omega (arith, l, k);
      untouched = λ q h. get_or-append (take pair_places z) bs false q (omega (arith, k)) ∙ get_or-take pair_places z q false h ∙ get_or-replicate (2 * pair_places) q false false (omega arith);
      copied = λ q h.
          let e : pair_places + q - pair_places ≡ q = omega arith in
          rw e at (get_or-append_right (take pair_places z) bs pair_places (pair_places + q) false k (omega arith));
    }
