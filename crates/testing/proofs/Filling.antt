-- Laws of filling an array of tests: what each pair is first, then in each slot what the card's value and the others are.
-- Assumes nothing.
use mathlib.Core.Path.{◌≡◌, refl, ◌∙◌}
use mathlib.Core.Bool.{true, false}
use mathlib.Core.List.{List}
use mathlib.Core.Logic.{⊎_elim}
use Prim.Native.Nat.{ℕ, ◌+◌, ◌*◌, ◌/◌, ◌%◌, ◌≤◌, ◌<◌}
use native.Mathlib.Omega.{arith}
use native.Mathlib.Nat.{eq-or-lt_of_le}
use lib.ListN.{length, get_or, set, replicate, length-set, length-replicate, get_or-replicate}
use lib.Seq.{get_or-set_same, get_or-set_other}
use borrow.Author.Tests.{eq-eqb, ne_eqb}
use Rattle.laws.proofs.Equations.{either}
use Rattle.laws.specs.Limits.{slot_limit, row}
use Rattle.model.specs.Rules.{was}
use Rattle.table.specs.inner.Flat.{pair_places, pair_at}

-- What the card has in a slot is the one pair of that slot that it has.
pub had_here : (S : List ℕ) (s v : ℕ) → v < row → get_or S s 0 ≡ v → was S (pair_at (s * row + v)) ≡ true
unfolding was
had_here S s v h e =
    let a : (s * row + v) / row ≡ s = omega arith in
    let b : (s * row + v) % row ≡ v = omega arith in
    rw (a, b, e) (eq-eqb v v refl)

pub not_there : (S : List ℕ) (s v q : ℕ) → get_or S s 0 ≡ v → q / row ≡ s → (q ≡ s * row + v → ⊥) → was S (pair_at q) ≡ false
unfolding was
not_there S s v q e d n = rw (d, e) (ne_eqb v (q % row) (λ x. n (omega arith)))

-- Before the card is looked at, the tests `|=` and `*=` of a pair come to these;
module _ {A : Type 0} (none : A) (first : ℕ → A) where
  -- The first p pairs are copied.
  pub record Copied (truth : List A) (p : ℕ) : Type 0 where
    pub size : length truth ≡ 2 * pair_places
    pub untouched : (q : ℕ) → q < pair_places → get_or truth q none ≡ none
    pub copied : (q : ℕ) → q < p → get_or truth (pair_places + q) none ≡ first q

  pub copied_start : Copied (replicate (2 * pair_places) none) 0
  copied_start = record {
    size = length-replicate (2 * pair_places) none;
    untouched = λ q h. get_or-replicate (2 * pair_places) q none none (omega arith);
    copied = λ q h. absurd (let z = h in omega arith);
  }

  pub copied_next : (truth : List A) (p : ℕ) (x : A) → p < pair_places → x ≡ first p → Copied truth p → Copied (set truth (pair_places + p) x) (p + 1)
  copied_next truth p x l f c =
      let z = c.size in
      record {
        size = length-set truth _ _ ∙ z;
        untouched = λ q h. get_or-set_other truth (pair_places + p) q _ none (λ e. omega arith) ∙ c.untouched q h;
        copied = λ q h. ⊎_elim
            (λ (e : q ≡ p). rw e (get_or-set_same truth (pair_places + p) x none (omega arith) ∙ f))
            (λ (k : q < p). get_or-set_other truth (pair_places + p) (pair_places + q) _ none (λ e. omega arith) ∙ c.copied q k)
            (eq-or-lt_of_le (let y : q ≤ p = omega arith in y));
      }

  -- then to these.
  module _ (had turns : ℕ → A) where
    -- The values of the first s slots are entered.
    pub record Begun (truth : List A) (s : ℕ) : Type 0 where
      pub size : length truth ≡ 2 * pair_places
      pub had_in : (q : ℕ) → q / row < s → get_or truth q none ≡ had q
      pub turns_in : (q : ℕ) → q / row < s → get_or truth (pair_places + q) none ≡ turns q
      pub untouched : (q : ℕ) → q < pair_places → s ≤ q / row → get_or truth q none ≡ none
      pub copied : (q : ℕ) → q < pair_places → s ≤ q / row → get_or truth (pair_places + q) none ≡ first q

    pub begun_start : (truth : List A) → Copied truth pair_places → Begun truth 0
    begun_start truth c = record {
      size = c.size;
      had_in = λ q h. absurd (let z = h in omega arith);
      turns_in = λ q h. absurd (let z = h in omega arith);
      untouched = λ q h l. c.untouched q h;
      copied = λ q h l. c.copied q h;
    }

    pub begun_next : (truth : List A) (s v : ℕ) (x y : A) → s < slot_limit → v < row → x ≡ had (s * row + v) → y ≡ turns (s * row + v)
        → ((q : ℕ) → q / row ≡ s → (q ≡ s * row + v → ⊥) → (none ≡ had q) × (first q ≡ turns q)) → Begun truth s
        → Begun (set (set truth (s * row + v) x) (pair_places + (s * row + v)) y) (s + 1)
    begun_next truth s v x y h k its-had its-turns others b =
        let z : length half ≡ 2 * pair_places = length-set truth _ _ ∙ b.size in
        record {
          size = length-set half _ _ ∙ z;
          had_in = λ q l. ⊎_elim (λ (d : q ≡ here). rw d had_now) (λ n. had_before q n l) (either q here);
          turns_in = λ q l. ⊎_elim (λ (d : q ≡ here). rw d (turns_now z)) (λ n. turns_before q n l) (either q here);
          untouched = λ q l m. low q (λ d. omega arith) l ∙ b.untouched q l (omega arith);
          copied = λ q l m. high q (λ d. omega arith) l ∙ b.copied q l (omega arith);
        }
      where
        here : ℕ
        here = s * row + v

        half : List A
        half = set truth here x

        whole : List A
        whole = set half (pair_places + here) y

        low : (q : ℕ) → (q ≡ here → ⊥) → q < pair_places → get_or whole q none ≡ get_or truth q none
        low q n l = get_or-set_other half (pair_places + here) q _ none (λ d. omega arith) ∙ get_or-set_other truth here q _ none n

        high : (q : ℕ) → (q ≡ here → ⊥) → q < pair_places → get_or whole (pair_places + q) none ≡ get_or truth (pair_places + q) none
        high q n l = get_or-set_other half (pair_places + here) (pair_places + q) _ none (λ d. n (omega arith)) ∙ get_or-set_other truth here (pair_places + q) _ none (λ d. omega arith)

        had_now : get_or whole here none ≡ had here
        had_now = get_or-set_other half (pair_places + here) here _ none (λ d. omega arith) ∙ get_or-set_same truth here _ none (omega (arith, b.size)) ∙ its-had

        turns_now : length half ≡ 2 * pair_places → get_or whole (pair_places + here) none ≡ turns here
        turns_now z = get_or-set_same half (pair_places + here) _ none (omega arith) ∙ its-turns

        had_before : (q : ℕ) → (q ≡ here → ⊥) → q / row < s + 1 → get_or whole q none ≡ had q
        had_before q n l = ⊎_elim
            (λ (d : q / row ≡ s). low q n (omega arith) ∙ b.untouched q (omega arith) (omega arith) ∙ (others q d n).0)
            (λ (d : q / row < s). low q n (omega arith) ∙ b.had_in q d)
            (eq-or-lt_of_le (let z : q / row ≤ s = omega arith in z))

        turns_before : (q : ℕ) → (q ≡ here → ⊥) → q / row < s + 1 → get_or whole (pair_places + q) none ≡ turns q
        turns_before q n l = ⊎_elim
            (λ (d : q / row ≡ s). high q n (omega arith) ∙ b.copied q (omega arith) (omega arith) ∙ (others q d n).1)
            (λ (d : q / row < s). high q n (omega arith) ∙ b.turns_in q d)
            (eq-or-lt_of_le (let z : q / row ≤ s = omega arith in z))
