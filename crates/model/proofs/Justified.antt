-- Strata are the least exactly where every number is justified.
-- Assumes nothing.
use Prim.Native.Nat.{ℕ, zero, suc, ◌-◌, ◌≤◌}
use native.Mathlib.Omega.{arith}
use mathlib.Core.Path.{◌≡◌, refl}
use mathlib.Core.Bool.{Bool, true, false, cond}
use mathlib.Core.List.{List}
use mathlib.Core.Logic.{◌⊎◌, inl, inr, ⊎_elim, ◌↔◌}
use lib.Dec.{T, eqb, leb, leb→le, le→leb, eqb→eq}
use lib.ListN.{length}
use borrow.Author.Tests.{eq-eqb}
use Rattle.laws.specs.Truth.{◌∧ᵇ◌, ◌∨ᵇ◌}
use Rattle.laws.specs.Numbers.{Numbered, some_of}
use Rattle.laws.proofs.Truth.{and_l, and_r, and_i, or_l, or_r, or_e, le_or_lt}
use Rattle.laws.proofs.Equations.{from_true}
use Rattle.laws.proofs.Numbers.{some_i, some_e}
use Rattle.model.specs.Rules.{Rule}
use Rattle.model.specs.Strata.{Grading, may_stay_level, must_fall, Strata}
use Rattle.model.specs.Circles.{reach, Walk, here, on}
use Rattle.model.specs.Least.{strata_of}
use Rattle.model.specs.inner.Justified.{Justified, at_first, one_above, level_with}
use Rattle.model.proofs.Reach.{reach_refl, reach_step, reach_trans, reach_walk}
use Rattle.model.proofs.Strata.{least_least, least_e}

module _ (G : Grading) (rs : List Rule) (t : ℕ → ℕ) where
  -- Justified as a test: a number that needs no other rule of its stratum.
  grounded : ℕ → Bool
  grounded n = leb (t n) 1 ∨ᵇ some_of (λ m. must_fall G rs n m ∧ᵇ eqb (t n) (suc (t m))) (length rs)

  -- A step within a stratum.
  level_step : ℕ → ℕ → Bool
  level_step n m = may_stay_level G rs n m ∧ᵇ eqb (t n) (t m)

  -- Steps within its stratum lead from the rule to a grounded one.
  justified : ℕ → Bool
  justified n = some_of (λ x. reach (length rs) level_step n x ∧ᵇ grounded x) (length rs)

module _ (G : Grading) (rs : List Rule) (t : ℕ → ℕ) where
  -- A grounded number is justified.
  grounded_e : (n : ℕ) → T (grounded G rs t n) → Justified G rs t n
  unfolding grounded
  grounded_e n h = ⊎_elim
      (λ a. at_first (leb→le (t n) 1 a))
      (λ a. let w = some_e _ (length rs) a in one_above w.1 (and_l _ _ w.2) (eqb→eq (t n) (suc (t w.0)) (and_r _ _ w.2)))
      (or_e (leb (t n) 1) _ h)

  walk_justified : {n x : ℕ} → Walk (length rs) (level_step G rs t) n x → Justified G rs t x → Justified G rs t n
  unfolding level_step
  walk_justified here j = j
  walk_justified (on {x = x} {m = m} w i k s) j = walk_justified w (level_with k (and_l _ _ s) (eqb→eq (t x) (t m) (and_r _ _ s)) j)

  -- What the test says.
  justified_e : (n : ℕ) → T (justified G rs t n) → Justified G rs t n
  unfolding justified
  justified_e n h =
      let w = some_e _ (length rs) h in
      walk_justified (reach_walk (length rs) (level_step G rs t) n w.0 w.1 (and_l _ _ w.2)) (grounded_e w.0 (and_r _ _ w.2))

  grounded_justified : (n : ℕ) → Numbered (length rs) n → T (grounded G rs t n) → T (justified G rs t n)
  unfolding justified
  grounded_justified n i g = some_i _ (length rs) n i (and_i _ _ (reach_refl (length rs) (level_step G rs t) n) g)

  first_grounded : (n : ℕ) → t n ≤ 1 → T (grounded G rs t n)
  unfolding grounded
  first_grounded n le = or_l (leb (t n) 1) _ (le→leb (t n) 1 le)

  above_grounded : (n m : ℕ) → Numbered (length rs) m → T (must_fall G rs n m) → t n ≡ suc (t m) → T (grounded G rs t n)
  unfolding grounded
  above_grounded n m j d e = or_r (leb (t n) 1) _ (some_i _ (length rs) m j (and_i _ _ d (from_true (eqb (t n) (suc (t m))) (eq-eqb (t n) (suc (t m)) e))))

  level_justified : (n m : ℕ) → Numbered (length rs) n → Numbered (length rs) m → T (may_stay_level G rs n m) → t n ≡ t m → T (justified G rs t m) → T (justified G rs t n)
  unfolding justified level_step
  level_justified n m i j d e h =
      let w = some_e _ (length rs) h in
      let s = and_i (may_stay_level G rs n m) _ d (from_true (eqb (t n) (t m)) (eq-eqb (t n) (t m) e)) in
      some_i _ (length rs) w.0 w.1 (and_i _ _
      (reach_trans (length rs) (level_step G rs t) n m w.0 j w.1 (reach_step (length rs) (level_step G rs t) n n m i j (reach_refl (length rs) (level_step G rs t) n) s) (and_l _ _ w.2))
      (and_r _ _ w.2))

  -- A set that holds the first stratum and what stands one above a rule that it must fall to, and that holds a rule with each rule that it may stay level with: it holds all that is justified.
  pub all_justified : (X : ℕ → Type 0) → ((n : ℕ) → Numbered (length rs) n → t n ≤ 1 → X n)
      → ((n m : ℕ) → Numbered (length rs) n → Numbered (length rs) m → T (must_fall G rs n m) → t n ≡ suc (t m) → X n)
      → ((n m : ℕ) → Numbered (length rs) n → Numbered (length rs) m → T (may_stay_level G rs n m) → t n ≡ t m → X m → X n)
      → {n : ℕ} → Numbered (length rs) n → Justified G rs t n → X n
  all_justified X f a l {n = n} i (at_first le) = f n i le
  all_justified X f a l {n = n} i (one_above {m = m} j d e) = a n m i j d e
  all_justified X f a l {n = n} i (level_with {m = m} j d e h) = l n m i j d e (all_justified X f a l j h)

  module _ (s : Strata G rs t) where
    -- Justified numbers are undercut by no strata.
    no_lower : ((n : ℕ) → Numbered (length rs) n → Justified G rs t n) → (u : ℕ → ℕ) → Strata G rs u → (k n : ℕ) → Numbered (length rs) n → t n ≤ k → t n ≤ u n
    no_lower h u v zero n i le = omega arith
    no_lower h u v (suc k) n i le =
        all_justified (λ m. t m ≤ suc k → t m ≤ u m)
        (λ m j first top. omega (arith, first, v.from_one m j))
        (λ m x j y d e top. omega (arith, e, v.smaller m x j y d, no_lower h u v k x y (omega (arith, e, top))))
        (λ m x j y d e below top. omega (arith, e, v.no_higher m x j y d, below (omega (arith, e, top))))
        i (h n i) le

    -- Lowered by one where a number is not justified, the numbers are strata still.
    lowered : ℕ → ℕ
    lowered n = cond (justified G rs t n) (t n) (t n - 1)

    lowered_cases : (n : ℕ) → (T (justified G rs t n) × (lowered n ≡ t n)) ⊎ ((¬ T (justified G rs t n)) × (lowered n ≡ t n - 1))
    unfolding lowered
    lowered_cases n = go (justified G rs t n)
      where
        go : (b : Bool) → (T b × (cond b (t n) (t n - 1) ≡ t n)) ⊎ ((¬ T b) × (cond b (t n) (t n - 1) ≡ t n - 1))
        go true = inl (tt, refl)
        go false = inr (λ x. x, refl)

    lowered_top : (n : ℕ) → lowered n ≤ t n
    lowered_top n = ⊎_elim (λ w. omega (arith, w.1)) (λ w. omega (arith, w.1)) (lowered_cases n)

    lowered_strata : Strata G rs lowered
    lowered_strata = record {
      from_one = λ n i. ⊎_elim
          (λ w. omega (arith, w.1, s.from_one n i))
          (λ w. ⊎_elim (λ le. absurd (w.0 (grounded_justified n i (first_grounded n le)))) (λ lt. omega (arith, w.1, lt)) (le_or_lt (t n) 1))
          (lowered_cases n);
      no_higher = λ n m i j d. ⊎_elim
          (λ w. omega (arith, w.1, lowered_top m, s.no_higher n m i j d))
          (λ w. ⊎_elim
          (λ le. ⊎_elim
          (λ x. absurd (w.0 (level_justified n m i j d (omega (arith, le, s.no_higher n m i j d)) x.0)))
          (λ x. omega (arith, w.1, x.1, s.no_higher n m i j d)) (lowered_cases m))
          (λ lt. omega (arith, w.1, lowered_top m, lt)) (le_or_lt (t n) (t m)))
          (lowered_cases n);
      smaller = λ n m i j d. ⊎_elim
          (λ w. omega (arith, w.1, lowered_top m, s.smaller n m i j d))
          (λ w. ⊎_elim
          (λ le. absurd (w.0 (grounded_justified n i (above_grounded n m j d (omega (arith, le, s.smaller n m i j d))))))
          (λ lt. omega (arith, w.1, lowered_top m, lt)) (le_or_lt (t n) (suc (t m))))
          (lowered_cases n);
    }

    -- Strata whose numbers are all justified are the least.
    pub justified_least : ((n : ℕ) → Numbered (length rs) n → Justified G rs t n) → (n : ℕ) → Numbered (length rs) n → t n ≡ strata_of G rs n
    justified_least h n i = least_e G rs t (record { strata = s; least = λ u v m j. no_lower h u v (t m) m j (omega arith) }) n i

    -- In the least strata all numbers are justified.
    pub least_justified : ((n : ℕ) → Numbered (length rs) n → t n ≡ strata_of G rs n) → (n : ℕ) → Numbered (length rs) n → Justified G rs t n
    least_justified h n i = justified_e n (⊎_elim
        (λ w. w.0)
        (λ w. absurd (omega (arith, w.1, h n i, s.from_one n i, least_least G rs lowered lowered_strata n i)))
        (lowered_cases n))

    -- Both together: what 31 may test instead of comparing with numbers worked out anew.
    pub least_iff_justified : ((n : ℕ) → Numbered (length rs) n → t n ≡ strata_of G rs n) ↔ ((n : ℕ) → Numbered (length rs) n → Justified G rs t n)
    least_iff_justified = (least_justified, justified_least)
