-- Laws of the tests over the numbers 1 to k.
-- Assumes nothing.
use Prim.Native.Nat.{ℕ, zero, suc, ◌*◌, ◌≤◌, ◌<◌}
use native.Mathlib.Omega.{arith}
use native.Mathlib.Nat.{eq-or-lt_of_le}
use mathlib.Core.Path.{◌≡◌, refl}
use mathlib.Core.Bool.{Bool, true, false, cond}
use mathlib.Core.Logic.{◌⊎◌, inl, inr, ⊎_elim}
use lib.Dec.{T}
use Rattle.laws.specs.Truth.{◌∨ᵇ◌, notᵇ}
use Rattle.laws.specs.Numbers.{Numbered, some_of, first_of, how_many}
use Rattle.laws.specs.inner.Total.{total}
use Rattle.laws.proofs.Truth.{or_l, or_r, or_e, not_e}

pub some_i : (f : ℕ → Bool) (k i : ℕ) → Numbered k i → T (f i) → T (some_of f k)
unfolding some_of
some_i f zero i r t = absurd (omega arith)
some_i f (suc k) i r t =
    ⊎_elim (λ (e : i ≡ suc k). or_l _ _ (rw e at t))
    (λ (l : i < suc k). or_r _ _ (some_i f k i (record { first = omega arith; last = omega arith }) t)) (eq-or-lt_of_le r.last)

pub some_e : (f : ℕ → Bool) (k : ℕ) → T (some_of f k) → (i : ℕ) × Numbered k i × T (f i)
unfolding some_of
some_e f zero t = absurd t
some_e f (suc k) t =
    ⊎_elim (λ h. (suc k, record { first = omega arith; last = omega arith }, h))
    (λ h. let r = some_e f k h in (r.0, record { first = r.1.first; last = omega (arith, r.1.last) }, r.2)) (or_e _ _ t)

pub is_false : (c : Bool) → (¬ T c) → c ≡ false
is_false true h = absurd (h tt)
is_false false h = refl

pub first_some : (f : ℕ → Bool) (k : ℕ) → T (some_of f k) → Numbered k (first_of f k) × T (f (first_of f k)) × ((i : ℕ) → 1 ≤ i → i < first_of f k → ¬ T (f i))
unfolding first_of some_of
first_some f zero t = absurd t
first_some f (suc k) t = go (some_of f k) (f (suc k)) (first_some f k) (some_i f k) refl refl t
  where
    go : (a b : Bool) → (T a → Numbered k (first_of f k) × T (f (first_of f k)) × ((i : ℕ) → 1 ≤ i → i < first_of f k → ¬ T (f i)))
        → ((i : ℕ) → Numbered k i → T (f i) → T a) → some_of f k ≡ a → f (suc k) ≡ b → T (b ∨ᵇ a)
        → Numbered (suc k) (cond a (first_of f k) (cond b (suc k) 0)) × T (f (cond a (first_of f k) (cond b (suc k) 0))) × ((i : ℕ) → 1 ≤ i → i < cond a (first_of f k) (cond b (suc k) 0) → ¬ T (f i))
    go true b h none e d t = (record { first = (h tt).0.first; last = omega (arith, (h tt).0.last) }, (h tt).1, (h tt).2)
    go false true h none e d t = (record { first = omega arith; last = omega arith }, rw d tt, λ i lo lt. none i (record { first = lo; last = omega arith }))
    go false false h none e d t = absurd (⊎_elim (λ x. x) (λ x. x) (or_e _ _ t))

pub first_none : (f : ℕ → Bool) (k : ℕ) → first_of f k ≡ 0 → (i : ℕ) → Numbered k i → ¬ T (f i)
first_none f k e i r t = omega (arith, (first_some f k (some_i f k i r t)).0.first)

pub first_zero : (f : ℕ → Bool) (k : ℕ) → ((i : ℕ) → Numbered k i → ¬ T (f i)) → first_of f k ≡ 0
unfolding first_of
first_zero f zero h = refl
first_zero f (suc k) h =
    rw (is_false (some_of f k) (λ t. let w = some_e f k t in h w.0 (record { first = w.1.first; last = omega (arith, w.1.last) }) w.2), is_false (f (suc k)) (h (suc k) (record { first = omega arith; last = omega arith })))

one_le : (a b : Bool) → (T a → T b) → cond a 1 0 ≤ cond b 1 0
one_le true true h = omega arith
one_le true false h = absurd (h tt)
one_le false b h = omega arith

one_lt : (a b : Bool) → T (notᵇ a) → T b → cond a 1 0 < cond b 1 0
one_lt true b g h = absurd (not_e true g tt)
one_lt false true g h = omega arith
one_lt false false g h = absurd h

one_top : (a : Bool) → cond a 1 0 ≤ 1
one_top true = omega arith
one_top false = omega arith

one_zero : (a : Bool) → ◌≡◌ {A = ℕ} (cond a 1 0) 0 → T a → ⊥
one_zero true e h = omega arith
one_zero false e h = h

pub how_many_top : (f : ℕ → Bool) (k : ℕ) → how_many f k ≤ k
unfolding how_many
how_many_top f zero = omega arith
how_many_top f (suc k) = omega (arith, one_top (f (suc k)), how_many_top f k)

pub how_many_le : (f g : ℕ → Bool) (k : ℕ) → ((i : ℕ) → 1 ≤ i → i ≤ k → T (f i) → T (g i)) → how_many f k ≤ how_many g k
unfolding how_many
how_many_le f g zero h = omega arith
how_many_le f g (suc k) h =
    omega (arith, one_le (f (suc k)) (g (suc k)) (h (suc k) (omega arith) (omega arith)), how_many_le f g k (λ i lo hi. h i lo (omega arith)))

pub how_many_lt : (f g : ℕ → Bool) (k : ℕ) → ((i : ℕ) → 1 ≤ i → i ≤ k → T (f i) → T (g i))
    → (j : ℕ) → 1 ≤ j → j ≤ k → T (notᵇ (f j)) → T (g j) → how_many f k < how_many g k
unfolding how_many
how_many_lt f g zero h j lo hi n y = absurd (omega arith)
how_many_lt f g (suc k) h j lo hi n y =
    ⊎_elim
    (λ (e : j ≡ suc k). omega (arith, one_lt (f (suc k)) (g (suc k)) (rw e at n) (rw e at y), how_many_le f g k (λ i lo hi. h i lo (omega arith))))
    (λ (l : j < suc k). omega (
      arith,
      one_le (f (suc k)) (g (suc k)) (h (suc k) (omega arith) (omega arith)),
      how_many_lt f g k (λ i lo hi. h i lo (omega arith)) j lo (omega arith) n y,
    ))
    (eq-or-lt_of_le hi)

pub how_many_zero : (f : ℕ → Bool) (k : ℕ) → how_many f k ≡ 0 → (i : ℕ) → 1 ≤ i → i ≤ k → T (f i) → ⊥
unfolding how_many
how_many_zero f zero e i lo hi t = omega arith
how_many_zero f (suc k) e i lo hi t =
    ⊎_elim (λ (q : i ≡ suc k). one_zero (f (suc k)) (omega arith) (rw q at t)) (λ (l : i < suc k). how_many_zero f k (omega arith) i lo (omega arith) t) (eq-or-lt_of_le hi)

pub total_le : (f g : ℕ → ℕ) (k : ℕ) → ((i : ℕ) → 1 ≤ i → i ≤ k → f i ≤ g i) → total f k ≤ total g k
unfolding total
total_le f g zero h = omega arith
total_le f g (suc k) h = omega (arith, h (suc k) (omega arith) (omega arith), total_le f g k (λ i lo hi. h i lo (omega arith)))

pub total_lt : (f g : ℕ → ℕ) (k : ℕ) → ((i : ℕ) → 1 ≤ i → i ≤ k → f i ≤ g i) → (j : ℕ) → 1 ≤ j → j ≤ k → f j < g j → total f k < total g k
unfolding total
total_lt f g zero h j lo hi n = absurd (omega arith)
total_lt f g (suc k) h j lo hi n =
    ⊎_elim
    (λ (e : j ≡ suc k). omega (arith, rw e at n, total_le f g k (λ i lo hi. h i lo (omega arith))))
    (λ (l : j < suc k). omega (arith, h (suc k) (omega arith) (omega arith), total_lt f g k (λ i lo hi. h i lo (omega arith)) j lo (omega arith) n))
    (eq-or-lt_of_le hi)

pub total_top : (f : ℕ → ℕ) (k b : ℕ) → ((i : ℕ) → 1 ≤ i → i ≤ k → f i ≤ b) → total f k ≤ k * b
unfolding total
total_top f zero b h = omega arith
total_top f (suc k) b h = omega (arith, h (suc k) (omega arith) (omega arith), total_top f k b (λ i lo hi. h i lo (omega arith)))

pub settles : (Rest : ℕ → Type 0) (size : ℕ → ℕ) (bound : ℕ) → ((k : ℕ) → Rest k ⊎ (size k < size (suc k))) → ((k : ℕ) → Rest k → Rest (suc k))
    → ((k : ℕ) → size k ≤ bound) → Rest (suc bound)
settles Rest size bound step keep top = ⊎_elim (λ r. r) (λ (h : suc bound ≤ size (suc bound)). absurd (omega (arith, top (suc bound)))) (grown (suc bound))
  where
    grown : (k : ℕ) → Rest k ⊎ (k ≤ size k)
    grown zero = inr (omega arith)
    grown (suc k) = ⊎_elim (λ r. inl (keep k r)) (λ (h : k ≤ size k). ⊎_elim (λ r. inl (keep k r)) (λ (l : size k < size (suc k)). inr (omega arith)) (step k)) (grown k)
