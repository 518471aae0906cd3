-- Laws of the tests over the numbers below k.
-- Assumes nothing.
use Prim.Native.Nat.{ℕ, zero, suc, ◌+◌, ◌≤◌, ◌<◌}
use native.Mathlib.Omega.{arith}
use native.Mathlib.Nat.{eq-or-lt_of_le}
use mathlib.Core.Path.{◌≡◌}
use mathlib.Core.Bool.{Bool, true, false, cond}
use mathlib.Core.Logic.{⊎_elim}
use lib.Dec.{T}
use Rattle.laws.specs.Below.{first_below, count_below}
use Rattle.laws.proofs.Truth.{le_or_lt}

-- The lowest number that passes is below k, or is k.
pub first_below_top : (f : ℕ → Bool) (k : ℕ) → first_below f k ≤ k
unfolding first_below
first_below_top f zero = omega arith
first_below_top f (suc k) = go (f 0) (first_below_top (λ i. f (suc i)) k)
  where
    go : (b : Bool) → first_below (λ i. f (suc i)) k ≤ k → cond b 0 (suc (first_below (λ i. f (suc i)) k)) ≤ suc k
    go true le = omega arith
    go false le = omega arith

-- Where it is below k it passes.
pub first_below_passes : (f : ℕ → Bool) (k : ℕ) → first_below f k < k → T (f (first_below f k))
unfolding first_below
first_below_passes f zero h = absurd (omega arith)
first_below_passes f (suc k) h = go (f 0) (λ t. t) (first_below_passes (λ i. f (suc i)) k) h
  where
    go : (b : Bool) → (T b → T (f 0)) → (first_below (λ i. f (suc i)) k < k → T (f (suc (first_below (λ i. f (suc i)) k))))
        → cond b 0 (suc (first_below (λ i. f (suc i)) k)) < suc k → T (f (cond b 0 (suc (first_below (λ i. f (suc i)) k))))
    go true t rest h = t tt
    go false t rest h = rest (omega arith)

-- No number below it passes.
pub first_below_first : (f : ℕ → Bool) (k i : ℕ) → i < first_below f k → ¬ T (f i)
unfolding first_below
first_below_first f zero i h t = omega arith
first_below_first f (suc k) i h t = go (f 0) i (λ x. x) (first_below_first (λ j. f (suc j)) k) h t
  where
    go : (b : Bool) (i : ℕ) → (T (f 0) → T b) → ((j : ℕ) → j < first_below (λ j. f (suc j)) k → ¬ T (f (suc j)))
        → i < cond b 0 (suc (first_below (λ j. f (suc j)) k)) → T (f i) → ⊥
    go true i x rest h t = omega arith
    go false zero x rest h t = x t
    go false (suc i) x rest h t = rest i (omega arith) t

-- These decide it.
pub first_below_is : (f : ℕ → Bool) (k i : ℕ) → i ≤ k → (i < k → T (f i)) → ((j : ℕ) → j < i → ¬ T (f j)) → first_below f k ≡ i
first_below_is f k i top passes first =
    ⊎_elim
    (λ (le : first_below f k ≤ i). ⊎_elim (λ e. e) (λ (l : first_below f k < i). absurd (first (first_below f k) l (first_below_passes f k (omega arith)))) (eq-or-lt_of_le le))
    (λ (l : i < first_below f k). absurd (first_below_first f k i l (passes (omega (arith, first_below_top f k)))))
    (le_or_lt (first_below f k) i)

-- At most k numbers below k pass.
pub count_below_top : (f : ℕ → Bool) (k : ℕ) → count_below f k ≤ k
unfolding count_below
count_below_top f zero = omega arith
count_below_top f (suc k) = go (f k) (count_below_top f k)
  where
    go : (b : Bool) → count_below f k ≤ k → cond b 1 0 + count_below f k ≤ suc k
    go true le = omega arith
    go false le = omega arith

one_if_true : (b : Bool) → T b → 1 ≤ cond b 1 0
one_if_true true t = omega arith
one_if_true false t = absurd t

-- Where a number passes the count is not 0.
pub count_one : (f : ℕ → Bool) (k i : ℕ) → i < k → T (f i) → 1 ≤ count_below f k
unfolding count_below
count_one f zero i h t = absurd (omega arith)
count_one f (suc k) i h t =
    ⊎_elim (λ (e : suc i ≡ suc k). let z : i ≡ k = omega arith in omega (arith, one_if_true (f k) (rw z at t)))
    (λ (l : suc i < suc k). omega (arith, count_one f k i (omega arith) t)) (eq-or-lt_of_le h)

-- Where the count is not 0 a number passes.
pub one_counted : (f : ℕ → Bool) (k : ℕ) → 1 ≤ count_below f k → (i : ℕ) × (i < k) × T (f i)
unfolding count_below
one_counted f zero h = absurd (omega arith)
one_counted f (suc k) h = go (f k) (λ t. t) (one_counted f k) h
  where
    go : (b : Bool) → (T b → T (f k)) → (1 ≤ count_below f k → (i : ℕ) × (i < k) × T (f i)) → 1 ≤ cond b 1 0 + count_below f k → (i : ℕ) × (i < suc k) × T (f i)
    go true t rest h = (k, omega arith, t tt)
    go false t rest h = let w = rest (omega arith) in (w.0, omega (arith, w.1), w.2)

-- Where two numbers pass the count is 2 or more.
pub count_two : (f : ℕ → Bool) (k i j : ℕ) → i < j → j < k → T (f i) → T (f j) → 2 ≤ count_below f k
unfolding count_below
count_two f zero i j l h s t = absurd (omega arith)
count_two f (suc k) i j l h s t =
    ⊎_elim (λ (e : suc j ≡ suc k). let z : j ≡ k = omega arith in omega (arith, one_if_true (f k) (rw z at t), count_one f k i (omega arith) s))
    (λ (m : suc j < suc k). omega (arith, count_two f k i j l (omega arith) s t)) (eq-or-lt_of_le h)

-- Where the count is 2 or more two numbers pass.
pub two_counted : (f : ℕ → Bool) (k : ℕ) → 2 ≤ count_below f k → (i : ℕ) × (j : ℕ) × (i < j) × (j < k) × T (f i) × T (f j)
unfolding count_below
two_counted f zero h = absurd (omega arith)
two_counted f (suc k) h = go (f k) (λ t. t) (one_counted f k) (two_counted f k) h
  where
    go : (b : Bool) → (T b → T (f k)) → (1 ≤ count_below f k → (i : ℕ) × (i < k) × T (f i))
        → (2 ≤ count_below f k → (i : ℕ) × (j : ℕ) × (i < j) × (j < k) × T (f i) × T (f j))
        → 2 ≤ cond b 1 0 + count_below f k → (i : ℕ) × (j : ℕ) × (i < j) × (j < suc k) × T (f i) × T (f j)
    go true t one two h = let w = one (omega arith) in (w.0, k, w.1, omega arith, w.2, t tt)
    go false t one two h = let w = two (omega arith) in (w.0, w.1, w.2, omega (arith, w.3), w.4, w.5)
