-- Counting the numbers below k that pass: one more, those up to a number, the number that is reached.
-- Assumes nothing.
use Prim.Native.Nat.{ℕ, zero, suc, ◌+◌, ◌≤◌, ◌<◌}
use native.Mathlib.Omega.{arith}
use native.Mathlib.Nat.{eq-or-lt_of_le}
use mathlib.Core.Path.{◌≡◌, refl}
use mathlib.Core.Bool.{Bool, true, false, cond}
use mathlib.Core.Logic.{⊎_elim}
use lib.Dec.{T}
use Rattle.laws.specs.Below.{count_below}
use Rattle.laws.proofs.Equations.{is_true}

pub count_zero : (f : ℕ → Bool) → ◌≡◌ {A = ℕ} (count_below f 0) 0
unfolding count_below
count_zero f = refl

pub count_next : (f : ℕ → Bool) (k : ℕ) → f k ≡ true → count_below f (suc k) ≡ suc (count_below f k)
unfolding count_below
count_next f k e = rw e (omega arith)

pub count_over : (f : ℕ → Bool) (k : ℕ) → f k ≡ false → count_below f (suc k) ≡ count_below f k
unfolding count_below
count_over f k e = rw e (omega arith)

-- More numbers, no smaller a count.
pub count_up : (f : ℕ → Bool) (i d : ℕ) → count_below f i ≤ count_below f (i + d)
unfolding count_below
count_up f i zero = let z : i + 0 ≡ i = omega arith in rw z (omega arith)
count_up f i (suc d) = let z : i + suc d ≡ suc (i + d) = omega arith in rw z (omega (arith, count_up f i d))

-- Past a number that passes it is greater.
pub count_past : (f : ℕ → Bool) (k i : ℕ) → i < k → T (f i) → count_below f i < count_below f k
count_past f zero i h t = absurd (omega arith)
count_past f (suc k) i h t =
    ⊎_elim (λ (e : suc i ≡ suc k). let z : i ≡ k = omega arith in rw z (omega (arith, count_next f k (rw z at (is_true (f i) t)))))
    (λ (l : suc i < suc k). omega (arith, count_past f k i (omega arith) t, one_more k)) (eq-or-lt_of_le h)
  where
    one_more : (k : ℕ) → count_below f k ≤ count_below f (suc k)
    one_more k = let z : k + 1 ≡ suc k = omega arith in rw z at (count_up f k 1)

-- Each smaller count is that at a number that passes.
pub count_reached : (f : ℕ → Bool) (k j : ℕ) → j < count_below f k → (i : ℕ) × (i < k) × T (f i) × (count_below f i ≡ j)
count_reached f zero j h = absurd (omega (arith, count_zero f))
count_reached f (suc k) j h = go (f k) refl (count_reached f k j)
  where
    go : (b : Bool) → f k ≡ b → (j < count_below f k → (i : ℕ) × (i < k) × T (f i) × (count_below f i ≡ j)) → (i : ℕ) × (i < suc k) × T (f i) × (count_below f i ≡ j)
    go true e rest =
        let n = count_next f k e in
        let le : j ≤ count_below f k = omega arith in
        ⊎_elim (λ (q : j ≡ count_below f k). (k, omega arith, rw e tt, omega arith))
        (λ (l : j < count_below f k). let w = rest l in (w.0, omega (arith, w.1), w.2, w.3)) (eq-or-lt_of_le le)
    go false e rest = let n = count_over f k e in let w = rest (omega arith) in (w.0, omega (arith, w.1), w.2, w.3)

-- The count of what passes one of two tests that never both pass is the sum of theirs.
pub count_either : (f g h : ℕ → Bool) (k : ℕ) → ((i : ℕ) → ◌≡◌ {A = ℕ} (cond (h i) 1 0) (cond (f i) 1 0 + cond (g i) 1 0)) → count_below h k ≡ count_below f k + count_below g k
unfolding count_below
count_either f g h zero e = omega arith
count_either f g h (suc k) e = omega (arith, e k, count_either f g h k e)
