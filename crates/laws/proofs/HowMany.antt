-- How many of the numbers 1 to k pass, for tests that agree, or that differ at one number.
-- Assumes nothing.
use Prim.Native.Nat.{ℕ, zero, suc, ◌≤◌}
use native.Mathlib.Nat.{eq-or-lt_of_le}
use native.Mathlib.Omega.{arith}
use mathlib.Core.Path.{◌≡◌, refl}
use mathlib.Core.Bool.{Bool, true, false}
use mathlib.Core.Logic.{⊎_elim}
use Rattle.laws.specs.Numbers.{Numbered, how_many}

pub how_many_same : (f g : ℕ → Bool) (k : ℕ) → ((i : ℕ) → i ≤ k → f i ≡ g i) → how_many f k ≡ how_many g k
unfolding how_many
how_many_same f g zero h = refl
how_many_same f g (suc k) h = rw (h (suc k) (omega arith), how_many_same f g k (λ i l. h i (omega arith)))

-- One number more passes.
pub how_many_one_more : (f g : ℕ → Bool) (k n : ℕ) → Numbered k n → ((i : ℕ) → (i ≡ n → ⊥) → f i ≡ g i) → f n ≡ true → g n ≡ false → how_many f k ≡ suc (how_many g k)
unfolding how_many
how_many_one_more f g zero n i h a b = absurd (omega (arith, i.first, i.last))
how_many_one_more f g (suc k) n i h a b =
    ⊎_elim
    (λ (e : n ≡ suc k). rw (← e, a, b, how_many_same f g k (λ j l. h j (λ q. omega arith))) (omega arith))
    (λ l. rw (h (suc k) (λ q. omega arith), how_many_one_more f g k n (record { first = i.first; last = omega arith }) h a b) (omega arith))
    (eq-or-lt_of_le i.last)
