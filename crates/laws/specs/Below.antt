-- Tests over the numbers below k, from 0: the lowest that passes, how many pass.
use Rattle.std.specs.Prelude.{ℕ, zero, suc, ◌+◌, Bool, cond}

-- The lowest number below k that passes; k where none does.
unfoldable pub first_below : (ℕ → Bool) → ℕ → ℕ
first_below f zero = 0
first_below f (suc k) = cond (f 0) 0 (suc (first_below (λ i. f (suc i)) k))

-- How many numbers below k pass.
unfoldable pub count_below : (ℕ → Bool) → ℕ → ℕ
count_below f zero = 0
count_below f (suc k) = cond (f k) 1 0 + count_below f k
