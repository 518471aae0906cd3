-- Tests over the numbers 1 to k: one that passes, the lowest that passes, how many pass.
use Rattle.std.specs.Prelude.{ℕ, zero, suc, ◌+◌, ◌≤◌, Bool, false, cond}
use Rattle.laws.specs.Truth.{◌∨ᵇ◌}

-- `n` is one of the numbers 1 to `count`.
pub record Numbered (count n : ℕ) : Type 0 where
  pub first : 1 ≤ n
  pub last : n ≤ count

-- Some number from 1 to k passes.
unfoldable pub some_of : (ℕ → Bool) → ℕ → Bool
some_of f zero = false
some_of f (suc k) = f (suc k) ∨ᵇ some_of f k

-- The lowest number from 1 to k that passes; 0 where none does.
unfoldable pub first_of : (ℕ → Bool) → ℕ → ℕ
first_of f zero = 0
first_of f (suc k) = cond (some_of f k) (first_of f k) (cond (f (suc k)) (suc k) 0)

-- How many of the numbers 1 to k pass.
unfoldable pub how_many : (ℕ → Bool) → ℕ → ℕ
how_many f zero = 0
how_many f (suc k) = cond (f (suc k)) 1 0 + how_many f k
