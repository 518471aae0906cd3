-- Sums over the numbers 1 to k.
use Rattle.std.specs.Prelude.{ℕ, zero, suc, ◌+◌}

-- The sum over 1 to k.
unfoldable pub total : (ℕ → ℕ) → ℕ → ℕ
total f zero = 0
total f (suc k) = f (suc k) + total f k
