-- A number from 1 as a value that may be missing.
use Rattle.std.specs.Prelude.{ℕ, zero, suc, Option, Some, None}

-- None for 0.
abbrev pub circle_said : ℕ → Option ℕ
circle_said zero = None
circle_said (suc n) = Some (suc n)
