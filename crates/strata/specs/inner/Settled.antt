-- A lowest rule on a circle, from 1, as what stands in the way.
use Rattle.std.specs.Prelude.{ℕ, zero, suc, ⊤, Result, Ok, Err}

-- Nothing does for 0.
abbrev pub settled : ℕ → Result ⊤ ℕ
settled zero = Ok tt
settled (suc n) = Err (suc n)
