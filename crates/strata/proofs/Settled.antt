-- What a circle that stands in the way says.
-- Assumes nothing.
use mathlib.Core.Path.{◌≡◌, refl, sym, ap}
use Prim.Native.Nat.{ℕ, zero, suc, ◌<◌}
use native.Mathlib.Omega.{arith}
use Rattle.std.specs.Prelude.{⊤, Result, Ok, Err}
use Rattle.strata.specs.inner.Settled.{settled}

-- The number in an error, or another.
abbrev err_or : Result ⊤ ℕ → ℕ
err_or (Ok u) = 0
err_or (Err n) = n

abbrev is_err : Result ⊤ ℕ → ℕ
is_err (Ok u) = 0
is_err (Err n) = 1

pub circle_named : (n m : ℕ) → settled n ≡ Err m → (m ≡ n) × (0 < m)
circle_named zero m e = absurd (let z : 0 ≡ 1 = ap is_err e in omega (arith, z))
circle_named (suc n) m e = let z : suc n ≡ m = ap err_or e in (sym z, omega (arith, z))

pub no_circle_named : (n : ℕ) (u : ⊤) → settled n ≡ Ok u → n ≡ 0
no_circle_named zero u e = refl
no_circle_named (suc n) u e = absurd (let z : 1 ≡ 0 = ap is_err e in omega (arith, z))
