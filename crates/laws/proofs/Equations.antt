-- Tests as equations.
-- Assumes nothing.
use mathlib.Core.Path.{◌≡◌, refl}
use mathlib.Core.Bool.{Bool, true, false}
use mathlib.Core.Logic.{◌⊎◌, inl, inr}
use Prim.Native.Nat.{ℕ}
use lib.Dec.{T, eqb}
use borrow.Author.Tests.{eqb-true, eqb-false}
use Rattle.laws.specs.Truth.{◌∧ᵇ◌, ◌∨ᵇ◌}

pub is_true : (b : Bool) → T b → b ≡ true
is_true true t = refl
is_true false t = absurd t

pub from_true : (b : Bool) → b ≡ true → T b
from_true b e = rw e tt

pub and_false : (a : Bool) → (a ∧ᵇ false) ≡ false
unfolding ◌∧ᵇ◌
and_false true = refl
and_false false = refl

pub or_swap : (a b c : Bool) → (a ∨ᵇ (b ∨ᵇ c)) ≡ ((b ∨ᵇ a) ∨ᵇ c)
unfolding ◌∨ᵇ◌
or_swap true true c = refl
or_swap true false c = refl
or_swap false true c = refl
or_swap false false c = refl

-- Two numbers are the same or not.
pub either : (m n : ℕ) → (m ≡ n) ⊎ (m ≡ n → ⊥)
either m n = go (eqb m n) refl
  where
    go : (b : Bool) → eqb m n ≡ b → (m ≡ n) ⊎ (m ≡ n → ⊥)
    go true e = inl (eqb-true m n e)
    go false e = inr (eqb-false m n e)
