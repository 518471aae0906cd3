-- Laws of the bits of a word.
-- Assumes nothing.
use Prim.Native.Nat.{ℕ, suc, ◌+◌, ◌-◌, ◌^◌, ◌/◌, ◌%◌, ◌≤◌, ◌<◌, max}
use native.Mathlib.Nat.{pow-suc, one-mul, zero-mul, zero-add}
use native.Mathlib.Omega.{arith}
use mathlib.Core.Path.{◌≡◌}
use mathlib.Core.Bool.{true, false}
use mathlib.Core.Logic.{⊎_elim}
use lib.Bits.{bit_or, or_step, or_shr}
use lib.Dec.{T, eqb, eqb→eq}
use lib.Pow.{pow-lt, pow-add, shl-shr, high}
use borrow.Author.Tests.{eq-eqb, ne_eqb}
use Rattle.laws.specs.Truth.{◌∨ᵇ◌}
use Rattle.laws.specs.Words.{bit}
use Rattle.laws.proofs.Truth.{bool_ext, or_l, or_r, or_e, le_or_lt}
use Rattle.laws.proofs.Equations.{from_true}

max_one : (u v : ℕ) → u < 2 → v < 2 → eqb (max u v) 1 ≡ (eqb u 1 ∨ᵇ eqb v 1)
max_one u v h k = bool_ext _ _ there back
  where
    there : T (eqb (max u v) 1) → T (eqb u 1 ∨ᵇ eqb v 1)
    there t =
        let e = eqb→eq (max u v) 1 t in
        ⊎_elim (λ (l : 1 ≤ u). or_l (eqb u 1) (eqb v 1) (from_true (eqb u 1) (eq-eqb u 1 (omega arith))))
        (λ (l : u < 1). or_r (eqb u 1) (eqb v 1) (from_true (eqb v 1) (eq-eqb v 1 (omega arith)))) (le_or_lt 1 u)

    back : T (eqb u 1 ∨ᵇ eqb v 1) → T (eqb (max u v) 1)
    back t = from_true (eqb (max u v) 1) (eq-eqb (max u v) 1 (⊎_elim (λ a. let e = eqb→eq u 1 a in omega arith) (λ a. let e = eqb→eq v 1 a in omega arith) (or_e (eqb u 1) (eqb v 1) t)))

pub bit_or_by_places : (x y j : ℕ) → bit (bit_or x y) j ≡ (bit x j ∨ᵇ bit y j)
unfolding bit
bit_or_by_places x y j =
    let e : bit_or (x / 2 ^ j) (y / 2 ^ j) % 2 ≡ max (x / 2 ^ j % 2) (y / 2 ^ j % 2) = omega (arith, or_step (x / 2 ^ j) (y / 2 ^ j)) in
    rw (or_shr x y j, e) (max_one (x / 2 ^ j % 2) (y / 2 ^ j % 2) (omega arith) (omega arith))

pub bit_none : (j : ℕ) → bit 0 j ≡ false
unfolding bit
bit_none j = ne_eqb (0 / 2 ^ j % 2) 1 (λ e. omega (arith, e, zero_shr j))
  where
    zero_shr : (j : ℕ) → 0 / 2 ^ j ≡ 0
    zero_shr j = rw zero-mul at (shl-shr 0 j)

-- The number 2 ^ i has bit i alone.
pub bit_own : (i : ℕ) → bit (2 ^ i) i ≡ true
unfolding bit
bit_own i = eq-eqb (2 ^ i / 2 ^ i % 2) 1 (let e = rw one-mul at (shl-shr 1 i) in omega (arith, e))

pub bit_other : (i j : ℕ) → (j ≡ i → ⊥) → bit (2 ^ i) j ≡ false
unfolding bit
bit_other i j n = ne_eqb (2 ^ i / 2 ^ j % 2) 1 (λ e. ⊎_elim (λ (l : i ≤ j). omega (arith, e, low l)) (λ (l : j < i). omega (arith, e, even l)) (le_or_lt i j))
  where
    low : i ≤ j → 2 ^ i / 2 ^ j ≡ 0
    low l = rw (zero-mul, zero-add) at (high 0 j {lo = 2 ^ i} (pow-lt (⊎_elim (λ (k : j ≤ i). absurd (n (omega arith))) (λ (k : i < j). k) (le_or_lt j i))))

    even : j < i → 2 ^ i / 2 ^ j % 2 ≡ 0
    even l =
        let d : i ≡ suc (i - j - 1) + j = omega arith in
        rw (d, pow-add 2 (suc (i - j - 1)) j, shl-shr (2 ^ suc (i - j - 1)) j) (omega (arith, pow-suc 2 (i - j - 1)))
