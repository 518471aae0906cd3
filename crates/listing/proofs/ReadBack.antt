-- Numbers in decimal and bytes in hexadecimal stand for what they were made of.
-- Assumes nothing.
use Prim.Native.Nat.{ℕ, zero, suc, ◌+◌, ◌-◌, ◌*◌, ◌^◌, ◌/◌, ◌%◌, ◌≤◌, ◌<◌}
use native.Mathlib.Omega.{arith}
use native.Mathlib.Nat.{pow-suc, mul_assoc}
use mathlib.Core.Path.{◌≡◌, refl, sym, ap₂, ◌∙◌}
use mathlib.Core.List.{List, [], ◌∷◌, ◌++◌}
use mathlib.Core.Logic.{⊎_elim}
use lib.ListN.{length, get_or, length-append, get_or-append}
use borrow.Author.Tests.{lt-ltb, le-ltb}
use Rattle.laws.specs.Listed.{Each}
use Rattle.laws.proofs.Listed.{each_last}
use Rattle.laws.proofs.Truth.{le_or_lt}
use Rattle.listing.specs.Printed.{decimal, decimal_number, hex_digit, hexadecimal, hex_number, hexadecimal_bytes}
use Rattle.listing.proofs.Digits.{decimal_one, decimal_more}

-- A digit behind others makes them ten times as much.
number_more : (ds : List ℕ) (d : ℕ) → decimal_number (ds ++ d ∷ []) ≡ 10 * decimal_number ds + (d - 48)
unfolding decimal_number
number_more [] d = omega arith
number_more (x ∷ ds) d =
    let l : length (ds ++ d ∷ []) ≡ suc (length ds) = omega (arith, length-append ds (d ∷ [])) in
    let p : (x - 48) * 10 ^ suc (length ds) ≡ (x - 48) * 10 ^ length ds * 10 = rw (pow-suc 10 (length ds)) (sym (mul_assoc (x - 48) (10 ^ length ds) 10)) in
    rw l (omega (arith, p, number_more ds d))

number_one : (d : ℕ) → decimal_number (d ∷ []) ≡ d - 48
unfolding decimal_number
number_one d = omega arith

-- What holds of every number of one digit, and of one of more digits where it holds of its tenth, holds of all.
by_digits : (P : ℕ → Type 0) → ((n : ℕ) → n < 10 → P n) → ((n : ℕ) → 10 ≤ n → P (n / 10) → P n) → (k n : ℕ) → n < k → P n
by_digits P one more zero n h = absurd (omega arith)
by_digits P one more (suc k) n h = ⊎_elim (λ (l : 10 ≤ n). more n l (by_digits P one more k (n / 10) (omega arith))) (λ (l : n < 10). one n l) (le_or_lt 10 n)

-- DECIMAL DIGITS STAND FOR THEIR NUMBER.
pub decimal_back : (n : ℕ) → decimal_number (decimal n) ≡ n
decimal_back n = by_digits (λ (n : ℕ). decimal_number (decimal n) ≡ n) one more (suc n) n (omega arith)
  where
    one : (n : ℕ) → n < 10 → decimal_number (decimal n) ≡ n
    one n h = rw (decimal_one n h, number_one (48 + n % 10)) (omega arith)

    more : (n : ℕ) → 10 ≤ n → decimal_number (decimal (n / 10)) ≡ n / 10 → decimal_number (decimal n) ≡ n
    more n h r = rw (decimal_more n h, number_more (decimal (n / 10)) (48 + n % 10), r) (omega arith)

-- They are digits, and the first of them is 0 for 0 alone.
abbrev pub Digit : ℕ → Type 0
Digit d = (48 ≤ d) × (d ≤ 57)

pub decimal_digits : (n : ℕ) → Each Digit (decimal n)
decimal_digits n = by_digits (λ (n : ℕ). Each Digit (decimal n)) one more (suc n) n (omega arith)
  where
    one : (n : ℕ) → n < 10 → Each Digit (decimal n)
    one n h = rw (decimal_one n h) ((omega arith, omega arith), tt)

    more : (n : ℕ) → 10 ≤ n → Each Digit (decimal (n / 10)) → Each Digit (decimal n)
    more n h r = rw (decimal_more n h) (each_last Digit (decimal (n / 10)) (48 + n % 10) r (omega arith, omega arith))

pub decimal_first : (n : ℕ) → get_or (decimal n) 0 0 ≡ 48 → n ≡ 0
decimal_first n e = (by_digits (λ (n : ℕ). (0 < length (decimal n)) × (get_or (decimal n) 0 0 ≡ 48 → n ≡ 0)) one more (suc n) n (omega arith)).1 e
  where
    one : (n : ℕ) → n < 10 → (0 < length (decimal n)) × (get_or (decimal n) 0 0 ≡ 48 → n ≡ 0)
    one n h = rw (decimal_one n h) (omega arith, λ (e : 48 + n % 10 ≡ 48). omega arith)

    more : (n : ℕ) → 10 ≤ n → (0 < length (decimal (n / 10))) × (get_or (decimal (n / 10)) 0 0 ≡ 48 → n / 10 ≡ 0) → (0 < length (decimal n)) × (get_or (decimal n) 0 0 ≡ 48 → n ≡ 0)
    more n h r =
        let ds = decimal (n / 10) in
        let f = get_or-append ds ((48 + n % 10) ∷ []) 0 0 r.0 in
        rw (decimal_more n h) (omega (arith, r.0, length-append ds ((48 + n % 10) ∷ [])), λ (e : get_or (ds ++ (48 + n % 10) ∷ []) 0 0 ≡ 48). absurd (omega (arith, h, r.1 (sym f ∙ e))))

-- A hexadecimal digit stands for its number.
hex_back : (n : ℕ) → n < 16 → hex_number (hex_digit n) ≡ n
hex_back n h = ⊎_elim
    (λ (l : 10 ≤ n). rw (le-ltb n 10 l, le-ltb (55 + n) 65 (omega arith)) (omega arith))
    (λ (l : n < 10). rw (lt-ltb n 10 l, lt-ltb (48 + n) 65 (omega arith)) (omega arith)) (le_or_lt 10 n)

-- HEXADECIMAL DIGITS STAND FOR THEIR BYTES.
pub hexadecimal_back : (s : List ℕ) → Each (λ (b : ℕ). b < 256) s → hexadecimal_bytes (hexadecimal s) ≡ s
unfolding hexadecimal hexadecimal_bytes
hexadecimal_back [] h = refl
hexadecimal_back (b ∷ bs) h =
    let l : b < 256 = h.0 in
    let e : 16 * hex_number (hex_digit (b / 16)) + hex_number (hex_digit (b % 16)) ≡ b = omega (arith, hex_back (b / 16) (omega arith), hex_back (b % 16) (omega arith)) in
    ap₂ (λ (y : ℕ) (ys : List ℕ). y ∷ ys) e (hexadecimal_back bs h.1)
