-- Numbers in decimal and bytes in hexadecimal, digit by digit.
-- Assumes nothing.
use Prim.Native.Nat.{ℕ, zero, suc, ◌+◌, ◌*◌, ◌/◌, ◌%◌, ◌^◌, ◌≤◌, ◌<◌}
use native.Mathlib.Omega.{arith}
use native.Mathlib.Numerals.{add-one}
use mathlib.Core.Path.{◌≡◌, refl, ap, ◌∙◌}
use mathlib.Core.List.{List, [], ◌∷◌, ◌++◌}
use mathlib.Core.Logic.{⊎_elim}
use lib.ListN.{length, get_or, drop, length-append, drop_of_length-le}
use lib.Seq.{drop-cons}
use borrow.Author.Tests.{lt-ltb, le-ltb}
use Rattle.laws.specs.Quoted.{bytes_from, bytes}
use Rattle.laws.proofs.Truth.{le_or_lt}
use Rattle.writing.specs.inner.Puts.{longest}
use Rattle.listing.specs.Printed.{digits, decimal, hex_digits, hexadecimal, refusal_text}

-- Room for more digits than there are changes nothing.
enough : (a b n : ℕ) → n < a → n < b → digits a n ≡ digits b n
unfolding digits
enough zero b n h k = absurd (omega arith)
enough (suc a) zero n h k = absurd (omega arith)
enough (suc a) (suc b) n h k = ⊎_elim
    (λ (l : 10 ≤ n). rw (le-ltb n 10 l) (ap (λ (ys : List ℕ). ys ++ (48 + n % 10) ∷ []) (enough a b (n / 10) (omega arith) (omega arith))))
    (λ (l : n < 10). rw (lt-ltb n 10 l) refl) (le_or_lt 10 n)

-- A number of one digit, and one of more.
pub decimal_one : (n : ℕ) → n < 10 → decimal n ≡ (48 + n % 10) ∷ []
unfolding decimal digits
decimal_one n h = rw (lt-ltb n 10 h) refl

pub decimal_more : (n : ℕ) → 10 ≤ n → decimal n ≡ decimal (n / 10) ++ (48 + n % 10) ∷ []
unfolding decimal digits
decimal_more n h = rw (le-ltb n 10 h) (ap (λ (ys : List ℕ). ys ++ (48 + n % 10) ∷ []) (enough n (suc (n / 10)) (n / 10) (omega arith) (omega arith)))

-- Room for as many digits as a power of ten has is enough below it.
pub decimal_within : (k n : ℕ) → n < 10 ^ suc k → decimal n ≡ digits (suc k) n
unfolding digits
decimal_within zero n h = decimal_one n h ∙ rw (lt-ltb n 10 h) refl
decimal_within (suc k) n h = ⊎_elim
    (λ (l : 10 ≤ n). decimal_more n l ∙ rw (le-ltb n 10 l) (ap (λ (ys : List ℕ). ys ++ (48 + n % 10) ∷ []) (decimal_within k (n / 10) (omega arith))))
    (λ (l : n < 10). decimal_one n l ∙ rw (lt-ltb n 10 l) refl) (le_or_lt 10 n)

-- A number below a power of ten has no more digits than that.
pub decimal_short : (k n : ℕ) → n < 10 ^ suc k → length (decimal n) ≤ suc k
decimal_short zero n h = rw (decimal_one n h) (omega arith)
decimal_short (suc k) n h = ⊎_elim
    (λ (l : 10 ≤ n).
    let r = decimal_short k (n / 10) (omega arith) in
    let a = length-append (decimal (n / 10)) ((48 + n % 10) ∷ []) in
    rw (decimal_more n l) (omega arith))
    (λ (l : n < 10). rw (decimal_one n l) (omega arith)) (le_or_lt 10 n)

-- The line of a refusal is as long as its numbers and 11 bytes more.
pub refusal_length : (k s : ℕ) → length (refusal_text k s) ≡ 10 + length (decimal k) + length (decimal s)
unfolding refusal_text bytes bytes_from
refusal_length k s =
    let a = length-append (decimal k) (bytes " " ++ (decimal s ++ bytes "\n")) in
    let b = length-append (decimal s) (bytes "\n") in
    omega arith

-- There is room for every refusal that the code has.
pub refusal_room : (k s : ℕ) → k < 2 ^ 8 → s < 2 ^ 64 → 0 + length (refusal_text k s) ≤ longest
refusal_room k s h l =
    let a = decimal_short 2 k (omega arith) in
    let b = decimal_short 19 s (omega arith) in
    let r = refusal_length k s in
    omega arith

-- Bytes in hexadecimal from place i on.
pub hex_next : (s : List ℕ) (i : ℕ) → i < length s → hexadecimal (drop i s) ≡ hex_digits (get_or s i 0) ++ hexadecimal (drop (i + 1) s)
unfolding hexadecimal
hex_next s i h = ap hexadecimal (drop-cons s i 0 h) ∙ rw (add-one i) refl

pub hex_end : (s : List ℕ) (i : ℕ) → length s ≤ i → hexadecimal (drop i s) ≡ []
unfolding hexadecimal
hex_end s i h = ap hexadecimal (drop_of_length-le s h)

pub hex_length : (s : List ℕ) → length (hexadecimal s) ≡ 2 * length s
unfolding hexadecimal
hex_length [] = refl
hex_length (b ∷ bs) = let r = hex_length bs in omega arith
