-- Laws of bits and their numbers, and of the bytes of bits by position.
-- Assumes nothing.
use Prim.Native.Nat.{ℕ, zero, suc, ◌+◌, ◌-◌, ◌*◌, ◌^◌, ◌/◌, ◌%◌, ◌≤◌, ◌<◌}
use native.Mathlib.Nat.{pow-suc, zero-add, suc-add, zero-mul, one-mul, mul_comm, mul_assoc, add-mul, mod-lt, mod-eq_of_lt}
use native.Mathlib.Omega.{arith}
use mathlib.Core.Path.{◌≡◌, refl, sym, ap, ap₂, ◌∙◌}
use mathlib.Core.Bool.{Bool, true, false, cond}
use mathlib.Core.List.{List, [], ◌∷◌, ◌++◌}
use mathlib.Core.Logic.{⊎_elim}
use lib.Dec.{eqb}
use lib.ListN.{length, get_or, drop, replicate, length-append, length-replicate, get_or-append, get_or-eq_default}
use lib.Seq.{get_or-append-add, ext_get_or, drop-nil, drop-append-add}
use lib.Pow.{pow_pos, split, high, shr-shr, mod-pow-add}
use Rattle.laws.specs.Words.{bit}
use Rattle.laws.specs.Tabulated.{tabulate}
use Rattle.laws.specs.Packed.{bits, number_of, byte_bits, byte_count, byte_at, pack}
use Rattle.laws.proofs.Truth.{le_or_lt}
use Rattle.laws.proofs.Filled.{replicate_at}
use Rattle.laws.proofs.Words.{bit_none}
use Rattle.laws.proofs.Tabulated.{tabulate_length, tabulate_at, is_tabulate}

pub bits_length : (w x : ℕ) → length (bits w x) ≡ w
unfolding bits
bits_length zero x = refl
bits_length (suc w) x = ap suc (bits_length w x)

-- The bits of a number from place b on are those of its quotient.
bit_shr : (x a b : ℕ) → bit x (a + b) ≡ bit (x / 2 ^ b) a
unfolding bit
bit_shr x a b = let z : b + a ≡ a + b = omega arith in rw (shr-shr x b a, z)

-- A field of a + b bits is one of a bits and one of b bits.
pub bits_split : (a b x : ℕ) → bits (a + b) x ≡ bits a (x / 2 ^ b) ++ bits b x
unfolding bits
bits_split zero b x = rw (zero-add b)
bits_split (suc a) b x = rw (suc-add a b) (ap₂ (λ (c : Bool) (cs : List Bool). c ∷ cs) (bit_shr x a b) (bits_split a b x))

-- Bits above a place do not count below it.
bit_more : (d j r : ℕ) → bit (d * 2 ^ suc j + r) j ≡ bit r j
unfolding bit
bit_more d j r =
    let m : d * 2 ^ suc j ≡ d * 2 * 2 ^ j = ap (λ (x : ℕ). d * x) (pow-suc 2 j ∙ mul_comm (2 ^ j) 2) ∙ sym (mul_assoc d 2 (2 ^ j)) in
    let e : d * 2 ^ suc j + r ≡ (d * 2 + r / 2 ^ j) * 2 ^ j + r % 2 ^ j = omega (arith, m, split r j, add-mul (d * 2) (r / 2 ^ j) (2 ^ j)) in
    let q = high (d * 2 + r / 2 ^ j) j (mod-lt r (pow_pos j)) in
    let f : (d * 2 ^ suc j + r) / 2 ^ j % 2 ≡ r / 2 ^ j % 2 = rw (e, q) (omega arith) in
    ap (λ (x : ℕ). eqb x 1) f

pub bits_more : (n d r : ℕ) → bits n (d * 2 ^ n + r) ≡ bits n r
unfolding bits
bits_more zero d r = refl
bits_more (suc n) d r =
    let m : d * 2 ^ suc n ≡ d * 2 * 2 ^ n = ap (λ (x : ℕ). d * x) (pow-suc 2 n ∙ mul_comm (2 ^ n) 2) ∙ sym (mul_assoc d 2 (2 ^ n)) in
    ap₂ (λ (c : Bool) (cs : List Bool). c ∷ cs) (bit_more d n r) (rw m (bits_more n (d * 2) r))

-- Two fields side by side are one.
pub bits_join : (a b y x : ℕ) → x < 2 ^ b → bits (a + b) (y * 2 ^ b + x) ≡ bits a y ++ bits b x
bits_join a b y x h = bits_split a b (y * 2 ^ b + x) ∙ rw (high y b h, bits_more b y x)

pub number_lt : (bs : List Bool) → number_of bs < 2 ^ length bs
unfolding number_of
number_lt [] = omega arith
number_lt (true ∷ bs) = omega (arith, pow-suc 2 (length bs), number_lt bs)
number_lt (false ∷ bs) = omega (arith, pow-suc 2 (length bs), number_lt bs)

top_bit : (b : Bool) (n r : ℕ) → r < 2 ^ n → bit (cond b (2 ^ n) 0 + r) n ≡ b
unfolding bit
top_bit true n r h = let q = high 1 n h in let o = one-mul (2 ^ n) in let e : 2 ^ n + r ≡ 1 * 2 ^ n + r = omega arith in rw (e, q)
top_bit false n r h = let q = high 0 n h in let o = zero-mul (2 ^ n) in let e : 0 + r ≡ 0 * 2 ^ n + r = omega arith in rw (e, q)

low_bits : (b : Bool) (n r : ℕ) → bits n (cond b (2 ^ n) 0 + r) ≡ bits n r
low_bits true n r = let o = one-mul (2 ^ n) in let e : 2 ^ n + r ≡ 1 * 2 ^ n + r = omega arith in rw e (bits_more n 1 r)
low_bits false n r = let e : 0 + r ≡ r = omega arith in rw e

-- Bits are the bits of their number,
pub bits_number : (bs : List Bool) → bits (length bs) (number_of bs) ≡ bs
unfolding bits number_of
bits_number [] = refl
bits_number (b ∷ bs) =
    ap₂ (λ (c : Bool) (cs : List Bool). c ∷ cs) (top_bit b (length bs) (number_of bs) (number_lt bs))
    (low_bits b (length bs) (number_of bs) ∙ bits_number bs)

bit_value : (x n : ℕ) → cond (bit x n) (2 ^ n) 0 ≡ x / 2 ^ n % 2 * 2 ^ n
unfolding bit
bit_value x n = go (x / 2 ^ n % 2) (omega arith)
  where
    go : (d : ℕ) → d < 2 → cond (eqb d 1) (2 ^ n) 0 ≡ d * 2 ^ n
    go zero h = sym (zero-mul (2 ^ n))
    go (suc zero) h = sym (one-mul (2 ^ n))
    go (suc (suc d)) h = absurd (omega arith)

-- and a number is that of its bits.
pub number_bits : (w x : ℕ) → number_of (bits w x) ≡ x % 2 ^ w
unfolding bits number_of
number_bits zero x = omega arith
number_bits (suc w) x =
    let z : 1 + w ≡ suc w = omega arith in
    let m = rw z at (mod-pow-add x 1 w) in
    rw (bits_length w x, bit_value x w, number_bits w x) (sym m)

pub number_exact : (w x : ℕ) → x < 2 ^ w → number_of (bits w x) ≡ x
number_exact w x h = number_bits w x ∙ mod-eq_of_lt h

-- Zero has no bit set.
pub bits_zero : (w : ℕ) → bits w 0 ≡ replicate w false
unfolding bits
bits_zero zero = refl
bits_zero (suc w) = ap₂ (λ (c : Bool) (cs : List Bool). c ∷ cs) (bit_none w) (bits_zero w)

-- Eight bits for each byte.
pub byte_bits_length : (ys : List ℕ) → length (byte_bits ys) ≡ 8 * length ys
unfolding byte_bits
byte_bits_length [] = refl
byte_bits_length (y ∷ ys) = rw (length-append (bits 8 y) (byte_bits ys), bits_length 8 y, byte_bits_length ys) (omega arith)

-- Bit j of byte k.
pub byte_bits_at : (ys : List ℕ) (k j : ℕ) → k < length ys → j < 8 → get_or (byte_bits ys) (8 * k + j) false ≡ get_or (bits 8 (get_or ys k 0)) j false
unfolding byte_bits
byte_bits_at [] k j h l = absurd (omega arith)
byte_bits_at (y ∷ ys) zero j h l =
    let z : 8 * 0 + j ≡ j = omega arith in
    rw z (get_or-append (bits 8 y) (byte_bits ys) false j (rw (bits_length 8 y) l))
byte_bits_at (y ∷ ys) (suc k) j h l =
    let z : 8 * suc k + j ≡ length (bits 8 y) + (8 * k + j) = rw (bits_length 8 y) (omega arith) in
    rw z (get_or-append-add (bits 8 y) (byte_bits ys) (8 * k + j) false ∙ byte_bits_at ys k j (omega arith) l)

-- Whole bytes at the front.
pub drop_bytes : (k : ℕ) (ys : List ℕ) → drop (8 * k) (byte_bits ys) ≡ byte_bits (drop k ys)
unfolding byte_bits
drop_bytes zero ys = refl
drop_bytes (suc k) [] = drop-nil (8 * suc k)
drop_bytes (suc k) (y ∷ ys) =
    let z : 8 * suc k ≡ length (bits 8 y) + 8 * k = rw (bits_length 8 y) (omega arith) in
    rw z (drop-append-add (bits 8 y) (byte_bits ys) (8 * k) ∙ drop_bytes k ys)

pub pack_length : (bs : List Bool) → length (pack bs) ≡ byte_count (length bs)
unfolding pack
pack_length bs = tabulate_length (byte_at bs) (byte_count (length bs))

pub pack_at : (bs : List Bool) (k : ℕ) → k < byte_count (length bs) → get_or (pack bs) k 0 ≡ byte_at bs k
unfolding pack
pack_at bs k h = tabulate_at (byte_at bs) (byte_count (length bs)) k 0 h

-- The bits of a byte by position.
pub byte_at_bits : (bs : List Bool) (k : ℕ) → bits 8 (byte_at bs k) ≡ tabulate (λ j. get_or bs (8 * k + j) false) 8
unfolding byte_at
byte_at_bits bs k =
    let l = tabulate_length (λ j. get_or bs (8 * k + j) false) 8 in
    ap (λ (n : ℕ). bits n (byte_at bs k)) (sym l) ∙ bits_number (tabulate (λ j. get_or bs (8 * k + j) false) 8)

-- A byte looks at its eight places alone.
pub byte_at_same : (cs bs : List Bool) (k m : ℕ) → ((j : ℕ) → j < 8 → get_or cs (8 * k + j) false ≡ get_or bs (8 * m + j) false) → byte_at cs k ≡ byte_at bs m
unfolding byte_at
byte_at_same cs bs k m h =
    ap number_of (is_tabulate (λ j. get_or bs (8 * m + j) false) 8 false (tabulate (λ j. get_or cs (8 * k + j) false) 8)
    (tabulate_length (λ j. get_or cs (8 * k + j) false) 8) (λ i l. tabulate_at (λ j. get_or cs (8 * k + j) false) 8 i false l ∙ h i l))

-- Bits that agree at each place, zero beyond the end, have the same bytes.
pub pack_same : (cs bs : List Bool) → byte_count (length cs) ≡ byte_count (length bs) → ((i : ℕ) → get_or cs i false ≡ get_or bs i false) → pack cs ≡ pack bs
pack_same cs bs e h =
    ext_get_or 0 (pack cs) (pack bs) (pack_length cs ∙ e ∙ sym (pack_length bs))
    (λ k l. let a : k < byte_count (length cs) = rw (pack_length cs) at l in
    pack_at cs k a ∙ byte_at_same cs bs k k (λ j m. h (8 * k + j)) ∙ sym (pack_at bs k (omega (arith, a, e))))

-- What is packed has its bits at their places, zero beyond the end.
pub pack_bit : (bs : List Bool) (i : ℕ) → get_or (byte_bits (pack bs)) i false ≡ get_or bs i false
pack_bit bs i = ⊎_elim outside inside (le_or_lt (8 * byte_count (length bs)) i)
  where
    outside : 8 * byte_count (length bs) ≤ i → get_or (byte_bits (pack bs)) i false ≡ get_or bs i false
    outside h =
        let a : length (byte_bits (pack bs)) ≤ i = rw (byte_bits_length (pack bs), pack_length bs) h in
        let b : length bs ≤ i = omega arith in
        get_or-eq_default (byte_bits (pack bs)) false {n = i} a ∙ sym (get_or-eq_default bs false {n = i} b)

    inside : i < 8 * byte_count (length bs) → get_or (byte_bits (pack bs)) i false ≡ get_or bs i false
    inside h =
        let k : i / 8 < byte_count (length bs) = omega arith in
        let z : 8 * (i / 8) + i % 8 ≡ i = omega arith in
        let j : i % 8 < 8 = omega arith in
        ap (λ (n : ℕ). get_or (byte_bits (pack bs)) n false) (sym z)
        ∙ byte_bits_at (pack bs) (i / 8) (i % 8) (rw (pack_length bs) k) j
        ∙ rw (pack_at bs (i / 8) k, byte_at_bits bs (i / 8), tabulate_at (λ j. get_or bs (8 * (i / 8) + j) false) 8 (i % 8) false j, z)

-- Zero bits after the end change no place.
pub pad_bit : (bs : List Bool) (n i : ℕ) → get_or (bs ++ replicate n false) i false ≡ get_or bs i false
pad_bit [] n i = replicate_at n false i
pad_bit (b ∷ bs) n zero = refl
pad_bit (b ∷ bs) n (suc i) = pad_bit bs n i

-- The bits of what is packed: those packed, then zero bits.
pub pack_bits : (bs : List Bool) → byte_bits (pack bs) ≡ bs ++ replicate (8 * byte_count (length bs) - length bs) false
pack_bits bs =
    ext_get_or false (byte_bits (pack bs)) (bs ++ replicate (8 * byte_count (length bs) - length bs) false)
    (rw (byte_bits_length (pack bs), pack_length bs, length-append bs (replicate (8 * byte_count (length bs) - length bs) false), length-replicate) (omega arith))
    (λ i l. pack_bit bs i ∙ sym (pad_bit bs (8 * byte_count (length bs) - length bs) i))

-- Bytes are what their bits pack to.
byte_back : (ys : List ℕ) (k : ℕ) → k < length ys → get_or ys k 0 < 256 → byte_at (byte_bits ys) k ≡ get_or ys k 0
unfolding byte_at
byte_back ys k l h =
    ap number_of (sym (is_tabulate (λ j. get_or (byte_bits ys) (8 * k + j) false) 8 false (bits 8 (get_or ys k 0)) (bits_length 8 (get_or ys k 0)) (λ j m. sym (byte_bits_at ys k j l m))))
    ∙ number_exact 8 (get_or ys k 0) h

pub pack_bytes : (ys : List ℕ) → ((k : ℕ) → k < length ys → get_or ys k 0 < 256) → pack (byte_bits ys) ≡ ys
pack_bytes ys h =
    let n : byte_count (length (byte_bits ys)) ≡ length ys = rw (byte_bits_length ys) (omega arith) in
    ext_get_or 0 (pack (byte_bits ys)) ys (pack_length (byte_bits ys) ∙ n)
    (λ k l. let m : k < byte_count (length (byte_bits ys)) = rw (pack_length (byte_bits ys)) at l in
    let q : k < length ys = omega (arith, m, n) in
    pack_at (byte_bits ys) k m ∙ byte_back ys k q (h k q))

-- Bits that fill whole bytes are packed by themselves.
pub pack_append : (k : ℕ) (cs bs : List Bool) → length cs ≡ 8 * k → pack (cs ++ bs) ≡ pack cs ++ pack bs
pack_append k cs bs e =
    let n : length (pack cs) ≡ k = pack_length cs ∙ rw e (omega arith) in
    let m : length (pack (cs ++ bs)) ≡ k + length (pack bs) = pack_length (cs ++ bs) ∙ rw (length-append cs bs, e, pack_length bs) (omega arith) in
    ext_get_or 0 (pack (cs ++ bs)) (pack cs ++ pack bs) (m ∙ sym (length-append (pack cs) (pack bs) ∙ rw n))
    (λ i l. ⊎_elim (above n m i l) (below n m i l) (le_or_lt k i))
  where
    above : length (pack cs) ≡ k → length (pack (cs ++ bs)) ≡ k + length (pack bs) → (i : ℕ) → i < length (pack (cs ++ bs)) → k ≤ i
        → get_or (pack (cs ++ bs)) i 0 ≡ get_or (pack cs ++ pack bs) i 0
    above n m i l h =
        let z : i ≡ length (pack cs) + (i - k) = omega arith in
        let a : i < byte_count (length (cs ++ bs)) = rw (pack_length (cs ++ bs)) at l in
        let b : i - k < byte_count (length bs) = omega (arith, pack_length bs) in
        pack_at (cs ++ bs) i a
        ∙ byte_at_same (cs ++ bs) bs i (i - k) (λ j q. (let y : 8 * i + j ≡ length cs + (8 * (i - k) + j) = omega arith in ap (λ (x : ℕ). get_or (cs ++ bs) x false) y ∙ get_or-append-add cs bs (8 * (i - k) + j) false))
        ∙ sym (pack_at bs (i - k) b)
        ∙ sym (ap (λ (x : ℕ). get_or (pack cs ++ pack bs) x 0) z ∙ get_or-append-add (pack cs) (pack bs) (i - k) 0)

    below : length (pack cs) ≡ k → length (pack (cs ++ bs)) ≡ k + length (pack bs) → (i : ℕ) → i < length (pack (cs ++ bs)) → i < k
        → get_or (pack (cs ++ bs)) i 0 ≡ get_or (pack cs ++ pack bs) i 0
    below n m i l h =
        let a : i < byte_count (length (cs ++ bs)) = rw (pack_length (cs ++ bs)) at l in
        let b : i < byte_count (length cs) = omega (arith, pack_length cs) in
        pack_at (cs ++ bs) i a
        ∙ byte_at_same (cs ++ bs) cs i i (λ j q. get_or-append cs bs false (8 * i + j) (omega arith))
        ∙ sym (pack_at cs i b)
        ∙ sym (get_or-append (pack cs) (pack bs) 0 i (omega arith))
