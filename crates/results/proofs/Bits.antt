-- The bytes of some bits, bit by bit, and their one bits.
-- Assumes nothing.
use mathlib.Core.Path.{◌≡◌, refl, sym, ap, ◌∙◌}
use mathlib.Core.Bool.{Bool, true, false, cond}
use mathlib.Core.List.{List, [], ◌∷◌, ◌++◌}
use Prim.Native.Nat.{ℕ, zero, suc, ◌+◌, ◌*◌, ◌^◌, ◌-◌, ◌≤◌, ◌<◌}
use native.Mathlib.Numerals.{add-one}
use native.Mathlib.Nat.{pow-suc}
use native.Mathlib.Omega.{arith}
use lib.Count.{ones, ones_step, ones-le, ones_cat}
use lib.ListN.{length, get_or, drop, length-append, drop_of_length-le, get_or-eq_default}
use lib.Seq.{drop-cons}
use Rattle.std.specs.List.{sum_by}
use Rattle.std.proofs.lemmas.Grind.{common_steps}
use Rattle.laws.specs.Below.{count_below}
use Rattle.laws.specs.Numbers.{how_many}
use Rattle.laws.specs.Tabulated.{tabulate}
use Rattle.laws.specs.Packed.{number_of, byte_count, byte_at, pack}
use Rattle.laws.proofs.Packed.{number_lt}
use Rattle.laws.proofs.Counted.{count_over}
use Rattle.laws.proofs.Tabulated.{tabulate_length, tabulate_at}
use Rattle.laws.proofs.Fronts.{tabulate_next}
use Rattle.results.specs.Record.{ones_in}
use Rattle.results.specs.inner.Record.{fired_bits, flag_record}

pub one_top : (b : Bool) → cond b 1 0 ≤ 1
one_top true = omega arith
one_top false = omega arith

-- One bit more.
pub number_next : (bs : List Bool) (b : Bool) → number_of (bs ++ b ∷ []) ≡ number_of bs * 2 + cond b 1 0
unfolding number_of
number_next [] true = omega arith
number_next [] false = omega arith
number_next (a ∷ bs) b =
    let l : length (bs ++ b ∷ []) ≡ suc (length bs) = length-append bs (b ∷ []) ∙ omega arith in
    rw (l, pow-suc 2 (length bs), number_next bs b) (go a)
  where
    go : (a : Bool) → cond a (2 ^ length bs * 2) 0 + (number_of bs * 2 + cond b 1 0) ≡ (cond a (2 ^ length bs) 0 + number_of bs) * 2 + cond b 1 0
    go true = omega arith
    go false = omega arith

pow_top : (d j : ℕ) → j + d ≡ 7 → 2 ^ j ≤ 128
pow_top zero j e = let z : j ≡ 7 = omega arith in rw z (omega arith)
pow_top (suc d) j e = omega (arith, pow-suc 2 j, pow_top d (suc j) (omega arith))

-- The first j bits of byte k.
unfoldable pub bits_until : List Bool → ℕ → ℕ → ℕ
bits_until bs k j = number_of (tabulate (λ i. get_or bs (8 * k + i) false) j)

pub until_start : (bs : List Bool) (k : ℕ) → ◌≡◌ {A = ℕ} 0 (bits_until bs k 0)
unfolding bits_until tabulate number_of
until_start bs k = refl

pub until_next : (bs : List Bool) (k j : ℕ) → bits_until bs k j * 2 + cond (get_or bs (8 * k + j) false) 1 0 ≡ bits_until bs k (j + 1)
unfolding bits_until
until_next bs k j = rw (add-one j, tabulate_next (λ i. get_or bs (8 * k + i) false) j) (sym (number_next (tabulate (λ i. get_or bs (8 * k + i) false) j) (get_or bs (8 * k + j) false)))

pub until_half : (bs : List Bool) (k j : ℕ) → j < 8 → bits_until bs k j < 128
unfolding bits_until
until_half bs k j h =
    omega (arith, rw (tabulate_length (λ i. get_or bs (8 * k + i) false) j) at (number_lt (tabulate (λ i. get_or bs (8 * k + i) false) j)), pow_top (7 - j) j (omega arith))

pub until_end : (bs : List Bool) (k : ℕ) → bits_until bs k 8 ≡ byte_at bs k
unfolding bits_until byte_at
until_end bs k = refl

-- The bits of the record.
pub bits_size : (fired : List Bool) (count : ℕ) → length (fired_bits fired count) ≡ count
unfolding fired_bits
bits_size fired count = tabulate_length (λ i. get_or fired i false) count

pub bit_inside : (fired : List Bool) (count i : ℕ) → i < count → get_or (fired_bits fired count) i false ≡ get_or fired i false
unfolding fired_bits
bit_inside fired count i h = tabulate_at (λ i. get_or fired i false) count i false h

pub bit_past : (bs : List Bool) (i : ℕ) → length bs ≤ i → get_or bs i false ≡ false
bit_past bs i h = get_or-eq_default bs false {n = i} h

-- The one bits of what is left.
ones_zero : ◌≡◌ {A = ℕ} (ones 0) 0
ones_zero = let o = ones-le 0 0 (omega arith) in omega arith

one_bit : (b : Bool) → ones (cond b 1 0) ≡ cond b 1 0
one_bit true = ones_step 1 ∙ (let o = ones_zero in omega arith)
one_bit false = ones_zero

-- The one bits of a byte's first bits are those flagged.
until_ones : (bs : List Bool) (k j : ℕ) → ones (bits_until bs k j) + count_below (λ i. get_or bs i false) (8 * k) ≡ count_below (λ i. get_or bs i false) (8 * k + j)
unfolding count_below
until_ones bs k zero =
    let z : 8 * k + 0 ≡ 8 * k = omega arith in
    rw (z, ← (until_start bs k)) (omega (arith, ones_zero))
until_ones bs k (suc j) =
    let z : 8 * k + suc j ≡ suc (8 * k + j) = omega arith in
    let e = rw (add-one j) at (until_next bs k j) in
    rw (z, ← e)
    (omega (arith, ones_cat 1 (bits_until bs k j) (cond (get_or bs (8 * k + j) false) 1 0) (omega (arith, one_top (get_or bs (8 * k + j) false))), one_bit (get_or bs (8 * k + j) false), until_ones bs k j))

ones_snoc : (xs : List ℕ) (x : ℕ) → ones_in (xs ++ x ∷ []) ≡ ones_in xs + ones x
unfolding ones_in
ones_snoc [] x = omega arith
ones_snoc (y ∷ xs) x = omega (arith, ones_snoc xs x)

bytes_ones : (bs : List Bool) (k : ℕ) → ones_in (tabulate (byte_at bs) k) ≡ count_below (λ i. get_or bs i false) (8 * k)
unfolding tabulate ones_in count_below
bytes_ones bs zero = refl
bytes_ones bs (suc k) =
    let z : 8 * suc k ≡ 8 * k + 8 = omega arith in
    rw z (ap ones_in (tabulate_next (byte_at bs) k) ∙ ones_snoc (tabulate (byte_at bs) k) (byte_at bs k) ∙ omega (arith, bytes_ones bs k, until_ones bs k 8, ap ones (until_end bs k)))

-- Bits past the end are zero.
count_cut : (bs : List Bool) (d : ℕ) → count_below (λ i. get_or bs i false) (length bs + d) ≡ count_below (λ i. get_or bs i false) (length bs)
count_cut bs zero = let z : length bs + 0 ≡ length bs = omega arith in rw z
count_cut bs (suc d) =
    let z : length bs + suc d ≡ suc (length bs + d) = omega arith in
    rw z (count_over (λ i. get_or bs i false) (length bs + d) (bit_past bs (length bs + d) (omega arith)) ∙ count_cut bs d)

-- The one bits of packed bits are the bits that are set.
pub pack_ones : (bs : List Bool) → ones_in (pack bs) ≡ count_below (λ i. get_or bs i false) (length bs)
unfolding pack
pack_ones bs =
    let z : 8 * byte_count (length bs) ≡ length bs + (8 * byte_count (length bs) - length bs) = omega arith in
    bytes_ones bs (byte_count (length bs)) ∙ rw z (count_cut bs (8 * byte_count (length bs) - length bs))

-- A count over numbers from 1 that agrees with one over numbers from 0.
count_how_many : (f : ℕ → Bool) (g : ℕ → Bool) (k : ℕ) → ((i : ℕ) → i < k → f i ≡ g (suc i)) → count_below f k ≡ how_many g k
unfolding count_below how_many
count_how_many f g zero h = refl
count_how_many f g (suc k) h = rw (h k (omega arith), count_how_many f g k (λ i l. h i (omega arith)))

-- The one bits of a record are the rules that it flags.
pub record_ones : (fired : List Bool) (count : ℕ) (g : ℕ → Bool) → ((i : ℕ) → i < count → get_or fired i false ≡ g (suc i)) → ones_in (flag_record fired count) ≡ how_many g count
unfolding flag_record
record_ones fired count g h =
    pack_ones (fired_bits fired count) ∙ rw (bits_size fired count) (count_how_many _ g count (λ i l. bit_inside fired count i l ∙ h i l))

-- The one bits of some bytes are the sum of each byte's.
pub ones_sum : (xs : List ℕ) → sum_by (λ x. ones x) xs ≡ ones_in xs
unfolding ones_in
ones_sum [] = refl
ones_sum (x ∷ xs) = grind (arith, common_steps, ones_sum xs)
