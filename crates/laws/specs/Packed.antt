-- Packed fields, for every format: document 01, 'Cards and slips'. Fields are packed most significant bit first; zero bits fill the last byte.
use Rattle.std.specs.Prelude.{ℕ, zero, suc, ◌+◌, ◌*◌, ◌^◌, ◌/◌, ◌<◌, Bool, false, cond, List, [], ◌∷◌, ◌++◌, ltb, length, get_or, take, drop}
use Rattle.laws.specs.Words.{bit}
use Rattle.laws.specs.Tabulated.{tabulate}

-- Every byte is below 256, as the code's are.
abbrev pub Bytes : List ℕ → Type 0
Bytes ys = (k : ℕ) → k < length ys → get_or ys k 0 < 256

-- A field: so many bits, and the number that they hold.
pub record Field : Type 0 where
  pub width : ℕ
  pub number : ℕ

-- A field of a width with a number.
abbrev pub field : ℕ → ℕ → Field
field w x = record { width = w; number = x }

-- The lowest w bits of a number, the most significant of them first.
unfoldable pub bits : ℕ → ℕ → List Bool
bits zero x = []
bits (suc w) x = bit x w ∷ bits w x

-- The number of some bits, the most significant first.
unfoldable pub number_of : List Bool → ℕ
number_of [] = 0
number_of (b ∷ bs) = cond b (2 ^ length bs) 0 + number_of bs

-- The bits of some fields, one field after the other.
unfoldable pub field_bits : List Field → List Bool
field_bits [] = []
field_bits (f ∷ fs) = bits f.width f.number ++ field_bits fs

-- The bits of some bytes.
unfoldable pub byte_bits : List ℕ → List Bool
byte_bits [] = []
byte_bits (y ∷ ys) = bits 8 y ++ byte_bits ys

-- How many bytes hold so many bits: their eighth, rounded up.
abbrev pub byte_count : ℕ → ℕ
byte_count n = (n + 7) / 8

-- Byte k of some bits: the eight from place 8 * k on, zero bits where there are no more.
unfoldable pub byte_at : List Bool → ℕ → ℕ
byte_at bs k = number_of (tabulate (λ j. get_or bs (8 * k + j) false) 8)

-- The bytes of some bits.
unfoldable pub pack : List Bool → List ℕ
pack bs = tabulate (byte_at bs) (byte_count (length bs))

-- The bytes of some fields.
unfoldable pub pack_fields : List Field → List ℕ
pack_fields fs = pack (field_bits fs)

-- The number in the w bits from place p on of some bytes.
unfoldable pub field_at : List ℕ → ℕ → ℕ → ℕ
field_at ys p w = number_of (take w (drop p (byte_bits ys)))

-- The fields of these widths, one after the other from place p on.
unfoldable pub fields_at : List ℕ → ℕ → List ℕ → List Field
fields_at ys p [] = []
fields_at ys p (w ∷ ws) = field w (field_at ys p w) ∷ fields_at ys (p + w) ws

-- How many bits fields of these widths have.
unfoldable pub bits_in : List ℕ → ℕ
bits_in [] = 0
bits_in (w ∷ ws) = w + bits_in ws

-- The number of a field has no more bits than the field.
abbrev pub field_fits : Field → Bool
field_fits f = ltb f.number (2 ^ f.width)
