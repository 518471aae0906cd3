-- Where names were declared, each stretch of the text as one number.
use Rattle.std.specs.Prelude.{ℕ, suc, ◌+◌, ◌-◌, ◌*◌, ◌/◌, ◌%◌, ◌≤◌, ◌<◌, ◌≡◌, Option, Some, None, Result, Ok, Err, List, [], ◌∷◌, length, take, drop, get_or}
use Rattle.laws.specs.Limits.{text_limit, slot_limit, value_limit}
use Rattle.grammar.specs.Reading.{Part}
use Rattle.steps.specs.inner.Places.{read_part}
use Rattle.steps.specs.declared.step.Fault.{Fault}
use Rattle.steps.specs.declared.step.Read.{Read}

-- The key of a name: its first, its middle and its last byte, and its length.
unfoldable pub key_of : List ℕ → ℕ
key_of n = ((get_or n 0 0 * 256 + get_or n (length n / 2) 0) * 256 + get_or n (length n - 1) 0) * 32 + length n

-- What a key is multiplied by in a span: more than every place times 32.
abbrev pub keyed : ℕ
keyed = 2 * text_limit * 32

-- A span: the key of a name, its place times 32, and its length, which is at most 24.
abbrev pub span : ℕ → ℕ → ℕ → ℕ
span key start size = key * keyed + start * 32 + size

-- The place of the name at a span.
abbrev pub span_start : ℕ → ℕ
span_start k = k % keyed / 32

-- The bytes at a span.
abbrev pub span_letters : List ℕ → ℕ → List ℕ
span_letters text k = take (k % 32) (drop (span_start k) text)

-- A span lies in the text and has the key of the name there.
pub record SpanLies (text : List ℕ) (k : ℕ) : Type 0 where
  pub within : span_start k + k % 32 ≤ length text
  pub key : k / keyed ≡ key_of (span_letters text k)

-- The spans are those of these names, in their order, and then 0 or the end.
abbrev pub Listed : List ℕ → List ℕ → List (List ℕ) → Type 0
Listed text [] [] = Unit
Listed text [] (n ∷ ns) = ⊥
Listed text (k ∷ ks) [] = k ≡ 0
Listed text (k ∷ ks) (n ∷ ns) = (0 < k) × SpanLies text k × (span_letters text k ≡ n) × Listed text ks ns

-- A place from 0 as one from 1, and 0 for none.
abbrev pub counted_from_1 : Option ℕ → ℕ
counted_from_1 None = 0
counted_from_1 (Some i) = suc i

-- A number read.
abbrev pub number_part : List ℕ → ℕ → Result (Read ℕ) Fault → Part ℕ
number_part rest base r = read_part (λ n. n) rest base r

-- A place read, which the reading counts from 1.
abbrev pub place_part : List ℕ → ℕ → Result (Read ℕ) Fault → Part ℕ
place_part rest base r = read_part (λ n. suc n) rest base r

-- It is below `top`, and the position after it moves on and stays in the remainder.
abbrev pub NumberLies : ℕ → ℕ → ℕ → Result (Read ℕ) Fault → Type 0
NumberLies top size from (Ok r) = (r.value < top) × (from < r.next) × (r.next ≤ size)
NumberLies top size from (Err k) = Unit

-- A value's number is 0 to 15, 0 for NONE.
abbrev pub ValueLies : ℕ → ℕ → Result (Read ℕ) Fault → Type 0
ValueLies size from (Ok r) = (r.value ≤ value_limit) × (from < r.next) × (r.next ≤ size)
ValueLies size from (Err k) = Unit

-- A slot's number is 0 to 31.
abbrev pub SlotLies : ℕ → ℕ → Result (Read ℕ) Fault → Type 0
SlotLies size from r = NumberLies slot_limit size from r
