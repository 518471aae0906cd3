-- What the reading of a slot line means, over the tokens from a position of the remainder on (document 01, 'Rule text').
use Rattle.std.specs.Prelude.{ℕ, ◌≤◌, ◌<◌, ◌≡◌, Result, Ok, Err, List, length}
use Rattle.text.specs.Tokens.{Name, Token, OPEN}
use Rattle.grammar.specs.Files.{Slot, slot_names}
use Rattle.grammar.specs.Reading.{Part, took, ◌then◌, expects, new_name}
use Rattle.laws.specs.Limits.{value_limit}
use Rattle.steps.specs.inner.Places.{read_part}
use Rattle.steps.specs.inner.Spans.{SpanLies}
use Rattle.lines.specs.inner.Index.{span_name, span_names, span_slot, Spanned}
use Rattle.steps.specs.declared.step.Fault.{Fault}
use Rattle.steps.specs.declared.step.Read.{Read}
use Rattle.steps.specs.declared.parts.Parts.{Parts}
use Rattle.lines.specs.declared.Line.{Line}

-- A name to be declared, by its span.
abbrev pub declared_part : List ℕ → List ℕ → ℕ → Result (Read ℕ) Fault → Part Name
declared_part text rest base r = read_part (span_name text) rest base r

-- Its span lies in the text, and the position after it moves on and stays in the remainder.
abbrev pub DeclaredLies : List ℕ → ℕ → ℕ → Result (Read ℕ) Fault → Type 0
DeclaredLies text size from (Ok r) = (0 < r.value) × SpanLies text r.value × (from < r.next) × (r.next ≤ size)
DeclaredLies text size from (Err k) = Unit

-- A slot line from after SLOT up to its `{`: the slot's name.
unfoldable pub read_head : List Slot → List Token → Part Name
read_head slots ts =
    new_name (slot_names slots) ts then λ n t1.
    expects OPEN t1 then λ u t2.
    took n t2

-- Of the 15 spans the first `count` are those of the names there, and the others are 0.
pub record ValuesLie (text spans : List ℕ) (count : ℕ) : Type 0 where
  pub few : count ≤ value_limit
  pub places : length spans ≡ value_limit
  pub spanned : Spanned text spans (span_names text spans count)

-- The spans of a slot's values, with the number used.
abbrev pub ValuePlaces : Type 0
ValuePlaces = Parts ℕ value_limit

-- The values of a slot line, by their spans.
abbrev pub values_part : List ℕ → List ℕ → ℕ → Result (Read ValuePlaces) Fault → Part (List Name)
values_part text rest base r = read_part (λ (v : ValuePlaces). span_names text v.places v.count) rest base r

-- Their spans lie in the text, and the position after them moves on and stays in the remainder.
abbrev pub ValuesRead : List ℕ → ℕ → ℕ → Result (Read ValuePlaces) Fault → Type 0
ValuesRead text size from (Ok r) = (from < r.next) × (r.next ≤ size) × ValuesLie text r.value.places r.value.count
ValuesRead text size from (Err k) = Unit

-- A slot line, by its spans.
abbrev pub line_part : List ℕ → List ℕ → ℕ → Result (Read Line) Fault → Part Slot
line_part text rest base r = read_part (λ (l : Line). span_slot text l.name l.values.places l.values.count) rest base r

-- Its slot's name lies in the text, and so do its values; and the position after it moves on and stays in the remainder.
abbrev pub LineLies : List ℕ → ℕ → ℕ → Result (Read Line) Fault → Type 0
LineLies text size from (Ok r) = (from < r.next) × (r.next ≤ size) × (0 < r.value.name) × SpanLies text r.value.name × ValuesLie text r.value.values.places r.value.values.count
LineLies text size from (Err k) = Unit
