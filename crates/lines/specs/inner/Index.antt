-- The spans of the slots and values declared so far, and a slot as the table has it.
use Rattle.std.specs.Prelude.{ℕ, ◌+◌, ◌*◌, ◌%◌, ◌≤◌, ◌<◌, ◌≡◌, List, [], ◌∷◌, map, length, take, drop}
use Rattle.text.specs.Tokens.{Name}
use Rattle.grammar.specs.Files.{Slot, slot_names, values_of}
use Rattle.table.specs.declared.Name as stretch
use Rattle.table.specs.declared.Slot as tabled
use Rattle.laws.specs.Limits.{slot_limit, value_limit, row}
use Rattle.table.specs.inner.Flat.{pair_places}
use Rattle.steps.specs.inner.Spans.{span_start, span_letters, SpanLies}

-- The name at a span of the text.
abbrev pub span_name : List ℕ → ℕ → Name
span_name text k = record { start = span_start k; letters = span_letters text k }

-- The names at the first `count` spans.
abbrev pub span_names : List ℕ → List ℕ → ℕ → List Name
span_names text spans count = map (span_name text) (take count spans)

-- The slot whose name is at a span and whose values are at the first `count` spans.
abbrev pub span_slot : List ℕ → ℕ → List ℕ → ℕ → Slot
span_slot text name spans count = record { name = span_name text name; values = span_names text spans count }

-- The spans are those of these names, in their order, and then 0 to the end.
abbrev pub Spanned : List ℕ → List ℕ → List Name → Type 0
Spanned text [] [] = Unit
Spanned text [] (n ∷ ns) = ⊥
Spanned text (k ∷ ks) [] = (k ≡ 0) × Spanned text ks []
Spanned text (k ∷ ks) (n ∷ ns) = (0 < k) × SpanLies text k × (span_name text k ≡ n) × Spanned text ks ns

-- The spans of the values of slot `s`, among those of all slots.
abbrev pub row_of : List ℕ → ℕ → List ℕ
row_of valuespans s = take value_limit (drop (s * row + 1) valuespans)

-- `slotspans` has the spans of the slots' names, and `valuespans` those of the values of slot s from s * 16 + 1 on.
pub record Indexed (text : List ℕ) (slots : List Slot) (slotspans valuespans : List ℕ) : Type 0 where
  pub head_places : length slotspans ≡ slot_limit
  pub body_places : length valuespans ≡ pair_places
  pub few : length slots ≤ slot_limit
  pub names : Spanned text slotspans (slot_names slots)
  pub values : (s : ℕ) → s < slot_limit → Spanned text (row_of valuespans s) (values_of slots s)

-- Where the name of a span stands.
abbrev pub stretch_at : ℕ → stretch.Name
stretch_at k = record { start = span_start k; size = k % 32 }

-- A slot of the table by its spans.
abbrev pub slot_by : ℕ → List ℕ → ℕ → tabled.Slot
slot_by name spans count = record { name = stretch_at name; values = map stretch_at spans; count = count }
