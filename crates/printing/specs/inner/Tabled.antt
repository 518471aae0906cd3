-- What is known of the table of an accepted text's slots when their spans are entered: its names are stretches of the text. Nothing here need be believed: `tabled` shows it of every accepted text.
use Rattle.std.specs.Prelude.{ℕ, ◌+◌, ◌≤◌, ◌<◌, ◌≡◌, List, map, length, take, drop, get_or}
use Rattle.laws.specs.Filled.{filled}
use Rattle.laws.specs.Limits.{text_limit, value_limit, slot_limit}
use Rattle.grammar.specs.Files.{Slot}
use Rattle.grammar.specs.Standing.{SlotsStand}
use Rattle.table.specs.declared.Name.{Name}
use Rattle.table.specs.declared.Table.{Table}
use Rattle.table.specs.Zero.{zero_name}
use Rattle.table.specs.Empty.{unused_slot}
use Rattle.steps.specs.inner.Spans.{key_of, span}
use Rattle.grammar.specs.TableFor.{slot_for}
use Rattle.laws.specs.Listed.{Each}
use Rattle.style.specs.inner.Named.{WellNamed}

-- The span of a name of the table.
abbrev pub span_of : List ℕ → Name → ℕ
span_of text n = span (key_of (take n.size (drop n.start text))) n.start n.size

-- A name in the text and within the limits of a text and of a name, so that its span says where it stands.
abbrev pub SmallName : List ℕ → Name → Type 0
SmallName text n = (n.start + n.size ≤ length text) × (n.start ≤ text_limit) × (n.size < 32)

-- So is each of the names in a list.
abbrev pub SmallNames : List ℕ → List Name → Type 0
SmallNames text ns = (i : ℕ) → SmallName text (get_or ns i zero_name)

-- The slots of the table are these, their names stand in the text and are names, and all are within the limits.
pub record Tabled (text : List ℕ) (slots : List Slot) (t : Table) : Type 0 where
  pub width_is : t.width ≡ length slots
  pub slots_are : t.slots ≡ filled slot_limit unused_slot (map slot_for slots)
  pub few : length slots ≤ slot_limit
  pub few_values : Each (λ (s : Slot). length s.values ≤ value_limit) slots
  pub short : length text ≤ text_limit
  pub stand : SlotsStand text slots
  pub well_named : Each WellNamed slots
