-- The lines of an answer by its bytes, as the code has them. Nothing here need be believed: `list` makes it the printed listing.
use Rattle.std.specs.Prelude.{ℕ, suc, ◌+◌, ◌*◌, ◌≤◌, ◌<◌, Bool, List, map, length}
use Rattle.laws.specs.Tabulated.{tabulate}
use Rattle.laws.specs.Packed.{field_at}
use Rattle.names.specs.Names.{show_name, show_value_of}
use Rattle.table.specs.declared.Slot.{Slot}
use Rattle.table.specs.declared.Table.{Table}
use Rattle.laws.specs.Limits.{slot_limit}
use Rattle.table.specs.Link.{stratum_at}
use Rattle.results.specs.Record.{bit_of}
use Rattle.cards.specs.Forms.{count_in, changes_in, slip_bits}
use Rattle.tally.specs.declared.Tally.{Tally}
use Rattle.response.specs.Ending.{Answer}
use Rattle.listing.specs.Listing.{RuleLine, ChangeLine, Listing, listed, value_listed, change_line}

-- The line of a rule by its stratum and whether it fired, and the lines of a table's rules by the bytes of a fired record.
abbrev pub fired_line : ℕ → Bool → RuleLine
fired_line stratum fired = record { stratum = stratum; fired = fired }

abbrev pub fired_lines : Table → List ℕ → List RuleLine
fired_lines t ys = tabulate (λ i. fired_line (stratum_at t (suc i)) (bit_of ys (suc i))) t.count

-- The line of a change by its slot.
abbrev pub slot_change : List ℕ → Slot → ℕ → ChangeLine
slot_change text s v = record { slot = (show_name text s.name).part; value = value_listed v (show_value_of text s v).part }

-- The bytes of an answer.
abbrev pub answer_bytes : List ℕ → List ℕ → List ℕ → Answer
answer_bytes card changes fired = record { new_card = card; changes = changes; fired = fired }

-- The listing of an answer with the editor's number and record.
abbrev pub list_answer : List ℕ → Table → Answer → ℕ → Tally → Listing
list_answer text t a n y = listed (fired_lines t a.fired) (map (change_line text t) (changes_in a.changes)) a.new_card n y

-- The bytes of changes have all that they count, in slots of so many.
pub record ChangesWhole (width : ℕ) (ys : List ℕ) : Type 0 where
  pub few : width ≤ slot_limit
  pub whole : slip_bits (count_in ys) ≤ 8 * length ys
  pub slots_below : (j : ℕ) → j < count_in ys → field_at ys (6 + 9 * j) 5 < width
