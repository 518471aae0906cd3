-- Document 01, 'The program': what is listed of a rule text, a card and a slip, from the tally 0 and 0; document 02, section 4: of an editor number too, which stands in the last line. The text is read by the program's own limits (document 02, section 7).
use Rattle.std.specs.Prelude.{ℕ, suc, ◌+◌, Bool, cond, List, [], ◌∷◌, map, eqb}
use Rattle.laws.specs.Quoted.{bytes}
use Rattle.laws.specs.Limits.{slot_limit, program_text_limit, program_rule_limit}
use Rattle.laws.specs.Packed.{byte_count}
use Rattle.laws.specs.Tabulated.{tabulate}
use Rattle.model.specs.Rules.{Pair}
use Rattle.table.specs.declared.Table.{Table}
use Rattle.table.specs.Link.{stratum_at}
use Rattle.names.specs.Names.{show_slot, show_value}
use Rattle.reader.specs.Tables as reader
use Rattle.reader.specs.Tables.{Accepted, Refused}
use Rattle.rule_file.specs.Whole.{program_reading}
use Rattle.laws.specs.Answers.{OrRefused, taken, refused}
use Rattle.cards.specs.Forms.{card_bits, slip_bits, changes_in}
use Rattle.tally.specs.declared.Tally.{Tally}
use Rattle.tally.specs.Editors.{Editors, lent, fresh_records, has_record, record_at}
use Rattle.results.specs.Record.{bit_of}
use Rattle.response.specs.Ending.{Answer}
use Rattle.response.specs.Respond.{Rooms, changes_room, answer_to, records_after}

-- The line of a rule: its stratum, and whether it fired.
pub record RuleLine : Type 0 where
  pub stratum : ℕ
  pub fired : Bool

-- The line of a change: the name of the slot, and that of the value or NONE.
pub record ChangeLine : Type 0 where
  pub slot : List ℕ
  pub value : List ℕ

-- What is listed: the rules in number order, the changes in slot order, the bytes of the new card, the editor's number and record; or a refusal.
pub data Listing : Type 0 where
  listed : List RuleLine → List ChangeLine → List ℕ → ℕ → Tally → Listing
  refusal : ℕ → ℕ → Listing

-- The program's outputs are as long as any answer needs: as many slots, changes and rules as a file that the program takes may have.
abbrev pub program_rooms : Rooms
program_rooms = record { for_card = byte_count (card_bits slot_limit); for_changes = changes_room; for_fired = byte_count program_rule_limit }

-- The number that the bytes of an editor file hold: the one byte that there is, else 0, which is no editor's.
unfoldable pub editor_number : List ℕ → ℕ
editor_number (b ∷ []) = b
editor_number [] = 0
editor_number (b ∷ c ∷ bs) = 0

-- The program's records: forty that are fresh.
abbrev pub program_editors : ℕ → Editors
program_editors n = lent fresh_records n

-- The line of rule n.
abbrev pub rule_line : Table → Answer → ℕ → RuleLine
rule_line t a n = record { stratum = stratum_at t n; fired = bit_of a.fired n }

-- A value as it is listed: by its name, and NONE for 0 (document 02, section 6).
abbrev pub value_listed : ℕ → List ℕ → List ℕ
value_listed value name = cond (eqb value 0) (bytes "NONE") name

-- The line of a change, by the names in the text, and NONE.
abbrev pub change_line : List ℕ → Table → Pair → ChangeLine
change_line text t p = record { slot = (show_slot text t p.slot).part; value = value_listed p.value (show_value text t p.slot p.value).part }

-- The listing of a response, with the record that it leaves the caller.
unfoldable pub list_response : List ℕ → Table → Editors → OrRefused Answer → Listing
list_response text t y (taken a) =
    listed (tabulate (λ i. rule_line t a (suc i)) t.count) (map (change_line text t) (changes_in a.changes)) a.new_card y.caller (record_at (records_after y (taken a)) y.caller)
list_response text t y (refused k s) = refusal k s

-- The listing of what a reading comes to.
unfoldable pub list_reading : List ℕ → reader.ReadingOutcome → Table → Editors → List ℕ → List ℕ → Listing
list_reading text Accepted t y card slip = list_response text t y (answer_to t y card slip program_rooms)
list_reading text (Refused k n) t y card slip = refusal k n

-- 44 comes before the reading too.
unfoldable pub listing_in : List ℕ → Editors → List ℕ → List ℕ → Listing
listing_in text y card slip = cond (has_record y) (list_reading text (program_reading text).outcome (program_reading text).table y card slip) (refusal 44 0)

-- The listing of a rule text, a card, a slip and the bytes of an editor file.
unfoldable pub listing : List ℕ → List ℕ → List ℕ → List ℕ → Listing
listing text card slip editor = listing_in text (program_editors (editor_number editor)) card slip

-- What the program reads of its four files: a byte more than a text that it takes may have, a byte more than a card and a slip of the highest count that six bits hold, and a byte more than an editor file has. `listing_cut` says that the rest makes no difference.
abbrev pub text_room : ℕ
text_room = program_text_limit + 1

abbrev pub card_room : ℕ
card_room = byte_count (card_bits 63) + 1

abbrev pub slip_room : ℕ
slip_room = byte_count (slip_bits 63) + 1

abbrev pub editor_room : ℕ
editor_room = 2
