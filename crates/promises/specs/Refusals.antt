-- Demand 1: what is handed in, with any bytes and of any length, comes back with its result or with one numbered refusal, whose second number and reason are told (Reasons),
-- and after a refusal every lent buffer, the count in the caller's record apart, holds what it held before. That the engine always finishes is proved with each function.
use Rattle.std.specs.Prelude.{ℕ, ◌≡◌, Bool, List, ◌⊎◌, T, length}
use Rattle.laws.specs.Answers.{written}
use Rattle.table.specs.declared.Table.{Table}
use Rattle.table.specs.declared.Way.{Way}
use Rattle.table.specs.Empty.{empty_table}
use Rattle.table.specs.Link.{rules_of, value_counts}
use Rattle.grammar.specs.Reading.{parse}
use Rattle.names.specs.Names.{not_shown, show_slot, show_value}
use Rattle.soundness.specs.Sound.{sound, takes}
use Rattle.reader.specs.Tables.{reading_refusal, reading_second}
use Rattle.rule_file.specs.Whole.{read_by}
use Rattle.printing.specs.Printing.{print_of, printing_refusal, printing_second, printing_length}
use Rattle.cards.specs.declared.Card.{Card}
use Rattle.cards.specs.declared.Slip.{Slip}
use Rattle.cards.specs.Forms.{values_in, changes_in, card_bytes, slip_bytes}
use Rattle.cards.specs.Cards.{card_values, changes_of, card_of, slip_of, no_card, no_slip, unpacking_refusal, unpacking_second, packing_refusal, packing_second, packing_length}
use Rattle.tally.specs.declared.Tally.{Tally}
use Rattle.tally.specs.Editors.{Editors, own_record, with_record}
use Rattle.tally.specs.Counting.{one_answered, one_refused}
use Rattle.response.specs.Ending.{Answer}
use Rattle.response.specs.Respond.{Outputs, rooms_of, response_refusal, response_second}
use Rattle.promises.specs.Returned.{print_told, print_left, card_told, slip_told, card_packing, card_left, slip_packing, slip_left, told_in, left_in, AnswersIn}
use Rattle.promises.specs.Reasons.{FileReason, FileRight, PrintReason, PrintRight, CardReason, CardRight, PackedCardReason, PackedCardRight, SlipReason, SlipRight, PackedSlipReason, PackedSlipRight, TableReason, RulesRight, Countable, ResponseReason, HasSlot, HasValue, slot_at, value_name_at, ShownInside, SlotNameReason, ValueNameReason}

-- What comes back by its two numbers: 0, 0 and a result; or a refusal with a reason for it, and what goes with a refusal.
abbrev pub Comes : (ℕ → ℕ → Type 0) → ℕ → ℕ → Type 0 → Type 0 → Type 0
Comes Reason k s Result Refused = ((k ≡ 0) × (s ≡ 0) × Result) ⊎ (Reason k s × Refused)

-- A table passes its test, and what comes after that is in order.
pub record Passes (test : Bool) (Right : Type 0) : Type 0 where
  pub passes : T test
  pub right : Right

-- The caller's record counts a refusal, but for 44 and 32, which change nothing.
pub record RecordsRefused (k : ℕ) (y : Editors) (after : List Tally) : Type 0 where
  pub counted : ¬ (k ≡ 44) → ¬ (k ≡ 32) → after ≡ with_record y (one_refused (own_record y))
  pub not_counted : (k ≡ 44) ⊎ (k ≡ 32) → after ≡ y.records

pub record Demand1 : Type 0 where
  -- A rule file, read for the response by strata or by marks; after a refusal the table is the one without slots or rules.
  pub rule_file : (way : Way) (text : List ℕ) → Comes (FileReason text way) (reading_refusal (read_by way text).outcome) (reading_second (read_by way text).outcome)
      (FileRight text way) ((read_by way text).table ≡ empty_table)
  -- It is refused so exactly where the reason holds.
  pub file_exactly : (way : Way) (text : List ℕ) (k n : ℕ) → FileReason text way k n → (reading_refusal (read_by way text).outcome ≡ k) × (reading_second (read_by way text).outcome ≡ n)
  -- A rule file that is printed.
  pub file_printed : (text out : List ℕ) → Comes (PrintReason text (length out)) (printing_refusal (print_told text out)) (printing_second (print_told text out))
      (PrintRight text (length out) × (printing_length (print_told text out) ≡ length (print_of (parse text))) × (print_left text out ≡ written (print_of (parse text)) out))
      ((printing_length (print_told text out) ≡ 0) × (print_left text out ≡ out))
  -- Bytes unpacked as a card and as a slip; after a refusal the form has no slots or changes.
  pub card_unpacked : (t : Table) (ys : List ℕ)
      → Comes (TableReason (sound t) (CardReason (value_counts t) ys)) (unpacking_refusal (card_told t ys).outcome) (unpacking_second (card_told t ys).outcome)
      (Passes (sound t) (CardRight (value_counts t) ys) × ((card_told t ys).card ≡ card_of (values_in ys))) ((card_told t ys).card ≡ no_card)
  pub slip_unpacked : (t : Table) (ys : List ℕ)
      → Comes (TableReason (sound t) (SlipReason (value_counts t) ys)) (unpacking_refusal (slip_told t ys).outcome) (unpacking_second (slip_told t ys).outcome)
      (Passes (sound t) (SlipRight (value_counts t) ys) × ((slip_told t ys).slip ≡ slip_of (changes_in ys))) ((slip_told t ys).slip ≡ no_slip)
  -- A card and a slip that are packed.
  pub card_packed : (t : Table) (c : Card) (out : List ℕ)
      → Comes (TableReason (sound t) (PackedCardReason (value_counts t) (card_values c) (length out))) (packing_refusal (card_packing t c out)) (packing_second (card_packing t c out))
      (Passes (sound t) (PackedCardRight (value_counts t) (card_values c) (length out)) × (packing_length (card_packing t c out) ≡ length (card_bytes (card_values c))) × (card_left t c out ≡ written (card_bytes (card_values c)) out))
      ((packing_length (card_packing t c out) ≡ 0) × (card_left t c out ≡ out))
  pub slip_packed : (t : Table) (c : Slip) (out : List ℕ)
      → Comes (TableReason (sound t) (PackedSlipReason (value_counts t) (changes_of c) (length out))) (packing_refusal (slip_packing t c out)) (packing_second (slip_packing t c out))
      (Passes (sound t) (PackedSlipRight (value_counts t) (changes_of c) (length out)) × (packing_length (slip_packing t c out) ≡ length (slip_bytes (changes_of c))) × (slip_left t c out ≡ written (slip_bytes (changes_of c)) out))
      ((packing_length (slip_packing t c out) ≡ 0) × (slip_left t c out ≡ out))
  -- A response, by strata or by marks, whose three outputs keep their contents after a refusal.
  pub responded : (way : Way) (t : Table) (y : Editors) (card slip : List ℕ) (o : Outputs)
      → Comes (ResponseReason way t y card slip (rooms_of o.card o.changes o.fired)) (response_refusal (told_in way t y card slip o).outcome) (response_second (told_in way t y card slip o).outcome)
      ((a : Answer) × Countable y × Passes (takes way t) (RulesRight way (value_counts t) (rules_of t) card slip (rooms_of o.card o.changes o.fired) a) × AnswersIn way t y card slip o a
      × ((told_in way t y card slip o).records ≡ with_record y (one_answered (own_record y))))
      ((left_in way t y card slip o ≡ o) × RecordsRefused (response_refusal (told_in way t y card slip o).outcome) y (told_in way t y card slip o).records)
  -- A name shown: 0 and its stretch; or 31 for a reason, with an empty part at the beginning of the text.
  pub slot_shown : (text : List ℕ) (t : Table) (slot : ℕ) → (HasSlot t slot × ShownInside text (slot_at t slot).name (show_slot text t slot)) ⊎ (SlotNameReason text t slot × (show_slot text t slot ≡ not_shown))
  pub value_shown : (text : List ℕ) (t : Table) (slot value : ℕ)
      → (HasSlot t slot × HasValue (slot_at t slot) value × ShownInside text (value_name_at (slot_at t slot) value) (show_value text t slot value)) ⊎ (ValueNameReason text t slot value × (show_value text t slot value ≡ not_shown))
