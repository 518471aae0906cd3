-- Why something is refused, by its number and its second number: document 01, 'Refusals by who can cause them', and document 02, sections 1 (33, 34), 3 (41, 42), 4 (44) and 6 (27). A reason holds only where none that comes before it does.
use Rattle.std.specs.Prelude.{ℕ, suc, ◌+◌, ◌-◌, ◌≤◌, ◌<◌, ◌≡◌, Bool, List, ◌⊎◌, T, length, get_or, take, drop}
use Rattle.laws.specs.Packed.{byte_count}
use Rattle.laws.specs.Numbers.{Numbered}
use Rattle.text.specs.Tokens.{tokens}
use Rattle.model.specs.Rules.{Pair, Pairs, Rule, among}
use Rattle.model.specs.Orders.{changes}
use Rattle.model.specs.Result.{pair}
use Rattle.model.specs.Strata.{weak, Strata}
use Rattle.model.specs.Circles.{LowestThroughNot}
use Rattle.model.specs.Response.{response}
use Rattle.table.specs.declared.Name as stretch
use Rattle.table.specs.declared.Slot.{Slot}
use Rattle.table.specs.declared.Table.{Table}
use Rattle.table.specs.declared.Way.{Way}
use Rattle.table.specs.declared.Way.TheVariants as way
use Rattle.table.specs.Zero.{zero_name, zero_slot}
use Rattle.table.specs.Link.{rules_of, value_counts}
use Rattle.laws.specs.Limits.{text_limit, slot_limit, value_limit, tally_limit, editor_limit}
use Rattle.grammar.specs.Files.{File}
use Rattle.grammar.specs.Meaning.{IsFile}
use Rattle.grammar.specs.Reading.{parse}
use Rattle.grammar.specs.Refusals.{StandsAt}
use Rattle.printing.specs.Printing.{print_of}
use Rattle.names.specs.Names.{Showing}
use Rattle.soundness.specs.Sound.{takes}
use Rattle.marks.specs.Marks.{Marks, declared_pairs, is_both, is_unknown}
use Rattle.marks.specs.Selection.{Move, order_fired, marks_after, selection}
use Rattle.cards.specs.Forms.{card_bits, slip_bits, count_in, values_in, changes_in, padding}
use Rattle.tally.specs.declared.Tally.{Tally}
use Rattle.tally.specs.Editors.{Editors, own_record}
use Rattle.response.specs.Ending.{Answer, answer_of}
use Rattle.response.specs.Respond.{Rooms, changes_room}
use Rattle.promises.specs.Returned.{IsAccepted}
use Rattle.promises.specs.Agreement.{InConflict, LowestConflict}

-- A rule file. 10: its length. 11 to 17: the smallest fault of the earliest faulty token, or of the end, after so many completed rules.
-- 18, where it is read for the response by strata: the lowest rule on a circle through a NOT.
pub data FileReason (text : List ℕ) : Way → ℕ → ℕ → Type 0 where
  over_long : {w : Way} → text_limit < length text → FileReason text w 10 0
  at_token : {w : Way} {k n : ℕ} → length text ≤ text_limit → StandsAt (tokens text) k n → FileReason text w k n
  no_strata : {f : File} {n : ℕ} → IsFile text f → LowestThroughNot f.rules n → FileReason text way.Strata 18 n

-- What test 18 asks of rules: that they have strata; for the response by marks, nothing.
abbrev pub Stratified : Way → List Rule → Type 0
Stratified way.Strata rs = (u : ℕ → ℕ) × Strata weak rs u
Stratified way.Marks rs = Unit

-- None of these: the text is a file, and its rules have strata where that is asked.
pub record FileRight (text : List ℕ) (w : Way) : Type 0 where
  pub file : File
  pub is_file : IsFile text file
  pub stratified : Stratified w file.rules

-- A print: the reading's own; then 34, its length; 33, an output that is shorter.
pub data PrintReason (text : List ℕ) (room : ℕ) : ℕ → ℕ → Type 0 where
  own : {k n : ℕ} → FileReason text way.Strata k n → PrintReason text room k n
  print_over : IsAccepted text → text_limit < length (print_of (parse text)) → PrintReason text room 34 0
  print_room : IsAccepted text → length (print_of (parse text)) ≤ text_limit → room < length (print_of (parse text)) → PrintReason text room 33 0

-- None of these.
pub record PrintRight (text : List ℕ) (room : ℕ) : Type 0 where
  pub accepted : IsAccepted text
  pub within : length (print_of (parse text)) ≤ text_limit
  pub enough : length (print_of (parse text)) ≤ room

-- The first slot whose value is above its last.
pub record FirstAbove (counts vs : List ℕ) (s : ℕ) : Type 0 where
  pub slot : s < length counts
  pub above : get_or counts s 0 < get_or vs s 0
  pub first : (r : ℕ) → r < s → get_or vs r 0 ≤ get_or counts r 0

-- The values of a card. 21: not as many as there are slots. 22: one above the slot's last; the first such slot.
pub data ValuesReason (counts vs : List ℕ) : ℕ → ℕ → Type 0 where
  another_count : ¬ (length vs ≡ length counts) → ValuesReason counts vs 21 0
  value_above : {s : ℕ} → length vs ≡ length counts → FirstAbove counts vs s → ValuesReason counts vs 22 s

-- Neither 21 nor 22.
pub record ValuesRight (counts vs : List ℕ) : Type 0 where
  pub as_many : length vs ≡ length counts
  pub within : (s : ℕ) → s < length counts → get_or vs s 0 ≤ get_or counts s 0

-- Bytes are as long as a card of their own count; the padding is zero.
abbrev pub CardLong : List ℕ → Type 0
CardLong ys = length ys ≡ byte_count (card_bits (count_in ys))

abbrev pub CardPadded : List ℕ → Type 0
CardPadded ys = padding ys (card_bits (count_in ys)) ≡ 0

-- The bytes of a card. 20: not of their own count's length (the empty among them). 21, 22. 23: padding not zero.
pub data CardReason (counts ys : List ℕ) : ℕ → ℕ → Type 0 where
  card_length : ¬ CardLong ys → CardReason counts ys 20 0
  values_refused : {k s : ℕ} → CardLong ys → ValuesReason counts (values_in ys) k s → CardReason counts ys k s
  card_padding : CardLong ys → ValuesRight counts (values_in ys) → ¬ CardPadded ys → CardReason counts ys 23 0

-- None of 20 to 23.
pub record CardRight (counts ys : List ℕ) : Type 0 where
  pub long : CardLong ys
  pub values_right : ValuesRight counts (values_in ys)
  pub padded : CardPadded ys

-- A card that is packed into so much room. 21, 22. 30 with 1: under the packed length.
pub data PackedCardReason (counts vs : List ℕ) (room : ℕ) : ℕ → ℕ → Type 0 where
  packed_values : {k s : ℕ} → ValuesReason counts vs k s → PackedCardReason counts vs room k s
  packed_card_room : ValuesRight counts vs → room < byte_count (card_bits (length vs)) → PackedCardReason counts vs room 30 1

-- None of these: 21, 22, 30.
pub record PackedCardRight (counts vs : List ℕ) (room : ℕ) : Type 0 where
  pub values_right : ValuesRight counts vs
  pub enough : byte_count (card_bits (length vs)) ≤ room

-- The slot of a change by its position, and its value.
abbrev pub slot_of : List Pair → ℕ → ℕ
slot_of ps j = (get_or ps j (pair 0 0)).slot

abbrev pub value_of : List Pair → ℕ → ℕ
value_of ps j = (get_or ps j (pair 0 0)).value

-- The slot of a change is above the one before it, where there is one.
abbrev pub Rises : List Pair → ℕ → Type 0
Rises ps j = (i : ℕ) → suc i ≡ j → slot_of ps i < slot_of ps j

-- The fault of a change. 25: a slot not below the slot count. 26: a slot not above the one before. 27: a value above the slot's last; value 0, NONE, is not above it.
pub data ChangeFault (counts : List ℕ) (ps : List Pair) (j : ℕ) : ℕ → Type 0 where
  slot_lacking : length counts ≤ slot_of ps j → ChangeFault counts ps j 25
  not_rising : slot_of ps j < length counts → (i : ℕ) → suc i ≡ j → slot_of ps j ≤ slot_of ps i → ChangeFault counts ps j 26
  value_beyond : slot_of ps j < length counts → Rises ps j → get_or counts (slot_of ps j) 0 < value_of ps j → ChangeFault counts ps j 27

-- None of 25 to 27.
pub record ChangeRight (counts : List ℕ) (ps : List Pair) (j : ℕ) : Type 0 where
  pub below : slot_of ps j < length counts
  pub rises : Rises ps j
  pub to_last : value_of ps j ≤ get_or counts (slot_of ps j) 0

-- The first faulty change, with its position from 0.
pub record FirstFaulty (counts : List ℕ) (ps : List Pair) (k j : ℕ) : Type 0 where
  pub change : j < length ps
  pub faulty : ChangeFault counts ps j k
  pub first : (i : ℕ) → i < j → ChangeRight counts ps i

abbrev pub ChangesRight : List ℕ → List Pair → Type 0
ChangesRight counts ps = (j : ℕ) → j < length ps → ChangeRight counts ps j

-- Bytes are as long as a slip of their own count; the padding is zero.
abbrev pub SlipLong : List ℕ → Type 0
SlipLong ys = length ys ≡ byte_count (slip_bits (count_in ys))

abbrev pub SlipPadded : List ℕ → Type 0
SlipPadded ys = padding ys (slip_bits (count_in ys)) ≡ 0

-- The bytes of a slip. 24: not of their own count's length (the empty among them). 25 to 27: the first faulty change. 28: padding not zero.
pub data SlipReason (counts ys : List ℕ) : ℕ → ℕ → Type 0 where
  slip_length : ¬ SlipLong ys → SlipReason counts ys 24 0
  slip_change : {k j : ℕ} → SlipLong ys → FirstFaulty counts (changes_in ys) k j → SlipReason counts ys k j
  slip_padding : SlipLong ys → ChangesRight counts (changes_in ys) → ¬ SlipPadded ys → SlipReason counts ys 28 0

-- None of 24 to 28.
pub record SlipRight (counts ys : List ℕ) : Type 0 where
  pub long : SlipLong ys
  pub changes_right : ChangesRight counts (changes_in ys)
  pub padded : SlipPadded ys

-- A slip that is packed into so much room. 24: over 32 changes. 25 to 27. 30 with 2: under the packed length.
pub data PackedSlipReason (counts : List ℕ) (ps : List Pair) (room : ℕ) : ℕ → ℕ → Type 0 where
  too_many : slot_limit < length ps → PackedSlipReason counts ps room 24 0
  packed_change : {k j : ℕ} → length ps ≤ slot_limit → FirstFaulty counts ps k j → PackedSlipReason counts ps room k j
  packed_slip_room : length ps ≤ slot_limit → ChangesRight counts ps → room < byte_count (slip_bits (length ps)) → PackedSlipReason counts ps room 30 2

-- None of these: 24, 25 to 27, 30.
pub record PackedSlipRight (counts : List ℕ) (ps : List Pair) (room : ℕ) : Type 0 where
  pub few : length ps ≤ slot_limit
  pub changes_right : ChangesRight counts ps
  pub enough : byte_count (slip_bits (length ps)) ≤ room

-- 31, a table that does not pass its test, before other reasons.
pub data TableReason (test : Bool) (Other : ℕ → ℕ → Type 0) : ℕ → ℕ → Type 0 where
  not_passed : ¬ T test → TableReason test Other 31 0
  of_others : {k s : ℕ} → T test → Other k s → TableReason test Other k s

-- 30: the first output that is too short for so many slots and rules, 1 the card, 2 the changes, 3 the fired record.
pub data RoomReason (width count : ℕ) (rooms : Rooms) : ℕ → Type 0 where
  card_short : rooms.for_card < byte_count (card_bits width) → RoomReason width count rooms 1
  changes_short : byte_count (card_bits width) ≤ rooms.for_card → rooms.for_changes < changes_room → RoomReason width count rooms 2
  fired_short : byte_count (card_bits width) ≤ rooms.for_card → changes_room ≤ rooms.for_changes → rooms.for_fired < byte_count count → RoomReason width count rooms 3

-- None is too short.
pub record RoomRight (width count : ℕ) (rooms : Rooms) : Type 0 where
  pub for_card : byte_count (card_bits width) ≤ rooms.for_card
  pub for_changes : changes_room ≤ rooms.for_changes
  pub for_fired : byte_count count ≤ rooms.for_fired

-- By rules over slots of so many values each, the selection from the card's values and the slip's changes, and the marks that it ends with.
abbrev pub selected : List ℕ → List Rule → List ℕ → List ℕ → List Move
selected counts rs card slip = selection (declared_pairs counts) rs (values_in card) (changes_in slip)

abbrev pub marks_left : List ℕ → List Rule → List ℕ → List ℕ → Marks
marks_left counts rs card slip = marks_after rs (changes_in slip) (selected counts rs card slip)

-- The rules that the response fires from there, in the order fired, and the C that they end with; by marks those of the selection, and its positive pairs.
abbrev pub fired_by : Way → List ℕ → List Rule → List ℕ → List ℕ → List ℕ
fired_by way.Strata counts rs card slip = response weak rs (values_in card) (changes_in slip)
fired_by way.Marks counts rs card slip = order_fired (selected counts rs card slip)

abbrev pub ends_with : Way → List ℕ → List Rule → List ℕ → List ℕ → Pairs
ends_with way.Strata counts rs card slip = changes rs (changes_in slip) (fired_by way.Strata counts rs card slip)
ends_with way.Marks counts rs card slip = (marks_left counts rs card slip).positive

-- How a response ends. By strata, 40: the lowest slot that has two values in C. By marks, 41: a declared pair, NONE of a slot among them, is both positive and negative; 42: none is, and one is unknown.
pub data EndReason (counts : List ℕ) (rs : List Rule) (card slip : List ℕ) : Way → ℕ → ℕ → Type 0 where
  conflict : {s : ℕ} → LowestConflict (ends_with way.Strata counts rs card slip) s → EndReason counts rs card slip way.Strata 40 s
  clash : (p : Pair) → T (among p (declared_pairs counts)) → T (is_both (marks_left counts rs card slip) p) → EndReason counts rs card slip way.Marks 41 0
  unknown : ((p : Pair) → T (among p (declared_pairs counts)) → ¬ T (is_both (marks_left counts rs card slip) p))
      → (p : Pair) → T (among p (declared_pairs counts)) → T (is_unknown (marks_left counts rs card slip) p) → EndReason counts rs card slip way.Marks 42 0

-- None of these.
abbrev pub EndRight : List ℕ → List Rule → List ℕ → List ℕ → Way → Type 0
EndRight counts rs card slip way.Strata = (s : ℕ) → s < length counts → ¬ InConflict (ends_with way.Strata counts rs card slip) s
EndRight counts rs card slip way.Marks = (p : Pair) → T (among p (declared_pairs counts)) → ¬ T (is_both (marks_left counts rs card slip) p) × ¬ T (is_unknown (marks_left counts rs card slip) p)

-- A response by rules over slots of so many values each: the card's reasons, the slip's, 30, and then that of its end.
pub data RulesReason (way : Way) (counts : List ℕ) (rs : List Rule) (card slip : List ℕ) (rooms : Rooms) : ℕ → ℕ → Type 0 where
  of_card : {k s : ℕ} → CardReason counts card k s → RulesReason way counts rs card slip rooms k s
  of_slip : {k s : ℕ} → CardRight counts card → SlipReason counts slip k s → RulesReason way counts rs card slip rooms k s
  of_room : {s : ℕ} → CardRight counts card → SlipRight counts slip → RoomReason (length counts) (length rs) rooms s → RulesReason way counts rs card slip rooms 30 s
  of_end : {k s : ℕ} → CardRight counts card → SlipRight counts slip → RoomRight (length counts) (length rs) rooms
      → EndReason counts rs card slip way k s → RulesReason way counts rs card slip rooms k s

-- None of these, and the answer: these are its bytes.
pub record RulesRight (way : Way) (counts : List ℕ) (rs : List Rule) (card slip : List ℕ) (rooms : Rooms) (a : Answer) : Type 0 where
  pub card_right : CardRight counts card
  pub slip_right : SlipRight counts slip
  pub room_right : RoomRight (length counts) (length rs) rooms
  pub end_right : EndRight counts rs card slip way
  pub answer_is : a ≡ answer_of (length counts) (length rs) (values_in card) (ends_with way counts rs card slip) (fired_by way counts rs card slip)

-- The caller has a record: a number from 1 to 40, in a table of forty records.
pub record HasRecord (y : Editors) : Type 0 where
  pub forty : length y.records ≡ editor_limit
  pub number : Numbered editor_limit y.caller

-- A record is full: either count at 9,999 or above; or it is not.
abbrev pub Full : Tally → Type 0
Full r = (tally_limit ≤ r.answered) ⊎ (tally_limit ≤ r.refused)

abbrev pub NotFull : Tally → Type 0
NotFull r = (r.answered < tally_limit) × (r.refused < tally_limit)

-- A slip of the caller's can be counted: the caller has a record, and it is not full.
pub record Countable (y : Editors) : Type 0 where
  pub has_one : HasRecord y
  pub not_full : NotFull (own_record y)

-- A response: 44, no record; 32, a full record of the caller's own; then the others.
pub data ResponseReason (way : Way) (t : Table) (y : Editors) (card slip : List ℕ) (rooms : Rooms) : ℕ → ℕ → Type 0 where
  no_record : ¬ HasRecord y → ResponseReason way t y card slip rooms 44 0
  full_record : HasRecord y → Full (own_record y) → ResponseReason way t y card slip rooms 32 0
  of_table : {k s : ℕ} → Countable y → TableReason (takes way t) (RulesReason way (value_counts t) (rules_of t) card slip rooms) k s → ResponseReason way t y card slip rooms k s

-- The table has a slot, a slot has a value; names of them that the table has.
abbrev pub HasSlot : Table → ℕ → Type 0
HasSlot t s = (s < slot_limit) × (s < t.width)

abbrev pub HasValue : Slot → ℕ → Type 0
HasValue s v = (1 ≤ v) × (v ≤ value_limit) × (v ≤ s.count)

abbrev pub slot_at : Table → ℕ → Slot
slot_at t s = get_or t.slots s zero_slot

abbrev pub value_name_at : Slot → ℕ → stretch.Name
value_name_at s v = get_or s.values (v - 1) zero_name

-- A name is shown as the stretch of the text from its start, as long as its size, which lies inside the text.
pub record ShownInside (text : List ℕ) (n : stretch.Name) (s : Showing) : Type 0 where
  pub inside : n.start + n.size ≤ length text
  pub shown : s ≡ record { code = 0; start = n.start; part = take n.size (drop n.start text) }

-- 31 for the name of a slot: the table lacks the slot, or puts its name outside the text.
pub data SlotNameReason (text : List ℕ) (t : Table) (s : ℕ) : Type 0 where
  lacks_slot : (slot_limit ≤ s) ⊎ (t.width ≤ s) → SlotNameReason text t s
  slot_outside : HasSlot t s → length text < (slot_at t s).name.start + (slot_at t s).name.size → SlotNameReason text t s

-- 31 for the name of a value: the table lacks the slot, the slot the value, or the name stands outside the text.
pub data ValueNameReason (text : List ℕ) (t : Table) (s v : ℕ) : Type 0 where
  lacks_its_slot : (slot_limit ≤ s) ⊎ (t.width ≤ s) → ValueNameReason text t s v
  lacks_value : HasSlot t s → (v ≡ 0) ⊎ ((value_limit < v) ⊎ ((slot_at t s).count < v)) → ValueNameReason text t s v
  value_outside : HasSlot t s → HasValue (slot_at t s) v → length text < (value_name_at (slot_at t s) v).start + (value_name_at (slot_at t s) v).size → ValueNameReason text t s v
