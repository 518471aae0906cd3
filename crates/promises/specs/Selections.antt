-- Document 02, section 3: what the orders of selection and the orders of firing from a card and a slip come to, where the response by marks answers, gives 41 or gives 42.
-- Like demand 3 (Agreement) it is said of the file's rules, of all such orders and not of the engine's own.
use Rattle.std.specs.Prelude.{ℕ, ◌≡◌, List, ◌↔◌, T, length}
use Rattle.laws.specs.Answers.{taken}
use Rattle.model.specs.Rules.{Pair, among}
use Rattle.model.specs.Orders.{rule_at, changes, whole_order}
use Rattle.marks.specs.Marks.{declared_pairs, is_unknown, is_both}
use Rattle.marks.specs.Selection.{Move, order_fired, marks_after, whole_selection, selection, EndAlike}
use Rattle.grammar.specs.Files.{File, slot_counts}
use Rattle.grammar.specs.Meaning.{IsFile}
use Rattle.grammar.specs.Pieces.{Rearranges}
use Rattle.rule_file.specs.Whole.{reading_without_18}
use Rattle.cards.specs.Forms.{read_card, read_slip}
use Rattle.tally.specs.Editors.{Editors}
use Rattle.response.specs.Ending.{Answer}
use Rattle.response.specs.Respond.{Rooms, marks_answer_to, marks_response_to}
use Rattle.promises.specs.Reasons.{RoomRight, Countable}
use Rattle.promises.specs.Agreement.{InConflict, Shows, SameResponse, new_place}

-- What is handed in is in order: the slip can be counted, the card and the slip unpack, over the file's slots, to S and I, and the outputs have room (44, 32, 20 to 28, 30).
pub record HandedIn (f : File) (y : Editors) (card slip : List ℕ) (rooms : Rooms) : Type 0 where
  pub countable : Countable y
  pub S : List ℕ
  pub I : List Pair
  pub card_is : read_card (slot_counts f.slots) card ≡ taken S
  pub slip_is : read_slip (slot_counts f.slots) slip ≡ taken I
  pub room : RoomRight (length (slot_counts f.slots)) (length f.rules) rooms

-- Every declared pair of a file, NONE of each slot among them.
abbrev pub file_pairs : File → List Pair
file_pairs f = declared_pairs (slot_counts f.slots)

-- A complete order of selection by the file's rules, from the card S and the slip I; ours is one of them.
abbrev pub Selects : File → List ℕ → List Pair → List Move → Type 0
Selects f S I cs = T (whole_selection (file_pairs f) f.rules S I cs)

abbrev pub our_selection : File → List ℕ → List Pair → List Move
our_selection f S I = selection (file_pairs f) f.rules S I

-- It clashes: it ends with a declared pair that is both positive and negative.
abbrev pub Clashes : File → List Pair → List Move → Type 0
Clashes f I cs = (p : Pair) × T (among p (file_pairs f)) × T (is_both (marks_after f.rules I cs) p)

-- It leaves a declared pair unknown.
abbrev pub LeavesUnknown : File → List Pair → List Move → Type 0
LeavesUnknown f I cs = (p : Pair) × T (among p (file_pairs f)) × T (is_unknown (marks_after f.rules I cs) p)

-- What it comes to by its number: 41 exactly where it clashes; 42 exactly where it does not and leaves a pair unknown; 0 exactly where it does neither.
pub record ComesTo (f : File) (I : List Pair) (cs : List Move) (k : ℕ) : Type 0 where
  pub exactly_41 : (k ≡ 41) ↔ Clashes f I cs
  pub exactly_42 : (k ≡ 42) ↔ ((¬ Clashes f I cs) × LeavesUnknown f I cs)
  pub exactly_0 : (k ≡ 0) ↔ ((¬ Clashes f I cs) × (¬ LeavesUnknown f I cs))

-- The card and the slip unpack, over the file's slots, to S and I. There is a complete order of selection from S and I, ours; any two end in the same marks, have fired the same rules and come to the same number, or both end in 41;
-- and each comes to the number k.
pub record SelectionsAgree (f : File) (card slip : List ℕ) (k : ℕ) : Type 0 where
  pub S : List ℕ
  pub I : List Pair
  pub card_is : read_card (slot_counts f.slots) card ≡ taken S
  pub slip_is : read_slip (slot_counts f.slots) slip ≡ taken I
  pub ours : Selects f S I (our_selection f S I)
  pub all_alike : (a b : List Move) → Selects f S I a → Selects f S I b → EndAlike (file_pairs f) S I f.rules f.rules (λ n. n) a b
  pub each_comes : (cs : List Move) → Selects f S I cs → ComesTo f I cs k

-- The rules fired by an order of selection, in the order fired, are a complete and consistent firing order, the answer shows it, and its changes are the positive pairs.
pub record ShowsSelection (f : File) (S : List ℕ) (I : List Pair) (a : Answer) (cs : List Move) : Type 0 where
  pub whole : T (whole_order f.rules S I (order_fired cs))
  pub shows : Shows f S I a (order_fired cs)
  pub positives : (marks_after f.rules I cs).positive ≡ changes f.rules I (order_fired cs)

-- An answer. Every complete order of selection, ours among them, has its changes and its fired rules; and so has every complete and consistent firing order that ends with no slot in conflict, of which there is one: the rules that we fire.
pub record OwedAnswer (f : File) (card slip : List ℕ) (a : Answer) : Type 0 where
  pub S : List ℕ
  pub I : List Pair
  pub card_is : read_card (slot_counts f.slots) card ≡ taken S
  pub slip_is : read_slip (slot_counts f.slots) slip ≡ taken I
  pub each_selection : (cs : List Move) → Selects f S I cs → ShowsSelection f S I a cs
  pub ours : ShowsSelection f S I a (our_selection f S I)
  pub each_order : (ns : List ℕ) → T (whole_order f.rules S I ns) → ((s : ℕ) → ¬ InConflict (changes f.rules I ns) s) → Shows f S I a ns

-- 41: every complete and consistent firing order has a slot in conflict.
pub record OwedClash (f : File) (card slip : List ℕ) : Type 0 where
  pub S : List ℕ
  pub I : List Pair
  pub card_is : read_card (slot_counts f.slots) card ≡ taken S
  pub slip_is : read_slip (slot_counts f.slots) slip ≡ taken I
  pub each_order : (ns : List ℕ) → T (whole_order f.rules S I ns) → (s : ℕ) × InConflict (changes f.rules I ns) s

-- A rearranged text is a file too, with the same slots and each rule in its new place, and by the tables of both the same card, slip, editor, records and rooms get the same response by marks and the same records after it.
pub record UnmovedMarks (f : File) (text text' : List ℕ) (R : Rearranges text text') : Type 0 where
  pub file : File
  pub is_file : IsFile text' file
  pub same_slots : file.slots ≡ f.slots
  pub same_rules : (n : ℕ) → rule_at file.rules (new_place R n) ≡ rule_at f.rules n
  pub same_bytes : (y : Editors) (card slip : List ℕ) (rooms : Rooms)
      → SameResponse (new_place R) (marks_answer_to (reading_without_18 text).table y card slip rooms) (marks_answer_to (reading_without_18 text').table y card slip rooms)
  pub same_outcome : (y : Editors) (card slip : List ℕ) (rooms : Rooms)
      → marks_response_to (reading_without_18 text).table y card slip rooms ≡ marks_response_to (reading_without_18 text').table y card slip rooms
