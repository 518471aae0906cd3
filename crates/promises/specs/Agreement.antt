-- Document 01, 'Agreement': demand 3 is one claim about whole firing orders, all that are complete and consistent.
-- They know the rules of the file as the grammar reads it, the card S and the slip I, and no strata.
use Rattle.std.specs.Prelude.{ℕ, ◌<◌, ◌≡◌, List, T, length, get_or}
use Rattle.laws.specs.Numbers.{how_many}
use Rattle.laws.specs.Rearranged.{under, goes}
use Rattle.laws.specs.Packed.{byte_count}
use Rattle.model.specs.Rules.{Pair, Pairs, among}
use Rattle.model.specs.Orders.{rule_at, names, changes, whole_order}
use Rattle.model.specs.Result.{pair}
use Rattle.model.specs.Strata.{weak}
use Rattle.model.specs.Response.{response}
use Rattle.grammar.specs.Files.{File, slot_counts}
use Rattle.grammar.specs.Meaning.{IsFile}
use Rattle.grammar.specs.Pieces.{Rearranges}
use Rattle.reader.specs.Tables.{Accepted}
use Rattle.rule_file.specs.Whole.{reading}
use Rattle.laws.specs.Answers.{OrRefused, taken, refused}
use Rattle.cards.specs.Forms.{read_card, read_slip}
use Rattle.tally.specs.Editors.{Editors}
use Rattle.results.specs.Record.{bit_of, ones_in}
use Rattle.response.specs.Ending.{Answer}
use Rattle.response.specs.Respond.{Rooms, answer_to, response_to}

-- The response by the table that a text is read to: the bytes of an answer, or a refusal with both its numbers.
abbrev pub responds : List ℕ → Editors → List ℕ → List ℕ → Rooms → OrRefused Answer
responds text y card slip rooms = answer_to (reading text).table y card slip rooms

-- A slot is in conflict: it has two or more values in C.
unfoldable pub InConflict : Pairs → ℕ → Type 0
InConflict C s = (v : ℕ) × (w : ℕ) × (v < w) × T (C (pair s v)) × T (C (pair s w))

-- It is the lowest such slot.
pub record LowestConflict (C : Pairs) (s : ℕ) : Type 0 where
  pub conflict : InConflict C s
  pub lowest : (r : ℕ) → r < s → ¬ InConflict C r

-- An answer shows an order: its C is exactly the set of pairs in the changes, it names exactly the rules whose bit is one in the fired record, which has one bit for each rule, padded to bytes, no slot is in conflict,
-- and the new card has C's value where C has one, else S's. The changes and the new card are a slip and a card of the file.
pub record Shows (f : File) (S : List ℕ) (I : List Pair) (a : Answer) (ns : List ℕ) : Type 0 where
  pub pairs : List Pair
  pub changes_are : read_slip (slot_counts f.slots) a.changes ≡ taken pairs
  pub same_changes : (p : Pair) → changes f.rules I ns p ≡ among p pairs
  pub same_fired : (n : ℕ) → names ns n ≡ bit_of a.fired n
  pub fired_length : length a.fired ≡ byte_count (length f.rules)
  pub how_many_fired : (ones_in a.fired ≡ how_many (names ns) (length f.rules)) × (ones_in a.fired ≡ length ns)
  pub no_conflict : (s : ℕ) → ¬ InConflict (changes f.rules I ns) s
  pub values : List ℕ
  pub card_is : read_card (slot_counts f.slots) a.new_card ≡ taken values
  pub new_value : (s v : ℕ) → T (changes f.rules I ns (pair s v)) → get_or values s 0 ≡ v
  pub old_value : (s : ℕ) → ((v : ℕ) → ¬ T (changes f.rules I ns (pair s v))) → get_or values s 0 ≡ get_or S s 0

-- The card and the slip unpack, over the file's slots, to S and I. There is a complete and consistent firing order from S and I, and any two end with the same C and
-- name the same rules; our fired rules in the order fired are such an order; and each is as `Shown` says.
pub record Agreed (f : File) (card slip : List ℕ) (Shown : List ℕ → List Pair → List ℕ → Type 0) : Type 0 where
  pub S : List ℕ
  pub I : List Pair
  pub card_is : read_card (slot_counts f.slots) card ≡ taken S
  pub slip_is : read_slip (slot_counts f.slots) slip ≡ taken I
  pub some_order : (ns : List ℕ) × T (whole_order f.rules S I ns)
  pub all_agree : (a b : List ℕ) → T (whole_order f.rules S I a) → T (whole_order f.rules S I b) → (changes f.rules I a ≡ changes f.rules I b) × (names a ≡ names b)
  pub ours : T (whole_order f.rules S I (response weak f.rules S I))
  pub each_order : (ns : List ℕ) → T (whole_order f.rules S I ns) → Shown S I ns

-- The same refusal with both its numbers, or the same changes and new card, as many rules fired, and a rule's bit is one in its new place exactly when it is in its old one.
pub data SameResponse (place : ℕ → ℕ) : OrRefused Answer → OrRefused Answer → Type 0 where
  same_refusal : {k s : ℕ} → SameResponse place (refused k s) (refused k s)
  same_answer : {a b : Answer} → a.changes ≡ b.changes → a.new_card ≡ b.new_card → ones_in a.fired ≡ ones_in b.fired
      → ((n : ℕ) → bit_of a.fired n ≡ bit_of b.fired (place n)) → SameResponse place (taken a) (taken b)

-- The new place of a rule in a rearranged text: that of its piece.
abbrev pub new_place : {text text' : List ℕ} → Rearranges text text' → ℕ → ℕ
new_place R = under (goes R.rules)

-- A rearranged text is accepted with the same slots and each rule in its new place, and the same card, slip, editor, records and rooms get the same response and the same records after it.
pub record Unmoved (f : File) (text text' : List ℕ) (R : Rearranges text text') : Type 0 where
  pub accepted_too : (reading text').outcome ≡ Accepted
  pub file : File
  pub is_file : IsFile text' file
  pub same_slots : file.slots ≡ f.slots
  pub same_rules : (n : ℕ) → rule_at file.rules (new_place R n) ≡ rule_at f.rules n
  pub same_bytes : (y : Editors) (card slip : List ℕ) (rooms : Rooms) → SameResponse (new_place R) (responds text y card slip rooms) (responds text' y card slip rooms)
  pub same_outcome : (y : Editors) (card slip : List ℕ) (rooms : Rooms) → response_to (reading text).table y card slip rooms ≡ response_to (reading text').table y card slip rooms

-- Demand 3 for a text that is accepted as the file f: where the response answers, where it gives 40, and for every rearrangement.
pub record Demand3 (text : List ℕ) (f : File) : Type 0 where
  pub where_answered : (y : Editors) (card slip : List ℕ) (rooms : Rooms) (a : Answer) → responds text y card slip rooms ≡ taken a
      → Agreed f card slip (λ S I ns. Shows f S I a ns)
  pub where_40 : (y : Editors) (card slip : List ℕ) (rooms : Rooms) (s : ℕ) → responds text y card slip rooms ≡ refused 40 s
      → Agreed f card slip (λ S I ns. LowestConflict (changes f.rules I ns) s)
  pub where_rearranged : (text' : List ℕ) (R : Rearranges text text') → Unmoved f text text' R
