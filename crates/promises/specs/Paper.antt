-- Demand 2: a rule file is read as the published grammar and the slot lines have it, and refused for want of strata only when no layering exists, and always then;
-- each response is the paper's declarative response in which every fired rule stays enabled; accepted cards and slips unpack and pack back to the same bytes.
use Rattle.std.specs.Prelude.{ℕ, ◌≤◌, ◌≡◌, List, ◌↔◌, length}
use Rattle.laws.specs.Answers.{taken, written}
use Rattle.laws.specs.Packed.{Bytes}
use Rattle.model.specs.Rules.{Pair}
use Rattle.model.specs.Orders.{changes}
use Rattle.model.specs.Strata.{weak, Strata}
use Rattle.model.specs.Least.{LeastStrata}
use Rattle.model.specs.Circles.{LowestThroughNot}
use Rattle.model.specs.Paper.{NoneFireable, RuleConsistent, DeclarativeResponse, Correct, firing_of, firings}
use Rattle.table.specs.declared.Table.{Table}
use Rattle.table.specs.Link.{rules_of, stratum_at, value_counts}
use Rattle.grammar.specs.Files.{File, slot_counts}
use Rattle.grammar.specs.Meaning.{IsFile}
use Rattle.reader.specs.Tables.{reading_refusal, reading_second}
use Rattle.rule_file.specs.Whole.{reading}
use Rattle.cards.specs.Forms.{read_card, read_slip}
use Rattle.cards.specs.Packings.{Packed}
use Rattle.cards.specs.Cards.{unpacking_refusal}
use Rattle.tally.specs.Editors.{Editors}
use Rattle.response.specs.Ending.{Answer}
use Rattle.response.specs.Respond.{Outputs, response_refusal, response_second}
use Rattle.promises.specs.Returned.{IsAccepted, card_told, slip_told, card_packing, card_left, slip_packing, slip_left, response_told, Answers}
use Rattle.promises.specs.Agreement.{Shows, LowestConflict}

-- The card and the slip unpack, over the file's slots, to S and I, and the rules fired from there are a declarative response (Definition 1) that has ended, every fired rule still enabled.
pub record Declarative (f : File) (card slip : List ℕ) (S : List ℕ) (I : List Pair) (ns : List ℕ) : Type 0 where
  pub card_is : read_card (slot_counts f.slots) card ≡ taken S
  pub slip_is : read_slip (slot_counts f.slots) slip ≡ taken I
  pub declarative : DeclarativeResponse f.rules S I (firings f.rules I ns)
  pub ended : NoneFireable f.rules S (firing_of f.rules I ns)
  pub stays_enabled : RuleConsistent f.rules S (firing_of f.rules I ns)

-- An answer shows that response, which is then correct (Definition 2).
pub record PaperAnswer (f : File) (card slip : List ℕ) (a : Answer) : Type 0 where
  pub S : List ℕ
  pub I : List Pair
  pub fired : List ℕ
  pub response : Declarative f card slip S I fired
  pub shows : Shows f S I a fired
  pub correct : Correct f.rules S I (firing_of f.rules I fired)

-- 40 names the lowest slot to which that response gives two values.
pub record PaperConflict (f : File) (card slip : List ℕ) (s : ℕ) : Type 0 where
  pub S : List ℕ
  pub I : List Pair
  pub fired : List ℕ
  pub response : Declarative f card slip S I fired
  pub lowest : LowestConflict (changes f.rules I fired) s

pub record Demand2 : Type 0 where
  -- Accepted: exactly the texts of files whose rules have strata; the table has the file's rules, as many values for each slot, and the least strata.
  pub accepted : (text : List ℕ) → ((f : File) × IsFile text f × ((u : ℕ → ℕ) × Strata weak f.rules u)) ↔ IsAccepted text
  pub carried : (text : List ℕ) (f : File) → IsFile text f → IsAccepted text
      → (rules_of (reading text).table ≡ f.rules) × (value_counts (reading text).table ≡ slot_counts f.slots) × LeastStrata weak f.rules (stratum_at (reading text).table)
  -- 18: exactly the texts of files whose rules have none;
  pub no_strata : (text : List ℕ) → (reading_refusal (reading text).outcome ≡ 18) ↔ ((f : File) × IsFile text f × ((u : ℕ → ℕ) → ¬ Strata weak f.rules u))
  -- and these are exactly the texts of files with a circle through a NOT, of which it names the lowest rule.
  pub circle : (text : List ℕ) (n : ℕ) → ((reading_refusal (reading text).outcome ≡ 18) × (reading_second (reading text).outcome ≡ n)) ↔ ((f : File) × IsFile text f × LowestThroughNot f.rules n)
  -- Each answer, and each conflict, by an accepted file.
  pub each_answer : (text : List ℕ) (f : File) → IsFile text f → IsAccepted text → (y : Editors) (card slip : List ℕ) (o : Outputs)
      → response_refusal (response_told (reading text).table y card slip o).outcome ≡ 0 → (a : Answer) × Answers (reading text).table y card slip o a × PaperAnswer f card slip a
  pub each_conflict : (text : List ℕ) (f : File) → IsFile text f → IsAccepted text → (y : Editors) (card slip : List ℕ) (o : Outputs)
      → response_refusal (response_told (reading text).table y card slip o).outcome ≡ 40 → PaperConflict f card slip (response_second (response_told (reading text).table y card slip o).outcome)
  -- The same bytes back: what unpacking returned, packed into an output that has room for them, by any table.
  pub card_back : (t : Table) (ys out : List ℕ) → Bytes ys → length ys ≤ length out → unpacking_refusal (card_told t ys).outcome ≡ 0
      → (card_packing t (card_told t ys).card out ≡ Packed (length ys)) × (card_left t (card_told t ys).card out ≡ written ys out)
  pub slip_back : (t : Table) (ys out : List ℕ) → Bytes ys → length ys ≤ length out → unpacking_refusal (slip_told t ys).outcome ≡ 0
      → (slip_packing t (slip_told t ys).slip out ≡ Packed (length ys)) × (slip_left t (slip_told t ys).slip out ≡ written ys out)
