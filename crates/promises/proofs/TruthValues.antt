-- Document 02, section 5: the lists of AND and NOT, and literals in any order.
-- Assumes nothing.
use Prim.Native.Nat.{ℕ}
use mathlib.Core.Path.{◌≡◌, sym, ap, ◌∙◌}
use mathlib.Core.List.{List}
use lib.ListN.{length}
use Rattle.model.specs.Rules.{Pair, Rule}
use Rattle.truths.proofs.Laws as laws
use Rattle.marks.specs.Marks.{declared_pairs}
use Rattle.marks.specs.Selection.{order_fired}
use Rattle.marks.specs.AnyOrder.{EachMoved}
use Rattle.marks.proofs.AnyOrder.{condition_any_order, rule_any_order, marks_same, refusal_same, selection_same}
use Rattle.table.specs.declared.Way.TheVariants.{Marks}
use Rattle.grammar.specs.Files.{File, slot_counts}
use Rattle.grammar.specs.Meaning.{IsFile}
use Rattle.rule_file.specs.Whole.{reading_without_18}
use Rattle.cards.specs.Forms.{read_card, read_slip}
use Rattle.tally.specs.Editors.{Editors}
use Rattle.response.specs.Ending.{answer_of, unless_refused, answer_by_marks}
use Rattle.response.specs.Respond.{Rooms, Outputs, ◌and_then◌, if_room, answer_by, answer_by_rules, rooms_of}
use Rattle.promises.specs.ByMarks.{SameReturned}
use Rattle.promises.specs.TruthValues.{TruthValues}
use Rattle.promises.proofs.Callers.{by_record}
use Rattle.promises.proofs.ByMarksStrata.{same_returned}
use Rattle.promises.proofs.ByMarksRead.{read_response}

module _ (counts : List ℕ) (rs rs' : List Rule) (M : EachMoved rs rs') where
  -- What the selection comes to is the same,
  marks_answer_same : (S : List ℕ) (I : List Pair) → answer_by_marks rs counts S I ≡ answer_by_marks rs' counts S I
  unfolding answer_by_marks
  marks_answer_same S I =
      let ps = declared_pairs counts in
      let same = selection_same ps rs rs' S I M in
      λ i. unless_refused (refusal_same ps rs rs' S I M (same i) i) (answer_of (length counts) (M.as_many i) S (marks_same ps rs rs' S I M (same i) i).positive (order_fired (same i)))

  -- and so is what comes before it.
  rules_answer_same : (card slip : List ℕ) (rooms : Rooms) → answer_by_rules Marks counts rs card slip rooms ≡ answer_by_rules Marks counts rs' card slip rooms
  unfolding answer_by_rules answer_by
  rules_answer_same card slip rooms = λ i. read_card counts card and_then λ S. read_slip counts slip and_then λ I. if_room (length counts) (M.as_many i) rooms (marks_answer_same S I i)

-- The same comes back for literals in another order.
same_any_order : (text text' : List ℕ) (f f' : File) → IsFile text f → IsFile text' f' → slot_counts f.slots ≡ slot_counts f'.slots → EachMoved f.rules f'.rules
    → (y : Editors) (card slip : List ℕ) (o : Outputs) → SameReturned Marks Marks (reading_without_18 text).table (reading_without_18 text').table y card slip o
same_any_order text text' f f' h h' e M y card slip o =
    let rooms = rooms_of o.card o.changes o.fired in
    same_returned Marks Marks (reading_without_18 text).table (reading_without_18 text').table y card slip o
    (read_response text f h y card slip rooms
    ∙ ap (by_record y) (rules_answer_same (slot_counts f.slots) f.rules f'.rules M card slip rooms ∙ ap (λ (counts : List ℕ). answer_by_rules Marks counts f'.rules card slip rooms) e)
    ∙ sym (read_response text' f' h' y card slip rooms))

-- DOCUMENT 02, SECTION 5.
pub truth_values : TruthValues
truth_values = record {
  and_in_words = laws.and_in_words;
  not_in_words = laws.not_in_words;
  and_smaller = laws.and_smaller;
  not_two_minus = laws.not_two_minus;
  condition_any_order = condition_any_order;
  rule_any_order = rule_any_order;
  response_any_order = same_any_order;
}
