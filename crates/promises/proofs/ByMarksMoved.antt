-- A rearranged text is a file, and every response by marks is the same, with each rule's bit in its new place.
-- Assumes nothing.
use Prim.Native.Nat.{ℕ, zero, suc}
use mathlib.Core.Path.{◌≡◌, refl, sym, ap, subst, ◌∙◌}
use mathlib.Core.Bool.{Bool}
use mathlib.Core.List.{List}
use mathlib.Core.Logic.{⊎_elim}
use lib.Dec.{T}
use lib.ListN.{length}
use Rattle.laws.specs.Rearranged.{Perm, under, goes}
use Rattle.laws.specs.Answers.{taken}
use Rattle.laws.proofs.Rearranged.{p_length}
use Rattle.laws.proofs.Truth.{and_l}
use Rattle.model.specs.Rules.{Pair, Rule}
use Rattle.model.specs.Orders.{names, firing_order}
use Rattle.model.proofs.Changes.{names_reverse}
use Rattle.marks.specs.Marks.{Marks, declared_pairs}
use Rattle.marks.specs.Selection.{Move, fired, order_fired, marks_after, whole_selection, selection_refusal, selection, EndAlike}
use Rattle.marks.specs.inner.Declared.{Declared}
use Rattle.marks.proofs.Sweeps.{selection_whole}
use Rattle.marks.proofs.Answered.{fired_order}
use Rattle.marks.proofs.Correct.{rearranged_selection}
use Rattle.table.specs.declared.Way.TheVariants as ways
use Rattle.grammar.specs.Files.{File, slot_counts}
use Rattle.grammar.specs.Meaning.{IsFile}
use Rattle.grammar.specs.Pieces.{Rearranges}
use Rattle.grammar.proofs.Declared.{file_declared}
use Rattle.rule_file.specs.Whole.{reading_without_18}
use Rattle.cards.proofs.Having.{slip_tested}
use Rattle.tally.specs.Editors.{Editors}
use Rattle.results.specs.Record.{bit_of}
use Rattle.response.specs.Ending.{Answer, fired_record, answer_of, unless_refused, answer_by_marks}
use Rattle.response.specs.Respond.{Rooms, answer_by, marks_answer_to, response_in}
use Rattle.promises.specs.Agreement.{SameResponse, same_refusal, same_answer, new_place}
use Rattle.promises.specs.Selections.{UnmovedMarks}
use Rattle.promises.proofs.Moved.{MovedFile, moved_file, same_by_record, same_by_rules, same_told, moved_bit, as_many}
use Rattle.promises.proofs.ByMarksEnds.{file_declares}
use Rattle.promises.proofs.ByMarksRead.{read_response}

-- Equal numbers give the same refusal, or answers that are the same.
same_unless : (place : ℕ → ℕ) (j k : ℕ) (a b : Answer) → j ≡ k → SameResponse place (taken a) (taken b) → SameResponse place (unless_refused j a) (unless_refused k b)
unfolding unless_refused
same_unless place j k a b e h = subst (λ (i : ℕ). SameResponse place (unless_refused j a) (unless_refused i b)) e (go j)
  where
    go : (i : ℕ) → SameResponse place (unless_refused i a) (unless_refused i b)
    go zero = h
    go (suc i) = same_refusal

module _ (counts : List ℕ) (rs rs' : List Rule) (q : Perm rs rs') (S : List ℕ) (I : List Pair) (D : Declared (declared_pairs counts) rs I) (D' : Declared (declared_pairs counts) rs' I) where
  -- The selections of both lists of rules.
  abbrev ours : List Move
  ours = selection (declared_pairs counts) rs S I

  abbrev theirs : List Move
  theirs = selection (declared_pairs counts) rs' S I

  -- The rules fired by both are firing orders.
  our_order : T (firing_order rs S I (order_fired ours))
  unfolding whole_selection
  our_order = fired_order (declared_pairs counts) rs S I D ours (and_l _ _ (selection_whole (declared_pairs counts) rs S I))

  their_order : T (firing_order rs' S I (order_fired theirs))
  unfolding whole_selection
  their_order = fired_order (declared_pairs counts) rs' S I D' theirs (and_l _ _ (selection_whole (declared_pairs counts) rs' S I))

  -- They name the rules fired.
  order_names : (cs : List Move) (n : ℕ) → names (order_fired cs) n ≡ names (fired cs) n
  unfolding order_fired
  order_names cs n = ap (λ (h : ℕ → Bool). h n) (names_reverse (fired cs))

  -- Their answers.
  abbrev our_answer : Answer
  our_answer = answer_of (length counts) (length rs) S (marks_after rs I ours).positive (order_fired ours)

  abbrev their_answer : Answer
  their_answer = answer_of (length counts) (length rs') S (marks_after rs' I theirs).positive (order_fired theirs)

  module _ (place : ℕ → ℕ) (e : (n : ℕ) → under (goes q) n ≡ place n) where
    -- The answers are the same where the marks are and each rule is fired at its new number.
    same_answers : marks_after rs I ours ≡ marks_after rs' I theirs → ((n : ℕ) → names (order_fired ours) n ≡ names (order_fired theirs) (under (goes q) n)) → SameResponse place (taken our_answer) (taken their_answer)
    unfolding answer_of
    same_answers m same =
        subst (λ (Z : Marks). SameResponse place (taken our_answer) (taken (answer_of (length counts) (length rs') S Z.positive (order_fired theirs)))) m
        (same_answer refl refl (as_many rs rs' q S I (order_fired ours) (order_fired theirs) our_order their_order same)
        (λ n. moved_bit rs rs' q S I (order_fired ours) (order_fired theirs) our_order their_order same n ∙ ap (bit_of (fired_record (length rs') (order_fired theirs))) (e n)))

    -- What both selections come to.
    same_by_marks : SameResponse place (answer_by_marks rs counts S I) (answer_by_marks rs' counts S I)
    unfolding answer_by_marks EndAlike unless_refused
    same_by_marks =
        ⊎_elim
        (λ w. rw (w.0, w.1) same_refusal)
        (λ w. same_unless place (selection_refusal (declared_pairs counts) rs S I ours) (selection_refusal (declared_pairs counts) rs' S I theirs) our_answer their_answer w.2
        (same_answers w.0 (λ n. order_names ours n ∙ w.1 n ∙ sym (order_names theirs (under (goes q) n)))))
        (rearranged_selection (declared_pairs counts) rs rs' q S I D)

-- A rearranged text is a file, and every response by marks is the same.
pub unmoved_marks : (text : List ℕ) (f : File) → IsFile text f → (text' : List ℕ) (R : Rearranges text text') → UnmovedMarks f text text' R
unfolding response_in answer_by
unmoved_marks text f h text' R = record {
  file = f';
  is_file = moved.is_file;
  same_slots = refl;
  same_rules = moved.same_rules;
  same_bytes = same;
  same_outcome = λ y card slip rooms. same_told (new_place R) y (marks_answer_to (reading_without_18 text).table y card slip rooms) (marks_answer_to (reading_without_18 text').table y card slip rooms) (same y card slip rooms);
}
  where
    moved : MovedFile f text text' R
    moved = moved_file f text text' R h

    f' : File
    f' = record { slots = f.slots; rules = moved.rules }

    same : (y : Editors) (card slip : List ℕ) (rooms : Rooms) → SameResponse (new_place R) (marks_answer_to (reading_without_18 text).table y card slip rooms) (marks_answer_to (reading_without_18 text').table y card slip rooms)
    same y card slip rooms =
        rw (read_response text f h y card slip rooms, read_response text' f' moved.is_file y card slip rooms)
        (same_by_record (new_place R) y _ _
        (same_by_rules (new_place R) ways.Marks (slot_counts f.slots) f.rules moved.rules (p_length moved.perm) card slip rooms
        (λ S I e. same_by_marks (slot_counts f.slots) f.rules moved.rules moved.perm S I
        (file_declares f (file_declared text f h) I (slip_tested (slot_counts f.slots) slip I e)) (file_declares f' (file_declared text' f' moved.is_file) I (slip_tested (slot_counts f.slots) slip I e)) (new_place R) moved.places)))
