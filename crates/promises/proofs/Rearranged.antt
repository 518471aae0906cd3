-- A rearranged text is accepted, and every response is the same, with each rule's bit in its new place.
-- Assumes nothing.
use Prim.Native.Nat.{ℕ}
use mathlib.Core.Path.{◌≡◌, refl, ap, subst, ◌∙◌}
use mathlib.Core.Bool.{Bool, true, false, cond}
use mathlib.Core.List.{List}
use lib.Dec.{T, ltb}
use lib.ListN.{length}
use Rattle.laws.specs.Rearranged.{Perm, under, goes}
use Rattle.laws.proofs.Rearranged.{p_length}
use Rattle.model.specs.Rules.{Pair, Pairs, Rule}
use Rattle.model.specs.Orders.{names, changes, firing_order}
use Rattle.model.specs.Strata.{weak}
use Rattle.model.specs.Circles.{circle_of}
use Rattle.model.specs.Least.{strata_of}
use Rattle.model.specs.Response.{response}
use Rattle.model.specs.Result.{conflict_slot}
use Rattle.model.proofs.Orders.{whole_e}
use Rattle.model.proofs.Strata.{least_strata}
use Rattle.model.proofs.Demand3.{response_is_whole}
use Rattle.model.proofs.Rearranged.{accepted_too, rearranged_response}
use Rattle.laws.specs.Limits.{row}
use Rattle.table.specs.declared.Way.TheVariants.{Strata}
use Rattle.grammar.specs.Files.{File, slot_counts}
use Rattle.grammar.specs.Meaning.{IsFile}
use Rattle.grammar.specs.Pieces.{Rearranges}
use Rattle.reader.specs.Tables.{Accepted}
use Rattle.rule_file.specs.Whole.{reading}
use Rattle.rule_file.proofs.Answers.{reading_accepted_iff}
use Rattle.laws.specs.Answers.{taken, refused}
use Rattle.tally.specs.Editors.{Editors}
use Rattle.results.specs.Record.{bit_of}
use Rattle.response.specs.Ending.{fired_record, answer_of, unless_conflict, answer_by_firing}
use Rattle.response.specs.Respond.{Rooms, answer_by, response_in}
use Rattle.promises.specs.Agreement.{responds, SameResponse, same_refusal, same_answer, new_place, Unmoved}
use Rattle.promises.proofs.Ends.{file_response, file_no_circle}
use Rattle.promises.proofs.Moved.{MovedFile, moved_file, same_by_record, same_by_rules, same_told, moved_bit, as_many}

module _ (rs rs' : List Rule) (q : Perm rs rs') (z : circle_of weak rs ≡ 0) (S : List ℕ) (I : List Pair) where
  abbrev ours : List ℕ
  ours = response weak rs S I

  abbrev theirs : List ℕ
  theirs = response weak rs' S I

  our_order : T (firing_order rs S I ours)
  our_order = (whole_e rs S I ours (response_is_whole weak rs S I z)).order

  their_order : T (firing_order rs' S I theirs)
  their_order = (whole_e rs' S I theirs (response_is_whole weak rs' S I (accepted_too weak rs rs' q z))).order

  -- The ending of both.
  same_by_firing : (place : ℕ → ℕ) → ((n : ℕ) → under (goes q) n ≡ place n) → (width : ℕ) → SameResponse place (answer_by_firing rs width S I) (answer_by_firing rs' width S I)
  unfolding answer_by_firing unless_conflict answer_of
  same_by_firing place e width =
      let same = rearranged_response weak rs rs' q z S I in
      subst (λ (D : Pairs). SameResponse place (unless_conflict width (length rs) S (changes rs I ours) ours) (unless_conflict width (length rs') S D theirs)) same.1
      (go (ltb (conflict_slot width row (changes rs I ours)) width) same.0)
    where
      go : (b : Bool) → ((n : ℕ) → names ours n ≡ names theirs (under (goes q) n)) → SameResponse place
          (cond b (refused 40 (conflict_slot width row (changes rs I ours))) (taken (answer_of width (length rs) S (changes rs I ours) ours)))
          (cond b (refused 40 (conflict_slot width row (changes rs I ours))) (taken (answer_of width (length rs') S (changes rs I ours) theirs)))
      go true same = same_refusal
      go false same = same_answer refl refl (as_many rs rs' q S I ours theirs our_order their_order same) (λ n. moved_bit rs rs' q S I ours theirs our_order their_order same n ∙ ap (bit_of (fired_record (length rs') theirs)) (e n))

-- A rearranged text is accepted, and every response is the same.
pub unmoved : (text : List ℕ) (f : File) → IsFile text f → (reading text).outcome ≡ Accepted → (text' : List ℕ) (R : Rearranges text text') → Unmoved f text text' R
unfolding response_in answer_by
unmoved text f h o text' R = record {
  accepted_too = o';
  file = f';
  is_file = moved.is_file;
  same_slots = refl;
  same_rules = moved.same_rules;
  same_bytes = same;
  same_outcome = λ y card slip rooms. same_told (new_place R) y (responds text y card slip rooms) (responds text' y card slip rooms) (same y card slip rooms);
}
  where
    moved : MovedFile f text text' R
    moved = moved_file f text text' R h

    z : circle_of weak f.rules ≡ 0
    z = file_no_circle text f h o

    f' : File
    f' = record { slots = f.slots; rules = moved.rules }

    o' : (reading text').outcome ≡ Accepted
    o' = (reading_accepted_iff text').0 (f', moved.is_file, (strata_of weak moved.rules, least_strata weak moved.rules (accepted_too weak f.rules moved.rules moved.perm z)))

    same : (y : Editors) (card slip : List ℕ) (rooms : Rooms) → SameResponse (new_place R) (responds text y card slip rooms) (responds text' y card slip rooms)
    same y card slip rooms =
        rw (file_response Strata text f h o y card slip rooms, file_response Strata text' f' moved.is_file o' y card slip rooms)
        (same_by_record (new_place R) y _ _
        (same_by_rules (new_place R) Strata (slot_counts f.slots) f.rules moved.rules (p_length moved.perm) card slip rooms
        (λ S I e. same_by_firing f.rules moved.rules moved.perm z S I (new_place R) moved.places (length (slot_counts f.slots)))))
