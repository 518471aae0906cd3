-- What comes of a call of the response by marks with a table of a file, by its numbers.
-- Assumes nothing.
use Prim.Native.Nat.{ℕ, zero, suc}
use native.Mathlib.Omega.{arith}
use mathlib.Core.Path.{◌≡◌, refl, sym, ap, subst, ◌∙◌}
use mathlib.Core.Bool.{Bool, true, false, cond}
use mathlib.Core.List.{List}
use mathlib.Core.Logic.{◌⊎◌, inl, inr, ⊎_elim}
use lib.Dec.{T}
use Rattle.laws.specs.Answers.{OrRefused, taken}
use Rattle.model.specs.Rules.{Pair}
use Rattle.marks.specs.Selection.{no_clash, all_known, selection_refusal}
use Rattle.table.specs.declared.Table.{Table}
use Rattle.table.specs.declared.Way.TheVariants.{Marks}
use Rattle.table.specs.Link.{rules_of, value_counts}
use Rattle.soundness.specs.Sound.{takes}
use Rattle.grammar.specs.Files.{File, slot_counts}
use Rattle.grammar.proofs.Declared.{DeclaredFile}
use Rattle.tally.specs.Editors.{Editors}
use Rattle.response.specs.Ending.{Answer, unless_refused, answer_by_marks}
use Rattle.response.specs.Respond.{Rooms, Outputs, rooms_of, answer_by, answer_in, response_in, outcome_of, response_refusal, response_second}
use Rattle.promises.specs.Returned.{number_in, second_in}
use Rattle.promises.specs.Paper.{PaperAnswer}
use Rattle.promises.specs.Selections.{HandedIn, file_pairs, our_selection, SelectionsAgree, OwedAnswer}
use Rattle.promises.specs.ByMarks.{MarksAnswered, MarksCalled}
use Rattle.promises.proofs.Ends.{Final, taken_response, in_order_comes, ends_in_order}
use Rattle.promises.proofs.Engines.{taken_no_31}
use Rattle.promises.proofs.Returned.{answers, number_0, number_above}
use Rattle.promises.proofs.ByMarksEnds.{selections_agree, marks_answer, taken_by_marks}
use Rattle.promises.proofs.ByMarksAnswers.{owed_answer, paper_answer, owed_clash}

-- The numbers of what a selection comes to.
numbers_unless : (k : ℕ) (a : Answer) → (response_refusal (outcome_of (unless_refused k a)) ≡ k) × (response_second (outcome_of (unless_refused k a)) ≡ 0)
unfolding unless_refused outcome_of
numbers_unless zero a = (refl, refl)
numbers_unless (suc k) a = (refl, refl)

-- It is one of three.
pub three_numbers : (f : File) (S : List ℕ) (I : List Pair) → (selection_refusal (file_pairs f) f.rules S I (our_selection f S I) ≡ 0)
    ⊎ ((selection_refusal (file_pairs f) f.rules S I (our_selection f S I) ≡ 41) ⊎ (selection_refusal (file_pairs f) f.rules S I (our_selection f S I) ≡ 42))
unfolding selection_refusal
three_numbers f S I = go (no_clash (file_pairs f) f.rules S I (our_selection f S I)) (all_known (file_pairs f) f.rules S I (our_selection f S I))
  where
    go : (clear known : Bool) → (◌≡◌ {A = ℕ} (cond clear (cond known 0 42) 41) 0) ⊎ ((◌≡◌ {A = ℕ} (cond clear (cond known 0 42) 41) 41) ⊎ (◌≡◌ {A = ℕ} (cond clear (cond known 0 42) 41) 42))
    go true true = inl refl
    go true false = inr (inr refl)
    go false known = inr (inl refl)

module _ (f : File) (D : DeclaredFile f) (t : Table) (h : T (takes Marks t)) (r : rules_of t ≡ f.rules) (n : value_counts t ≡ slot_counts f.slots) (y : Editors) (card slip : List ℕ) (o : Outputs) where
  abbrev rooms : Rooms
  rooms = rooms_of o.card o.changes o.fired

  abbrev number : ℕ
  number = number_in Marks t y card slip o

  -- The number that the selection comes to.
  abbrev selected : HandedIn f y card slip rooms → ℕ
  selected d = selection_refusal (file_pairs f) f.rules d.S d.I (our_selection f d.S d.I)

  -- Where all is in order these are the numbers.
  pub in_order_numbers : (d : HandedIn f y card slip rooms) → (number ≡ selected d) × (second_in Marks t y card slip o ≡ 0)
  unfolding response_in answer_by answer_by_marks
  in_order_numbers d =
      let e = taken_response Marks f t h r n y card slip rooms ∙ in_order_comes f y card slip rooms Marks d in
      let w = numbers_unless (selected d) (marks_answer f d.S d.I) in
      (ap (λ (u : OrRefused Answer). response_refusal (outcome_of u)) e ∙ w.0, ap (λ (u : OrRefused Answer). response_second (outcome_of u)) e ∙ w.1)

  -- It ends so there alone.
  ended : (w : OrRefused Answer) → Final w → answer_in Marks t y card slip rooms ≡ w → (d : HandedIn f y card slip rooms) × (answer_by Marks (slot_counts f.slots) f.rules d.S d.I ≡ w)
  ended w l e = ends_in_order f y card slip rooms Marks w l (sym (taken_response Marks f t h r n y card slip rooms) ∙ e)

  -- So where the number is 41 or 42.
  pub handed_41 : number ≡ 41 → HandedIn f y card slip rooms
  handed_41 e = (ended _ (inr (inl refl)) (number_above Marks t y card slip o 41 (omega arith) e)).0

  pub handed_42 : number ≡ 42 → HandedIn f y card slip rooms
  handed_42 e = (ended _ (inr (inr (inl refl))) (number_above Marks t y card slip o 42 (omega arith) e)).0

  -- An answer is that of the selection, which is accepted.
  answered : number ≡ 0 → MarksAnswered f t y card slip o
  unfolding answer_by
  answered e =
      let w = number_0 Marks t y card slip o e in
      let d = ended (taken w.0) tt w.1 in
      let c = taken_by_marks f d.0.S d.0.I w.0 d.1 in
      record {
        answer = w.0;
        returned = answers Marks t y card slip o w.0 w.1;
        paper = subst (PaperAnswer f card slip) c.1 (paper_answer f D card slip d.0.S d.0.I d.0.card_is d.0.slip_is c.0);
        owed = subst (OwedAnswer f card slip) c.1 (owed_answer f D card slip d.0.S d.0.I d.0.card_is d.0.slip_is c.0);
      }

  -- All that is promised of a call.
  pub marks_called : MarksCalled f t y card slip o
  marks_called = record {
    ends = (
      λ e. ⊎_elim (λ a. (ended _ tt (number_0 Marks t y card slip o a).1).0) (λ e. ⊎_elim handed_41 handed_42 e) e,
      λ d. let m = (in_order_numbers d).0 in ⊎_elim (λ e. inl (m ∙ e)) (λ e. inr (⊎_elim (λ e. inl (m ∙ e)) (λ e. inr (m ∙ e)) e)) (three_numbers f d.S d.I),
    );
    second_0 = λ d. (in_order_numbers d).1;
    not_31 = λ e. taken_no_31 Marks t h y card slip rooms _ (number_above Marks t y card slip o 31 (omega arith) e);
    selections = λ d. subst (SelectionsAgree f card slip) (sym (in_order_numbers d).0) (selections_agree f D card slip d.S d.I d.card_is d.slip_is);
    where_answered = answered;
    where_41 = λ e. let d = handed_41 e in owed_clash f D card slip d.S d.I d.card_is d.slip_is (sym (in_order_numbers d).0 ∙ e);
  }
