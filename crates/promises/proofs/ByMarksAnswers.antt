-- Where the selection by a file's rules is accepted, its answer is what is owed of every order of selection and of firing, and a correct declarative response; where it clashes, every firing order that is complete and consistent has a slot in conflict.
-- Assumes nothing.
use Prim.Native.Nat.{ℕ}
use mathlib.Core.Path.{◌≡◌, sym, ap, subst, ◌∙◌}
use mathlib.Core.List.{List}
use lib.Dec.{T}
use lib.ListN.{length}
use Rattle.laws.specs.Answers.{taken}
use Rattle.laws.proofs.Truth.{and_l}
use Rattle.model.specs.Rules.{Pair, Pairs}
use Rattle.model.specs.Orders.{changes, whole_order}
use Rattle.model.specs.Paper.{SlotConsistent, firing_of}
use Rattle.model.proofs.Orders.{whole_e}
use Rattle.marks.specs.Selection.{Move, order_fired, whole_selection, selection_refusal}
use Rattle.marks.specs.inner.Declared.{Declared}
use Rattle.marks.proofs.Sweeps.{selection_whole}
use Rattle.marks.proofs.Answered.{answer_whole, answer_changes, answer_one_value, answer_only}
use Rattle.marks.proofs.Correct.{answer_declarative, answer_correct, clash_right, selection_agrees}
use Rattle.grammar.specs.Files.{File, slot_counts}
use Rattle.grammar.proofs.Declared.{DeclaredFile}
use Rattle.cards.specs.Forms.{read_card, read_slip}
use Rattle.cards.proofs.Having.{card_tested, slip_tested}
use Rattle.response.specs.Ending.{Answer, answer_of}
use Rattle.promises.specs.Agreement.{Shows}
use Rattle.promises.specs.Paper.{PaperAnswer}
use Rattle.promises.specs.Selections.{file_pairs, Selects, our_selection, ShowsSelection, OwedAnswer, OwedClash}
use Rattle.promises.proofs.Bounds.{changes_bounded}
use Rattle.promises.proofs.Conflicts.{one_value, none_lowest, some_conflict}
use Rattle.promises.proofs.Shows.{shows_alike}
use Rattle.promises.proofs.ByMarksEnds.{file_declares, same_number, marks_answer}

module _ (f : File) (D : DeclaredFile f) (card slip : List ℕ) (S : List ℕ) (I : List Pair) (card_is : read_card (slot_counts f.slots) card ≡ taken S) (slip_is : read_slip (slot_counts f.slots) slip ≡ taken I) where
  -- The pairs of the rules and of the slip are declared.
  declares : Declared (file_pairs f) f.rules I
  declares = file_declares f D I (slip_tested (slot_counts f.slots) slip I slip_is)

  -- The number of a complete order of selection is ours.
  number_ours : (cs : List Move) → Selects f S I cs → selection_refusal (file_pairs f) f.rules S I cs ≡ selection_refusal (file_pairs f) f.rules S I (our_selection f S I)
  number_ours cs W = same_number f S I cs (our_selection f S I) (selection_agrees (file_pairs f) f.rules S I declares cs W)

  our_whole : Selects f S I (our_selection f S I)
  our_whole = selection_whole (file_pairs f) f.rules S I

  module _ (A : selection_refusal (file_pairs f) f.rules S I (our_selection f S I) ≡ 0) where
    -- The rules that we fire, in the order fired, and the C that they end with.
    abbrev ours : List ℕ
    ours = order_fired (our_selection f S I)

    abbrev C : Pairs
    C = changes f.rules I ours

    -- They are a complete and consistent firing order, which gives no slot two values.
    whole : T (whole_order f.rules S I ours)
    whole = answer_whole (file_pairs f) f.rules S I declares (our_selection f S I) our_whole A

    one : SlotConsistent (firing_of f.rules I ours)
    one = answer_one_value (file_pairs f) f.rules S I declares (our_selection f S I) our_whole A

    -- The bytes of the answer are those of that C.
    same_answer : answer_of (length (slot_counts f.slots)) (length f.rules) S C ours ≡ marks_answer f S I
    same_answer = ap (λ (E : Pairs). answer_of (length (slot_counts f.slots)) (length f.rules) S E ours) (answer_changes (file_pairs f) f.rules S I declares (our_selection f S I) our_whole A)

    -- The answer shows every complete and consistent firing order that gives no slot two values,
    shows_each : (ns : List ℕ) → T (whole_order f.rules S I ns) → SlotConsistent (firing_of f.rules I ns) → Shows f S I (marks_answer f S I) ns
    shows_each ns B h =
        let w = answer_only (file_pairs f) f.rules S I declares (our_selection f S I) our_whole A ns B h in
        subst (λ (x : Answer). Shows f S I x ns) same_answer
        (shows_alike f D S I (card_tested (slot_counts f.slots) card S card_is) (slip_tested (slot_counts f.slots) slip I slip_is) ours (whole_e f.rules S I ours whole).order
        (none_lowest f.rules I ours one (length (slot_counts f.slots))) ns (whole_e f.rules S I ns B).order w.0 w.1)

    -- and every complete order of selection.
    shows_selection : (cs : List Move) → Selects f S I cs → ShowsSelection f S I (marks_answer f S I) cs
    shows_selection cs W =
        let Z = number_ours cs W ∙ A in
        let B = answer_whole (file_pairs f) f.rules S I declares cs W Z in
        record {
          whole = B;
          shows = shows_each (order_fired cs) B (answer_one_value (file_pairs f) f.rules S I declares cs W Z);
          positives = sym (answer_changes (file_pairs f) f.rules S I declares cs W Z);
        }

    -- What is owed of the answer,
    pub owed_answer : OwedAnswer f card slip (marks_answer f S I)
    owed_answer = record {
      S = S;
      I = I;
      card_is = card_is;
      slip_is = slip_is;
      each_selection = shows_selection;
      ours = shows_selection (our_selection f S I) our_whole;
      each_order = λ ns B none. shows_each ns B (one_value f.rules I ns none);
    }

    -- and the answer as a declarative response of Definition 1 that has ended, correct by Definition 2.
    pub paper_answer : PaperAnswer f card slip (marks_answer f S I)
    paper_answer =
        let d = answer_declarative (file_pairs f) f.rules S I declares (our_selection f S I) our_whole A in
        let c = answer_correct (file_pairs f) f.rules S I declares (our_selection f S I) our_whole A in
        record {
          S = S;
          I = I;
          fired = ours;
          response = record { card_is = card_is; slip_is = slip_is; declarative = d.0; ended = d.1; stays_enabled = c.rule_consistent };
          shows = shows_each ours whole one;
          correct = c;
        }

  -- What is owed of 41.
  pub owed_clash : selection_refusal (file_pairs f) f.rules S I (our_selection f S I) ≡ 41 → OwedClash f card slip
  unfolding whole_selection
  owed_clash e = record {
    S = S;
    I = I;
    card_is = card_is;
    slip_is = slip_is;
    each_order = λ ns B. some_conflict f.rules I ns (length (slot_counts f.slots))
        (changes_bounded f D S I (slip_tested (slot_counts f.slots) slip I slip_is) ns (whole_e f.rules S I ns B).order)
        (clash_right (file_pairs f) f.rules S I declares (our_selection f S I) (and_l _ _ our_whole) e ns B);
  }
