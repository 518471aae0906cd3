-- The response by marks and the response by strata, with the tables of one text that test 18 accepts.
-- Assumes nothing.
use Prim.Native.Nat.{ℕ, suc}
use native.Mathlib.Omega.{arith}
use mathlib.Core.Path.{◌≡◌, refl, sym, ap, ap₂, ◌∙◌}
use mathlib.Core.Bool.{Bool, true, false, cond}
use mathlib.Core.List.{List}
use mathlib.Core.Logic.{◌⊎◌, inl, inr, ⊎_elim, ◌↔◌}
use lib.Dec.{T, ltb}
use lib.ListN.{length}
use borrow.Author.Tests.{le-ltb}
use Rattle.laws.specs.Answers.{OrRefused, taken, refused}
use Rattle.laws.specs.Limits.{row}
use Rattle.laws.specs.Packed.{pack}
use Rattle.laws.specs.Tabulated.{tabulate}
use Rattle.model.specs.Rules.{Pair, Pairs}
use Rattle.model.specs.Orders.{names, changes}
use Rattle.model.specs.Strata.{strict, weak, Strata}
use Rattle.model.specs.Circles.{circle_of}
use Rattle.model.specs.Response.{response}
use Rattle.model.specs.Result.{conflict_slot, new_card, changes_slip}
use Rattle.model.specs.Paper.{SlotConsistent, firing_of}
use Rattle.model.proofs.Orders.{whole_e}
use Rattle.model.proofs.Strata.{no_circle}
use Rattle.model.proofs.Results.{no_conflict_e}
use Rattle.model.proofs.Demand3.{response_is_whole, demand_3}
use Rattle.marks.specs.Selection.{order_fired, marks_after, selection_refusal}
use Rattle.marks.specs.inner.Declared.{Declared}
use Rattle.marks.proofs.Sweeps.{selection_whole}
use Rattle.marks.proofs.Answered.{answer_changes}
use Rattle.marks.proofs.Correct.{strata_equal}
use Rattle.marks.proofs.Strict.{strict_no_42, strict_answers_iff}
use Rattle.table.specs.declared.Table.{Table}
use Rattle.table.specs.declared.Way.{Way}
use Rattle.table.specs.declared.Way.TheVariants as ways
use Rattle.table.specs.Link.{rules_of, value_counts}
use Rattle.soundness.specs.Sound.{takes}
use Rattle.grammar.specs.Files.{File, slot_counts}
use Rattle.grammar.proofs.Declared.{DeclaredFile}
use Rattle.cards.specs.Forms.{card_bytes, slip_bytes}
use Rattle.cards.proofs.Having.{slip_tested}
use Rattle.tally.specs.Editors.{Editors}
use Rattle.response.specs.Ending.{Answer, fired_record, answer_of, unless_conflict, answer_by_firing, unless_refused, answer_by_marks}
use Rattle.response.specs.Respond.{Rooms, Outputs, rooms_of, answer_by, answer_in, response_in, outcome_of, outputs_after, response_refusal, records_after, Responded}
use Rattle.promises.specs.Returned.{number_in}
use Rattle.promises.specs.Selections.{HandedIn, file_pairs, our_selection}
use Rattle.promises.specs.ByMarks.{SameReturned}
use Rattle.promises.proofs.Bounds.{changes_bounded}
use Rattle.promises.proofs.Conflicts.{unless_conflict_taken, none_lowest}
use Rattle.promises.proofs.Ends.{comes, taken_response, in_order_or_before, in_order_comes, ends_in_order}
use Rattle.promises.proofs.Returned.{number_0, number_40}
use Rattle.promises.proofs.ByMarksEnds.{file_declares, marks_answer}
use Rattle.promises.proofs.ByMarksCalled.{three_numbers, in_order_numbers, handed_41, handed_42}

-- What is told of equal answers, and what they leave, is the same.
pub same_returned : (way way' : Way) (t t' : Table) (y : Editors) (card slip : List ℕ) (o : Outputs)
    → answer_in way t y card slip (rooms_of o.card o.changes o.fired) ≡ answer_in way' t' y card slip (rooms_of o.card o.changes o.fired) → SameReturned way way' t t' y card slip o
unfolding response_in
same_returned way way' t t' y card slip o e = record {
  same_told = ap (λ (u : OrRefused Answer). record { outcome = outcome_of u; records = records_after y u }) e;
  same_left = ap (λ (u : OrRefused Answer). outputs_after u o) e;
}

-- The bytes of an answer are those of its C and of the rules that it names.
same_bytes : (width count : ℕ) (S : List ℕ) (C E : Pairs) (ns ms : List ℕ) → C ≡ E → names ns ≡ names ms → answer_of width count S C ns ≡ answer_of width count S E ms
unfolding answer_of fired_record
same_bytes width count S C E ns ms e g =
    ap₂ (λ (X : Pairs) (h : ℕ → Bool). record { new_card = card_bytes (new_card width row X S); changes = slip_bytes (changes_slip width row X); fired = pack (tabulate (λ i. h (suc i)) count) }) e g

-- The number of what firing comes to is 0 or 40.
firing_numbers : (f : File) (S : List ℕ) (I : List Pair)
    → (response_refusal (outcome_of (answer_by_firing f.rules (length (slot_counts f.slots)) S I)) ≡ 0) ⊎ (response_refusal (outcome_of (answer_by_firing f.rules (length (slot_counts f.slots)) S I)) ≡ 40)
unfolding answer_by_firing unless_conflict outcome_of
firing_numbers f S I = go (ltb (conflict_slot (length (slot_counts f.slots)) row (changes f.rules I (response weak f.rules S I))) (length (slot_counts f.slots))) _ _
  where
    go : (b : Bool) (s : ℕ) (a : Answer) → (response_refusal (outcome_of (cond b (refused 40 s) (taken a))) ≡ 0) ⊎ (response_refusal (outcome_of (cond b (refused 40 s) (taken a))) ≡ 40)
    go true s a = inr refl
    go false s a = inl refl

module _ (f : File) (D : DeclaredFile f) (z : circle_of weak f.rules ≡ 0) (y : Editors) (card slip : List ℕ) (rooms : Rooms) where
  abbrev width : ℕ
  width = length (slot_counts f.slots)

  module _ (d : HandedIn f y card slip rooms) where
    -- The rules that the response by strata fires, in the order fired.
    abbrev fired : List ℕ
    fired = response weak f.rules d.S d.I

    -- The pairs of the rules and of the slip are declared.
    declares : Declared (file_pairs f) f.rules d.I
    declares = file_declares f D d.I (slip_tested (slot_counts f.slots) slip d.I d.slip_is)

    -- The number that the selection comes to.
    abbrev selected : ℕ
    selected = selection_refusal (file_pairs f) f.rules d.S d.I (our_selection f d.S d.I)

    -- Where the selection is accepted, firing by strata comes to its answer.
    firing_answers : selected ≡ 0 → answer_by_firing f.rules width d.S d.I ≡ taken (marks_answer f d.S d.I)
    unfolding answer_by_firing unless_conflict
    firing_answers A =
        let W = selection_whole (file_pairs f) f.rules d.S d.I in
        let w = strata_equal (file_pairs f) f.rules d.S d.I declares (our_selection f d.S d.I) W A weak z in
        rw (le-ltb (conflict_slot width row (changes f.rules d.I fired)) width (omega (arith, none_lowest f.rules d.I fired w.2 width)))
        (ap taken (same_bytes width (length f.rules) d.S (changes f.rules d.I fired) (marks_after f.rules d.I (our_selection f d.S d.I)).positive fired (order_fired (our_selection f d.S d.I))
        (w.0 ∙ answer_changes (file_pairs f) f.rules d.S d.I declares (our_selection f d.S d.I) W A) w.1))

    -- So both responses come to it.
    both_answer : selected ≡ 0 → comes ways.Marks f y card slip rooms ≡ comes ways.Strata f y card slip rooms
    unfolding answer_by answer_by_marks unless_refused
    both_answer A = in_order_comes f y card slip rooms ways.Marks d ∙ ap (λ (k : ℕ). unless_refused k (marks_answer f d.S d.I)) A ∙ sym (in_order_comes f y card slip rooms ways.Strata d ∙ firing_answers A)

    -- With strata of section 7, where firing by strata answers, the selection is accepted.
    strict_answers : circle_of strict f.rules ≡ 0 → (a : Answer) → answer_by_firing f.rules width d.S d.I ≡ taken a → selected ≡ 0
    unfolding answer_by_firing SlotConsistent firing_of
    strict_answers q a e =
        let ns = response strict f.rules d.S d.I in
        let same = ((demand_3 weak f.rules d.S d.I z).1 ns (response_is_whole strict f.rules d.S d.I q)).1 in
        let none = (unless_conflict_taken width (length f.rules) d.S (changes f.rules d.I fired) fired a e).0 in
        let bounded = changes_bounded f D d.S d.I (slip_tested (slot_counts f.slots) slip d.I d.slip_is) fired (whole_e f.rules d.S d.I fired (response_is_whole weak f.rules d.S d.I z)).order in
        (strict_answers_iff (file_pairs f) f.rules d.S d.I declares q (our_selection f d.S d.I) (selection_whole (file_pairs f) f.rules d.S d.I)).1
        (λ x v w s t. no_conflict_e row (changes f.rules d.I fired) width bounded none x v w (rw same at s) (rw same at t))

    -- With them it is accepted or clashes.
    strict_two : circle_of strict f.rules ≡ 0 → (selected ≡ 0) ⊎ (selected ≡ 41)
    strict_two q = strict_no_42 (file_pairs f) f.rules d.S d.I declares q (our_selection f d.S d.I) (selection_whole (file_pairs f) f.rules d.S d.I)

module _ (f : File) (D : DeclaredFile f) (z : circle_of weak f.rules ≡ 0)
    (t : Table) (h : T (takes ways.Marks t)) (r : rules_of t ≡ f.rules) (n : value_counts t ≡ slot_counts f.slots)
    (t' : Table) (h' : T (takes ways.Strata t')) (r' : rules_of t' ≡ f.rules) (n' : value_counts t' ≡ slot_counts f.slots)
    (y : Editors) (card slip : List ℕ) (o : Outputs) where
  abbrev rooms : Rooms
  rooms = rooms_of o.card o.changes o.fired

  -- The numbers of both.
  abbrev by_marks : ℕ
  by_marks = number_in ways.Marks t y card slip o

  abbrev by_strata : ℕ
  by_strata = number_in ways.Strata t' y card slip o

  -- The same comes back where the same comes by the file's rules.
  same_of : comes ways.Marks f y card slip rooms ≡ comes ways.Strata f y card slip rooms → SameReturned ways.Marks ways.Strata t t' y card slip o
  same_of e = same_returned ways.Marks ways.Strata t t' y card slip o (taken_response ways.Marks f t h r n y card slip rooms ∙ e ∙ sym (taken_response ways.Strata f t' h' r' n' y card slip rooms))

  -- It does where neither 41 nor 42 is given,
  pub same_unless_refused : ¬ (by_marks ≡ 41) → ¬ (by_marks ≡ 42) → SameReturned ways.Marks ways.Strata t t' y card slip o
  same_unless_refused a b =
      ⊎_elim
      (λ d. let m = (in_order_numbers f D t h r n y card slip o d).0 in
      ⊎_elim (λ e. same_of (both_answer f D z y card slip rooms d e)) (λ e. ⊎_elim (λ e. absurd (a (m ∙ e))) (λ e. absurd (b (m ∙ e))) e) (three_numbers f d.S d.I))
      (λ b. same_of (b.3 ways.Marks ∙ sym (b.3 ways.Strata)))
      (in_order_or_before f y card slip rooms)

  -- The number by strata where all is in order.
  strata_number : (d : HandedIn f y card slip rooms) → (by_strata ≡ 0) ⊎ (by_strata ≡ 40)
  unfolding response_in answer_by
  strata_number d =
      let e = ap (λ (u : OrRefused Answer). response_refusal (outcome_of u)) (taken_response ways.Strata f t' h' r' n' y card slip rooms ∙ in_order_comes f y card slip rooms ways.Strata d) in
      ⊎_elim (λ k. inl (e ∙ k)) (λ k. inr (e ∙ k)) (firing_numbers f d.S d.I)

  -- and where the response by strata refuses with another number than 40.
  pub same_earlier : ¬ (by_strata ≡ 0) → ¬ (by_strata ≡ 40) → SameReturned ways.Marks ways.Strata t t' y card slip o
  same_earlier a b =
      ⊎_elim (λ d. ⊎_elim (λ e. absurd (a e)) (λ e. absurd (b e)) (strata_number d)) (λ b. same_of (b.3 ways.Marks ∙ sym (b.3 ways.Strata))) (in_order_or_before f y card slip rooms)

  module _ (u : ℕ → ℕ) (s : Strata strict f.rules u) where
    q : circle_of strict f.rules ≡ 0
    q = no_circle strict f.rules u s

    -- Where all is in order it is answered or 41.
    two : (d : HandedIn f y card slip rooms) → (by_marks ≡ 0) ⊎ (by_marks ≡ 41)
    two d = let m = (in_order_numbers f D t h r n y card slip o d).0 in ⊎_elim (λ e. inl (m ∙ e)) (λ e. inr (m ∙ e)) (strict_two f D z y card slip rooms d q)

    -- Answered by marks, answered by strata, and back.
    forth : by_marks ≡ 0 → by_strata ≡ 0
    forth e = sym (ap (λ (x : Responded). response_refusal x.outcome) (same_unless_refused (λ k. omega (arith, e, k)) (λ k. omega (arith, e, k))).same_told) ∙ e

    back : by_strata ≡ 0 → by_marks ≡ 0
    unfolding answer_by
    back e =
        let w = number_0 ways.Strata t' y card slip o e in
        let d = ends_in_order f y card slip rooms ways.Strata (taken w.0) tt (sym (taken_response ways.Strata f t' h' r' n' y card slip rooms) ∙ w.1) in
        (in_order_numbers f D t h r n y card slip o d.0).0 ∙ strict_answers f D z y card slip rooms d.0 q w.0 d.1

    -- The numbers of both with strata of section 7.
    pub strict_numbers : (¬ (by_marks ≡ 42)) × ((by_marks ≡ 41) ↔ (by_strata ≡ 40)) × ((by_marks ≡ 0) ↔ (by_strata ≡ 0))
    strict_numbers = (
      λ e. ⊎_elim (λ k. omega (arith, e, k)) (λ k. omega (arith, e, k)) (two (handed_42 f D t h r n y card slip o e)),
      (
        λ e. ⊎_elim (λ k. absurd (omega (arith, e, back k))) (λ k. k) (strata_number (handed_41 f D t h r n y card slip o e)),
        λ e. let d = (ends_in_order f y card slip rooms ways.Strata _ (inl refl) (sym (taken_response ways.Strata f t' h' r' n' y card slip rooms) ∙ number_40 ways.Strata t' y card slip o e)).0 in
            ⊎_elim (λ k. absurd (omega (arith, e, forth k))) (λ k. k) (two d),
      ),
      (forth, back),
    )
