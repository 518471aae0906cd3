-- What is promised of NONE: document 02, section 6.
-- Assumes nothing.
use Prim.Native.Nat.{ℕ, ◌≤◌, ◌<◌}
use native.Mathlib.Omega.{arith}
use mathlib.Core.Path.{◌≡◌, refl, sym, ap, subst, ◌∙◌}
use mathlib.Core.Bool.{Bool, true, false}
use mathlib.Core.List.{List, ◌∷◌}
use mathlib.Core.Logic.{◌↔◌, ◌⊎◌, inl, inr, ⊎_elim}
use lib.Dec.{T, eqb, eqb→eq, eqb_refl}
use borrow.Author.Tests.{eqb-true, eqb-false}
use lib.ListN.{length, get_or}
use Rattle.laws.specs.Answers.{taken, refused}
use Rattle.laws.specs.Limits.{text_limit, row}
use Rattle.laws.specs.Truth.{notᵇ}
use Rattle.laws.proofs.Equations.{is_true}
use Rattle.laws.proofs.Truth.{and_i, and_l, and_r, or_l, not_i, not_e, le_or_lt}
use Rattle.text.specs.Tokens.{Token, word, NONE, tokens}
use Rattle.grammar.specs.Reading.{begins_with}
use Rattle.grammar.specs.Refusals.{StandsAt}
use Rattle.grammar.proofs.Faults.{twelve_at_none}
use Rattle.reader.specs.Tables.{reading_refusal}
use Rattle.rule_file.specs.Whole.{read_by}
use Rattle.model.specs.Rules.{Pair, Pairs, Rule, among, was, became}
use Rattle.model.specs.Result.{pair, new_card, changes_slip}
use Rattle.model.proofs.Changes.{from_slip}
use Rattle.marks.specs.Marks.{Marks, declared_pairs, is_both, update}
use Rattle.marks.proofs.Updates.{rivals_i}
use Rattle.marks.proofs.Pairs.{declared_iff}
use Rattle.marks.proofs.Selections.{positive_changes, slip_positive, rivalled}
use Rattle.marks.specs.Selection.{fired}
use Rattle.table.specs.declared.Table.{Table}
use Rattle.table.specs.declared.Way.{Way}
use Rattle.table.specs.declared.Way.TheVariants as ways
use Rattle.table.specs.Link.{rules_of, value_counts}
use Rattle.soundness.specs.Sound.{takes, well_formed}
use Rattle.soundness.proofs.Taken.{takes_parts}
use Rattle.cards.specs.Forms.{read_card, read_slip, values_in, changes_in}
use Rattle.cards.proofs.Having.{card_tested}
use Rattle.tally.specs.Editors.{Editors}
use Rattle.response.specs.Ending.{Answer, answer_of}
use Rattle.response.specs.Respond.{Rooms, Outputs, rooms_of, answer_by_rules, answer_by_table, answer_in}
use Rattle.response.proofs.RespondLaws.{then_taken}
use Rattle.promises.specs.Returned.{number_in, second_in, AnswersIn}
use Rattle.promises.specs.Agreement.{InConflict, LowestConflict}
use Rattle.promises.specs.Reasons.{at_token, CardReason, CardRight, SlipReason, SlipRight, TableReason, not_passed, of_others, EndReason, conflict, clash, unknown, RulesReason, of_card, of_slip, of_room, of_end, EndRight, RulesRight, marks_left, ends_with, fired_by, selected}
use Rattle.promises.specs.Refusals.{Passes}
use Rattle.promises.specs.Withdrawals.{C_of, SlotsHold, Withdrawals}
use Rattle.promises.proofs.Judged.{Judged, card_judged, slip_judged, card_below, slip_below}
use Rattle.promises.proofs.Outcomes.{reason_file}
use Rattle.promises.proofs.Callers.{Caller, has_none, has_full, can_count, caller_of}
use Rattle.promises.proofs.Returned.{number_0, number_40, number_above, answers}
use Rattle.promises.proofs.Engines.{always_44, always_full, comes_by_table}
use Rattle.promises.proofs.Editors.{tells_answer}
use Rattle.promises.proofs.ResponseReasons.{table_slots, value_within, table_judged}
use Rattle.promises.proofs.Held.{changes_unpack, card_unpacks, value_new, value_kept, pairs_shown}

-- The tests of NONE, in the words of section 6.
had_nothing : (S : List ℕ) (s : ℕ) → T (was S (pair s 0)) ↔ (get_or S s 0 ≡ 0)
unfolding was
had_nothing S s = (λ t. eqb→eq (get_or S s 0) 0 t, λ e. rw e (eqb_refl 0))

is_withdrawn : (S : List ℕ) (C : Pairs) (s : ℕ) → T (became S C (pair s 0)) ↔ ((¬ (get_or S s 0 ≡ 0)) × T (C (pair s 0)))
unfolding became
is_withdrawn S C s = (
  λ t. (λ e. not_e (was S (pair s 0)) (and_l _ _ t) ((had_nothing S s).1 e), and_r (notᵇ (was S (pair s 0))) _ t),
  λ h. and_i _ _ (not_i (was S (pair s 0)) (λ t. h.0 ((had_nothing S s).0 t))) h.1,
)

-- NONE is one of the pairs that are marked; a positive value makes it negative, and it every value.
none_marked : (counts : List ℕ) (s : ℕ) → s < length counts → T (among (pair s 0) (declared_pairs counts))
none_marked counts s l = (declared_iff counts (pair s 0)).1 (l, omega arith)

value_rivals_none : (Z : Marks) (D : List Pair) (s v : ℕ) → ¬ (v ≡ 0) → T (among (pair s v) D) → T ((update Z D).negative (pair s 0))
unfolding update
value_rivals_none Z D s v n t = or_l _ _ (rivals_i (pair s 0) (pair s v) D t refl (λ e. n (sym e)))

none_rivals_values : (Z : Marks) (D : List Pair) (s v : ℕ) → ¬ (v ≡ 0) → T (among (pair s 0) D) → T ((update Z D).negative (pair s v))
unfolding update
none_rivals_values Z D s v n t = or_l _ _ (rivals_i (pair s v) (pair s 0) D t refl n)

-- A refusal at NONE is 12.
refused_at_none : (way : Way) (text : List ℕ) → length text ≤ text_limit → (k n : ℕ) (r : StandsAt (tokens text) k n) (later : List Token) → r.after ≡ word NONE ∷ later → reading_refusal (read_by way text).outcome ≡ 12
refused_at_none way text h k n r later e = ap reading_refusal (reason_file way text k n (at_token h r)) ∙ twelve_at_none k r.before r.after r.fault (ap (begins_with NONE) e)

same_or_not : (v w : ℕ) → (v ≡ w) ⊎ (¬ (v ≡ w))
same_or_not v w = go (eqb v w) refl
  where
    go : (b : Bool) → eqb v w ≡ b → (v ≡ w) ⊎ (¬ (v ≡ w))
    go true e = inl (eqb-true v w e)
    go false e = inr (eqb-false v w e)

-- An answer by a table.
module _ (way : Way) (t : Table) (card slip : List ℕ) (rooms : Rooms) (a : Answer) (came : answer_by_table way t card slip rooms ≡ taken a) where
  abbrev counts : List ℕ
  counts = value_counts t

  abbrev C : Pairs
  C = ends_with way counts (rules_of t) card slip

  -- The table passed its test, and no reason for a refusal holds.
  judged : Passes (takes way t) (RulesRight way counts (rules_of t) card slip rooms a)
  judged = subst (Judged (TableReason (takes way t) (RulesReason way counts (rules_of t) card slip rooms)) (λ b. Passes (takes way t) (RulesRight way counts (rules_of t) card slip rooms b))) came (table_judged way t card slip rooms)

  formed : T (well_formed t)
  formed = (takes_parts way t judged.passes).0

  -- The card and the slip were unpacked.
  by_rules : answer_by_rules way counts (rules_of t) card slip rooms ≡ taken a
  unfolding answer_by_table
  by_rules = rw (is_true (takes way t) judged.passes) at came

  card_read : read_card counts card ≡ taken (values_in card)
  unfolding answer_by_rules
  card_read =
      let c = then_taken (read_card counts card) _ a by_rules in
      let j = subst (Judged (CardReason counts card) (λ vs. (vs ≡ values_in card) × CardRight counts card)) c.1 (card_judged counts card) in
      c.1 ∙ ap taken j.0

  slip_read : read_slip counts slip ≡ taken (changes_in slip)
  unfolding answer_by_rules
  slip_read =
      let c = then_taken (read_card counts card) _ a by_rules in
      let d = then_taken (read_slip counts slip) _ a c.2 in
      let j = subst (Judged (SlipReason counts slip) (λ ps. (ps ≡ changes_in slip) × SlipRight counts slip)) d.1 (slip_judged counts slip) in
      d.1 ∙ ap taken j.0

  -- C has for each slot values that the slot has, or NONE,
  within : (p : Pair) → p.slot < length counts → T (C p) → p.value ≤ get_or counts p.slot 0
  within p l m = go way m
    where
      go : (w : Way) → T (ends_with w counts (rules_of t) card slip p) → p.value ≤ get_or counts p.slot 0
      go ways.Strata m = value_within t formed slip (changes_in slip) (fired_by ways.Strata counts (rules_of t) card slip) slip_read p m
      go ways.Marks m = value_within t formed slip (changes_in slip) (fired (selected counts (rules_of t) card slip)) slip_read p (rw positive_changes at m)

  -- and not two of them.
  one : (s v w : ℕ) → s < length counts → T (C (pair s v)) → T (C (pair s w)) → v ≡ w
  unfolding InConflict is_both
  one s v w l x y = go way judged.right.end_right x y (within (pair s v) l x) (within (pair s w) l y)
    where
      go : (u : Way) → EndRight counts (rules_of t) card slip u → T (ends_with u counts (rules_of t) card slip (pair s v)) → T (ends_with u counts (rules_of t) card slip (pair s w))
          → v ≤ get_or counts s 0 → w ≤ get_or counts s 0 → v ≡ w
      go ways.Strata e x y i j =
          ⊎_elim (λ h. ⊎_elim (λ k. omega (arith, h, k)) (λ (k : v < w). absurd (e s l (v, w, k, x, y))) (le_or_lt w v)) (λ (k : w < v). absurd (e s l (w, v, k, y, x))) (le_or_lt v w)
      go ways.Marks e x y i j =
          ⊎_elim (λ q. q) (λ n. absurd ((e (pair s w) ((declared_iff counts (pair s w)).1 (l, j))).0 (and_i _ _ y (rivalled (rules_of t) (changes_in slip) (selected counts (rules_of t) card slip) (pair s v) (pair s w) x refl (λ q. n (sym q)))))) (same_or_not v w)

  -- The slip's pairs are in C.
  slip_there : (p : Pair) → T (among p (changes_in slip)) → T (C p)
  slip_there p m = go way
    where
      go : (w : Way) → T (ends_with w counts (rules_of t) card slip p)
      go ways.Strata = from_slip (rules_of t) (changes_in slip) (fired_by ways.Strata counts (rules_of t) card slip) p m
      go ways.Marks = slip_positive (rules_of t) (changes_in slip) (selected counts (rules_of t) card slip) p m

  -- WHAT EACH SLOT HELD AND HOLDS.
  holds : SlotsHold counts C card slip a
  unfolding answer_of
  holds =
      let S = values_in card in
      let ct = card_tested counts card S card_read in
      let slots = table_slots t formed in
      rw judged.right.answer_is (record {
        old = S;
        handed_in = changes_in slip;
        new = new_card (length counts) row C S;
        pairs = changes_slip (length counts) row C;
        card_is = card_read;
        slip_is = slip_read;
        new_card_is = card_unpacks counts slots C within S ct;
        changes_are = changes_unpack counts slots C within;
        slip_in_C = slip_there;
        same_changes = pairs_shown counts slots C within one;
        stays_empty = λ s l e h. value_kept counts slots C within S ct one s l (λ v n. h v (λ z. n (z ∙ sym e))) ∙ e;
        keeps_value = λ s l n h. value_kept counts slots C within S ct one s l h;
        new_value = λ s v l m. value_new counts slots C within S ct one s v l m;
      })

-- A call.
module _ (way : Way) (t : Table) (y : Editors) (card slip : List ℕ) (o : Outputs) where
  abbrev rooms : Rooms
  rooms = rooms_of o.card o.changes o.fired

  -- Each answer that comes back.
  slots_hold : number_in way t y card slip o ≡ 0 → (a : Answer) × AnswersIn way t y card slip o a × SlotsHold (value_counts t) (C_of way t card slip) card slip a
  slots_hold e =
      let n = number_0 way t y card slip o e in
      let c = tells_answer way t y card slip o n.0 n.1 in
      (n.0, answers way t y card slip o n.0 n.1, holds way t card slip rooms n.0 (sym (comes_by_table way t y card slip rooms c) ∙ n.1))

  -- A refusal from 40 on has the reason of an end.
  end_reason : (k s : ℕ) → TableReason (takes way t) (RulesReason way (value_counts t) (rules_of t) card slip rooms) k s → 40 ≤ k → EndReason (value_counts t) (rules_of t) card slip way k s
  end_reason k s (not_passed n) h = absurd (omega (arith, h))
  end_reason k s (of_others p (of_card r)) h = absurd (omega (arith, h, card_below (value_counts t) card k s r))
  end_reason k s (of_others p (of_slip c r)) h = absurd (omega (arith, h, slip_below (value_counts t) slip k s r))
  end_reason k s (of_others p (of_room c i r)) h = absurd (omega (arith, h))
  end_reason k s (of_others p (of_end c i r e)) h = e

  ended : (k s : ℕ) → 40 ≤ k → k ≤ 42 → answer_in way t y card slip rooms ≡ refused k s → EndReason (value_counts t) (rules_of t) card slip way k s
  ended k s lo hi e = go (caller_of y)
    where
      go : Caller y → EndReason (value_counts t) (rules_of t) card slip way k s
      go (has_none n) = absurd (let q = sym (always_44 way t y card slip rooms n) ∙ e in let z : 44 ≡ k = cc in omega (arith, z, hi))
      go (has_full h f) = absurd (let q = sym (always_full way t y card slip rooms h f) ∙ e in let z : 32 ≡ k = cc in omega (arith, z, lo))
      go (can_count c) = end_reason k s (subst (Judged (TableReason (takes way t) (RulesReason way (value_counts t) (rules_of t) card slip rooms)) (λ a. Passes (takes way t) (RulesRight way (value_counts t) (rules_of t) card slip rooms a)))
          (sym (comes_by_table way t y card slip rooms c) ∙ e) (table_judged way t card slip rooms)) lo

  -- No answer has NONE and a value for one slot.
  not_answered : (s v : ℕ) → s < length (value_counts t) → ¬ (v ≡ 0) → T (C_of way t card slip (pair s 0)) → T (C_of way t card slip (pair s v)) → ¬ (number_in way t y card slip o ≡ 0)
  not_answered s v l n x z e = let h = (slots_hold e).2 in n (sym (h.new_value s v l z) ∙ h.new_value s 0 l x)

-- What ends in 40, and in 42.
end_40 : (w : Way) (counts : List ℕ) (rs : List Rule) (card slip : List ℕ) (k s : ℕ) → EndReason counts rs card slip w k s → k ≡ 40 → LowestConflict (ends_with ways.Strata counts rs card slip) s
end_40 w counts rs card slip k s (conflict l) e = l
end_40 w counts rs card slip k s (clash p d b) e = absurd (omega (arith, e))
end_40 w counts rs card slip k s (unknown n p d b) e = absurd (omega (arith, e))

end_42 : (w : Way) (counts : List ℕ) (rs : List Rule) (card slip : List ℕ) (k s : ℕ) → EndReason counts rs card slip w k s → k ≡ 42 → (p : Pair) → T (among p (declared_pairs counts)) → ¬ T (is_both (marks_left counts rs card slip) p)
end_42 w counts rs card slip k s (conflict l) e = absurd (omega (arith, e))
end_42 w counts rs card slip k s (clash p d b) e = absurd (omega (arith, e))
end_42 w counts rs card slip k s (unknown n p d b) e = n

module _ (t : Table) (y : Editors) (card slip : List ℕ) (o : Outputs) (s v : ℕ) (l : s < length (value_counts t)) (n : ¬ (v ≡ 0)) where
  -- By strata 40, of this slot or of a lower one.
  both_40 : T (C_of ways.Strata t card slip (pair s 0)) → T (C_of ways.Strata t card slip (pair s v)) → (number_in ways.Strata t y card slip o ≡ 0) ⊎ (number_in ways.Strata t y card slip o ≡ 40)
      → (number_in ways.Strata t y card slip o ≡ 40) × (second_in ways.Strata t y card slip o ≤ s)
  unfolding InConflict
  both_40 x z (inl e) = absurd (not_answered ways.Strata t y card slip o s v l n x z e)
  both_40 x z (inr e) =
      let c = end_40 ways.Strata _ _ card slip 40 _ (ended ways.Strata t y card slip o 40 _ (omega arith) (omega arith) (number_40 ways.Strata t y card slip o e)) refl in
      (e, ⊎_elim (λ h. h) (λ h. absurd (c.lowest s h (0, v, omega (arith, n), x, z))) (le_or_lt (second_in ways.Strata t y card slip o) s))

  -- By marks 41.
  both_41 : T (C_of ways.Marks t card slip (pair s 0)) → T (C_of ways.Marks t card slip (pair s v)) → (number_in ways.Marks t y card slip o ≡ 0) ⊎ ((number_in ways.Marks t y card slip o ≡ 41) ⊎ (number_in ways.Marks t y card slip o ≡ 42))
      → number_in ways.Marks t y card slip o ≡ 41
  unfolding is_both
  both_41 x z (inl e) = absurd (not_answered ways.Marks t y card slip o s v l n x z e)
  both_41 x z (inr (inl e)) = e
  both_41 x z (inr (inr e)) =
      absurd (end_42 ways.Marks _ _ card slip 42 _ (ended ways.Marks t y card slip o 42 _ (omega arith) (omega arith) (number_above ways.Marks t y card slip o 42 (omega arith) e)) refl (pair s 0) (none_marked (value_counts t) s l)
      (and_i _ _ x (rivalled (rules_of t) (changes_in slip) (selected (value_counts t) (rules_of t) card slip) (pair s v) (pair s 0) z refl (λ q. n (sym q)))))

-- A DATING WITHDRAWN, AND NO VALUE STAYS NO VALUE.
pub withdrawals : Withdrawals
withdrawals = record {
  had_nothing = had_nothing;
  is_withdrawn = is_withdrawn;
  none_marked = none_marked;
  value_rivals_none = value_rivals_none;
  none_rivals_values = none_rivals_values;
  refused_at_none = refused_at_none;
  slots_hold = slots_hold;
  both_40 = both_40;
  both_41 = both_41;
}
