-- Demand 1: every result or one refusal, with its second number and its reason, and what a refusal keeps.
-- Assumes nothing.
use Prim.Native.Nat.{ℕ}
use mathlib.Core.Path.{◌≡◌, refl, sym, ap, subst}
use mathlib.Core.List.{List}
use mathlib.Core.Logic.{inl, inr, ⊎_elim}
use lib.ListN.{length}
use Rattle.laws.specs.Answers.{OrRefused, taken, refused, written, output_of}
use Rattle.model.specs.Rules.{Pair}
use Rattle.table.specs.declared.Table.{Table}
use Rattle.table.specs.declared.Way.{Way}
use Rattle.table.specs.declared.Way.TheVariants.{Strata, Marks}
use Rattle.table.specs.Empty.{empty_table}
use Rattle.table.specs.Link.{rules_of, value_counts}
use Rattle.grammar.specs.Reading.{parse}
use Rattle.names.specs.Names.{show_slot, show_value}
use Rattle.soundness.specs.Sound.{sound, takes}
use Rattle.reader.specs.Tables.{ReadingOutcome, Accepted, FileRead, reading_refusal, reading_second}
use Rattle.rule_file.specs.Whole.{read_by}
use Rattle.rule_file.proofs.Answers.{reading_accepted_iff}
use Rattle.rule_file.proofs.Unlayered.{unlayered_accepted_iff}
use Rattle.printing.specs.Printing.{print_of, print_into, printing_of, printing_refusal, printing_second, printing_length}
use Rattle.cards.specs.Forms.{values_in, changes_in, card_bytes, slip_bytes, read_card, read_slip, write_card, write_slip}
use Rattle.cards.specs.Cards.{card_values, changes_of, card_of, slip_of, no_card, no_slip, if_sound, unpacked_card, unpacked_slip, packed_card, packed_slip, card_read, slip_read, packing_of, unpacking_refusal, unpacking_second, packing_refusal, packing_second, packing_length}
use Rattle.tally.specs.Counting.{one_answered}
use Rattle.tally.specs.Editors.{Editors, own_record, with_record}
use Rattle.response.specs.Ending.{Answer}
use Rattle.response.specs.Respond.{Rooms, Outputs, rooms_of, response_refusal, response_second, outcome_of, answer_by_table, answer_in, counted, records_after, response_in, outputs_after}
use Rattle.promises.specs.Returned.{AnswersIn}
use Rattle.promises.specs.Reasons.{FileReason, FileRight, PrintReason, PrintRight, own, print_over, print_room, CardReason, CardRight, PackedCardReason, PackedCardRight, SlipReason, SlipRight, PackedSlipReason, PackedSlipRight, TableReason, RulesReason, RulesRight, HasRecord, Full, Countable, ResponseReason, no_record, full_record, of_table}
use Rattle.promises.specs.Refusals.{Comes, Passes, RecordsRefused, Demand1}
use Rattle.promises.proofs.Callers.{Caller, has_none, has_full, can_count, caller_of, left_44, left_32, left_on}
use Rattle.promises.proofs.Refusals.{Other, only_e, by_table_other}
use Rattle.promises.proofs.Engines.{always_44, always_full, comes_by_table}
use Rattle.promises.proofs.Judged.{Judged, card_judged, slip_judged, packed_card_judged, packed_slip_judged}
use Rattle.promises.proofs.ResponseReasons.{judged_more, test_judged, table_judged}
use Rattle.promises.proofs.Returned.{answers}
use Rattle.promises.proofs.NameReasons.{slot_name_shown, value_name_shown}
use Rattle.promises.proofs.Outcomes.{text_comes, file_reason, reason_file, Prints, own_refusal, over, short, all, prints}

-- A rule file.
file_right : (way : Way) (text : List ℕ) → (read_by way text).outcome ≡ Accepted → FileRight text way
file_right Strata text o = let w = (reading_accepted_iff text).1 o in record { file = w.0; is_file = w.1; stratified = w.2 }
file_right Marks text o = let w = (unlayered_accepted_iff text).1 o in record { file = w.0; is_file = w.1; stratified = tt }

file_back : (way : Way) (text : List ℕ)
    → Comes (FileReason text way) (reading_refusal (read_by way text).outcome) (reading_second (read_by way text).outcome) (FileRight text way) ((read_by way text).table ≡ empty_table)
file_back way text =
    ⊎_elim (λ o. inl (ap reading_refusal o, ap reading_second o, file_right way text o))
    (λ w. let o = ap (λ (r : FileRead). r.outcome) w.3 in
    inr (subst (λ (x : ReadingOutcome). FileReason text way (reading_refusal x) (reading_second x)) (sym o) (file_reason way text w.0 w.1 o), ap (λ (r : FileRead). r.table) w.3)) (text_comes way text)

-- A print.
print_back : (text out : List ℕ) (u : OrRefused (List ℕ)) → Prints text (length out) u → Comes (PrintReason text (length out)) (printing_refusal (printing_of u)) (printing_second (printing_of u))
    (PrintRight text (length out) × (printing_length (printing_of u) ≡ length (print_of (parse text))) × (output_of u out ≡ written (print_of (parse text)) out)) ((printing_length (printing_of u) ≡ 0) × (output_of u out ≡ out))
unfolding printing_of output_of
print_back text out u (own_refusal {k = k} {n = n} h o) = inr (own (file_reason Strata text k n o), (refl, refl))
print_back text out u (over o l) = inr (print_over (ap reading_refusal o) l, (refl, refl))
print_back text out u (short o l s) = inr (print_room (ap reading_refusal o) l s, (refl, refl))
print_back text out u (all o l s) = inl (refl, refl, (record { accepted = ap reading_refusal o; within = l; enough = s }, refl, refl))

-- Bytes unpacked, and forms packed.
card_back : (R : ℕ → ℕ → Type 0) (P : Type 0) (vs : List ℕ) (u : OrRefused (List ℕ)) → Judged R (λ ws. P × (ws ≡ vs)) u → Comes R (unpacking_refusal (card_read u).outcome) (unpacking_second (card_read u).outcome) (P × ((card_read u).card ≡ card_of vs)) ((card_read u).card ≡ no_card)
unfolding card_read
card_back R P vs (taken ws) j = inl (refl, refl, (j.0, ap card_of j.1))
card_back R P vs (refused k s) j = inr (j, refl)

slip_back : (R : ℕ → ℕ → Type 0) (P : Type 0) (ps : List Pair) (u : OrRefused (List Pair)) → Judged R (λ qs. P × (qs ≡ ps)) u → Comes R (unpacking_refusal (slip_read u).outcome) (unpacking_second (slip_read u).outcome) (P × ((slip_read u).slip ≡ slip_of ps)) ((slip_read u).slip ≡ no_slip)
unfolding slip_read
slip_back R P ps (taken qs) j = inl (refl, refl, (j.0, ap slip_of j.1))
slip_back R P ps (refused k s) j = inr (j, refl)

packed_back : (R : ℕ → ℕ → Type 0) (P : Type 0) (bytes out : List ℕ) (u : OrRefused (List ℕ)) → Judged R (λ ys. P × (ys ≡ bytes)) u → Comes R (packing_refusal (packing_of u)) (packing_second (packing_of u))
    (P × (packing_length (packing_of u) ≡ length bytes) × (output_of u out ≡ written bytes out)) ((packing_length (packing_of u) ≡ 0) × (output_of u out ≡ out))
unfolding packing_of output_of
packed_back R P bytes out (taken ys) j = inl (refl, refl, (j.0, ap length j.1, ap (λ (zs : List ℕ). written zs out) j.1))
packed_back R P bytes out (refused k s) j = inr (j, (refl, refl))

-- What is taken by a table in order is as P says, and a refusal has the reason that R says, or 31.
by_table : {A : Type 0} (t : Table) (R : ℕ → ℕ → Type 0) (P : Type 0) (u : OrRefused A) (a : A) → Judged R (λ b. (b ≡ a) × P) u → Judged (TableReason (sound t) R) (λ b. Passes (sound t) P × (b ≡ a)) (if_sound t u)
unfolding if_sound
by_table t R P u a j =
    test_judged (sound t) R (λ b. Passes (sound t) P × (b ≡ a)) u (λ p. judged_more R R (λ b. (b ≡ a) × P) (λ b. Passes (sound t) P × (b ≡ a)) u j (λ k s r. r) (λ b h. (record { passes = p; right = h.1 }, h.0)))

-- A response.
module _ (way : Way) (t : Table) (y : Editors) (card slip : List ℕ) (o : Outputs) where
  abbrev rooms : Rooms
  rooms = rooms_of o.card o.changes o.fired

  abbrev given : OrRefused Answer
  given = answer_by_table way t card slip rooms

  -- What is told, counted and left of what a response comes to.
  abbrev Back : OrRefused Answer → Type 0
  Back u =
      Comes (ResponseReason way t y card slip rooms) (response_refusal (outcome_of u)) (response_second (outcome_of u))
      ((a : Answer) × Countable y × Passes (takes way t) (RulesRight way (value_counts t) (rules_of t) card slip rooms a) × AnswersIn way t y card slip o a × (records_after y u ≡ with_record y (one_answered (own_record y))))
      ((outputs_after u o ≡ o) × RecordsRefused (response_refusal (outcome_of u)) y (records_after y u))

  -- 44 and 32 leave all as it was.
  none : ¬ HasRecord y → Back (refused 44 0)
  unfolding outcome_of outputs_after
  none n = inr (no_record n, (refl, record { counted = λ a b. absurd (a refl); not_counted = λ z. left_44 y n (refused 44 0) }))

  full : HasRecord y → Full (own_record y) → Back (refused 32 0)
  unfolding outcome_of outputs_after
  full h f = inr (full_record h f, (refl, record { counted = λ a b. absurd (b refl); not_counted = λ z. left_32 y h f (refused 32 0) }))

  -- What the table gives is counted.
  counts : Countable y → (u : OrRefused Answer) → given ≡ u → answer_in way t y card slip rooms ≡ u
      → Judged (TableReason (takes way t) (RulesReason way (value_counts t) (rules_of t) card slip rooms)) (λ a. Passes (takes way t) (RulesRight way (value_counts t) (rules_of t) card slip rooms a)) u → Back u
  unfolding outcome_of outputs_after counted
  counts c (taken a) b e j = inl (refl, refl, (a, c, j, answers way t y card slip o a e, left_on y c (taken a)))
  counts c (refused k s) b e j =
      inr (of_table c j, (refl, record { counted = λ m n. left_on y c (refused k s); not_counted = λ z. ⊎_elim (λ q. absurd (only_e (Other 44) given k s (by_table_other way t card slip rooms 44 tt) b q)) (λ q. absurd (only_e (Other 32) given k s (by_table_other way t card slip rooms 32 tt) b q)) z }))

  response_back : Back (answer_in way t y card slip rooms)
  response_back = go (caller_of y)
    where
      go : Caller y → Back (answer_in way t y card slip rooms)
      go (has_none n) = subst Back (sym (always_44 way t y card slip rooms n)) (none n)
      go (has_full h f) = subst Back (sym (always_full way t y card slip rooms h f)) (full h f)
      go (can_count c) = let e = comes_by_table way t y card slip rooms c in subst Back (sym e) (counts c given refl e (table_judged way t card slip rooms))

-- DEMAND 1.
pub demand_1 : Demand1
unfolding unpacked_card unpacked_slip packed_card packed_slip response_in show_slot show_value
demand_1 = record {
  rule_file = file_back;
  file_exactly = λ way text k n r. let o = reason_file way text k n r in (ap reading_refusal o, ap reading_second o);
  file_printed = λ text out. print_back text out (print_into text (length out)) (prints text (length out));
  card_unpacked = λ t ys. card_back _ (Passes (sound t) (CardRight (value_counts t) ys)) (values_in ys) (unpacked_card t ys) (by_table t (CardReason (value_counts t) ys) _ (read_card (value_counts t) ys) _ (card_judged (value_counts t) ys));
  slip_unpacked = λ t ys. slip_back _ (Passes (sound t) (SlipRight (value_counts t) ys)) (changes_in ys) (unpacked_slip t ys) (by_table t (SlipReason (value_counts t) ys) _ (read_slip (value_counts t) ys) _ (slip_judged (value_counts t) ys));
  card_packed = λ t c out. packed_back _ (Passes (sound t) (PackedCardRight (value_counts t) (card_values c) (length out))) (card_bytes (card_values c)) out (packed_card t c (length out))
      (by_table t (PackedCardReason (value_counts t) (card_values c) (length out)) _ (write_card (value_counts t) (card_values c) (length out)) _ (packed_card_judged (value_counts t) (card_values c) (length out)));
  slip_packed = λ t c out. packed_back _ (Passes (sound t) (PackedSlipRight (value_counts t) (changes_of c) (length out))) (slip_bytes (changes_of c)) out (packed_slip t c (length out))
      (by_table t (PackedSlipReason (value_counts t) (changes_of c) (length out)) _ (write_slip (value_counts t) (changes_of c) (length out)) _ (packed_slip_judged (value_counts t) (changes_of c) (length out)));
  responded = response_back;
  slot_shown = slot_name_shown;
  value_shown = value_name_shown;
}
