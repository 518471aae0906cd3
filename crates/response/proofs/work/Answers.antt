-- `response::work` meets its contract.
use mathlib.Core.Path.{◌≡◌, sym, ap, ap₂, ◌∙◌}
use mathlib.Core.Bool.{true, false}
use mathlib.Core.List.{List}
use Prim.Native.Nat.{ℕ}
use lib.ListN.{length, take}
use lib.Seq.{length-take-le}
use borrow.Author.Rules.{rules}
use native.Mathlib.Omega.{arith}
use Rattle.std.specs.Prelude.{Err}
use Rattle.laws.specs.Answers.{taken}
use Rattle.laws.proofs.Equations.{from_true}
use Rattle.model.specs.Rules.{Pair}
use Rattle.refusals.specs.Numbers.{refusal_number, refusal_second}
use Rattle.rows.specs.inner.RuleRows.{rows_table}
use Rattle.table.specs.declared.Table.{Table}
use Rattle.table.specs.Link.{rules_of}
use Rattle.soundness.specs.Sound.{well_formed, takes}
use Rattle.soundness.specs.inner.Admitted.{Enters}
use Rattle.soundness.specs.inner.Admitted as admitted
use Rattle.soundness.proofs.WellFormed.{well_formed_e}
use Rattle.soundness.proofs.Taken.{takes_form, not_taken_form, kept_right}
use Rattle.cards.specs.Forms.{read_card, read_slip}
use Rattle.cards.specs.Cards.{card_values, changes_of, card_of, slip_of}
use Rattle.cards.proofs.EntryTrips.{card_of_values, slip_of_changes}
use Rattle.response.specs.Respond.{rooms_of, if_room, answer_by}
use Rattle.response.specs.inner.InOrder.{Kept}
use Rattle.response.proofs.InOrder.{rules_counted}
use Rattle.response.proofs.RespondLaws.{card_taken, card_refused, slip_taken, slip_refused, ends_refused, ends_same, by_table_31, by_entry, entered_kept, by_rules_card, by_rules_slip, by_rules_on, in_order}
use Rattle.response.proofs.work.Goals.{After-strata_right, Else-not-strata_right, In-Some, In_ok-own, In_ok-asked}
use Rattle.response.proofs.work.Goals as goal

-- The table that was entered is well formed, with what is kept of it.
got : (c : In-Some) (t : Table) → Enters t (well_formed t) c.args.entry c.args.counts.now c.args.rows.now → (true ≡ well_formed t) × admitted.EntryKept t c.in-Some.entered c.args.counts.now c.args.rows.now
got c t w = rw c.in-Some.is at w

-- It passes 31 where its rows carry the strata that the response asked takes.
by_rows : (c : After-strata_right) (t : Table) → (true ≡ well_formed t) × admitted.EntryKept t c.in-Some.entered c.args.counts.now c.args.rows.now → takes c.args.way t ≡ c.strata_right.result
by_rows c t g = takes_form c.args.way t (sym g.0) ∙ sym (kept_right c.args.way t _ _ _ g.1) ∙ sym c.strata_right.ensures

right : (c : Else-not-strata_right) (t : Table) → (true ≡ well_formed t) × admitted.EntryKept t c.in-Some.entered c.args.counts.now c.args.rows.now → takes c.args.way t ≡ true
right c t g = takes_form c.args.way t (sym g.0) ∙ sym (kept_right c.args.way t _ _ _ g.1) ∙ sym c.strata_right.ensures ∙ c.if-not-strata_right.false

-- What is left of it.
kept : (c : Else-not-strata_right) (t : Table) → (true ≡ well_formed t) × admitted.EntryKept t c.in-Some.entered c.args.counts.now c.args.rows.now
    → Kept c.args.way (take c.in-Some.entered.count c.args.rows.now) (take c.in-Some.entered.width c.args.counts.now)
kept c t g = entered_kept c.args.way t c.in-Some.entered _ _ g.1.shaped (search rules) (right c t g) g.1

own_card : (c : In_ok-own) → (S : List ℕ) × (read_card (take c.in-Some.entered.width c.args.counts.now) c.args.card.now ≡ taken S) × (c.in_ok-own.own ≡ card_of S)
own_card c = card_taken _ _ c.in_ok-own.ensures

asked_slip : (c : In_ok-asked) → (I : List Pair) × (read_slip (take c.in-Some.entered.width c.args.counts.now) c.args.slip.now ≡ taken I) × (c.in_ok-asked.asked ≡ slip_of I)
asked_slip c = slip_taken _ _ c.in_ok-asked.ensures

pub returns-in_default : goal.returns-in_default
returns-in_default c t w = let g : false ≡ well_formed t = rw c.in_default.is at w in ends_refused _ _ _ _ (by_table_31 c.args.way t _ _ _ (not_taken_form c.args.way t (sym g)))

pub shared_ref_as_front-own_counts : goal.shared_ref_as_front-own_counts
shared_ref_as_front-own_counts c =
    let p = c.requires.0 in
    let g = got (goal.at.shared_ref_as_front-own_counts c).In-Some p.0 p.1 in
    rw g.1.width_is (well_formed_e p.0 g.1.shaped (from_true (well_formed p.0) (sym g.0))).few_slots

pub returns-then-not-strata_right : goal.returns-then-not-strata_right
returns-then-not-strata_right c t w =
    let g = got (goal.at.returns-then-not-strata_right c).In-Some t w in
    ends_refused _ _ _ _ (by_table_31 c.args.way t _ _ _ (by_rows (goal.at.returns-then-not-strata_right c).After-strata_right t g ∙ c.if-not-strata_right.true))

pub returns-in_err-own : goal.returns-in_err-own
returns-in_err-own c t w =
    let r = c.in_err-own.field-0.0 in
    let z : c.from_residual.result ≡ Err r = search rules in
    let g = got (goal.at.returns-in_err-own c).In-Some t w in
    let e = by_entry c.args.way t _ _ _ g.1.shaped (search rules) (right (goal.at.returns-in_err-own c).Else-not-strata_right t g) g.1 _ _ _ in
    rw z (ends_refused _ (refusal_number r) (refusal_second r) _ (e ∙ by_rules_card _ _ _ _ _ _ (refusal_number r) (refusal_second r) (card_refused _ r c.in_err-own.ensures)))

pub returns-in_err-asked : goal.returns-in_err-asked
returns-in_err-asked c t w =
    let r = c.in_err-asked.field-0.0 in
    let z : c.from_residual-in_err-asked.result ≡ Err r = search rules in
    let S = own_card (goal.at.returns-in_err-asked c).In_ok-own in
    let g = got (goal.at.returns-in_err-asked c).In-Some t w in
    let e = by_entry c.args.way t _ _ _ g.1.shaped (search rules) (right (goal.at.returns-in_err-asked c).Else-not-strata_right t g) g.1 _ _ _ in
    rw z (ends_refused _ (refusal_number r) (refusal_second r) _ (e ∙ by_rules_slip _ _ _ _ _ _ S.0 (refusal_number r) (refusal_second r) S.1 (slip_refused _ r c.in_err-asked.ensures)))

pub finish-requires : goal.finish-requires
finish-requires c =
    let p = c.requires.0 in
    let g = got (goal.at.finish-requires c).In-Some p.0 p.1 in
    let K = kept (goal.at.finish-requires c).Else-not-strata_right p.0 g in
    let S = own_card (goal.at.finish-requires c).In_ok-own in
    let I = asked_slip (goal.at.finish-requires c).In_ok-asked in
    let l = length-take-le c.in-Some.entered.count c.args.rows.now (rw g.1.count_is g.1.admitted.inside) in
    (in_order c.args.way _ _ K _ _ S.0 I.0 _ _ S.1 I.1 S.2 I.2, record { room = omega (arith, l, g.1.count_is, g.1.admitted.inside, c.requires.1.room); none = c.requires.1.none })

pub returns : goal.returns
returns c t w =
    let g = got (goal.at.returns c).In-Some t w in
    let K = kept (goal.at.returns c).Else-not-strata_right t g in
    let own_rows = take c.in-Some.entered.count c.args.rows.now in
    let ks = take c.in-Some.entered.width c.args.counts.now in
    let rs = rules_of (rows_table own_rows) in
    let S = own_card (goal.at.returns c).In_ok-own in
    let I = asked_slip (goal.at.returns c).In_ok-asked in
    let O = in_order c.args.way own_rows ks K _ _ S.0 I.0 _ _ S.1 I.1 S.2 I.2 in
    let rooms = rooms_of c.args.renewed.now c.args.changes.now c.args.fired.now in
    let e = by_entry c.args.way t _ _ _ g.1.shaped (search rules) (right (goal.at.returns c).Else-not-strata_right t g) g.1 c.args.card.now c.args.slip.now rooms in
    ends_same _ _ _ _ _
    (e ∙ by_rules_on c.args.way ks rs c.args.card.now c.args.slip.now rooms S.0 I.0 S.1 I.1
    ∙ ap₂ (λ (w m : ℕ). if_room w m rooms (answer_by c.args.way ks rs S.0 I.0)) (sym O.same_width) (rules_counted own_rows K.few_rules)
    ∙ ap₂ (λ (vs : List ℕ) (ps : List Pair). if_room c.in_ok-own.own.count (length own_rows) rooms (answer_by c.args.way ks rs vs ps)) (sym (ap card_values S.2 ∙ card_of_values S.0)) (sym (ap changes_of I.2 ∙ slip_of_changes I.0)))
    c.finish.ensures
