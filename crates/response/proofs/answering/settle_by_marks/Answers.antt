-- `response::answering::settle_by_marks` meets its contract.
use mathlib.Core.Path.{◌≡◌, ap, ◌∙◌}
use Prim.Native.Nat.{◌≤◌}
use lib.ListN.{length}
use Rattle.table.specs.Link.{rules_of}
use Rattle.rows.specs.inner.RuleRows.{rows_table}
use Rattle.cards.specs.Cards.{card_values, changes_of}
use Rattle.marks.specs.Marks.{declared_pairs}
use Rattle.selecting.specs.inner.Selected.{Selected, number_from_0}
use Rattle.response.proofs.InOrder.{values_small, flags_length, ran_none}
use Rattle.response.proofs.Selected.{card_is, slip_is, all_declared, assigned_below, selected_refused, selected_answer, selected_positive, selected_fired}
use Rattle.response.proofs.AnswerLaws.{cut_answer, cut_rules}
use Rattle.response.proofs.RespondLaws.{ends_refused, ends_same, number_positive}
use borrow.Author.Rules.{rules}
use Rattle.std.specs.Prelude.{Err}
use Rattle.refusals.specs.Numbers.{refusal_number, refusal_second}
use Rattle.response.proofs.answering.settle_by_marks.Goals.{After-select}
use Rattle.response.proofs.answering.settle_by_marks.Goals as goal

-- What the selection comes to.
selected : (q : After-select) →
    Selected (declared_pairs q.args.counts.now) (rules_of (rows_table q.args.rows.now)) (card_values q.args.card) (changes_of q.args.slip)
    (number_from_0 q.select.result) q.select.new.positive q.select.new.fired
selected q =
    let O = q.requires.0 in
    q.select.ensures.selected _ _
    (card_is q.args.rows.now q.args.counts.now q.args.card q.args.slip O)
    (slip_is q.args.rows.now q.args.counts.now q.args.card q.args.slip O _ q.flags_of-ended.ensures) O.slip_once
    (all_declared q.args.rows.now q.args.counts.now q.args.card q.args.slip O)

pub select-requires : goal.select-requires
select-requires c =
    let O = c.requires.0 in
    record {
      few_rules = O.kept.few_rules;
      few_slots = O.kept.few_slots;
      few_values = O.kept.few_values;
      assigned_below = assigned_below c.args.rows.now c.args.counts.now c.args.card c.args.slip O;
      card_values = values_small c.args.card O.card_fits O.rest_empty;
      pair_flags = ap length c.flags_of-ended.ensures ∙ flags_length (changes_of c.args.slip);
      fired_room = c.requires.1.room;
      none_fired = ran_none _ c.args.ran.now c.requires.1;
    }

pub returns-in_err-select : goal.returns-in_err-select
returns-in_err-select c =
    let r = c.in_err-select.field-0.0 in
    let z : c.from_residual.result ≡ Err r = search rules in
    let k : number_from_0 c.select.result ≡ refusal_number r = ap number_from_0 c.in_err-select.was in
    let s : refusal_second r ≡ 0 = c.in_err-select.ensures.second in
    let e = selected_refused c.args.rows.now c.args.counts.now c.args.card c.args.slip c.requires.0 _ _ _ (selected (goal.at.returns-in_err-select c).After-select) (rw k (number_positive r)) in
    rw z (ends_refused _ _ _ _ (e ∙ rw (k, s)))

pub returns : goal.returns
returns c =
    let O = c.requires.0 in
    let z : number_from_0 c.select.result ≡ 0 = ap number_from_0 c.in_ok-select.was in
    let Q = selected (goal.at.returns c).After-select in
    let R : length c.args.rows.now ≤ length c.select.new.fired = search rules in
    ends_same _ _ _ _ _ (selected_answer c.args.rows.now c.args.counts.now c.args.card c.args.slip O _ _ _ Q z ∙ cut_answer _ _ R _ _ _ _)
    (c.write_answer.ensures _ _ (selected_positive c.args.rows.now c.args.counts.now c.args.card c.args.slip O _ _ _ Q z)
    (cut_rules _ _ R _ (selected_fired c.args.rows.now c.args.counts.now c.args.card c.args.slip O _ _ _ Q z)) O.rest_empty)
