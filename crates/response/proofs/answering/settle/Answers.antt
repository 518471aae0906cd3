-- `response::answering::settle` meets its contract.
use mathlib.Core.Path.{◌≡◌, ap, ◌∙◌}
use Prim.Native.Nat.{◌≤◌}
use lib.ListN.{length}
use Rattle.table.specs.inner.Flat.{set_of}
use Rattle.cards.specs.Cards.{changes_of}
use Rattle.response.proofs.InOrder.{values_small, flags_length}
use Rattle.response.proofs.Fired.{kept_fires, ends_with, same_changes, same_rules, fired_conflict, fired_answer}
use Rattle.response.proofs.RespondLaws.{ends_refused, ends_same}
use Rattle.response.proofs.AnswerLaws.{cut_answer, cut_rules}
use native.Mathlib.Omega.{arith}
use borrow.Author.Rules.{rules}
use Rattle.response.proofs.answering.settle.Goals.{After-fire}
use Rattle.response.proofs.answering.settle.Goals as goal

-- What firing leaves is the model's.
left : (f : After-fire) → set_of f.fire.new.changes ≡ ends_with f.args.rows.now f.requires.0.0 f.args.card f.args.slip f.requires.0.1
left f = same_changes f.args.rows.now f.requires.0.0 f.args.card f.args.slip f.requires.0.1 _ _ _ f.flags_of-ended.ensures f.fire.ensures

pub fire-requires : goal.fire-requires
fire-requires c =
    let O = c.requires.0.1 in (
      O.kept.few_rules,
      kept_fires _ _ O.kept,
      values_small c.args.card O.card_fits O.rest_empty,
      ap length c.flags_of-ended.ensures ∙ flags_length (changes_of c.args.slip),
      c.requires.1.room,
      c.requires.1.none,
    )

pub returns-in-Some : goal.returns-in-Some
returns-in-Some c =
    ends_refused _ _ _ _
    (fired_conflict c.args.rows.now c.requires.0.0 c.args.card c.args.slip c.requires.0.1 _ (left (goal.at.returns-in-Some c).After-fire) c.in-Some.slot c.in-Some.ensures.1 c.in-Some.ensures.0)

pub returns : goal.returns
returns c =
    let O = c.requires.0.1 in
    let L = left (goal.at.returns c).After-fire in
    let R : length c.args.rows.now ≤ length c.fire.new.fired = search rules in
    ends_same _ _ _ _ _
    (fired_answer c.args.rows.now c.requires.0.0 c.args.card c.args.slip O _ L c.args.card.count c.in_default.ensures (omega arith) ∙ cut_answer _ _ R _ _ _ _)
    (c.write_answer.ensures _ _ L
    (cut_rules _ _ R _ (same_rules c.args.rows.now c.requires.0.0 c.args.card c.args.slip O _ _ _ c.flags_of-ended.ensures c.fire.ensures)) O.rest_empty)
