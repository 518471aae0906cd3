-- `marking::pairs::first_negative` meets its contract.
use mathlib.Core.Path.{sym, ◌∙◌}
use native.Mathlib.Omega.{arith}
use borrow.Author.Rules.{rules}
use Rattle.marking.proofs.Negative.{others_are, unassigned_are, found_next, found_end}
use Rattle.marking.proofs.pairs.first_negative.Goals as goal

pub others-preserved : goal.others-preserved
others-preserved c =
    let live = c.args.live.now in
    let positive = c.args.positive.now in
    let is = others_are live positive c.slots.s c.others.v (omega arith) (sym c.is_changed.ensures ∙ c.if-is_changed.true) in
    found_next live positive c.others.negative c.slots.s c.others.v _ (search rules) is c.others.invariant

pub unassigned-preserved : goal.unassigned-preserved
unassigned-preserved c =
    let live = c.args.live.now in
    let positive = c.args.positive.now in
    let is = unassigned_are live positive c.slots.s c.unassigned.v (omega arith) (sym c.is_changed.ensures ∙ c.if-is_changed.false) in
    found_next live positive c.unassigned.negative c.slots.s c.unassigned.v _ (search rules) is c.unassigned.invariant

pub returns : goal.returns
returns c = found_end _ _ _ _ _ (omega arith) c.slots.invariant
