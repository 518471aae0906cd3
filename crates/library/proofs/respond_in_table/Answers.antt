-- `library::respond_in_table` meets its contract: the place is that of the caller's record; where there is none, 44 is the answer.
use borrow.Author.Rules.{rules}
use Rattle.library.proofs.Lent.{own_said, none_said}
use Rattle.response.specs.Respond.{outputs, response_said}
use Rattle.library.proofs.respond_in_table.Goals as goal

pub returns-in_default : goal.returns-in_default
returns-in_default c =
    rw c.from.ensures
    (none_said c.args.way c.args.t.now c.args.card.now c.args.slip.now c.args.renewed.now c.args.changes.now c.args.fired.now c.args.records.now c.args.editor c.in_default.ensures)

pub offset_bounds-records-at : goal.offset_bounds-records-at
offset_bounds-records-at c = let h = c.in-Some.ensures.0 in search rules

pub slice_copy_out-tally : goal.slice_copy_out-tally
slice_copy_out-tally c = c.in-Some.ensures.0

pub offset_bounds-records-at-2 : goal.offset_bounds-records-at-2
offset_bounds-records-at-2 c = let h = c.in-Some.ensures.0 in search rules

pub bounds-records-at : goal.bounds-records-at
bounds-records-at c = c.in-Some.ensures.0

pub returns : goal.returns
returns c =
    rw c.from-2.ensures
    (own_said c.args.way c.args.t.now c.args.card.now c.args.slip.now c.args.renewed.now c.args.changes.now c.args.fired.now c.args.records.now c.args.editor c.in-Some.at (response_said c.respond_by-response.result)
    (outputs c.respond_by-response.new.renewed c.respond_by-response.new.changes c.respond_by-response.new.fired)
    c.in-Some.ensures c.respond_by-response.ensures)
