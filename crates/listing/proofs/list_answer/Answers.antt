-- `list_answer` meets its contract.
use Prim.Native.Nat.{ℕ}
use mathlib.Core.List.{List}
use Rattle.listing.specs.Printed.{printed}
use Rattle.listing.specs.inner.AnswerLines.{answer_bytes, list_answer}
use Rattle.listing.proofs.Placed.{placed_none, placed_all}
use Rattle.listing.proofs.list_answer.Goals.{Start}
use Rattle.listing.proofs.list_answer.Goals as goal

-- The lines of the answer.
abbrev lines : Start → List ℕ
lines s = printed (list_answer s.args.text.now s.args.t (answer_bytes s.args.card.now s.args.changes.now s.args.bits.now) s.args.editor s.args.tally)

pub returns-then-out-size : goal.returns-then-out-size
returns-then-out-size c = placed_none {ys = lines (goal.at.returns-then-out-size c).Start} c.put_answer-size.ensures c.if-out-size.true

pub returns : goal.returns
returns c =
    placed_all {ys = lines (goal.at.returns c).Start} c.put_answer-size.ensures c.if-out-size.false c.put_answer.ensures
