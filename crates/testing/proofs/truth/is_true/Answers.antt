-- `testing::truth::is_true` meets its contract.
use mathlib.Core.Bool.{false}
use lib.ListN.{get_or}
use borrow.Author.Tests.{eq-eqb, ne_eqb}
use Rattle.table.specs.Link.{literal_of}
use Rattle.table.specs.inner.Flat.{set_of}
use Rattle.rows.specs.inner.Rows.{literal_in}
use Rattle.testing.proofs.Holding.{holds_not, holds_plain}
use Rattle.testing.proofs.Truths.{truth_test}
use Rattle.testing.proofs.truth.is_true.Goals as goal

pub returns-then-number-eq1 : goal.returns-then-number-eq1
returns-then-number-eq1 c = λ S bs t. holds_not S (set_of bs) (literal_of (literal_in c.args.number)) (get_or c.args.truth.now c.from-at.result false) (eq-eqb _ _ c.if-number-eq1.true) (rw c.from-at.ensures (truth_test S bs c.args.truth.now c.args.number t))

pub returns-else-number-eq1 : goal.returns-else-number-eq1
returns-else-number-eq1 c =
    λ S bs t. holds_plain S (set_of bs) (literal_of (literal_in c.args.number)) (get_or c.args.truth.now c.from-at.result false) (ne_eqb _ _ c.if-number-eq1.false) (rw c.from-at.ensures (truth_test S bs c.args.truth.now c.args.number t))
