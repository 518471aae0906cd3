-- `soundness::is_stratum_0` meets its contract.
use mathlib.Core.Path.{◌≡◌}
use mathlib.Core.List.{[]}
use native.Mathlib.Omega.{arith}
use lib.ListN.{get_or, length}
use Rattle.rows.specs.inner.RuleRows.{numbers_of}
use Rattle.rows.proofs.Laws.{at_last}
use Rattle.rows.proofs.RuleRows.{all_bounded, item_numbers}
use Rattle.soundness.proofs.Taken.{rows_stratum_0, rows_other}
use Rattle.soundness.proofs.is_stratum_0.Goals.{After-stratum}
use Rattle.soundness.proofs.is_stratum_0.Goals as goal

-- The stratum of the row at hand.
carried : (c : After-stratum) → c.stratum.result ≡ get_or (get_or (numbers_of c.args.rows.now) c.loop-row.row-index []) 3 0
carried c = rw (item_numbers c.args.rows.now c.loop-row.row-index c.row-item.result c.loop-row-test.true c.row-item.is) c.stratum.ensures

pub loop-row-init : goal.loop-row-init
loop-row-init c = λ k h. absurd (omega arith)

pub returns-then-stratum-gt0 : goal.returns-then-stratum-gt0
returns-then-stratum-gt0 c =
    rows_other (numbers_of c.args.rows.now) (length c.args.rows.now) (all_bounded c.args.rows.now c.requires) c.loop-row.row-index c.loop-row-test.true (omega (arith, carried (goal.at.returns-then-stratum-gt0 c).After-stratum, c.if-stratum-gt0.true))

pub loop-row-preserved : goal.loop-row-preserved
loop-row-preserved c =
    at_last (λ k. get_or (get_or (numbers_of c.args.rows.now) k []) 3 0 ≡ 0) c.loop-row.row-index c.loop-row.invariant (omega (arith, carried (goal.at.loop-row-preserved c).After-stratum, c.if-stratum-gt0.false))

pub returns : goal.returns
returns c =
    rows_stratum_0 (numbers_of c.args.rows.now) (length c.args.rows.now) (all_bounded c.args.rows.now c.requires) (λ k h. c.loop-row.invariant k (omega (arith, h, c.loop-row-test.false)))
