-- `firing::assign` meets its contract.
use mathlib.Core.Path.{◌∙◌}
use Prim.Native.Nat.{◌<◌}
use lib.ListN.{length-set}
use Rattle.laws.specs.Limits.{assignment_limit}
use Rattle.table.specs.inner.Flat.{add_pairs}
use Rattle.table.proofs.Walks.{assigned_start, assigned_end, assigned_next}
use Rattle.rows.specs.inner.Rows.{rule_in}
use Rattle.rows.proofs.Laws.{assignment_is, row_rule_shaped}
use Rattle.testing.proofs.Truths.{truth_more}
use native.Mathlib.Omega.{arith}
use borrow.Author.Rules.{rules}
use Rattle.firing.proofs.assign.Goals.{In-loop-k}
use Rattle.firing.proofs.assign.Goals as goal

-- There is room for an assignment at the place at hand.
few : (c : In-loop-k) → c.loop-k.k < assignment_limit
few c = omega (arith, c.assigned-k-end.ensures.0, c.args.assigning.now.fits.few_assignments)

pub loop-k-preserved : goal.loop-k-preserved
unfolding add_pairs
loop-k-preserved c =
    let row = c.args.assigning.now.numbers in
    let k = c.loop-k.k in
    let e = assigned_next (rule_in row) (row_rule_shaped row c.args.assigning.now.fits.row_shaped) k (omega (arith, c.assigned-k-end.ensures.0)) c.args.assigning.now.fits.few_assignments in
    let d = rw (assignment_is row k (few (goal.at.loop-k-preserved c).In-loop-k)) at e in (length-set c.loop-k.changes _ _ ∙ c.loop-k.invariant.0, search rules, rw (c.place-p.ensures.0, c.assignment-number.ensures) (rw d at c.loop-k.invariant.2), λ S t. truth_more S c.loop-k.changes c.loop-k.truth c.place-p.result c.place-p.ensures.1 c.loop-k.invariant.0 (c.loop-k.invariant.3 S t), c.wake-top.ensures.0, c.wake-top.ensures.1)

pub returns : goal.returns
unfolding add_pairs
returns c =
    let r = rule_in c.args.assigning.now.numbers in (
      rw (← (assigned_start r)) (rw (assigned_end r c.loop-k.k (omega (arith, c.assigned-k-end.ensures.0))) at c.loop-k.invariant.2),
      c.loop-k.invariant.3,
      c.loop-k.invariant.4,
      c.loop-k.invariant.5,
    )
