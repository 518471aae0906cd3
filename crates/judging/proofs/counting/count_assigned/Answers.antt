-- `judging::counting::count_assigned` meets its contract.
use mathlib.Core.Path.{◌∙◌}
use Prim.Native.Nat.{ℕ, ◌+◌, ◌<◌}
use lib.ListN.{length, length-set}
use Rattle.table.specs.inner.Flat.{place_of}
use Rattle.table.proofs.Walks.{assigned_start, assigned_end}
use Rattle.rows.specs.inner.Rows.{pair_in, rule_in}
use Rattle.rows.proofs.Laws.{row_assigned_next}
use Rattle.judging.proofs.Counts.{times_none, counted_next, counted_few}
use native.Mathlib.Omega.{arith}
use Rattle.judging.proofs.counting.count_assigned.Goals.{In-loop-k}
use Rattle.judging.proofs.counting.count_assigned.Goals as goal

-- There is an assignment at the place at hand.
used : (c : In-loop-k) → c.loop-k.k < (rule_in c.args.row.now.numbers).assigned
used c = omega (arith, c.assigned-k-end.ensures)

pub loop-k-preserved : goal.loop-k-preserved
loop-k-preserved c =
    let e = row_assigned_next c.args.row.now.numbers c.args.row.now.fits c.loop-k.k c.assignment.result (used (goal.at.loop-k-preserved c).In-loop-k) c.assignment.ensures in
    let inside : place_of (pair_in c.assignment.result) < length c.loop-k.live = omega (arith, c.place-p.ensures, c.loop-k.invariant.0) in (length-set c.loop-k.live _ _ ∙ c.loop-k.invariant.0, λ q h. rw c.place-p.ensures.0 (counted_next c.loop-k.live (pair_in c.assignment.result) _ q inside ∙ (rw e at (c.loop-k.invariant.1 q h))), λ (q : ℕ). omega (arith, counted_few c.loop-k.live c.place-p.result (65000 + c.loop-k.k) q c.loop-k.invariant.2))

pub returns : goal.returns
returns c =
    let r = rule_in c.args.row.now.numbers in
    let e = assigned_end r c.loop-k.k (omega (arith, c.assigned-k-end.ensures)) in
    (c.loop-k.invariant.0, λ (q : ℕ) h. let end = rw e at (c.loop-k.invariant.1 q h) in rw (← (assigned_start r)) (omega (arith, end, times_none q)))
