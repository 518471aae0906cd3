-- `judging::counting::release` meets its contract.
use mathlib.Core.Path.{◌∙◌}
use Prim.Native.Nat.{ℕ, ◌+◌, ◌≤◌, ◌<◌}
use lib.ListN.{length, get_or, length-set}
use Rattle.table.specs.inner.Flat.{place_of}
use Rattle.table.proofs.Walks.{assigned_from, assigned_start, assigned_end}
use Rattle.rows.specs.inner.Rows.{pair_in, rule_in}
use Rattle.rows.proofs.Laws.{row_assigned_next}
use Rattle.judging.proofs.Counts.{times_none, times_here, released_next}
use native.Mathlib.Omega.{arith}
use borrow.Author.Rules.{rules}
use Rattle.judging.proofs.counting.release.Goals.{After-place-p, In-loop-k}
use Rattle.judging.proofs.counting.release.Goals as goal

-- There is an assignment at the place at hand.
used : (c : In-loop-k) → c.loop-k.k < (rule_in c.args.row.now.numbers).assigned
used c = omega (arith, c.assigned-k-end.ensures)

-- It is counted.
counted : (c : After-place-p) → 1 ≤ get_or c.loop-k.live c.place-p.result 0
counted c =
    let row = c.args.row.now.numbers in
    let e = row_assigned_next row c.args.row.now.fits c.loop-k.k c.assignment.result (used c.before.before) c.assignment.ensures in
    let all = rw (← (assigned_start (rule_in row))) at (c.requires.1 c.place-p.result c.place-p.ensures.1) in
    let left = rw e at (c.loop-k.invariant.1 c.place-p.result c.place-p.ensures.1) in
    let one = rw (← c.place-p.ensures.0) at (times_here (pair_in c.assignment.result) (assigned_from (rule_in row) (c.loop-k.k + 1))) in
    omega (arith, all, left, one)

pub overflow_sub-live : goal.overflow_sub-live
overflow_sub-live c = let h = counted (goal.at.overflow_sub-live c).After-place-p in search rules

pub loop-k-preserved : goal.loop-k-preserved
loop-k-preserved c =
    let e = row_assigned_next c.args.row.now.numbers c.args.row.now.fits c.loop-k.k c.assignment.result (used (goal.at.loop-k-preserved c).In-loop-k) c.assignment.ensures in
    let one = rw c.place-p.ensures.0 at (counted (goal.at.loop-k-preserved c).After-place-p) in
    let inside : place_of (pair_in c.assignment.result) < length c.loop-k.live = omega (arith, c.place-p.ensures, c.loop-k.invariant.0) in (
      length-set c.loop-k.live _ _ ∙ c.loop-k.invariant.0,
      λ (q : ℕ) h.
          let left = rw e at (c.loop-k.invariant.1 q h) in
          let out = released_next c.loop-k.live (pair_in c.assignment.result) (assigned_from (rule_in c.args.row.now.numbers) (c.loop-k.k + 1)) q inside one in
          rw c.place-p.ensures.0 (omega (arith, left, out)),
    )

pub returns : goal.returns
returns c =
    let r = rule_in c.args.row.now.numbers in
    let e = assigned_end r c.loop-k.k (omega (arith, c.assigned-k-end.ensures)) in
    (c.loop-k.invariant.0, λ (q : ℕ) h. let end = rw e at (c.loop-k.invariant.1 q h) in rw (← (assigned_start r)) (omega (arith, end, times_none q)))
