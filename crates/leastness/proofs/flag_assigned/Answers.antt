-- `leastness::flag_assigned` meets its contract.
use mathlib.Core.Path.{◌≡◌, sym, ◌∙◌, ap}
use mathlib.Core.Bool.{true}
use mathlib.Core.List.{List, ◌∷◌}
use Prim.Native.Nat.{◌+◌, ◌<◌}
use lib.ListN.{get_or, set}
use Rattle.model.specs.Rules.{Pair}
use Rattle.table.specs.Link.{assignments_of}
use Rattle.table.specs.inner.Flat.{place_of, pair_places}
use Rattle.table.proofs.Walks.{assigned_from, assigned_start, assigned_end}
use Rattle.rows.specs.inner.Rows.{rule_in, pair_in}
use Rattle.rows.proofs.Laws.{row_assigned_next}
use Rattle.leastness.specs.inner.Flagging.{flagging, Room, flag_all}
use Rattle.leastness.proofs.Flagging.{flag_off, flag_old, flag_new, flag_none, room_more}
use native.Mathlib.Omega.{arith}
use borrow.Author.Rules.{rules}
use Rattle.leastness.proofs.flag_assigned.Goals.{After-place-p, Else-flags-p}
use Rattle.leastness.proofs.flag_assigned.Goals as goal

-- The pair at hand is the next of those assigned.
first : (c : After-place-p) →
    flag_all c.args.high.now c.args.s (pair_in c.assignment-x.result ∷ assigned_from (rule_in c.args.row.now.numbers) (c.pairs.k + 1)) (flagging c.pairs.flags c.pairs.queue c.pairs.n) ≡ flag_all c.args.high.now c.args.s (assignments_of (rule_in c.args.row.now.numbers)) (flagging c.args.flags.now c.args.queue.now c.args.top)
first c = rw (row_assigned_next c.args.row.now.numbers c.args.row.now.fits c.pairs.k c.assignment-x.result (search rules) c.assignment-x.ensures) at c.pairs.invariant.1

-- It is not flagged yet, so there is room.
room : (c : Else-flags-p) →
    (c.pairs.n < pair_places) × Room (set c.pairs.flags c.place-p.result true) (c.pairs.n + 1)
room c = room_more c.pairs.flags c.pairs.n c.place-p.result c.place-p.ensures.1 c.if-flags-p.false c.pairs.invariant.0

same : (c : Else-flags-p) → get_or c.args.high.now (place_of (pair_in c.assignment-x.result)) 0 ≡ c.args.s
same c = rw c.place-p.ensures.0 at c.if-high-p.false

pub pairs-init : goal.pairs-init
pairs-init c = (c.requires, ap (λ (ps : List Pair). flag_all c.args.high.now c.args.s ps (flagging c.args.flags.now c.args.queue.now c.args.top)) (assigned_start (rule_in c.args.row.now.numbers)))

pub pairs-preserved-then-high-p : goal.pairs-preserved-then-high-p
pairs-preserved-then-high-p c = (c.pairs.invariant.0, sym (flag_off c.args.high.now c.args.s _ _ _ (rw c.place-p.ensures.0 at c.if-high-p.true)) ∙ first (goal.at.pairs-preserved-then-high-p c).After-place-p)

pub pairs-preserved-then-flags-p : goal.pairs-preserved-then-flags-p
pairs-preserved-then-flags-p c = (c.pairs.invariant.0, sym (flag_old c.args.high.now c.args.s _ _ (flagging c.pairs.flags c.pairs.queue c.pairs.n) (rw c.place-p.ensures.0 at c.if-flags-p.true)) ∙ first (goal.at.pairs-preserved-then-flags-p c).After-place-p)

pub offset_bounds-queue-n : goal.offset_bounds-queue-n
offset_bounds-queue-n c = let z = (room (goal.at.offset_bounds-queue-n c).Else-flags-p).0 in omega (arith, z)

pub bounds-queue-n : goal.bounds-queue-n
bounds-queue-n c = let z = (room (goal.at.bounds-queue-n c).Else-flags-p).0 in omega (arith, z)

pub overflow_add-n : goal.overflow_add-n
overflow_add-n c = let z = (room (goal.at.overflow_add-n c).Else-flags-p).0 in omega (arith, z)

pub pairs-preserved : goal.pairs-preserved
pairs-preserved c = ((room (goal.at.pairs-preserved c).Else-flags-p).1, rw c.place-p.ensures.0 (sym (flag_new c.args.high.now c.args.s _ _ c.pairs.flags c.pairs.queue c.pairs.n (same (goal.at.pairs-preserved c).Else-flags-p) (rw c.place-p.ensures.0 at c.if-flags-p.false)) ∙ first (goal.at.pairs-preserved c).After-place-p))

pub returns : goal.returns
returns c =
    sym (flag_none c.args.high.now c.args.s (flagging c.pairs.flags c.pairs.queue c.pairs.n)) ∙ (rw (assigned_end (rule_in c.args.row.now.numbers) c.pairs.k (search rules)) at c.pairs.invariant.1)
