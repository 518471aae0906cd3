-- `leastness::are_held` meets its contract.
use mathlib.Core.Path.{◌≡◌, refl, sym, ◌∙◌}
use Prim.Native.Nat.{ℕ, ◌+◌, ◌-◌, ◌/◌, ◌≤◌, ◌<◌}
use Rattle.laws.proofs.Equations.{from_true}
use Rattle.table.specs.inner.Shape.{Shaped}
use Rattle.table.specs.inner.Fits.{TableFits}
use Rattle.rows.specs.inner.Rows.{table_in}
use Rattle.rows.specs.inner.RuleRows.{numbers_of, rows_table}
use Rattle.rows.specs.declared.RuleRow.{RuleRow}
use Rattle.rows.proofs.RuleRows.{all_count, all_table_fits, all_shaped, item_rule, item_numbers}
use Rattle.leastness.specs.inner.Low.{Low}
use mathlib.Core.List.{List}
use Rattle.leastness.proofs.Flagging.{queue_few}
use Rattle.leastness.proofs.Carried.{Carried, Valid, carried_start, carried_step, carried_small, valid_start, valid_more, not_valid}
use Rattle.leastness.proofs.Closing.{Closing, closing_start, ask_first, ask_ground, ask_chain}
use Rattle.leastness.proofs.Following.{Done, done_start, chaining_start, chaining_over, chaining_rule, chaining_held, chaining_end, cut_set, held_least}
use Rattle.leastness.proofs.Chains.{Falls, nexts_length}
use lib.ListN.{get_or, length, length-set}
use native.Mathlib.Omega.{arith}
use borrow.Author.Rules.{rules}
use Rattle.leastness.proofs.are_held.Goals.{After-ask, After-gather, After-work, Else-s-h, In-chain, Start}
use Rattle.leastness.proofs.are_held.Goals as goal

-- The table that the rows stand for fits, and has its places.
fits : (c : Start) → TableFits (rows_table c.args.rows.now)
fits c = all_table_fits c.args.rows.now c.requires.0

shape : (c : Start) → Shaped (rows_table c.args.rows.now)
shape c = all_shaped c.args.rows.now c.requires.0

count : (c : Start) → (rows_table c.args.rows.now).count ≡ length c.args.rows.now
count c = all_count c.args.rows.now

-- No row carries a stratum above the number of rules.
low : (rows : List RuleRow) (i : ℕ) (row : RuleRow) → i < length rows → row ≡ get_or rows i row → Low (numbers_of rows) (length rows) → get_or row.numbers 3 0 ≤ length rows
low rows i row l e g = rw (item_numbers rows i row l e) at (g.each i l)

-- All carried numbers are gathered.
full : (c : After-gather) → Carried (rows_table c.args.rows.now) (rows_table c.args.rows.now).count c.gather.high
full c = let e : c.gather.row-index ≡ (rows_table c.args.rows.now).count = omega (arith, c.gather.auto.row-index-end, c.gather-test.false, (let it : (rows_table c.args.rows.now).count ≡ length c.args.rows.now = all_count c.args.rows.now in it)) in rw e at c.gather.invariant

-- All rules are looked at.
asked-all : (c : After-ask) → Valid (rows_table c.args.rows.now) (rows_table c.args.rows.now).count c.gather.high
asked-all c = let e : c.ask.k ≡ (rows_table c.args.rows.now).count = omega (arith, c.ask.auto.k-end, c.ask-test.false, (let it : (rows_table c.args.rows.now).count ≡ length c.args.rows.now = all_count c.args.rows.now in it)) in rw e at c.ask.invariant.1.0

closed : (c : After-ask) →
    Closing (rows_table c.args.rows.now) c.gather.high (rows_table c.args.rows.now).count c.ask.held c.ask.flags c.ask.queue c.ask.top c.ask.heads c.ask.nexts
closed c = let e : c.ask.k ≡ (rows_table c.args.rows.now).count = omega (arith, c.ask.auto.k-end, c.ask-test.false, (let it : (rows_table c.args.rows.now).count ≡ length c.args.rows.now = all_count c.args.rows.now in it)) in rw e at c.ask.invariant.1.1

-- The whole queue is done.
rested : (c : After-work) → Done (rows_table c.args.rows.now) c.gather.high c.work.top c.work.queue c.work.held
rested c = let e : c.work.at ≡ c.work.top = omega (arith, c.work.invariant.0, c.work-test.false) in rw e at c.work.invariant.2.1

-- The rule at a place of a chain is one of the rows'.
waiting : (c : In-chain) → (c.chain.x - 1) / 9 < length c.args.rows.now
unfolding table_in
waiting c = chaining_rule (rows_table c.args.rows.now) ((let it : TableFits (rows_table c.args.rows.now) = all_table_fits c.args.rows.now c.requires.0 in it)) ((let it : Shaped (rows_table c.args.rows.now) = all_shaped c.args.rows.now c.requires.0 in it)) c.gather.high ((let it : Carried (rows_table c.args.rows.now) (rows_table c.args.rows.now).count c.gather.high = let e : c.gather.row-index ≡ (rows_table c.args.rows.now).count = omega (arith, c.gather.auto.row-index-end, c.gather-test.false, (let it : (rows_table c.args.rows.now).count ≡ length c.args.rows.now = all_count c.args.rows.now in it)) in rw e at c.gather.invariant in it)) (c.work.at + 1) _ c.chain.x c.chain.held c.chain.flags c.chain.queue c.chain.top c.ask.heads c.ask.nexts c.chain-test.true c.chain.invariant.1

pub gather-init : goal.gather-init
gather-init c = carried_start (rows_table c.args.rows.now) (fits (goal.at.gather-init c).Start) (shape (goal.at.gather-init c).Start)

pub gather-preserved : goal.gather-preserved
unfolding table_in
gather-preserved c = rw c.raise.ensures ((rw (item_rule c.args.rows.now c.gather.row-index c.row-item.result c.gather-test.true c.row-item.is) at (carried_step (rows_table c.args.rows.now) (fits (goal.at.gather-preserved c).Start) (shape (goal.at.gather-preserved c).Start) c.gather.row-index c.gather.high c.stratum-s.result)) (search rules) c.stratum-s.ensures (omega (arith, low c.args.rows.now c.gather.row-index c.row-item.result c.gather-test.true c.row-item.is c.requires.1, c.requires.0, c.stratum-s.ensures)) c.gather.invariant)

pub ask-init : goal.ask-init
unfolding table_in
ask-init c = ((refl, refl), (valid_start (rows_table c.args.rows.now) (fits (goal.at.ask-init c).Start) (shape (goal.at.ask-init c).Start) c.gather.high, closing_start (rows_table c.args.rows.now) (fits (goal.at.ask-init c).Start) (shape (goal.at.ask-init c).Start) c.gather.high (full (goal.at.ask-init c).After-gather) c.args.held.now c.args.nexts.now c.requires.2 c.requires.3))

pub asked-h-requires : goal.asked-h-requires
asked-h-requires c = (carried_small (rows_table c.args.rows.now) (fits (goal.at.asked-h-requires c).Start) (shape (goal.at.asked-h-requires c).Start) _ c.gather.high (full (goal.at.asked-h-requires c).After-gather))

pub returns-then-s-h : goal.returns-then-s-h
unfolding table_in
returns-then-s-h c = (rw (item_rule c.args.rows.now c.ask.k c.index-rows-k.result c.ask-test.true c.index-rows-k.is) at (not_valid (rows_table c.args.rows.now) (fits (goal.at.returns-then-s-h c).Start) (shape (goal.at.returns-then-s-h c).Start) c.gather.high c.ask.k c.stratum-s-in-ask.result c.asked-h.result (full (goal.at.returns-then-s-h c).After-gather))) (search rules) c.stratum-s-in-ask.ensures c.asked-h.ensures c.if-s-h.true

-- A rule's number is at least as high as it is asked.
valid : (c : Else-s-h) → Valid (rows_table c.args.rows.now) (c.ask.k + 1) c.gather.high
unfolding table_in
valid c = (rw (item_rule c.args.rows.now c.ask.k c.index-rows-k.result c.ask-test.true c.index-rows-k.is) at (valid_more (rows_table c.args.rows.now) ((let it : TableFits (rows_table c.args.rows.now) = all_table_fits c.args.rows.now c.requires.0 in it)) ((let it : Shaped (rows_table c.args.rows.now) = all_shaped c.args.rows.now c.requires.0 in it)) c.ask.k c.gather.high c.stratum-s-in-ask.result c.asked-h.result)) (search rules) c.stratum-s-in-ask.ensures c.asked-h.ensures (omega (arith, c.if-s-h.false)) c.ask.invariant.1.0

pub bounds-held-k : goal.bounds-held-k
bounds-held-k c = omega (arith, count (goal.at.bounds-held-k c).Start, c.ask.invariant.1.1.held_places, c.ask-test.true)

pub ask-preserved-then-s-le1 : goal.ask-preserved-then-s-le1
unfolding table_in
ask-preserved-then-s-le1 c = ((length-set c.ask.held _ _ ∙ c.ask.invariant.0.0, c.ask.invariant.0.1), (valid (goal.at.ask-preserved-then-s-le1 c).Else-s-h, (rw (item_rule c.args.rows.now c.ask.k c.index-rows-k.result c.ask-test.true c.index-rows-k.is) at (ask_first (rows_table c.args.rows.now) (fits (goal.at.ask-preserved-then-s-le1 c).Start) (shape (goal.at.ask-preserved-then-s-le1 c).Start) c.gather.high (full (goal.at.ask-preserved-then-s-le1 c).After-gather) c.ask.k c.stratum-s-in-ask.result c.ask.held c.ask.flags c.ask.queue c.ask.top c.ask.heads c.ask.nexts)) (search rules) c.stratum-s-in-ask.ensures (omega (arith, c.if-s-le1.true)) c.ask.invariant.1.1))

pub one_below-requires : goal.one_below-requires
one_below-requires c = (carried_small (rows_table c.args.rows.now) (fits (goal.at.one_below-requires c).Start) (shape (goal.at.one_below-requires c).Start) _ c.gather.high (full (goal.at.one_below-requires c).After-gather))

pub bounds-held-k-then-one_below : goal.bounds-held-k-then-one_below
bounds-held-k-then-one_below c = omega (arith, count (goal.at.bounds-held-k-then-one_below c).Start, c.ask.invariant.1.1.held_places, c.ask-test.true)

pub flag_assigned-top-requires : goal.flag_assigned-top-requires
flag_assigned-top-requires c = c.ask.invariant.1.1.queued.room

pub ask-preserved-then-one_below : goal.ask-preserved-then-one_below
unfolding table_in
ask-preserved-then-one_below c = ((length-set c.ask.held _ _ ∙ c.ask.invariant.0.0, c.ask.invariant.0.1), (valid (goal.at.ask-preserved-then-one_below c).Else-s-h, (rw (item_rule c.args.rows.now c.ask.k c.index-rows-k.result c.ask-test.true c.index-rows-k.is) at (ask_ground (rows_table c.args.rows.now) (fits (goal.at.ask-preserved-then-one_below c).Start) (shape (goal.at.ask-preserved-then-one_below c).Start) c.gather.high (full (goal.at.ask-preserved-then-one_below c).After-gather) c.ask.k c.stratum-s-in-ask.result c.ask.held c.ask.flags c.ask.queue c.ask.top c.ask.heads c.ask.nexts)) (search rules) c.stratum-s-in-ask.ensures (omega (arith, c.if-s-le1.false)) (sym c.one_below.ensures ∙ c.if-one_below.true) c.ask.invariant.1.1 _ _ _ c.flag_assigned-top.ensures))

pub chain_needed-requires : goal.chain_needed-requires
chain_needed-requires c = (omega (arith, c.requires.0), omega (arith, count (goal.at.chain_needed-requires c).Start, c.ask.invariant.1.1.next_places, c.ask-test.true))

pub ask-preserved : goal.ask-preserved
unfolding table_in
ask-preserved c = ((c.ask.invariant.0.0, rw c.chain_needed.ensures.1 (nexts_length _ _ _ _ c.ask.heads c.ask.nexts ∙ c.ask.invariant.0.1)), (valid (goal.at.ask-preserved c).Else-s-h, rw (c.chain_needed.ensures.0, c.chain_needed.ensures.1) ((rw (item_rule c.args.rows.now c.ask.k c.index-rows-k.result c.ask-test.true c.index-rows-k.is) at (ask_chain (rows_table c.args.rows.now) (fits (goal.at.ask-preserved c).Start) (shape (goal.at.ask-preserved c).Start) c.gather.high (full (goal.at.ask-preserved c).After-gather) c.ask.k c.stratum-s-in-ask.result c.ask.held c.ask.flags c.ask.queue c.ask.top c.ask.heads c.ask.nexts)) (search rules) c.stratum-s-in-ask.ensures (omega (arith, c.if-s-le1.false)) (sym c.one_below.ensures ∙ c.if-one_below.false) c.ask.invariant.1.1)))

pub work-init : goal.work-init
work-init c = (search rules, refl, (closed (goal.at.work-init c).After-ask, done_start (rows_table c.args.rows.now) (fits (goal.at.work-init c).Start) (shape (goal.at.work-init c).Start) c.gather.high (full (goal.at.work-init c).After-gather) _ _))

pub offset_bounds-queue-at : goal.offset_bounds-queue-at
offset_bounds-queue-at c = omega (arith, queue_few _ _ _ c.work.invariant.2.0.queued)

pub bounds-queue-at : goal.bounds-queue-at
bounds-queue-at c = omega (arith, queue_few _ _ _ c.work.invariant.2.0.queued)

pub overflow_add-at : goal.overflow_add-at
overflow_add-at c = let z = queue_few _ _ _ c.work.invariant.2.0.queued in omega (arith, z, c.work-test.true)

pub offset_bounds-heads-p : goal.offset_bounds-heads-p
offset_bounds-heads-p c = let z = c.work.invariant.2.0.queued.inside c.work.at (search rules) in omega (arith, z, c.from-p.ensures)

pub bounds-heads-p : goal.bounds-heads-p
bounds-heads-p c = let z = c.work.invariant.2.0.queued.inside c.work.at (search rules) in omega (arith, z, c.from-p.ensures)

pub chain-init : goal.chain-init
chain-init c = (refl, rw c.from-p.ensures (chaining_start (rows_table c.args.rows.now) (fits (goal.at.chain-init c).Start) (shape (goal.at.chain-init c).Start) c.gather.high (full (goal.at.chain-init c).After-gather) c.work.at c.work.held c.work.flags c.work.queue c.work.top c.ask.heads c.ask.nexts (search rules) c.work.invariant.2.0 c.work.invariant.2.1))

pub work-smaller : goal.work-smaller
work-smaller c = let z = queue_few _ _ _ c.work.invariant.2.0.queued in omega (arith, z, c.work-test.true)

pub work-preserved : goal.work-preserved
work-preserved c = (c.chain.invariant.1.reached, c.chain.invariant.0 ∙ c.work.invariant.1, (c.chain.invariant.1.closing, chaining_end (rows_table c.args.rows.now) (fits (goal.at.work-preserved c).Start) (shape (goal.at.work-preserved c).Start) c.gather.high (full (goal.at.work-preserved c).After-gather) (c.work.at + 1) _ c.chain.x c.chain.held c.chain.flags c.chain.queue c.chain.top c.ask.heads c.ask.nexts (omega (arith, c.chain-test.false)) c.chain.invariant.1))

pub offset_bounds-nexts-o : goal.offset_bounds-nexts-o
offset_bounds-nexts-o c = let z = c.chain.invariant.1.following.below in omega (arith, z, c.chain-test.true)

pub bounds-nexts-o : goal.bounds-nexts-o
bounds-nexts-o c = omega (arith, c.chain.invariant.1.following.below, c.chain.invariant.1.closing.next_places, c.chain-test.true)

pub bounds-held-m : goal.bounds-held-m
bounds-held-m c = omega (arith, waiting (goal.at.bounds-held-m c).In-chain, count (goal.at.bounds-held-m c).Start, c.chain.invariant.1.closing.held_places)

pub chain-smaller-then-held-m : goal.chain-smaller-then-held-m
unfolding Falls
chain-smaller-then-held-m c = let z = c.chain.invariant.1.closing.linked.falls (c.chain.x - 1) in omega (arith, z, c.chain-test.true)

pub chain-preserved-then-held-m : goal.chain-preserved-then-held-m
chain-preserved-then-held-m c = (c.chain.invariant.0, chaining_over (rows_table c.args.rows.now) (fits (goal.at.chain-preserved-then-held-m c).Start) (shape (goal.at.chain-preserved-then-held-m c).Start) c.gather.high (full (goal.at.chain-preserved-then-held-m c).After-gather) (c.work.at + 1) _ c.chain.x c.chain.held c.chain.flags c.chain.queue c.chain.top c.ask.heads c.ask.nexts c.chain-test.true (from_true _ c.if-held-m.true) c.chain.invariant.1)

pub bounds-held-m-in-chain : goal.bounds-held-m-in-chain
bounds-held-m-in-chain c = omega (arith, waiting (goal.at.bounds-held-m-in-chain c).In-chain, count (goal.at.bounds-held-m-in-chain c).Start, c.chain.invariant.1.closing.held_places)

pub offset_bounds-rows-m : goal.offset_bounds-rows-m
offset_bounds-rows-m c = omega (arith, waiting (goal.at.offset_bounds-rows-m c).In-chain, c.requires.0)

pub bounds-rows-m : goal.bounds-rows-m
bounds-rows-m c = omega (arith, waiting (goal.at.bounds-rows-m c).In-chain)

pub flag_assigned-top-requires-in-chain : goal.flag_assigned-top-requires-in-chain
flag_assigned-top-requires-in-chain c = c.chain.invariant.1.closing.queued.room

pub chain-smaller : goal.chain-smaller
unfolding Falls
chain-smaller c = let z = c.chain.invariant.1.closing.linked.falls (c.chain.x - 1) in omega (arith, z, c.chain-test.true)

pub chain-preserved : goal.chain-preserved
unfolding table_in
chain-preserved c = (length-set c.chain.held _ _ ∙ c.chain.invariant.0, (rw (item_rule c.args.rows.now ((c.chain.x - 1) / 9) c.index-rows-m.result (waiting (goal.at.chain-preserved c).In-chain) c.index-rows-m.is) at (chaining_held (rows_table c.args.rows.now) (fits (goal.at.chain-preserved c).Start) (shape (goal.at.chain-preserved c).Start) c.gather.high (full (goal.at.chain-preserved c).After-gather) (c.work.at + 1) c.from-p.result c.chain.x c.stratum-s-in-chain.result c.chain.held c.chain.flags c.chain.queue c.chain.top c.ask.heads c.ask.nexts)) c.chain-test.true c.if-held-m.false c.stratum-s-in-chain.ensures c.chain.invariant.1 _ _ _ c.flag_assigned-top-in-chain.ensures)

pub returns : goal.returns
unfolding table_in
returns c =
    c.all_held.ensures
    ∙ cut_set c.work.held (length c.args.rows.now) (omega (arith, count (goal.at.returns c).Start, c.work.invariant.2.0.held_places))
    ∙ held_least (rows_table c.args.rows.now) (fits (goal.at.returns c).Start) (shape (goal.at.returns c).Start) c.gather.high (full (goal.at.returns c).After-gather) c.work.held c.work.flags c.work.queue c.work.top c.ask.heads c.ask.nexts c.work.invariant.2.0 (rested (goal.at.returns c).After-work) (asked-all (goal.at.returns c).After-ask)
