-- `leastness::chain_needed` meets its contract.
use mathlib.Core.Path.{refl, sym, ◌∙◌}
use Prim.Native.Nat.{◌+◌, ◌*◌, ◌<◌}
use borrow.Author.Tests.{not-true, not-false}
use Rattle.model.specs.Strata.{is_plain}
use Rattle.table.proofs.Walks.{picked_from, needed_start, picked_end}
use Rattle.rows.specs.inner.Rows.{rule_in, pair_in}
use Rattle.rows.proofs.Laws.{number_fits, row_picked_next, row_picked_over}
use Rattle.leastness.proofs.Chains.{heads_next, nexts_next, heads_none, nexts_none, next_length}
use lib.ListN.{get_or}
use native.Mathlib.Omega.{arith}
use borrow.Author.Rules.{rules}
use Rattle.leastness.proofs.chain_needed.Goals as goal

pub chain-requires : goal.chain-requires
chain-requires c = (c.place-at.ensures.1, omega (arith, c.requires.0), omega (arith, c.requires.1))

pub literals-init : goal.literals-init
literals-init c = (omega arith, (refl, refl, refl))

pub is_plain-requires : goal.is_plain-requires
is_plain-requires c = number_fits c.args.row.now.numbers c.args.row.now.fits c.literals.j c.literal-x.result (search rules) c.literal-x.ensures.0

pub literals-preserved-then-not-is_plain : goal.literals-preserved-then-not-is_plain
literals-preserved-then-not-is_plain c =
    let e = row_picked_over c.args.row.now.numbers c.args.row.now.fits is_plain c.literals.j c.literal-x.result (search rules) c.literal-x.ensures.0 (sym c.is_plain.ensures ∙ not-true c.is_plain.result c.if-not-is_plain.true-raw) in
    (omega (arith, c.literals.invariant.0), (c.literals.invariant.1.0, rw e at c.literals.invariant.1.1, rw e at c.literals.invariant.1.2))

pub chain-requires-in-literals : goal.chain-requires-in-literals
chain-requires-in-literals c = let z : c.literals.j < (rule_in c.args.row.now.numbers).tested = search rules in (c.place-k.ensures.1, omega (arith, c.literals.invariant.0, c.requires.0, c.args.row.now.fits.few_literals, z), omega (arith, c.literals.invariant.0, c.literals.invariant.1.0, c.requires.1, c.args.row.now.fits.few_literals, z))

pub literals-preserved : goal.literals-preserved
literals-preserved c =
    let r = rule_in c.args.row.now.numbers in
    let e = row_picked_next c.args.row.now.numbers c.args.row.now.fits is_plain c.literals.j c.literal-x.result (search rules) c.literal-x.ensures.0 (sym c.is_plain.ensures ∙ not-false c.is_plain.result c.if-not-is_plain.false-raw) in (
      omega (arith, c.literals.invariant.0),
      (
        rw c.chain-in-literals.ensures.1 (next_length _ _ _ _ _ c.literals.nexts ∙ c.literals.invariant.1.0),
        rw (c.chain-in-literals.ensures.0, c.place-k.ensures.0) (sym (heads_next c.args.high.now c.args.s _ (picked_from r is_plain (c.literals.j + 1)) c.literals.o c.literals.heads) ∙ (rw e at c.literals.invariant.1.1)),
        rw (c.chain-in-literals.ensures.0, c.chain-in-literals.ensures.1, c.place-k.ensures.0) (sym (nexts_next c.args.high.now c.args.s _ (picked_from r is_plain (c.literals.j + 1)) c.literals.o c.literals.heads c.literals.nexts) ∙ (rw e at c.literals.invariant.1.2)),
      ),
    )

pub returns : goal.returns
returns c =
    let r = rule_in c.args.row.now.numbers in
    let w = pair_in (get_or c.args.row.now.numbers 0 0) in
    let e = picked_end r is_plain c.literals.j (search rules) in (
      sym (heads_none c.args.high.now c.args.s c.literals.o c.literals.heads) ∙ (rw e at c.literals.invariant.1.1)
          ∙ rw (c.chain.ensures.0, c.place-at.ensures.0, c.trigger-t.ensures.0, needed_start r) (sym (heads_next c.args.high.now c.args.s w (picked_from r is_plain 0) (c.args.i * 9) c.args.heads.now)),
      sym (nexts_none c.args.high.now c.args.s c.literals.o c.literals.heads c.literals.nexts) ∙ (rw e at c.literals.invariant.1.2)
          ∙ rw (c.chain.ensures.0, c.chain.ensures.1, c.place-at.ensures.0, c.trigger-t.ensures.0, needed_start r) (sym (nexts_next c.args.high.now c.args.s w (picked_from r is_plain 0) (c.args.i * 9) c.args.heads.now c.args.nexts.now)),
    )
