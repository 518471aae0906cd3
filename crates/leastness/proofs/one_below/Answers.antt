-- `leastness::one_below` meets its contract.
use mathlib.Core.Path.{◌≡◌, sym, ◌∙◌}
use mathlib.Core.List.{◌∷◌}
use Prim.Native.Nat.{◌+◌}
use borrow.Author.Tests.{not-true, not-false}
use Rattle.table.specs.Link.{rule_of}
use Rattle.model.specs.Strata.{is_under_not, barred}
use Rattle.table.proofs.Walks.{picked_from, barred_start, picked_end}
use Rattle.rows.specs.inner.Rows.{rule_in, pair_in}
use Rattle.rows.proofs.Laws.{number_fits, row_picked_next, row_picked_over}
use Rattle.leastness.specs.inner.OneBelow.{one_below}
use Rattle.leastness.proofs.OneBelow.{below_here, below_over, below_none}
use native.Mathlib.Omega.{arith}
use borrow.Author.Rules.{rules}
use Rattle.leastness.proofs.one_below.Goals.{After-place-k}
use Rattle.leastness.proofs.one_below.Goals as goal

-- The literal's pair is the next of those barred.
first : (c : After-place-k) →
    one_below c.args.high.now c.args.s (pair_in c.literal-x.result ∷ picked_from (rule_in c.args.row.now.numbers) is_under_not (c.literals.j + 1)) ≡ one_below c.args.high.now c.args.s (barred (rule_of (rule_in c.args.row.now.numbers)))
first c = rw (row_picked_next c.args.row.now.numbers c.args.row.now.fits is_under_not c.literals.j c.literal-x.result (search rules) c.literal-x.ensures.0 (sym c.is_under_not.ensures ∙ not-false c.is_under_not.result c.if-not-is_under_not.false-raw)) at c.literals.invariant

pub literals-init : goal.literals-init
literals-init c = rw (barred_start (rule_in c.args.row.now.numbers))

pub is_under_not-requires : goal.is_under_not-requires
is_under_not-requires c = number_fits c.args.row.now.numbers c.args.row.now.fits c.literals.j c.literal-x.result (search rules) c.literal-x.ensures.0

pub literals-preserved-then-not-is_under_not : goal.literals-preserved-then-not-is_under_not
literals-preserved-then-not-is_under_not c =
    let e = row_picked_over c.args.row.now.numbers c.args.row.now.fits is_under_not c.literals.j c.literal-x.result (search rules) c.literal-x.ensures.0 (sym c.is_under_not.ensures ∙ not-true c.is_under_not.result c.if-not-is_under_not.true-raw) in
    rw e at c.literals.invariant

pub overflow_add-h : goal.overflow_add-h
overflow_add-h c = let z = c.requires.below c.place-k.result in omega (arith, z)

pub returns-then-h-s : goal.returns-then-h-s
returns-then-h-s c = sym (below_here c.args.high.now c.args.s _ _ (rw c.place-k.ensures.0 at c.if-h-s.true)) ∙ first (goal.at.returns-then-h-s c).After-place-k

pub literals-preserved : goal.literals-preserved
literals-preserved c = sym (below_over c.args.high.now c.args.s _ _ (rw c.place-k.ensures.0 at c.if-h-s.false)) ∙ first (goal.at.literals-preserved c).After-place-k

pub returns : goal.returns
returns c =
    sym (below_none c.args.high.now c.args.s) ∙ (rw (picked_end (rule_in c.args.row.now.numbers) is_under_not c.literals.j (search rules)) at c.literals.invariant)
