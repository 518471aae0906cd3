-- `circles::flag_barred` meets its contract.
use mathlib.Core.Path.{◌≡◌, sym, ◌∙◌}
use mathlib.Core.List.{◌∷◌}
use Prim.Native.Nat.{◌+◌, ◌<◌}
use lib.ListN.{get_or}
use borrow.Author.Tests.{not-true, not-false}
use Rattle.model.specs.Strata.{is_under_not, barred}
use Rattle.table.specs.Link.{assignments_of, rule_of}
use Rattle.table.proofs.Walks.{picked_from, barred_start, picked_end}
use Rattle.rows.specs.inner.Rows.{pair_in, rule_in}
use Rattle.rows.proofs.Laws.{number_fits, row_picked_next, row_picked_over}
use Rattle.circles.specs.inner.Links.{flag_leading}
use Rattle.circles.proofs.Leading.{flag_over, flag_next, flag_none}
use native.Mathlib.Omega.{arith}
use Rattle.circles.proofs.flag_barred.Goals.{Else-not-is_under_not, In-literals}
use Rattle.circles.proofs.flag_barred.Goals as goal

-- The literal at hand is used.
used : (c : In-literals) → c.literals.j < get_or c.args.row.now.numbers 1 0
used c = omega (arith, c.tested-m.ensures.0)

-- Its pair is the next of those barred.
first : (c : Else-not-is_under_not) →
    flag_leading c.args.links.now (pair_in c.literal-x.result ∷ picked_from (rule_in c.args.row.now.numbers) is_under_not (c.literals.j + 1)) (assignments_of (rule_in c.args.row.now.numbers)) c.literals.flags ≡ flag_leading c.args.links.now (barred (rule_of (rule_in c.args.row.now.numbers))) (assignments_of (rule_in c.args.row.now.numbers)) c.args.flags.now
first c = rw (row_picked_next c.args.row.now.numbers c.args.row.now.fits is_under_not c.literals.j c.literal-x.result (used c.before.before.before) c.literal-x.ensures.0 (sym c.is_under_not.ensures ∙ not-false c.is_under_not.result c.if-not-is_under_not.false-raw)) at c.literals.invariant

pub literals-init : goal.literals-init
literals-init c = rw (barred_start (rule_in c.args.row.now.numbers))

pub literal-x-requires : goal.literal-x-requires
literal-x-requires c = omega (arith, used (goal.at.literal-x-requires c).In-literals, c.args.row.now.fits.few_literals)

pub is_under_not-requires : goal.is_under_not-requires
is_under_not-requires c = number_fits c.args.row.now.numbers c.args.row.now.fits c.literals.j c.literal-x.result (used (goal.at.is_under_not-requires c).In-literals) c.literal-x.ensures.0

pub literals-preserved-then-not-is_under_not : goal.literals-preserved-then-not-is_under_not
literals-preserved-then-not-is_under_not c =
    let e = row_picked_over c.args.row.now.numbers c.args.row.now.fits is_under_not c.literals.j c.literal-x.result (used (goal.at.literals-preserved-then-not-is_under_not c).In-literals) c.literal-x.ensures.0 (sym c.is_under_not.ensures ∙ not-true c.is_under_not.result c.if-not-is_under_not.true-raw) in
    rw e at c.literals.invariant

pub leads_to-requires : goal.leads_to-requires
leads_to-requires c = c.place-p.ensures.1

pub literals-preserved-then-not-leads_to : goal.literals-preserved-then-not-leads_to
literals-preserved-then-not-leads_to c = sym (flag_over c.args.links.now _ _ (assignments_of (rule_in c.args.row.now.numbers)) _ (rw (← c.place-p.ensures.0) (sym c.leads_to.ensures ∙ not-true c.leads_to.result c.if-not-leads_to.true-raw))) ∙ first (goal.at.literals-preserved-then-not-leads_to c).Else-not-is_under_not

pub literals-preserved : goal.literals-preserved
literals-preserved c = rw c.place-p.ensures.0 (sym (flag_next c.args.links.now _ _ (assignments_of (rule_in c.args.row.now.numbers)) _ (rw (← c.place-p.ensures.0) (sym c.leads_to.ensures ∙ not-false c.leads_to.result c.if-not-leads_to.false-raw))) ∙ first (goal.at.literals-preserved c).Else-not-is_under_not)

pub returns : goal.returns
returns c =
    sym (flag_none c.args.links.now (assignments_of (rule_in c.args.row.now.numbers)) c.literals.flags) ∙ (rw (picked_end (rule_in c.args.row.now.numbers) is_under_not c.literals.j (omega (arith, c.tested-m.ensures.0))) at c.literals.invariant)
