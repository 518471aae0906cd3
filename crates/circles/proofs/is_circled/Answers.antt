-- `circles::is_circled` meets its contract.
use mathlib.Core.Path.{◌≡◌, sym, ◌∙◌}
use mathlib.Core.List.{◌∷◌}
use Prim.Native.Nat.{◌+◌, ◌<◌}
use lib.ListN.{get_or}
use borrow.Author.Tests.{not-true, not-false}
use Rattle.model.specs.Strata.{is_becomes}
use Rattle.table.specs.Link.{rule_of, assignments_of}
use Rattle.table.specs.inner.Flat.{place_of}
use Rattle.table.proofs.Walks.{picked_from, tested_start, picked_end}
use Rattle.rows.specs.inner.Rows.{pair_in, rule_in}
use Rattle.rows.proofs.Laws.{row_picked_next, row_picked_over}
use Rattle.circles.specs.inner.Links.{some_leads, circled_by}
use Rattle.circles.proofs.Leading.{some_here, some_over, some_none}
use native.Mathlib.Omega.{arith}
use Rattle.circles.proofs.is_circled.Goals.{After-place-at, Else-not-is_becomes, In-literals}
use Rattle.circles.proofs.is_circled.Goals as goal

-- The literal at hand is used.
used : (c : In-literals) → c.literals.j < get_or c.args.row.now.numbers 1 0
used c = omega (arith, c.tested-m.ensures.0)

-- Its pair is the next of those tested.
first : (c : Else-not-is_becomes) →
    some_leads c.args.links.now c.args.flags.now (pair_in c.literal-x.result ∷ picked_from (rule_in c.args.row.now.numbers) is_becomes (c.literals.j + 1)) (assignments_of (rule_in c.args.row.now.numbers)) ≡ circled_by c.args.links.now c.args.flags.now (rule_of (rule_in c.args.row.now.numbers))
first c = rw (row_picked_next c.args.row.now.numbers c.args.row.now.fits is_becomes c.literals.j c.literal-x.result (used c.before.before.before) c.literal-x.ensures.0 (sym c.is_becomes.ensures ∙ not-false c.is_becomes.result c.if-not-is_becomes.false-raw)) at c.literals.invariant

-- The place of the trigger's pair.
trigger-placed : (c : After-place-at) → c.place-at.result ≡ place_of (pair_in (get_or c.args.row.now.numbers 0 0))
trigger-placed c = rw c.trigger.ensures.0 at c.place-at.ensures.0

pub leads_back-requires : goal.leads_back-requires
leads_back-requires c = c.place-at.ensures.1

pub returns-then-leads_back : goal.returns-then-leads_back
unfolding circled_by
returns-then-leads_back c = sym (rw (tested_start (rule_in c.args.row.now.numbers)) (some_here c.args.links.now c.args.flags.now (pair_in (get_or c.args.row.now.numbers 0 0)) _ (assignments_of (rule_in c.args.row.now.numbers)) (rw (← (trigger-placed (goal.at.returns-then-leads_back c).After-place-at)) (sym c.leads_back.ensures ∙ c.if-leads_back.true))))

pub literals-init : goal.literals-init
unfolding circled_by
literals-init c = rw (tested_start (rule_in c.args.row.now.numbers)) (sym (some_over c.args.links.now c.args.flags.now (pair_in (get_or c.args.row.now.numbers 0 0)) _ (assignments_of (rule_in c.args.row.now.numbers)) (rw (← (trigger-placed (goal.at.literals-init c).After-place-at)) (sym c.leads_back.ensures ∙ c.if-leads_back.false))))

pub literal-x-requires : goal.literal-x-requires
literal-x-requires c = omega (arith, used (goal.at.literal-x-requires c).In-literals, c.args.row.now.fits.few_literals)

pub literals-preserved-then-not-is_becomes : goal.literals-preserved-then-not-is_becomes
literals-preserved-then-not-is_becomes c =
    let e = row_picked_over c.args.row.now.numbers c.args.row.now.fits is_becomes c.literals.j c.literal-x.result (used (goal.at.literals-preserved-then-not-is_becomes c).In-literals) c.literal-x.ensures.0 (sym c.is_becomes.ensures ∙ not-true c.is_becomes.result c.if-not-is_becomes.true-raw) in
    rw e at c.literals.invariant

pub leads_back-requires-in-literals : goal.leads_back-requires-in-literals
leads_back-requires-in-literals c = c.place-p.ensures.1

pub returns-then-leads_back-2 : goal.returns-then-leads_back-2
returns-then-leads_back-2 c = sym (some_here c.args.links.now c.args.flags.now _ _ (assignments_of (rule_in c.args.row.now.numbers)) (rw (← c.place-p.ensures.0) (sym c.leads_back-in-literals.ensures ∙ c.if-leads_back-2.true))) ∙ first (goal.at.returns-then-leads_back-2 c).Else-not-is_becomes

pub literals-preserved : goal.literals-preserved
literals-preserved c = sym (some_over c.args.links.now c.args.flags.now _ _ (assignments_of (rule_in c.args.row.now.numbers)) (rw (← c.place-p.ensures.0) (sym c.leads_back-in-literals.ensures ∙ c.if-leads_back-2.false))) ∙ first (goal.at.literals-preserved c).Else-not-is_becomes

pub returns : goal.returns
returns c =
    sym (some_none c.args.links.now c.args.flags.now (assignments_of (rule_in c.args.row.now.numbers))) ∙ (rw (picked_end (rule_in c.args.row.now.numbers) is_becomes c.literals.j (omega (arith, c.tested-m.ensures.0))) at c.literals.invariant)
