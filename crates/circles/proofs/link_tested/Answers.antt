-- `circles::link_tested` meets its contract.
use mathlib.Core.Path.{refl, sym, ◌∙◌, ap}
use Prim.Native.Nat.{ℕ, ◌<◌}
use lib.ListN.{get_or}
use Rattle.model.specs.Strata.{is_becomes}
use Rattle.table.proofs.Walks.{picked_from, tested_start, picked_end}
use Rattle.rows.specs.inner.Rows.{rule_in}
use Rattle.rows.proofs.Laws.{row_picked_next, row_picked_over}
use borrow.Author.Tests.{not-true, not-false}
use mathlib.Core.List.{List}
use Rattle.circles.specs.inner.Links.{add_link, add_links}
use native.Mathlib.Omega.{arith}
use Rattle.circles.proofs.link_tested.Goals.{In-literals}
use Rattle.circles.proofs.link_tested.Goals as goal

-- The literal at hand is used.
used : (c : In-literals) → c.literals.j < get_or c.args.row.now.numbers 1 0
used c = omega (arith, c.tested-m.ensures.0)

pub link-requires : goal.link-requires
link-requires c = (c.requires, c.place-at.ensures.1)

pub literals-init : goal.literals-init
literals-init c = refl

pub literal-x-requires : goal.literal-x-requires
literal-x-requires c = omega (arith, used (goal.at.literal-x-requires c).In-literals, c.args.row.now.fits.few_literals)

pub literals-preserved-then-not-is_becomes : goal.literals-preserved-then-not-is_becomes
literals-preserved-then-not-is_becomes c =
    let e = row_picked_over c.args.row.now.numbers c.args.row.now.fits is_becomes c.literals.j c.literal-x.result (used (goal.at.literals-preserved-then-not-is_becomes c).In-literals) c.literal-x.ensures.0 (sym c.is_becomes.ensures ∙ not-true c.is_becomes.result c.if-not-is_becomes.true-raw) in
    rw e at c.literals.invariant

pub link-requires-in-literals : goal.link-requires-in-literals
link-requires-in-literals c = (c.requires, c.place-q.ensures.1)

pub literals-preserved : goal.literals-preserved
unfolding add_links
literals-preserved c =
    let p = row_picked_next c.args.row.now.numbers c.args.row.now.fits is_becomes c.literals.j c.literal-x.result (used (goal.at.literals-preserved c).In-literals) c.literal-x.ensures.0 (sym c.is_becomes.ensures ∙ not-false c.is_becomes.result c.if-not-is_becomes.false-raw) in
    rw (c.link-in-literals.ensures, c.place-q.ensures.0) (rw p at c.literals.invariant)

pub returns : goal.returns
unfolding add_links
returns c =
    rw (tested_start (rule_in c.args.row.now.numbers))
    ((rw (picked_end (rule_in c.args.row.now.numbers) is_becomes c.literals.j (omega (arith, c.tested-m.ensures.0))) at c.literals.invariant)
    ∙ ap (λ (ws : List ℕ). add_links c.args.p (picked_from (rule_in c.args.row.now.numbers) is_becomes 0) ws) c.link.ensures
    ∙ ap (λ (k : ℕ). add_links c.args.p (picked_from (rule_in c.args.row.now.numbers) is_becomes 0) (add_link c.args.links.now c.args.p k)) (rw c.trigger.ensures.0 at c.place-at.ensures.0))
