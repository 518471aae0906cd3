-- `circles::link_rule` meets its contract.
use mathlib.Core.Path.{refl, ◌∙◌, ap}
use mathlib.Core.List.{List}
use Prim.Native.Nat.{◌<◌}
use lib.ListN.{get_or}
use Rattle.model.specs.Rules.{Pair}
use Rattle.model.specs.Strata.{tested}
use Rattle.table.specs.Link.{rule_of}
use Rattle.table.proofs.Walks.{assigned_start, assigned_end}
use Rattle.rows.specs.inner.Rows.{rule_in}
use Rattle.rows.proofs.Laws.{row_assigned_next}
use Rattle.circles.specs.inner.Links.{link_all}
use native.Mathlib.Omega.{arith}
use Rattle.circles.proofs.link_rule.Goals.{In-loop-k}
use Rattle.circles.proofs.link_rule.Goals as goal

-- The assignment at hand is used.
used : (c : In-loop-k) → c.loop-k.k < get_or c.args.row.now.numbers 2 0
used c = omega (arith, c.assigned-m.ensures.0)

pub loop-k-init : goal.loop-k-init
loop-k-init c = refl

pub assignment-requires : goal.assignment-requires
assignment-requires c = omega (arith, used (goal.at.assignment-requires c).In-loop-k, c.args.row.now.fits.few_assignments)

pub link_tested-requires : goal.link_tested-requires
link_tested-requires c = c.place-p.ensures.1

pub loop-k-preserved : goal.loop-k-preserved
unfolding link_all
loop-k-preserved c =
    let x = c.assignment in
    let e = row_assigned_next c.args.row.now.numbers c.args.row.now.fits c.loop-k.k x.result (used (goal.at.loop-k-preserved c).In-loop-k) x.ensures in
    rw (c.link_tested.ensures, c.place-p.ensures.0) (rw e at c.loop-k.invariant)

pub returns : goal.returns
unfolding link_all
returns c =
    (rw (assigned_end (rule_in c.args.row.now.numbers) c.loop-k.k (omega (arith, c.assigned-m.ensures.0))) at c.loop-k.invariant) ∙ ap (λ (ps : List Pair). link_all ps (tested (rule_of (rule_in c.args.row.now.numbers))) c.args.links.now) (assigned_start (rule_in c.args.row.now.numbers))
