-- `circles::leads_to` meets its contract.
use mathlib.Core.Path.{◌≡◌, refl, sym, ◌∙◌, ap}
use mathlib.Core.List.{◌∷◌}
use Prim.Native.Nat.{◌+◌, ◌<◌}
use lib.ListN.{get_or}
use Rattle.table.specs.Link.{assignments_of}
use Rattle.table.proofs.Walks.{assigned_from, assigned_start, assigned_end}
use Rattle.rows.specs.inner.Rows.{pair_in, rule_in}
use Rattle.rows.proofs.Laws.{row_assigned_next}
use Rattle.circles.specs.inner.Links.{leads_to}
use Rattle.circles.proofs.Leading.{leads_here, leads_linked, leads_over, leads_none}
use native.Mathlib.Omega.{arith}
use Rattle.circles.proofs.leads_to.Goals.{After-assignment, In-loop-k, Start, then-p-q-via-then-p-q, then-p-q-via-else-p-q+then-linked}
use Rattle.circles.proofs.leads_to.Goals as goal

all : (s : Start) → leads_to s.args.links.now s.args.p (assigned_from (rule_in s.args.row.now.numbers) 0) ≡ leads_to s.args.links.now s.args.p (assignments_of (rule_in s.args.row.now.numbers))
all s = ap (leads_to s.args.links.now s.args.p) (assigned_start (rule_in s.args.row.now.numbers))

-- The assignment at hand is used.
used : (c : In-loop-k) → c.loop-k.k < get_or c.args.row.now.numbers 2 0
used c = omega (arith, c.assigned-m.ensures.0)

-- Its pair is the next of those assigned.
first : (c : After-assignment) →
    leads_to c.args.links.now c.args.p (pair_in c.assignment.result ∷ assigned_from (rule_in c.args.row.now.numbers) (c.loop-k.k + 1)) ≡ leads_to c.args.links.now c.args.p (assigned_from (rule_in c.args.row.now.numbers) 0)
first c = rw (row_assigned_next c.args.row.now.numbers c.args.row.now.fits c.loop-k.k c.assignment.result (used c.before) c.assignment.ensures) at c.loop-k.invariant

pub loop-k-init : goal.loop-k-init
loop-k-init c = refl

pub assignment-requires : goal.assignment-requires
assignment-requires c = omega (arith, used (goal.at.assignment-requires c).In-loop-k, c.args.row.now.fits.few_assignments)

pub returns-then-p-q : goal.returns-then-p-q
returns-then-p-q c =
    let f = first (goal.at.returns-then-p-q c).After-assignment ∙ all (goal.at.returns-then-p-q c).Start in
    elim c.then-p-q.branch [
      | then-p-q-via-then-p-q w ↦ sym (leads_here c.args.links.now c.args.p _ _ (w.if-p-q.true ∙ c.place-q.ensures.0)) ∙ f
      | then-p-q-via-else-p-q+then-linked w ↦ sym (leads_linked c.args.links.now c.args.p _ _ (λ z. w.if-p-q.false (z ∙ sym c.place-q.ensures.0)) (rw (← c.place-q.ensures.0) (sym w.linked.ensures ∙ w.if-linked.true))) ∙ f
    ]

pub linked-requires : goal.linked-requires
linked-requires c = (c.requires, c.place-q.ensures.1)

pub loop-k-preserved : goal.loop-k-preserved
loop-k-preserved c = sym (leads_over c.args.links.now c.args.p _ _ (λ z. c.if-p-q.false (z ∙ sym c.place-q.ensures.0)) (rw (← c.place-q.ensures.0) (sym c.linked.ensures ∙ c.if-linked.false))) ∙ first (goal.at.loop-k-preserved c).After-assignment

pub returns : goal.returns
returns c =
    sym (leads_none c.args.links.now c.args.p) ∙ (rw (assigned_end (rule_in c.args.row.now.numbers) c.loop-k.k (omega (arith, c.assigned-m.ensures.0))) at c.loop-k.invariant) ∙ all (goal.at.returns c).Start
