-- `clauses::assignments::assign_next` meets its contract.
use native.Mathlib.Omega.{arith}
use mathlib.Core.Path.{◌∙◌}
use Rattle.clauses.proofs.AssignmentLaws as assignments
use Rattle.clauses.proofs.assignments.assign_next.Goals as goal

pub returns-in-Ok : goal.returns-in-Ok
returns-in-Ok c =
    let w = c.in-Ok.ensures c.args.s.tokens.rest.now c.args.at c.token-next.ensures in
    let r = c.assignments_next.ensures in
    (λ base slots L. assignments.assign_list slots _ _ tt (w.0 base) ∙ r.0 base slots L, assignments.list_earlier _ _ _ c.assignments_next.result (omega (arith, w.1.0)) r.1)

pub returns : goal.returns
returns c =
    let r = c.args.s.tokens.rest.now in
    let t = c.token-next.ensures in
    let n = c.name_of-named.ensures r c.args.at t in
    (λ base slots L. assignments.assign_one slots _ _ ((c.in_default.ensures r c.args.at t).0 base) ∙ c.single_assignment.ensures.0 base _ slots (n.0 base) L, c.single_assignment.ensures.1 c.args.at n.1)
