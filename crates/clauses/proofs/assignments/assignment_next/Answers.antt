-- `clauses::assignments::assignment_next` meets its contract.
use Rattle.clauses.proofs.assignments.assignment_next.Goals as goal

pub returns : goal.returns
returns c =
    let n = c.name-named.ensures in
    (λ base slots L. c.assignment_of.ensures.0 base _ slots (n.0 base) L, c.assignment_of.ensures.1 c.args.at n.1)
