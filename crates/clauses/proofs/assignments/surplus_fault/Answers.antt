-- `clauses::assignments::surplus_fault` meets its contract.
use Rattle.clauses.proofs.AssignmentLaws as assignments
use Rattle.clauses.proofs.assignments.surplus_fault.Goals as goal

pub returns-in-Ok : goal.returns-in-Ok
returns-in-Ok c = λ base sofar. assignments.surplus_named sofar _ _ _ (c.in-Ok.ensures.0 base)

pub returns-in-Err : goal.returns-in-Err
returns-in-Err c = λ base sofar. assignments.surplus_stop sofar _ _ (c.in-Err.ensures.0 base)
