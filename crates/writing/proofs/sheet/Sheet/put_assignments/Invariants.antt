use Rattle.writing.specs.inner.Spelled.{paired}
use Rattle.writing.proofs.Putting.{Left}
use Rattle.writing.proofs.Clauses.{more_assignments}
use Rattle.writing.proofs.sheet.Sheet.put_assignments.Given as goal

abbrev pub invariant-loop-j : goal.invariant-loop-j
invariant-loop-j l = Left l.initial.self (more_assignments (paired l.spelling) l.r 1) l.self (more_assignments (paired l.spelling) l.r l.j)
