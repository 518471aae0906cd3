use Rattle.writing.specs.inner.Spelled.{paired}
use Rattle.writing.proofs.Putting.{Left}
use Rattle.writing.proofs.Clauses.{more_literals}
use Rattle.writing.proofs.sheet.Sheet.put_condition.Given as goal

abbrev pub invariant-loop-j : goal.invariant-loop-j
invariant-loop-j l = Left l.initial.self (more_literals (paired l.spelling) l.r 1) l.self (more_literals (paired l.spelling) l.r l.j)
