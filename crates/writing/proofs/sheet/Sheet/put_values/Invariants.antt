use Rattle.writing.proofs.Putting.{Left}
use Rattle.writing.proofs.Lines.{more_values}
use Rattle.writing.proofs.sheet.Sheet.put_values.Given as goal

abbrev pub invariant-loop-j : goal.invariant-loop-j
invariant-loop-j l = Left l.initial.self (more_values l.spelling.text.now l.spelling.valuespans.now l.slot l.count 1) l.self (more_values l.spelling.text.now l.spelling.valuespans.now l.slot l.count l.j)
