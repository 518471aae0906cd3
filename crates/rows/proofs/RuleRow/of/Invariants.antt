use Rattle.rows.proofs.Laws.{Written}
use Rattle.rows.proofs.RuleRow.of.Given as goal

abbrev pub invariant-literals : goal.invariant-literals
invariant-literals l = Written l.r l.row l.j 0

abbrev pub invariant-assignments : goal.invariant-assignments
invariant-assignments l = Written l.r l.row l.r.tested l.i
