use Rattle.writing.proofs.Putting.{Left}
use Rattle.listing.specs.Printed.{rules_text}
use Rattle.listing.specs.inner.AnswerLines.{fired_lines}
use Rattle.listing.proofs.RuleLines.{rules_from}
use Rattle.listing.proofs.rules.put_rules.Given as goal

abbrev pub invariant-loop-i : goal.invariant-loop-i
invariant-loop-i l = Left l.initial.sheet (rules_text 1 (fired_lines l.t l.bits)) l.sheet (rules_from l.t l.bits l.i)
