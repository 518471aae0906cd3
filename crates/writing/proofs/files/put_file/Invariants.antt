use mathlib.Core.List.{◌++◌}
use Rattle.writing.specs.inner.Spelled.{spelled_file}
use Rattle.writing.proofs.Putting.{Left}
use Rattle.writing.proofs.Lines.{lines_from, rules_from}
use Rattle.writing.proofs.files.put_file.Given as goal

abbrev pub invariant-loop-i : goal.invariant-loop-i
invariant-loop-i l =
    Left l.initial.sheet (spelled_file l.spelling.text.now l.spelling.slotspans.now l.spelling.valuespans.now l.t) l.sheet (lines_from l.spelling.text.now l.spelling.slotspans.now l.spelling.valuespans.now l.t l.i ++ rules_from l.spelling.text.now l.spelling.slotspans.now l.spelling.valuespans.now l.t 0)

abbrev pub invariant-loop-j : goal.invariant-loop-j
invariant-loop-j l =
    Left l.initial.sheet (rules_from l.spelling.text.now l.spelling.slotspans.now l.spelling.valuespans.now l.t 0) l.sheet (rules_from l.spelling.text.now l.spelling.slotspans.now l.spelling.valuespans.now l.t l.j)
