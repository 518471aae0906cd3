use mathlib.Core.Path.{◌≡◌}
use mathlib.Core.Bool.{false}
use Rattle.rows.specs.inner.RuleRows.{rows_table}
use Rattle.strata.proofs.Rising.{Rising, Quiet, Risen, passes_left}
use Rattle.strata.proofs.least.find.Given as goal

abbrev pub invariant-visits : goal.invariant-visits
invariant-visits l = Risen (rows_table l.rows) l.initial.numbers l.numbers l.high l.raised

abbrev pub invariant-rounds : goal.invariant-rounds
invariant-rounds l = Rising (rows_table l.rows) l.numbers l.high

abbrev pub decreases-rounds : goal.decreases-rounds
decreases-rounds l = passes_left l.numbers l.raised

abbrev pub invariant-rules : goal.invariant-rules
invariant-rules l = Risen (rows_table l.rows) l.initial.numbers l.numbers l.high l.moved × (l.moved ≡ false → Quiet (rows_table l.rows) l.i l.numbers l.high)

abbrev pub invariant-passes : goal.invariant-passes
invariant-passes l = Rising (rows_table l.rows) l.numbers l.high × (l.moved ≡ false → Quiet (rows_table l.rows) (rows_table l.rows).count l.numbers l.high)

abbrev pub decreases-passes : goal.decreases-passes
decreases-passes l = passes_left l.numbers l.moved
