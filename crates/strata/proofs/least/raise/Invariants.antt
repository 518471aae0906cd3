use mathlib.Core.Path.{◌≡◌}
use Rattle.table.proofs.Walks.{assigned_from}
use Rattle.rows.specs.inner.Rows.{rule_in}
use Rattle.strata.specs.inner.Heights.{raise_all}
use Rattle.strata.proofs.least.raise.Given as goal

abbrev pub invariant-loop-k : goal.invariant-loop-k
invariant-loop-k l = raise_all (assigned_from (rule_in l.row.numbers) l.k) l.s l.high ≡ raise_all (assigned_from (rule_in l.row.numbers) 0) l.s l.initial.high
