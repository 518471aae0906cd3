use mathlib.Core.Path.{◌≡◌}
use Rattle.table.specs.Link.{rule_of}
use Rattle.model.specs.Strata.{is_under_not, barred}
use Rattle.table.proofs.Walks.{picked_from}
use Rattle.rows.specs.inner.Rows.{rule_in}
use Rattle.leastness.specs.inner.OneBelow.{one_below}
use Rattle.leastness.proofs.one_below.Given as goal

abbrev pub invariant-literals : goal.invariant-literals
invariant-literals l = one_below l.high l.s (picked_from (rule_in l.row.numbers) is_under_not l.j) ≡ one_below l.high l.s (barred (rule_of (rule_in l.row.numbers)))
