use mathlib.Core.Path.{◌≡◌}
use Rattle.model.specs.Strata.{is_under_not, barred}
use Rattle.table.specs.Link.{assignments_of, rule_of}
use Rattle.table.proofs.Walks.{picked_from}
use Rattle.rows.specs.inner.Rows.{rule_in}
use Rattle.circles.specs.inner.Links.{flag_leading}
use Rattle.circles.proofs.flag_barred.Given as goal

abbrev pub invariant-literals : goal.invariant-literals
invariant-literals l = flag_leading l.links (picked_from (rule_in l.row.numbers) is_under_not l.j) (assignments_of (rule_in l.row.numbers)) l.flags ≡ flag_leading l.links (barred (rule_of (rule_in l.row.numbers))) (assignments_of (rule_in l.row.numbers)) l.initial.flags
