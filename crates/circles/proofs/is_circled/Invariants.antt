use mathlib.Core.Path.{◌≡◌}
use Rattle.model.specs.Strata.{is_becomes}
use Rattle.table.specs.Link.{rule_of, assignments_of}
use Rattle.table.proofs.Walks.{picked_from}
use Rattle.rows.specs.inner.Rows.{rule_in}
use Rattle.circles.specs.inner.Links.{some_leads, circled_by}
use Rattle.circles.proofs.is_circled.Given as goal

abbrev pub invariant-literals : goal.invariant-literals
invariant-literals l = some_leads l.links l.flags (picked_from (rule_in l.row.numbers) is_becomes l.j) (assignments_of (rule_in l.row.numbers)) ≡ circled_by l.links l.flags (rule_of (rule_in l.row.numbers))
