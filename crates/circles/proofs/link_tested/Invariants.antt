use mathlib.Core.Path.{◌≡◌}
use Rattle.model.specs.Strata.{is_becomes}
use Rattle.table.proofs.Walks.{picked_from}
use Rattle.rows.specs.inner.Rows.{rule_in}
use Rattle.circles.specs.inner.Links.{add_links}
use Rattle.circles.proofs.link_tested.Given as goal

abbrev pub invariant-literals : goal.invariant-literals
invariant-literals l = add_links l.p (picked_from (rule_in l.row.numbers) is_becomes l.j) l.links ≡ add_links l.p (picked_from (rule_in l.row.numbers) is_becomes 0) l.initial.links
