use mathlib.Core.Path.{◌≡◌}
use Rattle.model.specs.Strata.{tested}
use Rattle.table.specs.Link.{rule_of}
use Rattle.table.proofs.Walks.{assigned_from}
use Rattle.rows.specs.inner.Rows.{rule_in}
use Rattle.circles.specs.inner.Links.{link_all}
use Rattle.circles.proofs.link_rule.Given as goal

abbrev pub invariant-loop-k : goal.invariant-loop-k
invariant-loop-k l = link_all (assigned_from (rule_in l.row.numbers) l.k) (tested (rule_of (rule_in l.row.numbers))) l.links ≡ link_all (assigned_from (rule_in l.row.numbers) 0) (tested (rule_of (rule_in l.row.numbers))) l.initial.links
