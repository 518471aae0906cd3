use mathlib.Core.Path.{◌≡◌}
use Rattle.table.proofs.Walks.{assigned_from}
use Rattle.rows.specs.inner.Rows.{rule_in}
use Rattle.circles.specs.inner.Links.{leads_to}
use Rattle.circles.proofs.leads_to.Given as goal

abbrev pub invariant-loop-k : goal.invariant-loop-k
invariant-loop-k l = leads_to l.links l.p (assigned_from (rule_in l.row.numbers) l.k) ≡ leads_to l.links l.p (assigned_from (rule_in l.row.numbers) 0)
