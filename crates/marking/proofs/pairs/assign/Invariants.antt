use mathlib.Core.Path.{◌≡◌}
use lib.ListN.{length}
use Rattle.table.specs.Link.{assignments_of}
use Rattle.table.proofs.Walks.{assigned_from}
use Rattle.rows.specs.inner.Rows.{rule_in}
use Rattle.testing.specs.inner.Waiting.{Woken}
use Rattle.marking.proofs.Marked.{Few, Assigning}
use Rattle.marking.proofs.pairs.assign.Given as goal

abbrev pub invariant-assignments : goal.invariant-assignments
invariant-assignments l = Few l.counts (assigned_from (rule_in l.row.numbers) l.k) × Assigning l.counts (assignments_of (rule_in l.row.numbers)) l.initial.marks (assigned_from (rule_in l.row.numbers) l.k) l.marks × Woken l.n l.top l.woken × (length l.queued ≡ length l.initial.queued) × (length l.woken ≡ length l.initial.woken)
