use mathlib.Core.Path.{◌≡◌}
use lib.ListN.{length}
use Rattle.table.specs.Link.{assignments_of}
use Rattle.table.proofs.Walks.{assigned_from}
use Rattle.rows.specs.inner.Rows.{rule_in}
use Rattle.testing.specs.inner.Waiting.{Woken}
use Rattle.marking.specs.inner.Marked.{unassigned_out}
use Rattle.marking.proofs.pairs.rule_out_unassigned.Given as goal

abbrev pub invariant-assignments : goal.invariant-assignments
invariant-assignments l = (unassigned_out l.live (assigned_from (rule_in l.row.numbers) l.k) l.marks ≡ unassigned_out l.live (assignments_of (rule_in l.row.numbers)) l.initial.marks) × Woken l.n l.top l.woken × (length l.queued ≡ length l.initial.queued) × (length l.woken ≡ length l.initial.woken)
