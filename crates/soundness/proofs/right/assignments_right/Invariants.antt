use lib.ListN.{length}
use mathlib.Core.Path.{◌≡◌}
use Rattle.table.proofs.Walks.{assigned_from}
use Rattle.soundness.specs.Sound.{has_pair}
use Rattle.soundness.proofs.RuleTests.{both_right}
use Rattle.soundness.proofs.right.assignments_right.Given as goal

abbrev pub invariant-loop-k : goal.invariant-loop-k
invariant-loop-k l = both_right (has_pair (length l.counts) l.counts) (assigned_from l.r l.k) ≡ both_right (has_pair (length l.counts) l.counts) (assigned_from l.r 0)
