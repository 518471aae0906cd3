use Prim.Native.Nat.{◌*◌}
use lib.ListN.{length}
use Rattle.laws.specs.Limits.{assignment_limit}
use Rattle.strata.specs.inner.Visits.{AtMost}
use Rattle.strata.proofs.order.chain_assigned.Given as goal

abbrev pub invariant-assignments : goal.invariant-assignments
invariant-assignments l = AtMost (assignment_limit * length l.rows) l.heads × AtMost (assignment_limit * length l.rows) l.nexts

abbrev pub invariant-rules : goal.invariant-rules
invariant-rules l = AtMost (assignment_limit * length l.rows) l.heads × AtMost (assignment_limit * length l.rows) l.nexts
