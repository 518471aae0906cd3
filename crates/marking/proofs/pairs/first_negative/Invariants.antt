use Prim.Native.Nat.{◌+◌, ◌*◌}
use Rattle.laws.specs.Limits.{row}
use Rattle.marking.proofs.Negative.{Found}
use Rattle.marking.proofs.pairs.first_negative.Given as goal

abbrev pub invariant-others : goal.invariant-others
invariant-others l = Found l.live l.positive l.negative (l.s * row + l.v)

abbrev pub invariant-unassigned : goal.invariant-unassigned
invariant-unassigned l = Found l.live l.positive l.negative (l.s * row + l.v)

abbrev pub invariant-slots : goal.invariant-slots
invariant-slots l = Found l.live l.positive l.negative (l.s * row)
