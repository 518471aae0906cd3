use Rattle.table.specs.inner.Flat.{set_of}
use Rattle.response.proofs.SlipLaws.{Listed}
use Rattle.response.proofs.slips.slip_of.Given as goal

abbrev pub invariant-loop-s : goal.invariant-loop-s
invariant-loop-s l = Listed (set_of l.changes) l.s l.listed l.count
