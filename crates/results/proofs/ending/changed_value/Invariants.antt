use Rattle.results.proofs.Values.{NoneBelow}
use Rattle.results.proofs.ending.changed_value.Given as goal

abbrev pub invariant-loop-lowest : goal.invariant-loop-lowest
invariant-loop-lowest l = NoneBelow l.changes l.slot l.lowest
