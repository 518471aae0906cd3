-- Each text takes at least two bytes of what is left of the input.
use Rattle.std.proofs.Common.{◌+◌, ◌≤◌, length}
use Rattle.token_cases.proofs.write_cases.Given as goal

abbrev pub invariant-loop-rest : goal.invariant-loop-rest
invariant-loop-rest g l = l.number + length l.rest ≤ length l.cases

abbrev pub decreases-loop-rest : goal.decreases-loop-rest
decreases-loop-rest g l = length l.rest
