-- `soundness::right::is_right` meets its contract.
use Rattle.std.proofs.lemmas.Grind.{common_steps}
use native.Mathlib.Omega.{arith}
use Rattle.laws.specs.Truth.{◌∧ᵇ◌}
use Rattle.soundness.proofs.RuleTests.{both_right, right_is}
use Rattle.soundness.proofs.right.is_right.Goals as goal

pub returns-then-literals_right : goal.returns-then-literals_right
unfolding ◌∧ᵇ◌ both_right
returns-then-literals_right c = rw right_is (grind (arith, common_steps))

pub returns-else-literals_right : goal.returns-else-literals_right
unfolding ◌∧ᵇ◌ both_right
returns-else-literals_right c = rw right_is (grind (arith, common_steps))
