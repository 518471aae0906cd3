-- `names::has_value` meets its contract.
use Rattle.std.proofs.Common.{arith}
use Rattle.std.proofs.lemmas.Grind.{common_steps}
use Rattle.laws.specs.Truth.{◌∧ᵇ◌}
use Rattle.names.specs.Names.{has_value}
use Rattle.names.proofs.has_value.Goals as goal

pub returns-then-value-le-VALUES : goal.returns-then-value-le-VALUES
unfolding has_value ◌∧ᵇ◌
returns-then-value-le-VALUES c = grind (arith, common_steps)

pub returns-else-value-le-VALUES : goal.returns-else-value-le-VALUES
unfolding has_value ◌∧ᵇ◌
returns-else-value-le-VALUES c = grind (arith, common_steps)
