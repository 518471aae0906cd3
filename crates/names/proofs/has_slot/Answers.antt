-- `names::has_slot` meets its contract.
use Rattle.std.proofs.Common.{arith}
use Rattle.std.proofs.lemmas.Grind.{common_steps}
use Rattle.laws.specs.Truth.{◌∧ᵇ◌}
use Rattle.names.specs.Names.{has_slot}
use Rattle.names.proofs.has_slot.Goals as goal

pub returns-then-slot-lt-SLOTS : goal.returns-then-slot-lt-SLOTS
unfolding has_slot ◌∧ᵇ◌
returns-then-slot-lt-SLOTS c = grind (arith, common_steps)

pub returns-else-slot-lt-SLOTS : goal.returns-else-slot-lt-SLOTS
unfolding has_slot ◌∧ᵇ◌
returns-else-slot-lt-SLOTS c = grind (arith, common_steps)
