-- `tally::is_full` meets its contract.
use Rattle.std.proofs.Common.{arith}
use Rattle.std.proofs.lemmas.Grind.{common_steps}
use Rattle.laws.specs.Truth.{◌∨ᵇ◌}
use Rattle.tally.specs.Counting.{is_full}
use Rattle.tally.proofs.is_full.Goals as goal

pub returns-then-tally-ge-FULL : goal.returns-then-tally-ge-FULL
unfolding is_full ◌∨ᵇ◌
returns-then-tally-ge-FULL c = grind (arith, common_steps)

pub returns-else-tally-ge-FULL : goal.returns-else-tally-ge-FULL
unfolding is_full ◌∨ᵇ◌
returns-else-tally-ge-FULL c = grind (arith, common_steps)
