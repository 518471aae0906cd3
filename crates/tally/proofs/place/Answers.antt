-- `tally::place` meets its contract.
use Rattle.std.proofs.Common.{arith}
use Rattle.std.proofs.lemmas.Grind.{common_steps}
use Rattle.laws.specs.Truth.{◌∧ᵇ◌}
use Rattle.tally.specs.Editors.{is_editor}
use Rattle.tally.specs.inner.Places.{record_place}
use Rattle.tally.proofs.place.Goals as goal

pub overflow_sub-result : goal.overflow_sub-result
unfolding record_place is_editor ◌∧ᵇ◌
overflow_sub-result c = grind (arith, common_steps)

pub returns-then-is_editor : goal.returns-then-is_editor
unfolding record_place is_editor ◌∧ᵇ◌
returns-then-is_editor c = grind (arith, common_steps)

pub returns-else-count-eq-EDITORS : goal.returns-else-count-eq-EDITORS
unfolding record_place is_editor ◌∧ᵇ◌
returns-else-count-eq-EDITORS c = grind (arith, common_steps)
