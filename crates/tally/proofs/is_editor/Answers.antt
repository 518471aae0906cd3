-- `tally::is_editor` meets its contract.
use Rattle.std.proofs.Common.{arith}
use Rattle.std.proofs.lemmas.Grind.{common_steps}
use Rattle.laws.specs.Truth.{◌∧ᵇ◌}
use Rattle.tally.specs.Editors.{is_editor}
use Rattle.tally.proofs.is_editor.Goals as goal

pub returns : goal.returns
unfolding is_editor ◌∧ᵇ◌
returns c = grind (arith, common_steps)
