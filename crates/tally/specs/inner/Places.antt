-- The place of an editor's record, as the code has it. Nothing here need be believed.
use Rattle.std.specs.Prelude.{ℕ, ◌-◌, cond, eqb}
use Rattle.laws.specs.Limits.{editor_limit}
use Rattle.laws.specs.Truth.{◌∧ᵇ◌}
use Rattle.tally.specs.Editors.{is_editor}

-- The place of the editor n in a table of so many records; past its end where there is none.
unfoldable pub record_place : ℕ → ℕ → ℕ
record_place count n = cond (eqb count editor_limit ∧ᵇ is_editor n) (n - 1) count
