-- Rules that 18 refuses, with an answer that is correct: the theorems of section 3 at an example.
-- Assumes nothing.
use mathlib.Core.Path.{refl}
use mathlib.Core.List.{[], ◌∷◌}
use Rattle.model.specs.Paper.{Correct, firing_of}
use Rattle.model.proofs.CaseRules.{no_values}
use Rattle.marks.specs.Selection.{fires}
use Rattle.marks.specs.inner.Declared.{Declared}
use Rattle.marks.proofs.AfterMoves.{selects_all, pairs, two_nots, slip_xy}
use Rattle.marks.proofs.Pairs.{declared_i}
use Rattle.marks.proofs.Correct.{answer_correct}

-- Its pairs are declared.
pub two_nots_declared : Declared pairs two_nots slip_xy
unfolding selects_all pairs two_nots slip_xy
two_nots_declared = declared_i pairs two_nots slip_xy tt tt

-- So by the theorems its answer is the correct response to the slip, though 18 refuses the rules.
pub two_nots_correct : Correct two_nots no_values slip_xy (firing_of two_nots slip_xy (2 ∷ []))
unfolding selects_all pairs two_nots slip_xy
two_nots_correct = answer_correct pairs two_nots no_values slip_xy two_nots_declared (fires 2 ∷ []) tt refl
