-- `tally::one_answered` meets its contract.
use Rattle.tally.proofs.TallyLaws.{room_left}
use native.Mathlib.Omega.{arith}
use Rattle.tally.proofs.one_answered.Goals as goal

pub overflow_add-result : goal.overflow_add-result
overflow_add-result c = record { fits = let w = room_left _ c.requires in omega arith }
