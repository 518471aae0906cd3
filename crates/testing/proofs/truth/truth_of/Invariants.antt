use mathlib.Core.Bool.{false}
use Rattle.testing.proofs.Filling.{Begun}
use Rattle.testing.proofs.Truths.{flag_at, had_at, came_at}
use Rattle.testing.proofs.truth.truth_of.Given as goal

abbrev pub invariant-slots : goal.invariant-slots
invariant-slots l = Begun false (flag_at l.changes) (had_at l.card) (came_at l.card l.changes) l.truth l.s
