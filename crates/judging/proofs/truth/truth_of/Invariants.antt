use Rattle.testing.proofs.Filling.{Copied, Begun}
use Rattle.truths.specs.declared.Truth3.TheVariants.{False}
use Rattle.judging.proofs.Tests.{mark_at, had_at, turns_at}
use Rattle.judging.proofs.truth.truth_of.Given as goal

abbrev pub invariant-pairs : goal.invariant-pairs
invariant-pairs l = Copied False (mark_at l.positive l.negative) l.truth l.p

abbrev pub invariant-slots : goal.invariant-slots
invariant-slots l = Begun False (mark_at l.positive l.negative) (had_at l.card l.positive l.negative) (turns_at l.card l.positive l.negative) l.truth l.s
