use Rattle.strata.specs.inner.Visits.{Visits}
use Rattle.strata.proofs.order.emit.Given as goal

abbrev pub invariant-onward : goal.invariant-onward
invariant-onward l = Visits l.n l.t l.order

abbrev pub invariant-back : goal.invariant-back
invariant-back l = (goal.iterator-back).can_next l.v-iterator × (goal.iterator-back).is_finite l.v-iterator × Visits l.n l.t l.order

abbrev pub invariant-again : goal.invariant-again
invariant-again l = Visits l.n l.t l.order
