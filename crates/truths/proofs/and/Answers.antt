-- `truths::and` meets its contract.
use mathlib.Core.Path.{refl}
use Rattle.truths.specs.Truths.{◌AND₃◌, number}
use Rattle.truths.proofs.and.Goals as goal

pub returns-in-True-q : goal.returns-in-True-q
unfolding ◌AND₃◌ number
returns-in-True-q c = rw (c.in-True.is, c.in-True-q.is) (refl, refl)

pub returns-in-False-q : goal.returns-in-False-q
unfolding ◌AND₃◌ number
returns-in-False-q c = rw (c.in-True.is, c.in-False-q.is) (refl, refl)

pub returns-in-Unknown-q : goal.returns-in-Unknown-q
unfolding ◌AND₃◌ number
returns-in-Unknown-q c = rw (c.in-True.is, c.in-Unknown-q.is) (refl, refl)

pub returns-in-True-q-2 : goal.returns-in-True-q-2
unfolding ◌AND₃◌ number
returns-in-True-q-2 c = rw (c.in-False.is, c.in-True-q-2.is) (refl, refl)

pub returns-in-False-q-2 : goal.returns-in-False-q-2
unfolding ◌AND₃◌ number
returns-in-False-q-2 c = rw (c.in-False.is, c.in-False-q-2.is) (refl, refl)

pub returns-in-Unknown-q-2 : goal.returns-in-Unknown-q-2
unfolding ◌AND₃◌ number
returns-in-Unknown-q-2 c = rw (c.in-False.is, c.in-Unknown-q-2.is) (refl, refl)

pub returns-in-True-q-3 : goal.returns-in-True-q-3
unfolding ◌AND₃◌ number
returns-in-True-q-3 c = rw (c.in-Unknown.is, c.in-True-q-3.is) (refl, refl)

pub returns-in-False-q-3 : goal.returns-in-False-q-3
unfolding ◌AND₃◌ number
returns-in-False-q-3 c = rw (c.in-Unknown.is, c.in-False-q-3.is) (refl, refl)

pub returns-in-Unknown-q-3 : goal.returns-in-Unknown-q-3
unfolding ◌AND₃◌ number
returns-in-Unknown-q-3 c = rw (c.in-Unknown.is, c.in-Unknown-q-3.is) (refl, refl)
