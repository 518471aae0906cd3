-- `judging::truth::truth_of` meets its contract.
use mathlib.Core.Path.{◌≡◌, sym}
use Prim.Native.Nat.{◌<◌}
use Rattle.laws.specs.Limits.{slot_limit, row}
use Rattle.testing.proofs.Filling.{copied_start}
use Rattle.truths.specs.declared.Truth3.TheVariants.{False}
use Rattle.judging.proofs.Tests.{slot_next, slots_end}
use native.Mathlib.Omega.{arith}
use borrow.Author.Rules.{rules}
use Rattle.judging.proofs.truth.truth_of.Goals.{After-from, Joined-positive-p}
use Rattle.judging.proofs.truth.truth_of.Goals as goal

-- The card's value has a place in its slot.
value : (c : After-from) → c.from.result < row
value c = rw c.from.ensures (c.requires c.slots.s (search rules))

pub pairs-init : goal.pairs-init
pairs-init c = copied_start False _

pub slots-preserved : goal.slots-preserved
slots-preserved c = slot_next c.args.card.now c.args.positive.now c.args.negative.now c.slots.truth c.slots.s c.from.result (search rules) (sym c.from.ensures) (value (goal.at.slots-preserved c).After-from) c.slots.invariant

pub returns : goal.returns
returns c =
    let e : c.slots.s ≡ slot_limit = omega arith in
    slots_end c.args.card.now c.args.positive.now c.args.negative.now c.slots.truth (rw e at c.slots.invariant)
