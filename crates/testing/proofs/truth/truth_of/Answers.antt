-- `testing::truth::truth_of` meets its contract.
use mathlib.Core.Bool.{false}
use mathlib.Core.Path.{◌≡◌, sym}
use Prim.Native.Nat.{◌<◌}
use Rattle.laws.specs.Limits.{slot_limit, row}
use Rattle.testing.proofs.Filling.{begun_start}
use Rattle.testing.proofs.Truths.{copied_all, slot_next, slots_end}
use native.Mathlib.Omega.{arith}
use borrow.Author.Rules.{rules}
use Rattle.testing.proofs.truth.truth_of.Goals.{After-from}
use Rattle.testing.proofs.truth.truth_of.Goals as goal

value : (c : After-from) → c.from.result < row
value c = rw c.from.ensures (c.requires c.slots.s (search rules))

pub slots-init : goal.slots-init
slots-init c = rw c.enter_changes.ensures (begun_start false _ _ _ _ (copied_all c.args.changes.now c.told-changes))

pub slots-preserved : goal.slots-preserved
slots-preserved c = slot_next c.args.card.now c.args.changes.now c.slots.truth c.slots.s c.from.result (search rules) (sym c.from.ensures) (value (goal.at.slots-preserved c).After-from) c.slots.invariant

pub returns : goal.returns
returns c =
    let e : c.slots.s ≡ slot_limit = omega arith in
    slots_end c.args.card.now c.args.changes.now c.slots.truth (rw e at c.slots.invariant)
