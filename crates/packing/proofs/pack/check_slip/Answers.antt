-- `packing::pack::check_slip` meets its contract.
use mathlib.Core.Path.{◌≡◌, sym, ap₂, ◌∙◌}
use Prim.Native.Nat.{ℕ}
use lib.ListN.{get_or}
use native.Mathlib.Omega.{arith}
use Rattle.model.specs.Result.{pair}
use Rattle.refusals.specs.Numbers.{change_number}
use Rattle.cards.specs.Forms.{change_fault}
use Rattle.cards.specs.Cards.{changes_of}
use Rattle.cards.specs.inner.Fitting.{change_number_of}
use Rattle.cards.proofs.Tested.{no_pair, changes_next, changes_fault, changes_end, change_right, number_not-0}
use Rattle.cards.proofs.Formed.{slip_length, slip_at}
use Rattle.packing.proofs.pack.check_slip.Goals.{After-change_fault}
use Rattle.packing.proofs.pack.check_slip.Goals as goal

-- The change there,
change : (c : After-change_fault) → get_or (changes_of c.args.s) c.loop-i.i no_pair ≡ pair c.from-slot.result c.from.result
change c = slip_at c.args.s c.loop-i.i (omega arith) ∙ ap₂ (λ (x y : ℕ). pair x y) (sym c.from-slot.ensures) (sym c.from.ensures)

-- and its fault.
found : (c : After-change_fault) → change_fault c.args.counts.now c.loop-i.low (get_or (changes_of c.args.s) c.loop-i.i no_pair) ≡ change_number_of c.change_fault.result
found c = rw (change c) (sym c.change_fault.ensures)

pub overflow_add-low : goal.overflow_add-low
overflow_add-low c = record { fits = omega (arith, (change_right _ _ _ (sym c.in-Ok.ensures)).below, c.requires.0) }

pub returns-in-Err : goal.returns-in-Err
returns-in-Err c =
    let e = found (goal.at.returns-in-Err c).After-change_fault in
    sym (changes_fault c.args.counts.now (changes_of c.args.s) c.loop-i.low c.loop-i.i (omega (arith, slip_length c.args.s)) c.loop-i.invariant (change_number c.in-Err.fault) (rw c.in-Err.is at e) (number_not-0 c.in-Err.fault))

pub loop-i-preserved : goal.loop-i-preserved
loop-i-preserved c =
    let e = found (goal.at.loop-i-preserved c).After-change_fault in
    rw (change (goal.at.loop-i-preserved c).After-change_fault) at (changes_next c.args.counts.now (changes_of c.args.s) c.loop-i.low c.loop-i.i (omega (arith, slip_length c.args.s)) c.loop-i.invariant (rw c.in-Ok.is at e))

pub returns : goal.returns
returns c = sym (changes_end c.args.counts.now (changes_of c.args.s) c.loop-i.low c.loop-i.i (omega (arith, slip_length c.args.s)) c.loop-i.invariant)
