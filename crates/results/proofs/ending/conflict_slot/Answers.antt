-- `results::ending::conflict_slot` meets its contract.
use mathlib.Core.Path.{◌≡◌, refl}
use mathlib.Core.Logic.{⊎_elim}
use Rattle.laws.specs.Limits.{row}
use Rattle.results.proofs.Values.{values_start, values_next, calm_start, calm_next, conflict_found, conflict_none}
use native.Mathlib.Omega.{arith}
use borrow.Author.Rules.{rules}
use Rattle.results.proofs.ending.conflict_slot.Goals as goal

pub slots-init : goal.slots-init
slots-init c = calm_start _

pub values-init : goal.values-init
values-init c = (omega arith, values_start _ _)

pub values-preserved : goal.values-preserved
values-preserved c =
    let e = values_next c.args.changes.now c.slots.s c.values.v (search rules) in
    ⊎_elim
    (λ w. let z = rw w.if-changes-base.true at e in (omega (arith, w.count-is, c.values.invariant.0), omega (arith, z, w.count-is, c.values.invariant.1)))
    (λ w. let z = rw w.if-changes-base.false at e in (omega (arith, w.count-is, c.values.invariant.0), omega (arith, z, w.count-is, c.values.invariant.1)))
    c.if-changes-base.branch-raw

pub returns-then-count-ge2 : goal.returns-then-count-ge2
returns-then-count-ge2 c =
    let e : c.values.v ≡ row = omega arith in
    (search rules, conflict_found c.args.changes.now c.args.width c.slots.s (search rules) (omega (arith, c.if-count-ge2.true, rw e at c.values.invariant.1)) c.slots.invariant)

pub slots-preserved : goal.slots-preserved
slots-preserved c =
    let e : c.values.v ≡ row = omega arith in
    calm_next c.args.changes.now c.slots.s (omega (arith, c.if-count-ge2.false, rw e at c.values.invariant.1)) c.slots.invariant

pub returns : goal.returns
returns c =
    let e : c.slots.s ≡ c.args.width = omega arith in
    conflict_none c.args.changes.now c.args.width c.args.width refl (rw e at c.slots.invariant)
