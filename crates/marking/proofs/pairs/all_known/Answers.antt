-- `marking::pairs::all_known` meets its contract.
use mathlib.Core.Path.{sym, subst}
use mathlib.Core.Bool.{false}
use Prim.Native.Nat.{◌+◌, ◌*◌}
use native.Mathlib.Omega.{arith}
use lib.Dec.{T}
use lib.ListN.{get_or}
use Rattle.laws.specs.Truth.{◌∨ᵇ◌}
use Rattle.laws.specs.Limits.{row}
use Rattle.laws.proofs.Truth.{or_l, or_r}
use Rattle.laws.proofs.Equations.{is_true, from_true}
use Rattle.marking.specs.inner.Marked.{AllMarked}
use Rattle.marking.proofs.Slots.{up_to_value}
use Rattle.marking.proofs.pairs.all_known.Invariants.{IsMarked}
use Rattle.marking.proofs.pairs.all_known.Goals.{In-values, else-not-marks-at-via-then-not-marks-at+else-not-marks-at-2, else-not-marks-at-via-else-not-marks-at}
use Rattle.marking.proofs.pairs.all_known.Goals as goal

pub values-init : goal.values-init
values-init c = c.slots.invariant

pub values-preserved : goal.values-preserved
values-preserved c =
    let p = c.args.marks.now.positive in
    let q = c.args.marks.now.negative in
    let x = c.slots.s in
    let at = x * row + c.values.v in
    up_to_value c.args.counts.now (IsMarked p q) x c.values.v
    (elim c.else-not-marks-at.branch [
      | else-not-marks-at-via-then-not-marks-at+else-not-marks-at-2 w ↦ is_true _ (or_l (get_or p at false) (get_or q at false) (from_true _ w.if-not-marks-at-2.false))
      | else-not-marks-at-via-else-not-marks-at w ↦ is_true _ (or_r (get_or p at false) (get_or q at false) (from_true _ w.if-not-marks-at.false))
    ])
    c.values.invariant

pub returns-then-not-marks-at-2 : goal.returns-then-not-marks-at-2
unfolding ◌∨ᵇ◌
returns-then-not-marks-at-2 c = (
  λ e. absurd (subst T (sym e) tt),
  λ e. record {
    slot = c.slots.s;
    value = c.values.v;
    in_width = c.slots-test.true;
    in_count = omega arith;
    neither = rw c.if-not-marks-at-2.true c.if-not-marks-at.true;
  },
)

pub returns : goal.returns
unfolding AllMarked
returns c = (λ e x w k b. c.slots.invariant.earlier x w (omega (arith, k)) b, λ e. absurd (subst T e tt))
