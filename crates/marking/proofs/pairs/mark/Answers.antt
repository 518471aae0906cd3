-- `marking::pairs::mark` meets its contract.
use mathlib.Core.Path.{◌≡◌, refl, sym, ◌∙◌, ap₂}
use mathlib.Core.Bool.{true, cond}
use Prim.Native.Nat.{ℕ, suc, ◌+◌}
use native.Mathlib.Omega.{arith}
use lib.ListN.{get_or, set}
use borrow.Author.Rules.{rules}
use Rattle.table.specs.inner.Flat.{pair_places}
use Rattle.truths.specs.declared.Truth3.{Truth3}
use Rattle.truths.specs.declared.Truth3.TheVariants.{False, True, Unknown}
use Rattle.truths.specs.Truths.{is_true}
use Rattle.judging.specs.declared.truth.Known.{Known}
use Rattle.judging.specs.inner.Known.{known}
use Rattle.marking.specs.inner.Marked.{made_positive, rivals_out, marked}
use Rattle.marking.proofs.Marked.{rivals_self, rivals_negative, rivals_more}
use Rattle.marking.proofs.pairs.mark.Goals.{then-had, else-had, then-at-p-via-then-at-p, then-at-p-via-else-at-p+then-marks-at}
use Rattle.marking.proofs.pairs.mark.Goals as goal

-- A truth value that is not True.
not_true : (x : Truth3) → (x ≡ True → ⊥) → cond (is_true x) False True ≡ True
unfolding is_true
not_true True n = absurd (n refl)
not_true False n = refl
not_true Unknown n = refl

pub values-init : goal.values-init
unfolding rivals_out
values-init c = (refl, c.wake-top.ensures, refl, refl)

pub values-preserved-then-at-p : goal.values-preserved-then-at-p
values-preserved-then-at-p c = (
  elim c.then-at-p.branch [
    | then-at-p-via-then-at-p w ↦ rivals_self _ _ _ _ w.if-at-p.true c.values.invariant.0
    | then-at-p-via-else-at-p+then-marks-at w ↦ rivals_negative _ _ _ _ w.if-marks-at.true c.values.invariant.0
  ],
  c.values.invariant.1,
  c.values.invariant.2,
  c.values.invariant.3,
)

pub values-preserved : goal.values-preserved
values-preserved c = (c.rule_out-top.ensures.0 ∙ rivals_more _ _ _ _ c.if-at-p.false c.if-marks-at.false c.values.invariant.0, c.rule_out-top.ensures.1, search rules, search rules)

pub returns : goal.returns
unfolding marked made_positive is_true
returns c =
    let last : c.values.rival ≡ suc c.args.count = omega arith in
    let from : ℕ → Truth3 → Known = λ v t. rivals_out c.args.p v (known (set c.args.marks.now.positive c.args.p true) c.args.marks.now.negative (set c.args.marks.now.truth (pair_places + c.args.p) t)) in
    let turned : c.if-had.test ≡ cond (is_true (get_or c.args.marks.now.truth c.args.p False)) False True = elim c.if-had.branch [
      | then-had w ↦ (let e : get_or c.args.marks.now.truth c.args.p False ≡ True = search rules in rw e w.test-is)
      | else-had w ↦ (let e : get_or c.args.marks.now.truth c.args.p False ≡ True → ⊥ = search rules in w.test-is ∙ sym (not_true _ e))
    ] in
    (c.values.invariant.0 ∙ ap₂ from last turned, c.values.invariant.1)
