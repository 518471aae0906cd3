-- `lines::values_next` meets its contract.
use Prim.Native.Nat.{◌-◌}
use native.Mathlib.Omega.{arith}
use mathlib.Core.Path.{◌≡◌, refl, ap, subst, ◌∙◌}
use lib.ListN.{length}
use borrow.Author.Rules.{rules}
use Rattle.std.specs.Prelude.{Ok, Err}
use Rattle.laws.specs.Limits.{value_limit}
use Rattle.steps.specs.declared.step.Fork.{Fork}
use Rattle.steps.specs.inner.Places.{choice, ForkLies}
use Rattle.lines.proofs.Index as index
use Rattle.lines.proofs.LineLaws as lines
use Rattle.lines.proofs.values_next.Goals as goal

pub returns-in_err-declared : goal.returns-in_err-declared
returns-in_err-declared c =
    let l = c.loop-values in
    let z : c.from_residual.result ≡ Err c.in_err-declared.field-0.0 = search rules in
    rw z (l.invariant.2 ∙ lines.values_fault _ _ _ _ (c.in_err-declared.ensures.0 _ (index.values_listed l.invariant.0)), tt)

pub returns-in_err-next : goal.returns-in_err-next
returns-in_err-next c =
    let l = c.loop-values in
    let h = c.loop-values-test.true in
    let d = c.in_ok-declared.ensures in
    let z : c.from_residual-in_err-next.result ≡ Err c.in_err-next.field-0.0 = search rules in
    rw z (l.invariant.2 ∙ lines.values_step _ l.values.places l.values.count _ _ _ _ l.invariant.0 h (d.0 _ (index.values_listed l.invariant.0)) (c.in_err-next.ensures.0 _), tt)

pub loop-values-preserved : goal.loop-values-preserved
loop-values-preserved c =
    let l = c.loop-values in
    let h = c.loop-values-test.true in
    let r = c.args.f.tokens.rest.now in
    let d = c.in_ok-declared.ensures in
    let f = c.in_ok-next.ensures in
    let m = subst (λ (k : Fork). ForkLies (length r) c.in_ok-declared.declared.next (Ok k)) c.in-First.is f.1 in rw c.push.ensures (
      index.values_more _ l.values.places l.values.count _ l.invariant.0 h d.1.0 d.1.1,
      omega (arith, l.invariant.1, d.1.2, m.0),
      l.invariant.2 ∙ lines.values_step _ l.values.places l.values.count _ _ _ _ l.invariant.0 h (d.0 _ (index.values_listed l.invariant.0)) (f.0 _ ∙ ap (λ (k : Fork). choice r c.args.f.base (Ok k)) c.in-First.is),
    )

pub returns-in-Second : goal.returns-in-Second
returns-in-Second c =
    let l = c.loop-values in
    let h = c.loop-values-test.true in
    let r = c.args.f.tokens.rest.now in
    let d = c.in_ok-declared.ensures in
    let f = c.in_ok-next.ensures in
    let m = subst (λ (k : Fork). ForkLies (length r) c.in_ok-declared.declared.next (Ok k)) c.in-Second.is f.1 in rw c.push.ensures (
      l.invariant.2 ∙ lines.values_step _ l.values.places l.values.count _ _ _ _ l.invariant.0 h (d.0 _ (index.values_listed l.invariant.0)) (f.0 _ ∙ ap (λ (k : Fork). choice r c.args.f.base (Ok k)) c.in-Second.is),
      (omega (arith, l.invariant.1, d.1.2, m.0), m.1, index.values_more _ l.values.places l.values.count _ l.invariant.0 h d.1.0 d.1.1),
    )

pub returns-in_err-new_next : goal.returns-in_err-new_next
returns-in_err-new_next c =
    let l = c.loop-values in
    let z : c.from_residual-in_err-new_next.result ≡ Err c.in_err-new_next.field-0.0 = search rules in
    rw z (l.invariant.2 ∙ lines.values_fault _ _ _ _ (c.in_err-new_next.ensures.0 _ (index.values_listed l.invariant.0)), tt)

pub returns : goal.returns
returns c =
    let l = c.loop-values in
    let e : value_limit - l.values.count ≡ 0 = omega arith in
    (l.invariant.2 ∙ lines.values_full _ _ _ _ _ e (c.in_ok-new_next.ensures.0 _ (index.values_listed l.invariant.0)), tt)
