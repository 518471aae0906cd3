-- `reader::rules::rest_next` meets its contract.
use native.Mathlib.Omega.{arith}
use mathlib.Core.Path.{◌≡◌, refl}
use borrow.Author.Rules.{rules}
use Rattle.std.specs.Prelude.{Err}
use Rattle.reader.proofs.RuleLaws as rules
use Rattle.reader.proofs.rules.rest_next.Goals as goal

pub returns-in_err-condition : goal.returns-in_err-condition
returns-in_err-condition c =
    let z : c.from_residual.result ≡ Err c.in_err-condition.field-0.0 = search rules in
    rw z (λ base slots L. rules.rest_no_condition slots _ _ _ (c.in_err-condition.ensures.0 base slots L), tt)

pub returns-in_err-assigned : goal.returns-in_err-assigned
returns-in_err-assigned c =
    let z : c.from_residual-in_err-assigned.result ≡ Err c.in_err-assigned.field-0.0 = search rules in
    rw z (λ base slots L. rules.rest_no_assign slots _ _ _ _ _ (c.in_ok-condition.ensures.0 base slots L) (c.in_err-assigned.ensures.0 base slots L), tt)

pub returns-in_err-next : goal.returns-in_err-next
returns-in_err-next c =
    let z : c.from_residual-in_err-next.result ≡ Err c.in_err-next.field-0.0 = search rules in
    rw z (λ base slots L. rules.rest_no_end slots _ _ _ _ _ _ _ (c.in_ok-condition.ensures.0 base slots L) (c.in_ok-assigned.ensures.0 base slots L) (c.in_err-next.ensures.0 base), tt)

pub returns : goal.returns
returns c =
    let l = c.in_ok-condition.ensures in
    let a = c.in_ok-assigned.ensures in
    let d = c.in_ok-next.ensures in
    let e = c.rule_of.ensures in (
      λ base slots L. rw e (rules.rest_took slots _ _ _ _ _ _ _ (l.0 base slots L) (a.0 base slots L) (d.0 base)),
      (omega (arith, l.1.0, a.1.0, d.1.0), d.1.1, rw e (record { literals_filled = l.1.2; assignments_filled = a.1.2; no_stratum = refl })),
    )
