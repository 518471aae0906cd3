-- `reader::rules::trigger_next` meets its contract.
use native.Mathlib.Omega.{arith}
use mathlib.Core.Path.{◌≡◌}
use borrow.Author.Rules.{rules}
use Rattle.std.specs.Prelude.{Err}
use Rattle.reader.proofs.RuleLaws as rules
use Rattle.reader.proofs.rules.trigger_next.Goals as goal

pub returns-in_err-trigger : goal.returns-in_err-trigger
returns-in_err-trigger c =
    let z : c.from_residual.result ≡ Err c.in_err-trigger.field-0.0 = search rules in
    rw z (λ base slots L. rules.trigger_no_pair slots _ _ (c.in_err-trigger.ensures.0 base slots L), tt)

pub returns-in_err-next : goal.returns-in_err-next
returns-in_err-next c =
    let z : c.from_residual-in_err-next.result ≡ Err c.in_err-next.field-0.0 = search rules in
    rw z (λ base slots L. rules.trigger_no_if slots _ _ _ _ (c.in_ok-trigger.ensures.0 base slots L) (c.in_err-next.ensures.0 base), tt)

pub returns : goal.returns
returns c =
    let e = c.in_ok-trigger.ensures in
    let d = c.in_ok-next.ensures in
    (λ base slots L. rules.trigger_took slots _ _ _ _ (e.0 base slots L) (d.0 base), (e.1.0, e.1.1, omega (arith, e.1.2, d.1.0), d.1.1))
