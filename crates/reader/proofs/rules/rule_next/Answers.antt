-- `reader::rules::rule_next` meets its contract.
use native.Mathlib.Omega.{arith}
use mathlib.Core.Path.{◌≡◌, ◌∙◌}
use borrow.Author.Rules.{rules}
use Rattle.std.specs.Prelude.{Err}
use Rattle.reader.proofs.RuleLaws as rules
use Rattle.reader.proofs.StatementLaws as statements
use Rattle.reader.proofs.rules.rule_next.Goals as goal

pub returns-in_err-trigger : goal.returns-in_err-trigger
returns-in_err-trigger c =
    let z : c.from_residual.result ≡ Err c.in_err-trigger.field-0.0 = search rules in
    rw z (λ base ts slots w L. rules.rule_refused slots ts _ _ w (c.in_err-trigger.ensures.0 base slots L), tt)

pub returns : goal.returns
returns c =
    let e = c.in_ok-trigger.ensures in
    let r = c.rest_next.ensures in
    (λ base ts slots w L. rules.rule_begun slots ts _ _ _ w (e.0 base slots L) ∙ r.0 base slots L, statements.rule_earlier _ _ _ c.rest_next.result (omega (arith, e.1.2)) r.1)
