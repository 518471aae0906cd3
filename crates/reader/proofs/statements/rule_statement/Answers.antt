-- `reader::statements::rule_statement` meets its contract.
use native.Mathlib.Omega.{arith}
use mathlib.Core.Path.{◌≡◌}
use borrow.Author.Rules.{rules}
use Rattle.std.specs.Prelude.{Err}
use Rattle.reader.proofs.StatementLaws as statements
use Rattle.reader.proofs.statements.rule_statement.Goals as goal

pub returns-then-most-count : goal.returns-then-most-count
returns-then-most-count c =
    let h = c.if-most-count.true in
    (λ base slots rules I e n w. statements.next_full _ slots rules _ _ n (omega arith) w, λ width. tt)

pub returns-in_err-rule : goal.returns-in_err-rule
returns-in_err-rule c =
    let h = c.if-most-count.false in
    let z : c.from_residual.result ≡ Err c.in_err-rule.field-0.0 = search rules in
    rw z (λ base slots rules I e n w. statements.next_stop _ slots rules _ _ n (omega arith) (c.in_err-rule.ensures.0 base _ slots w (statements.looked _ _ _ slots I)), λ width. tt)

pub returns : goal.returns
returns c =
    let h = c.if-most-count.false in
    let r = c.in_ok-rule.ensures in
    let l = r.1 in (
      λ base slots rules I e n w. statements.next_rule _ slots rules _ _ _ n (omega arith) (r.0 base _ slots w (statements.looked _ _ _ slots I)),
      λ width. (omega (arith, l.0), l.1, h, l.2),
    )
