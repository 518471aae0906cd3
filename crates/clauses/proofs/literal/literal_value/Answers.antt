-- `clauses::literal::literal_value` meets its contract.
use mathlib.Core.Path.{◌≡◌}
use borrow.Author.Rules.{rules}
use Rattle.std.specs.Prelude.{Err}
use Rattle.clauses.proofs.LiteralLaws as literals
use Rattle.clauses.proofs.literal.literal_value.Goals as goal

pub returns-in_err-found : goal.returns-in_err-found
returns-in_err-found c =
    let z : c.from_residual.result ≡ Err c.in_err-found.field-0.0 = search rules in
    rw z (λ base slots h. literals.value_stop slots _ _ _ _ _ (c.in_err-found.ensures.0 base slots h), tt)

pub returns : goal.returns
returns c = let e = c.in_ok-found.ensures in (λ base slots h. literals.value_took slots _ _ _ _ _ _ (e.0 base slots h), (e.1.1, e.1.2))
