-- `read` meets its contract.
use borrow.Author.Rules.{rules}
use mathlib.Core.Path.{◌≡◌}
use Rattle.std.specs.Prelude.{Err}
use Rattle.rule_file.proofs.Answers.{refused_empty}
use Rattle.rule_file.proofs.read.Goals as goal

pub returns-in_err-read_into : goal.returns-in_err-read_into
returns-in_err-read_into c =
    let a = c.args in
    let z : c.from_residual.result ≡ Err c.in_err-read_into.field-0.0 = search rules in
    rw z (rw (refused_empty a.way a.limits a.text.now _ _ _ c.in_err-read_into.ensures) at c.in_err-read_into.ensures)
