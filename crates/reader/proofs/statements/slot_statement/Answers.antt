-- `reader::statements::slot_statement` meets its contract.
use native.Mathlib.Omega.{arith}
use mathlib.Core.Path.{◌≡◌, refl}
use borrow.Author.Rules.{rules}
use Rattle.std.specs.Prelude.{Err}
use Rattle.text.specs.Tokens.{SLOT}
use Rattle.lines.proofs.Index.{indexed_slots}
use Rattle.steps.proofs.Places as places
use Rattle.reader.proofs.StatementLaws as statements
use Rattle.reader.proofs.statements.slot_statement.Goals as goal

pub returns-then-width-ge-SLOTS : goal.returns-then-width-ge-SLOTS
returns-then-width-ge-SLOTS c =
    let h = c.if-width-ge-SLOTS.true in
    (λ most slots I e n. statements.on_line_full most slots _ (omega arith) (places.expects_took SLOT _ _ tt n).0, λ most. tt)

pub returns-in_err-line : goal.returns-in_err-line
returns-in_err-line c =
    let h = c.if-width-ge-SLOTS.false in
    let z : c.from_residual.result ≡ Err c.in_err-line.field-0.0 = search rules in
    rw z (λ most slots I e n. statements.on_line_stop most slots _ _ (omega arith) (places.expects_took SLOT _ _ tt n).0 (c.in_err-line.ensures.0 _ slots n (indexed_slots I)), λ most. tt)

pub returns : goal.returns
returns c =
    let h = c.if-width-ge-SLOTS.false in
    let r = c.in_ok-line.ensures in
    let l = r.1 in (
      λ most slots I e n. statements.on_line most slots _ _ _ (omega arith) (places.expects_took SLOT _ _ tt n).0 (r.0 _ slots n (indexed_slots I)),
      λ most. (omega (arith, l.0), l.1, h, refl, l.2, l.3, l.4),
    )
