-- `print` meets its contract.
use mathlib.Core.Path.{◌≡◌, sym, ap}
use mathlib.Core.List.{List}
use Prim.Native.Nat.{ℕ}
use lib.ListN.{length}
use borrow.Author.Rules.{rules}
use Rattle.std.specs.Prelude.{Err}
use Rattle.reader.specs.Tables.{FileRead}
use Rattle.rule_file.specs.Whole.{reading}
use Rattle.printing.proofs.Fitting.{refused_first, then_fitted, answer_refused}
use Rattle.printing.proofs.print.Goals as goal

-- What the reading's answer says of the outcome.
outcome-is : (text : List ℕ) {r : FileRead} → r ≡ reading text → (reading text).outcome ≡ r.outcome
outcome-is text e = sym (ap (λ (r : FileRead). r.outcome) e)

pub print_table-requires : goal.print_table-requires
unfolding reading
print_table-requires c = (outcome-is c.args.text.now c.in_ok-read_into.ensures, ap (λ (r : FileRead). r.table) c.in_ok-read_into.ensures)

pub returns : goal.returns
unfolding reading
returns c = rw (then_fitted c.args.text.now (length c.args.out.now) (outcome-is c.args.text.now c.in_ok-read_into.ensures)) c.print_table.ensures

pub returns-in_err-read_into : goal.returns-in_err-read_into
unfolding reading
returns-in_err-read_into c =
    let z : c.from_residual.result ≡ Err c.in_err-read_into.field-0.0 = search rules in
    rw z (answer_refused _ _ _ c.args.out.now (refused_first c.args.text.now (length c.args.out.now) _ _ (outcome-is c.args.text.now c.in_err-read_into.ensures)))
