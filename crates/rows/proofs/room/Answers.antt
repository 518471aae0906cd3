-- `rows::room` meets its contract.
use mathlib.Core.Path.{◌≡◌, refl, sym, ap, subst, ◌∙◌}
use mathlib.Core.List.{List, []}
use Prim.Native.Nat.{ℕ}
use lib.ListN.{get_or, replicate}
use borrow.Author.Rules.{rules}
use Rattle.std.proofs.lemmas.List.{get_or-replicate}
use Rattle.rows.specs.inner.Rows.{zero_row, UnusedRow}
use Rattle.rows.specs.inner.RuleRows.{numbers_of}
use Rattle.rows.specs.declared.RuleRow.{RuleRow}
use Rattle.rows.proofs.RuleRows.{numbers_replicate}
use Rattle.rows.proofs.room.Goals as goal

-- All rows are of zeros.
zeros : (n : ℕ) (row : RuleRow) → row.numbers ≡ zero_row → numbers_of (replicate n row) ≡ replicate n zero_row
zeros n row e = numbers_replicate n row ∙ ap (replicate n) e

pub returns-clause-zeros : goal.returns-clause-zeros
returns-clause-zeros g c = zeros g.row.N _ (search rules)

pub returns-clause-unused : goal.returns-clause-unused
returns-clause-unused g c i h =
    subst (λ (rows : List (List ℕ)). UnusedRow (get_or rows i [])) (sym (returns-clause-zeros g c)) (rw (get_or-replicate g.row.N i zero_row [] h) (refl, refl, refl))
