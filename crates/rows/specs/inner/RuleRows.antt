-- Rows of the type, whose values all keep their bounds, or what else holds their numbers, and the table that they stand for.
use Rattle.std.specs.Prelude.{List, map, ℕ, length}
use Rattle.table.specs.declared.Table.{Table}
use Rattle.rows.specs.declared.RuleRow.{RuleRow}
use Rattle.rows.specs.inner.Rows.{table_in}

-- The numbers of each row.
abbrev pub numbers_of : List RuleRow → List (List ℕ)
numbers_of rows = map (λ (r : RuleRow). r.numbers) rows

-- The table that rows stand for, by the numbers that each place of a list holds: their rules, and no slots.
abbrev pub held_table : {A : Type 0} → (A → List ℕ) → List A → Table
held_table numbers places = table_in (map numbers places) (length places)

-- The same of rows of the type.
abbrev pub rows_table : List RuleRow → Table
rows_table rows = held_table (λ (r : RuleRow). r.numbers) rows
