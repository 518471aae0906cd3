-- A rule as a row of sixteen numbers:
--   0         the test of the trigger
--   1, 2, 3   how many literals and how many assignments are used, and the stratum
--   4 to 11   the tests of the literals
--   12 to 15  the places of the pairs that are assigned
-- A test's number is the place of its pair, slot * 16 + value; 512 more where it is a `*=`, and 1024 more where it stands under NOT.
use Rattle.std.specs.Prelude.{◌≡◌, List, [], map, ℕ, ◌+◌, ◌*◌, ◌/◌, ◌%◌, ◌≤◌, ◌<◌, eqb, length, get_or, take, drop, replicate}
use Rattle.laws.specs.Limits.{slot_limit, rule_limit, literal_limit, assignment_limit}
use Rattle.model.specs.Rules.{Pair}
use Rattle.table.specs.declared.Literal.{Literal}
use Rattle.table.specs.declared.Assignment.{Assignment}
use Rattle.table.specs.declared.Rule.{Rule}
use Rattle.table.specs.declared.Table.{Table}
use Rattle.table.specs.Zero.{zero_rule}
use Rattle.table.specs.Empty.{unused_slot}
use Rattle.table.specs.Link.{rule_of}
use Rattle.table.specs.inner.Flat.{pair_places, pair_at}

-- How many numbers tests have.
abbrev pub tests : ℕ
tests = 4 * pair_places

-- The pair of a test.
abbrev pub pair_in : ℕ → Pair
pair_in x = pair_at (x % pair_places)

-- The literal of a test.
abbrev pub literal_in : ℕ → Literal
literal_in x = record { becomes = eqb (x / pair_places % 2) 1; negated = eqb (x / (2 * pair_places)) 1; slot = (pair_in x).slot; value = (pair_in x).value }

-- The assignment of a test's pair.
abbrev pub assignment_in : ℕ → Assignment
assignment_in x = record { slot = (pair_in x).slot; value = (pair_in x).value }

-- The rule of a row.
abbrev pub rule_in : List ℕ → Rule
rule_in row = record {
  slot = (pair_in (get_or row 0 0)).slot;
  value = (pair_in (get_or row 0 0)).value;
  literals = map literal_in (take literal_limit (drop 4 row));
  tested = get_or row 1 0;
  assignments = map assignment_in (take assignment_limit (drop 12 row));
  assigned = get_or row 2 0;
  stratum = get_or row 3 0;
}

-- The table that the first n of some rows stand for: their rules, and no slots.
unfoldable pub table_in : List (List ℕ) → ℕ → Table
table_in rows n = record { slots = replicate slot_limit unused_slot; width = 0; rules = map rule_in rows; count = n }

-- A row has sixteen numbers, and its stratum sixteen bits.
pub record RowShaped (row : List ℕ) : Type 0 where
  pub size : length row ≡ 16
  pub stratum_small : get_or row 3 0 < 65536

-- A row that a rule was written into: it uses literals and assignments within the limits, its trigger is a plain `*=`, and its literals are tests.
pub record RowFits (row : List ℕ) : Type 0 where
  pub row_shaped : RowShaped row
  pub few_literals : get_or row 1 0 ≤ literal_limit
  pub few_assignments : get_or row 2 0 ≤ assignment_limit
  pub trigger_becomes : get_or row 0 0 / pair_places ≡ 1
  pub each_test : (j : ℕ) → j < get_or row 1 0 → get_or row (4 + j) 0 < tests

-- A row whose numbers keep the bounds of a rule's, as zeros do too: it uses literals and assignments within the limits, and its trigger and its literals are tests.
pub record RowBounded (row : List ℕ) : Type 0 where
  pub row_shaped : RowShaped row
  pub few_literals : get_or row 1 0 ≤ literal_limit
  pub few_assignments : get_or row 2 0 ≤ assignment_limit
  pub trigger_test : get_or row 0 0 < tests
  pub each_test : (j : ℕ) → j < get_or row 1 0 → get_or row (4 + j) 0 < tests

-- The row of zeros.
abbrev pub zero_row : List ℕ
zero_row = replicate 16 0

-- A row of a rule that tests and assigns nothing and carries no stratum.
abbrev pub UnusedRow : List ℕ → Type 0
UnusedRow row = ((rule_in row).tested ≡ 0) × ((rule_in row).assigned ≡ 0) × ((rule_in row).stratum ≡ 0)

-- A row has a rule: the same to the model, with the same stratum.
pub record Row (r : Rule) (row : List ℕ) : Type 0 where
  pub fits : RowFits row
  pub means : rule_of (rule_in row) ≡ rule_of r
  pub carries : get_or row 3 0 ≡ r.stratum

-- Rows, of whatever number.
pub record RowsShaped (rows : List (List ℕ)) : Type 0 where
  pub each_row : (i : ℕ) → i < length rows → RowShaped (get_or rows i [])

-- The first n of them have rules, no more than a table can have.
pub record RowsFit (rows : List (List ℕ)) (n : ℕ) : Type 0 where
  pub rows_shaped : RowsShaped rows
  pub few : n ≤ rule_limit
  pub inside : n ≤ length rows
  pub each_fits : (i : ℕ) → i < n → RowFits (get_or rows i [])

-- The first n of them keep those bounds, no more than a table can have rules.
pub record RowsBounded (rows : List (List ℕ)) (n : ℕ) : Type 0 where
  pub rows_shaped : RowsShaped rows
  pub few : n ≤ rule_limit
  pub inside : n ≤ length rows
  pub each_bounded : (i : ℕ) → i < n → RowBounded (get_or rows i [])

-- The first n of them have the first n of these rules.
pub record Entered (rs : List Rule) (rows : List (List ℕ)) (n : ℕ) : Type 0 where
  pub shaped : RowsShaped rows
  pub each : (i : ℕ) → i < n → Row (get_or rs i zero_rule) (get_or rows i [])
