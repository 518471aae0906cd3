-- Rows of the type: each keeps its bounds, wherever it stands, and the table that they stand for fits. And places of any kind that rows of rules are written into.
-- Assumes nothing.
use mathlib.Core.Path.{◌≡◌, refl, sym, ap, ap₂, ◌∙◌}
use mathlib.Core.List.{List, [], ◌∷◌, map}
use Prim.Native.Nat.{ℕ, zero, suc, ◌+◌, ◌≤◌, ◌<◌}
use native.Mathlib.Nat.{le_of_suc-le-suc}
use native.Mathlib.Omega.{arith}
use lib.ListN.{length, get_or, set, take, replicate}
use Rattle.std.proofs.lemmas.List.{length-map, length-take-le, take-map, map-set, get_or-map, get_or-take}
use Rattle.laws.specs.Limits.{rule_limit}
use Rattle.table.specs.declared.Rule.{Rule}
use Rattle.table.specs.declared.Table.{Table}
use Rattle.table.specs.Zero.{zero_rule}
use Rattle.table.specs.Link.{rule_of, rules_of, carried_strata}
use Rattle.table.specs.inner.Fits.{TableFits}
use Rattle.table.specs.inner.Shape.{Shaped}
use Rattle.rows.specs.declared.RuleRow.{RuleRow}
use Rattle.rows.specs.inner.Rows.{rule_in, table_in, RowBounded, Row, RowsShaped, RowsFit, RowsBounded, Entered}
use Rattle.rows.specs.inner.RuleRows.{numbers_of, held_table, rows_table}
use Rattle.rows.proofs.Laws.{row_next, entered_next, entered_fit, entered_rules, entered_strata, rule_row, rows_count, rows_table_shaped, rows_table_fits}

-- The numbers of the row at a place.
pub at_row : (rows : List RuleRow) (i : ℕ) (d : RuleRow) → i < length rows → get_or (numbers_of rows) i [] ≡ (get_or rows i d).numbers
at_row rows i d l = get_or-map (λ (r : RuleRow). r.numbers) rows i d [] l

-- How many there are.
pub rows_length : (rows : List RuleRow) → length (numbers_of rows) ≡ length rows
rows_length rows = length-map rows (λ (r : RuleRow). r.numbers)

-- Each keeps its bounds.
pub each_bounded : (rows : List RuleRow) (i : ℕ) → i < length rows → RowBounded (get_or (numbers_of rows) i [])
each_bounded [] i l = absurd (omega arith)
each_bounded (r ∷ rows) zero l = r.fits
each_bounded (r ∷ rows) (suc i) l = each_bounded rows i (omega arith)

-- Where all rows keep their bounds, the first n of them do.
pub all_kept_bounded : (rows : List (List ℕ)) (n : ℕ) → n ≤ rule_limit → n ≤ length rows → ((i : ℕ) → i < length rows → RowBounded (get_or rows i [])) → RowsBounded rows n
all_kept_bounded rows n few inside each = record {
  rows_shaped = record { each_row = λ i l. (each i l).row_shaped };
  few = few;
  inside = inside;
  each_bounded = λ i l. each i (omega (arith, l, inside));
}

-- So the first n of them do, and all.
pub rows_bounded : (rows : List RuleRow) (n : ℕ) → n ≤ rule_limit → n ≤ length rows → RowsBounded (numbers_of rows) n
rows_bounded rows n few h = all_kept_bounded (numbers_of rows) n few (omega (arith, h, rows_length rows)) (λ i l. each_bounded rows i (omega (arith, l, rows_length rows)))

pub all_rows_shaped : (rows : List RuleRow) → RowsShaped (numbers_of rows)
all_rows_shaped rows = record { each_row = λ i l. (each_bounded rows i (omega (arith, rows_length rows))).row_shaped }

pub all_bounded : (rows : List RuleRow) → length rows ≤ rule_limit → RowsBounded (numbers_of rows) (length rows)
all_bounded rows few = rows_bounded rows (length rows) few (omega arith)

-- The table that they stand for has its places, and fits.
pub all_shaped : (rows : List RuleRow) → length rows ≤ rule_limit → Shaped (rows_table rows)
all_shaped rows few = rows_table_shaped (numbers_of rows) (length rows) (all_bounded rows few)

pub all_table_fits : (rows : List RuleRow) → length rows ≤ rule_limit → TableFits (rows_table rows)
all_table_fits rows few = rows_table_fits (numbers_of rows) (length rows) (all_bounded rows few)

-- The rule at a place.
pub rule_at : (rows : List RuleRow) (i : ℕ) (d : RuleRow) → i < length rows → get_or (rows_table rows).rules i zero_rule ≡ rule_in (get_or rows i d).numbers
rule_at rows i d l = rule_row (numbers_of rows) (length rows) i ∙ ap rule_in (at_row rows i d l)

-- The same where a loop or an index hands the row.
pub item_numbers : (rows : List RuleRow) (i : ℕ) (row : RuleRow) → i < length rows → row ≡ get_or rows i row → get_or (numbers_of rows) i [] ≡ row.numbers
item_numbers rows i row l e = at_row rows i row l ∙ ap (λ (r : RuleRow). r.numbers) (sym e)

pub item_rule : (rows : List RuleRow) (i : ℕ) (row : RuleRow) → i < length rows → row ≡ get_or rows i row → get_or (rows_table rows).rules i zero_rule ≡ rule_in row.numbers
item_rule rows i row l e = rule_at rows i row l ∙ ap (λ (r : RuleRow). rule_in r.numbers) (sym e)

-- How many rules the table has.
pub all_count : (rows : List RuleRow) → (rows_table rows).count ≡ length rows
all_count rows = rows_count (numbers_of rows) (length rows)

-- The numbers of one row, so many times.
pub numbers_replicate : (n : ℕ) (row : RuleRow) → numbers_of (replicate n row) ≡ replicate n row.numbers
numbers_replicate zero row = refl
numbers_replicate (suc n) row = ap (λ us. row.numbers ∷ us) (numbers_replicate n row)

-- One rule more is written into its row.
pub entered_set : (rs : List Rule) (rows : List RuleRow) (i : ℕ) (row : RuleRow) → i < length rows → Row (get_or rs i zero_rule) row.numbers → Entered rs (numbers_of rows) i → Entered rs (numbers_of (set rows i row)) (i + 1)
entered_set rs rows i row l r e = rw (map-set (λ (r : RuleRow). r.numbers) rows i row) (entered_next rs (numbers_of rows) i row.numbers (omega (arith, rows_length rows)) r e)

-- The first n of them by themselves stand for the same rules, with the same strata.
taken_rows : {A : Type 0} (g : Rule → A) (rows : List RuleRow) (n : ℕ) → n ≤ length rows → map g (take (length (take n rows)) (map rule_in (numbers_of (take n rows)))) ≡ map g (take n (map rule_in (numbers_of rows)))
taken_rows g rows zero h = refl
taken_rows g [] (suc n) h = absurd (omega arith)
taken_rows g (r ∷ rows) (suc n) h = ap (λ us. g (rule_in r.numbers) ∷ us) (taken_rows g rows n (le_of_suc-le-suc h))

pub taken_rules : (rows : List RuleRow) (n : ℕ) → n ≤ length rows → rules_of (rows_table (take n rows)) ≡ rules_of (table_in (numbers_of rows) n)
unfolding rules_of table_in
taken_rules rows n h = taken_rows rule_of rows n h

pub taken_strata : (rows : List RuleRow) (n : ℕ) → n ≤ length rows → carried_strata (rows_table (take n rows)) ≡ carried_strata (table_in (numbers_of rows) n)
unfolding carried_strata table_in
taken_strata rows n h = taken_rows (λ r. r.stratum) rows n h

-- The first n places hold rows of the first n rules.
abbrev pub EnteredIn : {A : Type 0} → (A → List ℕ) → List Rule → List A → ℕ → Type 0
EnteredIn numbers rs places n = (i : ℕ) → i < n → Row (get_or rs i zero_rule) (get_or (map numbers places) i [])

-- One rule more is written into its place.
pub entered_in_next : {A : Type 0} (numbers : A → List ℕ) (rs : List Rule) (places : List A) (i : ℕ) (place : A) → i < length places → Row (get_or rs i zero_rule) (numbers place) → EnteredIn numbers rs places i → EnteredIn numbers rs (set places i place) (i + 1)
entered_in_next numbers rs places i place h r e = rw (map-set numbers places i place) (row_next rs (map numbers places) i (numbers place) (rw (length-map places numbers) h) r e)

-- Places that hold rows of a table's rules stand for these, with their strata: the rows by themselves are entered and fit.
module _ {A : Type 0} (numbers : A → List ℕ) (t : Table) (places : List A) (sh : Shaped t) (few : t.count ≤ rule_limit) (inside : t.count ≤ length places) (e : EnteredIn numbers t.rules places t.count) where
  held_first : held_table numbers (take t.count places) ≡ table_in (take t.count (map numbers places)) t.count
  held_first = ap₂ table_in (sym (take-map numbers t.count places)) (length-take-le t.count places inside)

  first_length : length (take t.count (map numbers places)) ≡ t.count
  first_length = length-take-le t.count (map numbers places) (rw (length-map places numbers) inside)

  first_row : (i : ℕ) → i < t.count → Row (get_or t.rules i zero_rule) (get_or (take t.count (map numbers places)) i [])
  first_row i l = rw (get_or-take t.count (map numbers places) i [] l) (e i l)

  first_entered : Entered t.rules (take t.count (map numbers places)) t.count
  first_entered = record { shaped = record { each_row = λ i l. (first_row i (omega (arith, l, first_length))).fits.row_shaped }; each = first_row }

  first_fit : RowsFit (take t.count (map numbers places)) t.count
  first_fit = entered_fit t.rules (take t.count (map numbers places)) t.count few (omega (arith, first_length)) first_entered

  pub held_rules : rules_of (held_table numbers (take t.count places)) ≡ rules_of t
  held_rules = ap rules_of held_first ∙ entered_rules t (take t.count (map numbers places)) sh first_fit first_entered

  pub held_strata : carried_strata (held_table numbers (take t.count places)) ≡ carried_strata t
  held_strata = ap carried_strata held_first ∙ entered_strata t (take t.count (map numbers places)) sh first_fit first_entered
