-- What the selection is given: a declared pair has a place, and rule i + 1 is that of row i.
-- Assumes nothing.
use mathlib.Core.Path.{◌≡◌, refl, sym, ap, ◌∙◌}
use mathlib.Core.List.{List, []}
use Prim.Native.Nat.{ℕ, zero, suc, ◌≤◌, ◌<◌}
use native.Mathlib.Omega.{arith}
use lib.Dec.{T}
use lib.ListN.{length, get_or}
use Rattle.laws.specs.Limits.{slot_limit, value_limit}
use Rattle.laws.specs.Numbers.{Numbered}
use Rattle.model.specs.Rules.{Pair, Rule, among}
use Rattle.model.specs.Orders.{rule_at}
use Rattle.table.specs.Link.{rule_of, rules_of}
use Rattle.table.specs.inner.Flat.{Placed}
use Rattle.table.proofs.Link.{rule_at_is}
use Rattle.table.proofs.Fits.{count_of}
use Rattle.rows.specs.inner.Rows.{rule_in, table_in, RowsBounded}
use Rattle.rows.specs.declared.RuleRow.{RuleRow}
use Rattle.rows.specs.inner.RuleRows.{numbers_of}
use Rattle.rows.proofs.RuleRows.{at_row}
use Rattle.rows.proofs.Laws.{rule_row, rows_count, rows_table_shaped, rows_table_fits}
use Rattle.marks.specs.Marks.{declared_pairs}
use Rattle.marks.specs.inner.Declared.{Declared}
use Rattle.marks.proofs.Pairs.{declared_iff}
use Rattle.selecting.specs.inner.Selected.{Counts}
use Rattle.selecting.proofs.Live.{assigned_at}

-- The rules of the first n rows.
abbrev pub rules_in : List (List ℕ) → ℕ → List Rule
rules_in rows n = rules_of (table_in rows n)

-- Rows that keep their bounds, at most 32 slots with at most 15 values each, and rules and a slip of declared pairs.
pub record Given (rows : List (List ℕ)) (n : ℕ) (ks : List ℕ) (width : ℕ) (counts : List ℕ) (I : List Pair) : Type 0 where
  pub rows_bounded : RowsBounded rows n
  pub counted : Counts ks width counts
  pub narrow : width ≤ slot_limit
  pub few_values : (s : ℕ) → s < width → get_or counts s 0 ≤ value_limit
  pub all_declared : Declared (declared_pairs ks) (rules_in rows n) I

-- Rule i + 1 is that of row i.
pub rule_at_row : (rows : List (List ℕ)) (n i : ℕ) → i < n → rule_at (rules_in rows n) (suc i) ≡ rule_of (rule_in (get_or rows i []))
rule_at_row rows n i h = rule_at_is (table_in rows n) i (rw (rows_count rows n) h) ∙ ap rule_of (rule_row rows n i)

-- An array with no place beyond the slots has its own counts.
pub own_counts : (counts : List ℕ) → Counts counts (length counts) counts
own_counts counts = record { slots = refl; each = λ s h. refl }

-- The numbers of the row that a loop or an index hands.
pub item_numbers : (rows : List RuleRow) (i : ℕ) (row : RuleRow) → i < length rows → row ≡ get_or rows i row → get_or (numbers_of rows) i [] ≡ row.numbers
item_numbers rows i row h e = at_row rows i row h ∙ ap (λ (r : RuleRow). r.numbers) (sym e)

module _ (rows : List (List ℕ)) (n : ℕ) (ks : List ℕ) (width : ℕ) (counts : List ℕ) (I : List Pair) (G : Given rows n ks width counts I) where
  -- A declared pair has one of the slots, and NONE or one of its values.
  pub declared_value : (p : Pair) → T (among p (declared_pairs ks)) → (p.slot < width) × (p.value ≤ get_or counts p.slot 0)
  declared_value p t =
      let w = (declared_iff ks p).0 t in
      let l : p.slot < width = omega (arith, w.0, G.counted.slots) in
      (l, omega (arith, w.1, G.counted.each p.slot l))

  -- And back.
  pub value_declared : (p : Pair) → p.slot < width → p.value ≤ get_or counts p.slot 0 → T (among p (declared_pairs ks))
  value_declared p l hi = (declared_iff ks p).1 (omega (arith, G.counted.slots), omega (arith, G.counted.each p.slot l))

  -- So it has a place.
  pub declared_placed : (p : Pair) → T (among p (declared_pairs ks)) → Placed p.slot p.value
  declared_placed p t = let w = declared_value p t in record { in_slots = omega (arith, w.0, G.narrow); in_row = omega (arith, w.1, G.few_values p.slot w.0) }

  -- There are n rules.
  rule_count : length (rules_in rows n) ≡ n
  rule_count = count_of (table_in rows n) (rows_table_fits rows n G.rows_bounded) (rows_table_shaped rows n G.rows_bounded) ∙ rows_count rows n

  -- Row i has a number of a rule.
  pub row_number : (i : ℕ) → i < n → Numbered (length (rules_in rows n)) (suc i)
  row_number i h = record { first = omega arith; last = omega (arith, rule_count) }

  -- A number of a rule is that of a row.
  pub number_row : (m : ℕ) → Numbered (length (rules_in rows n)) m → (i : ℕ) × (i < n) × (m ≡ suc i)
  number_row zero j = absurd (omega (arith, j.first))
  number_row (suc i) j = (i, omega (arith, j.last, rule_count), refl)

  -- What a row assigns is declared.
  pub assigns_declared : (i : ℕ) (p : Pair) → i < n → T (among p (assigned_at rows i)) → T (among p (declared_pairs ks))
  assigns_declared i p h t = G.all_declared.assigned (suc i) p (row_number i h) (rw (rule_at_row rows n i h) t)
