-- What is kept of a table that passed stands for it.
-- Assumes nothing.
use mathlib.Core.Path.{◌≡◌, sym}
use mathlib.Core.List.{List, [], map}
use Prim.Native.Nat.{ℕ, ◌≤◌, ◌<◌}
use native.Mathlib.Omega.{arith}
use lib.ListN.{length, get_or, take}
use Rattle.std.proofs.lemmas.List.{length-map, length-take-le, take-map, get_or-take}
use Rattle.laws.specs.Limits.{rule_limit}
use Rattle.table.specs.declared.Table.{Table}
use Rattle.table.specs.inner.Shape.{Shaped}
use Rattle.table.specs.Link.{stratum_at}
use Rattle.rows.specs.declared.RuleRow.{RuleRow}
use Rattle.rows.specs.inner.Rows.{RowFits, RowsFit, RowsBounded}
use Rattle.rows.specs.inner.RuleRows.{numbers_of, held_table}
use Rattle.rows.proofs.RuleRows.{EnteredIn, all_rows_shaped, rows_length, held_rules, held_strata}
use Rattle.rows.proofs.Laws.{rows_fit_bounded}
use Rattle.leastness.specs.CarriesLeast.{carries_least}
use Rattle.soundness.specs.inner.Admitted.{AdmittedIn, EntryKeptIn, EntryKept}
use Rattle.soundness.specs.declared.Entry.{Entry}
use Rattle.soundness.proofs.WellFormed.{Counted}

-- All slots are counted and all rules are entered.
pub admitted : {A : Type 0} (numbers : A → List ℕ) (t : Table) (counts : List ℕ) (places : List A) → Shaped t → t.count ≤ rule_limit → t.count ≤ length places → Counted t t.width counts → EnteredIn numbers t.rules places t.count → AdmittedIn numbers t counts places
admitted numbers t counts places sh few inside g e = record {
  same_count = g.same_count;
  few = few;
  inside = inside;
  each_fits = λ i l. (e i l).fits;
  same_rules = held_rules numbers t places sh few inside e;
  same_strata = held_strata numbers t places sh few inside e;
}

-- The places carry the least strata exactly where the table does.
pub admitted_least : {A : Type 0} {numbers : A → List ℕ} (t : Table) (counts : List ℕ) (places : List A) → AdmittedIn numbers t counts places → carries_least (held_table numbers (take t.count places)) ≡ carries_least t
unfolding carries_least stratum_at
admitted_least t counts places a = rw (a.same_rules, a.same_strata)

-- So do as many places as it says.
pub kept_least : {A : Type 0} {numbers : A → List ℕ} (t : Table) (e : Entry) (counts : List ℕ) (places : List A) → EntryKeptIn numbers t e counts places → carries_least (held_table numbers (take e.count places)) ≡ carries_least t
kept_least t e counts places w = rw w.count_is (admitted_least t counts places w.admitted)

-- The rows in so many places fit.
pub kept_fit : {A : Type 0} {numbers : A → List ℕ} (t : Table) (e : Entry) (counts : List ℕ) (places : List A) → EntryKeptIn numbers t e counts places → RowsFit (map numbers (take e.count places)) (length (take e.count places))
kept_fit {A} {numbers} t e counts places w =
    let a = w.admitted in
    let l = length-take-le e.count places (omega (arith, w.count_is, a.inside)) in
    let m = length-map (take e.count places) numbers in
    let each : (i : ℕ) → i < length (take e.count places) → RowFits (get_or (map numbers (take e.count places)) i []) =
    λ i b. rw (sym (take-map numbers e.count places), get_or-take e.count (map numbers places) i [] (omega (arith, b, l))) (a.each_fits i (omega (arith, b, l, w.count_is))) in
    record {
      rows_shaped = record { each_row = λ i b. (each i (omega (arith, b, m))).row_shaped };
      few = omega (arith, l, w.count_is, a.few);
      inside = omega (arith, m);
      each_fits = each;
    }

-- So do the first n of all the rows that were lent, n at most so many.
pub rows_fit : (t : Table) (e : Entry) (counts : List ℕ) (rows : List RuleRow) → EntryKept t e counts rows → (n : ℕ) → n ≤ e.count → RowsFit (numbers_of rows) n
rows_fit t e counts rows w n h =
    let a = w.admitted in
    record {
      rows_shaped = all_rows_shaped rows;
      few = omega (arith, h, w.count_is, a.few);
      inside = omega (arith, h, w.count_is, a.inside, rows_length rows);
      each_fits = λ i l. a.each_fits i (omega (arith, l, h, w.count_is));
    }

-- The rows in so many places keep their bounds.
pub kept_bounded : {A : Type 0} {numbers : A → List ℕ} (t : Table) (e : Entry) (counts : List ℕ) (places : List A) → EntryKeptIn numbers t e counts places → RowsBounded (map numbers (take e.count places)) (length (take e.count places))
kept_bounded {A} {numbers} t e counts places w = rows_fit_bounded (map numbers (take e.count places)) (length (take e.count places)) (kept_fit t e counts places w)
