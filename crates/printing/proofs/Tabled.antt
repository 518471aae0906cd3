-- The names of a table of a text's slots, by their spans.
-- Assumes nothing.
use Prim.Native.Nat.{ℕ, zero, suc, ◌+◌, ◌-◌, ◌*◌, ◌≤◌, ◌<◌}
use native.Mathlib.Omega.{arith}
use native.Mathlib.Numerals.{add-one}
use mathlib.Core.Path.{◌≡◌, refl, sym, ap, ap₂, ◌∙◌}
use mathlib.Core.List.{List, [], ◌∷◌, ◌++◌, map}
use lib.ListN.{length, take, drop, get_or, set, replicate, length-map}
use lib.Seq.{sets, take-suc, length-take-le}
use Rattle.laws.specs.Filled.{filled}
use Rattle.laws.specs.Listed.{Each}
use Rattle.laws.proofs.Filled.{filled_length}
use Rattle.laws.proofs.Listed.{each_at}
use Rattle.classes.specs.Classes.{class_of}
use Rattle.text.specs.Tokens.{Name}
use Rattle.text.specs.Cut.{Stands}
use Rattle.laws.specs.Limits.{text_limit, value_limit, slot_limit, row}
use Rattle.grammar.specs.Files.{Slot, no_slot}
use Rattle.grammar.specs.Standing.{NamedBy}
use Rattle.table.specs.declared.Slot as tabled
use Rattle.table.specs.declared.Table.{Table}
use Rattle.table.specs.Zero.{zero_name, zero_slot}
use Rattle.table.specs.Empty.{unused_slot}
use Rattle.steps.specs.inner.Spans.{key_of, keyed, SpanLies}
use Rattle.lines.specs.inner.Index.{span_name, span_names, span_slot, Spanned, Indexed}
use Rattle.grammar.specs.TableFor.{name_for, slot_for}
use Rattle.lines.specs.inner.Lines.{ValuesLie}
use Rattle.lines.proofs.Index.{start_of, size_of, key_at, indexed_more}
use Rattle.rule_file.proofs.FileTable.{image_at}
use Rattle.style.specs.inner.Named.{IsName, Named, WellNamed}
use Rattle.printing.specs.inner.Tabled.{span_of, SmallName, SmallNames, Tabled}

-- A name has a letter.
name_some : (letters : List ℕ) → IsName letters → 0 < length letters
unfolding class_of
name_some [] n = absurd (let z : 0 ≡ 2 = n.begins in omega arith)
name_some (x ∷ xs) n = omega arith

-- A name that stands in the text is the one at its span.
name_span : (text : List ℕ) (n : Name) → length text ≤ text_limit → Stands text n → Named n
    → (0 < span_of text (name_for n)) × SpanLies text (span_of text (name_for n)) × (span_name text (span_of text (name_for n)) ≡ n)
name_span text n h st nm =
    let l = nm.short in
    let s = name_some n.letters nm in
    let i = st.inside in
    let k : n.start * 32 + length n.letters < keyed = omega arith in
    let a = start_of (key_of (take (length n.letters) (drop n.start text))) n.start (length n.letters) (omega arith) k in
    let b = size_of (key_of (take (length n.letters) (drop n.start text))) n.start (length n.letters) (omega arith) in
    (omega arith, record { within = rw (a, b) st.inside; key = rw (a, b) (key_at _ n.start (length n.letters) k) }, rw (a, b) (ap (λ (ys : List ℕ). record { start = n.start; letters = ys }) st.there))

-- Names in their places, and the places that are not used, by their spans.
unused_spanned : (text : List ℕ) (r : ℕ) → Spanned text (map (span_of text) (replicate r zero_name)) []
unfolding key_of
unused_spanned text zero = tt
unused_spanned text (suc r) = (refl, unused_spanned text r)

names_spanned : (text : List ℕ) (ns : List Name) (r : ℕ) → length text ≤ text_limit → Each (Stands text) ns → Each Named ns → Spanned text (map (span_of text) (map name_for ns ++ replicate r zero_name)) ns
names_spanned text [] r h st nm = unused_spanned text r
names_spanned text (n ∷ ns) r h st nm = let w = name_span text n h st.0 nm.0 in (w.0, w.1, w.2, names_spanned text ns r h st.1 nm.1)

-- The names at the spans used.
spanned_are : (text ks : List ℕ) (ns : List Name) → Spanned text ks ns → span_names text ks (length ns) ≡ ns
spanned_are text [] [] S = refl
spanned_are text [] (n ∷ ns) S = absurd S
spanned_are text (k ∷ ks) [] S = refl
spanned_are text (k ∷ ks) (n ∷ ns) S = ap₂ (λ (x : Name) (xs : List Name). x ∷ xs) S.2 (spanned_are text ks ns S.3)

-- Names that stand in a text within the limit are small, and so are places that are not used.
name_small : (text : List ℕ) (n : Name) → length text ≤ text_limit → Stands text n → Named n → SmallName text (name_for n)
name_small text n h st nm = let i = st.inside in let l = nm.short in (i, omega arith, omega arith)

unused_small : (text : List ℕ) (r i : ℕ) → SmallName text (get_or (replicate r zero_name) i zero_name)
unused_small text zero i = (omega arith, omega arith, omega arith)
unused_small text (suc r) zero = (omega arith, omega arith, omega arith)
unused_small text (suc r) (suc i) = unused_small text r i

names_small : (text : List ℕ) (ns : List Name) (r : ℕ) → length text ≤ text_limit → Each (Stands text) ns → Each Named ns → SmallNames text (map name_for ns ++ replicate r zero_name)
names_small text [] r h st nm i = unused_small text r i
names_small text (n ∷ ns) r h st nm zero = name_small text n h st.0 nm.0
names_small text (n ∷ ns) r h st nm (suc i) = names_small text ns r h st.1 nm.1 i

module _ (text : List ℕ) (slots : List Slot) (t : Table) (T : Tabled text slots t) (i : ℕ) (h : i < length slots) where
  -- The slot of the file, and that of the table.
  abbrev filed : Slot
  filed = get_or slots i no_slot

  abbrev placed : tabled.Slot
  placed = get_or t.slots i zero_slot

  pub slot_there : placed ≡ slot_for filed
  slot_there = rw T.slots_are (image_at slot_limit unused_slot zero_slot slot_for slots i no_slot h)

  stand : NamedBy (Stands text) filed
  stand = each_at (NamedBy (Stands text)) slots i no_slot T.stand h

  named : WellNamed filed
  named = each_at WellNamed slots i no_slot T.well_named h

  few : length filed.values ≤ value_limit
  few = each_at (λ (s : Slot). length s.values ≤ value_limit) slots i no_slot T.few_values h

  -- Its names are small.
  pub slot_small : SmallName text placed.name
  slot_small = rw slot_there (name_small text filed.name T.short stand.0 named.0)

  pub values_small : SmallNames text placed.values
  unfolding filled
  values_small = rw slot_there (names_small text filed.values (value_limit - length (map name_for filed.values)) T.short stand.1 named.1)

  -- The spans of its values.
  abbrev spans : List ℕ
  spans = map (span_of text) (slot_for filed).values

  values_spanned : Spanned text spans filed.values
  unfolding filled
  values_spanned = names_spanned text filed.values (value_limit - length (map name_for filed.values)) T.short stand.1 named.1

  values_are : span_names text spans (length filed.values) ≡ filed.values
  values_are = spanned_are text spans filed.values values_spanned

  values_lie : ValuesLie text spans (length filed.values)
  values_lie =
      let l : length (map name_for filed.values) ≤ value_limit = rw length-map few in
      record {
        few = few;
        places = length-map (filled value_limit zero_name (map name_for filed.values)) (span_of text) ∙ filled_length value_limit zero_name (map name_for filed.values) l;
        spanned = rw values_are values_spanned;
      }

  -- ENTERED BY ITS SPANS, it is the next slot of the file.
  pub entered_next : (ss vs : List ℕ) → Indexed text (take i slots) ss vs → Indexed text (take (i + 1) slots) (set ss i (span_of text placed.name)) (sets vs (i * row + 1) (map (span_of text) placed.values))
  entered_next ss vs I =
      let w = name_span text filed.name T.short stand.0 named.0 in
      let k = length-take-le i slots (omega arith) in
      let e : take i slots ++ span_slot text (span_of text (name_for filed.name)) spans (length filed.values) ∷ [] ≡ take (i + 1) slots =
      ap₂ (λ (n : Name) (ns : List Name). take i slots ++ record { name = n; values = ns } ∷ []) w.2 values_are ∙ sym (take-suc slots i no_slot h) ∙ rw (add-one i) in
      rw (slot_there, ← e) (indexed_more text ss vs spans (take i slots) i (span_of text (name_for filed.name)) (length filed.values) I (sym k) (omega (arith, h, T.few)) w.0 w.1 values_lie)
