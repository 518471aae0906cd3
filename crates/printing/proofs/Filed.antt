-- The table of an accepted text: it fits, and its lines by the spans of the text are the print of the text's file.
-- Assumes nothing.
use Prim.Native.Nat.{ℕ, zero, suc, ◌+◌, ◌*◌, ◌%◌, ◌≤◌, ◌<◌}
use native.Mathlib.Omega.{arith}
use mathlib.Core.Path.{◌≡◌, refl, sym, ap, ap₂, ◌∙◌}
use mathlib.Core.List.{List, [], ◌∷◌, ◌++◌, map}
use lib.ListN.{length, take, drop, get_or, length-map, length-take, get_or-map}
use lib.Seq.{get_or-take, get_or-drop}
use borrow.Author.Tests.{le-leb, ne_eqb}
use Rattle.laws.specs.Listed.{Each}
use Rattle.laws.proofs.Listed.{each_at, each_imply, maps_alike}
use Rattle.laws.proofs.Truth.{and_l}
use Rattle.laws.proofs.Tabulated.{is_tabulate}
use Rattle.laws.specs.Quoted.{bytes_from, bytes}
use Rattle.text.specs.Tokens.{Name, reserved}
use Rattle.text.specs.Covering.{spelling}
use Rattle.model.specs.Rules.{Pair, Literal, Rule}
use Rattle.model.specs.Result.{pair}
use Rattle.laws.specs.Limits.{value_limit, row}
use Rattle.grammar.specs.Files.{Slot, File, spellings, slot_names, values_of, no_slot, slotval_of}
use Rattle.grammar.specs.Grammar.{spell_slotval}
use Rattle.grammar.specs.Meaning.{IsFile}
use Rattle.grammar.proofs.Accepts.{accepts_iff}
use Rattle.grammar.proofs.Stands.{file_stands}
use Rattle.grammar.proofs.Declared.{DeclaredPair, slot_declared, value_declared, DeclaredRule, Valued, DeclaredFile, file_declared}
use Rattle.table.specs.declared.Table.{Table}
use Rattle.table.specs.Zero.{zero_slot, zero_rule}
use Rattle.table.specs.inner.Shape.{Shaped}
use Rattle.table.specs.inner.Fits.{TableFits}
use Rattle.table.specs.Link.{assignment_of, rule_of}
use Rattle.table.proofs.Link.{rules_length, rule_is}
use Rattle.strata.specs.Layered.{with_strata}
use Rattle.soundness.specs.Sound.{sound, well_formed}
use Rattle.leastness.specs.CarriesLeast.{carries_least}
use Rattle.soundness.proofs.WellFormed.{well_formed_e, well_formed_fits}
use Rattle.steps.specs.inner.Spans.{span_start}
use Rattle.lines.specs.inner.Index.{Spanned, row_of, Indexed}
use Rattle.grammar.specs.TableFor.{table_for}
use Rattle.reader.specs.Tables.{Accepted}
use Rattle.rule_file.specs.Whole.{reading}
use Rattle.rule_file.proofs.Answers.{accepted_table, reading_passes}
use Rattle.style.specs.Layout.{token_bytes}
use Rattle.style.specs.Printed.{print}
use Rattle.style.proofs.Formed.{file_formed}
use Rattle.writing.specs.inner.Puts.{longest}
use Rattle.writing.specs.inner.Written.{Pairing, separated, test_bytes, literal_bytes, condition_bytes, assign_bytes, rule_bytes, line_bytes, lines_joined}
use Rattle.printing.specs.inner.Lines.{slot_bytes, pair_bytes, file_bytes}
use Rattle.writing.specs.inner.Spelled.{spelled, spelled_value, spelled_pair, spelled_values, spelled_line, spelled_lines, spelled_rules, spelled_file, LinesFit}
use Rattle.printing.specs.inner.Tabled.{Tabled}
use Rattle.printing.proofs.Tabled.{slot_there}
use Rattle.printing.proofs.Written.{print_written}
use Rattle.printing.proofs.Bounded.{print_bounded}

-- The name at a span among those of names.
spanned_at : (text ks : List ℕ) (ns : List Name) (i : ℕ) → Spanned text ks ns → i < length ns → spelled text (get_or ks i 0) ≡ (get_or ns i no_slot.name).letters
unfolding spelled
spanned_at text [] [] i S h = absurd (omega arith)
spanned_at text [] (n ∷ ns) i S h = absurd S
spanned_at text (k ∷ ks) [] i S h = absurd (omega arith)
spanned_at text (k ∷ ks) (n ∷ ns) zero S h = rw (le-leb (span_start k + k % 32) (length text) S.1.within) (ap (λ (m : Name). m.letters) S.2)
spanned_at text (k ∷ ks) (n ∷ ns) (suc i) S h = spanned_at text ks ns i S.3 (omega arith)

-- Two ways of writing pairs that agree on the pairs of a rule write the same line.
module _ (slots : List Slot) (P Q : Pairing) (same : (mark : List ℕ) (p : Pair) → DeclaredPair slots p → P mark p ≡ Q mark p) where
  literal_same : (l : Literal) → DeclaredPair slots l.pair → literal_bytes P l ≡ literal_bytes Q l
  unfolding literal_bytes test_bytes
  literal_same l d = rw (same _ l.pair d)

  condition_same : (ls : List Literal) → Each (λ (l : Literal). DeclaredPair slots l.pair) ls → condition_bytes P ls ≡ condition_bytes Q ls
  unfolding condition_bytes
  condition_same [] d = refl
  condition_same (l ∷ ls) d = ap (separated _) (maps_alike (λ (m : Literal). DeclaredPair slots m.pair) (literal_bytes P) (literal_bytes Q) (l ∷ ls) literal_same d)

  assign_same : (ps : List Pair) → Each (DeclaredPair slots) ps → assign_bytes P ps ≡ assign_bytes Q ps
  unfolding assign_bytes
  assign_same [] d = refl
  assign_same (p ∷ []) d = same _ p d.0
  assign_same (p ∷ q ∷ qs) d = rw (maps_alike (DeclaredPair slots) (P _) (Q _) (p ∷ q ∷ qs) (same _) d)

  rule_same : (r : Rule) → DeclaredRule slots r → rule_bytes P r ≡ rule_bytes Q r
  unfolding rule_bytes
  rule_same r d = rw (same _ r.trigger d.trigger_declared, condition_same r.literals d.literals_declared, assign_same r.assignments d.assignments_declared)

  rules_same : (rs : List Rule) → Each (DeclaredRule slots) rs → map (rule_bytes P) rs ≡ map (rule_bytes Q) rs
  rules_same rs d = maps_alike (DeclaredRule slots) (rule_bytes P) (rule_bytes Q) rs rule_same d

module _ (text : List ℕ) (o : (reading text).outcome ≡ Accepted) where
  -- The file, and its table.
  abbrev pub file : File
  file = (accepted_table text o).0

  abbrev pub read_table : Table
  read_table = (reading text).table

  pub is_file : IsFile text file
  is_file = (accepts_iff text file).0 (accepted_table text o).1

  declared : DeclaredFile file
  declared = file_declared text file is_file

  pub tabled : Tabled text file.slots read_table
  unfolding with_strata table_for
  tabled =
      rw (accepted_table text o).2 (record {
        width_is = refl;
        slots_are = refl;
        few = declared.few_slots;
        few_values = each_imply Valued (λ (s : Slot). length s.values ≤ value_limit) file.slots (λ s v. v.1) declared.slots_valued;
        short = is_file.short;
        stand = file_stands text file (accepted_table text o).1;
        well_named = file_formed text file is_file;
      })

  -- How many values a slot of the table has.
  count_is : (i : ℕ) → i < length file.slots → (get_or read_table.slots i zero_slot).count ≡ length (get_or file.slots i no_slot).values
  count_is i h = rw (slot_there text file.slots read_table tabled i h)

  pub table_fits : Shaped read_table → TableFits read_table
  unfolding sound
  table_fits sh = well_formed_fits read_table sh (and_l (well_formed read_table) (carries_least read_table) (reading_passes text))

  -- Each rule assigns something.
  assigns : Shaped read_table → (j : ℕ) → j < read_table.count → 1 ≤ (get_or read_table.rules j zero_rule).assigned
  assigns sh j h =
      let r = get_or read_table.rules j zero_rule in
      let m : read_table.count ≤ length read_table.rules = sh.rule_places (table_fits sh).rules_fit in
      let k : j < length file.rules = omega (arith, h, rules_length read_table m, ap length (accepted_table text o).3) in
      let d = (each_at (DeclaredRule file.slots) file.rules j (rule_of zero_rule) declared.each_rule k).some in
      let e = ap (λ (x : Rule). length x.assignments) (sym (rule_is read_table j h) ∙ ap (λ (rs : List Rule). get_or rs j (rule_of zero_rule)) (accepted_table text o).3) in
      omega (arith, d, e, length-map (take r.assigned r.assignments) assignment_of, length-take r.assigned r.assignments)

  pub lines_fit : Shaped read_table → LinesFit read_table
  unfolding sound
  lines_fit sh =
      let w = well_formed_e read_table sh (and_l (well_formed read_table) (carries_least read_table) (reading_passes text)) in
      record { few = w.few_slots; some = w.some_value; within = w.few_values; assigns = assigns sh }

  module _ (ss vs : List ℕ) (I : Indexed text file.slots ss vs) where
    slot_spelled : (s : ℕ) → s < length file.slots → spelled text (get_or ss s 0) ≡ (get_or file.slots s no_slot).name.letters
    slot_spelled s h =
        let l : s < length (slot_names file.slots) = rw length-map h in
        spanned_at text ss (slot_names file.slots) s I.names l ∙ ap (λ (n : Name). n.letters) (get_or-map (λ (x : Slot). x.name) file.slots s no_slot)

    value_spelled : (s j : ℕ) → s < length file.slots → j < length (values_of file.slots s) → spelled text (get_or vs (s * row + 1 + j) 0) ≡ (get_or (values_of file.slots s) j no_slot.name).letters
    value_spelled s j h k =
        let v = each_at Valued file.slots s no_slot declared.slots_valued h in
        let z : j < value_limit = omega (arith, v.1) in
        ap (spelled text) (sym (get_or-take value_limit (drop (s * row + 1) vs) j 0 z ∙ get_or-drop (s * row + 1) vs j 0))
        ∙ spanned_at text (row_of vs s) (values_of file.slots s) j (I.values s (omega (arith, tabled.few))) k

    -- A value as it is written, by its span.
    written_spelled : (s k : ℕ) → s < length file.slots → k ≤ length (values_of file.slots s) → spelled_value text vs (pair s k) ≡ token_bytes (spell_slotval (slotval_of (values_of file.slots s) k))
    unfolding spelled_value bytes bytes_from token_bytes spelling reserved
    written_spelled s zero h l = refl
    written_spelled s (suc k) h l =
        let z : s * row + suc k ≡ s * row + 1 + k = omega arith in
        rw (ne_eqb (suc k) 0 (λ e. omega arith)) (ap (λ (i : ℕ). spelled text (get_or vs i 0)) z ∙ value_spelled s k h (omega arith))

    pair_spelled : (mark : List ℕ) (p : Pair) → DeclaredPair file.slots p → spelled_pair text ss vs mark p ≡ pair_bytes file.slots mark p
    unfolding spelled_pair pair_bytes
    pair_spelled mark p d =
        let a = slot_declared file.slots p d in
        ap₂ (λ (x y : List ℕ). x ++ (mark ++ y)) (slot_spelled p.slot a) (written_spelled p.slot p.value a (value_declared file.slots p d))

    values_spelled : (s : ℕ) → s < length file.slots → spellings (values_of file.slots s) ≡ spelled_values text vs s (length (values_of file.slots s))
    unfolding spelled_values
    values_spelled s h =
        is_tabulate (λ (j : ℕ). spelled text (get_or vs (s * row + 1 + j) 0)) (length (values_of file.slots s)) [] (spellings (values_of file.slots s)) (length-map (values_of file.slots s) (λ (n : Name). n.letters))
        (λ j k. get_or-map (λ (n : Name). n.letters) (values_of file.slots s) j no_slot.name ∙ sym (value_spelled s j h k))

    line_spelled : (s : ℕ) → s < length file.slots → slot_bytes (get_or file.slots s no_slot) ≡ spelled_line text ss vs s (get_or read_table.slots s zero_slot).count
    line_spelled s h = ap₂ line_bytes (sym (slot_spelled s h)) (values_spelled s h ∙ ap (spelled_values text vs s) (sym (count_is s h)))

    lines_spelled : map slot_bytes file.slots ≡ spelled_lines text ss vs read_table
    unfolding spelled_lines
    lines_spelled =
        let e = tabled.width_is in
        is_tabulate (λ (i : ℕ). spelled_line text ss vs i (get_or read_table.slots i zero_slot).count) read_table.width (slot_bytes no_slot) (map slot_bytes file.slots) (length-map file.slots slot_bytes ∙ sym e)
        (λ i h. get_or-map slot_bytes file.slots i no_slot ∙ line_spelled i (omega (arith, e)))

    -- THE LINES BY THE SPANS of the text are the print of its file.
    pub print_spelled : spelled_file text ss vs read_table ≡ print file
    unfolding spelled_file spelled_rules file_bytes
    print_spelled =
        ap₂ (λ (xs ys : List (List ℕ)). lines_joined xs ++ lines_joined ys) (sym lines_spelled)
        (ap (map (rule_bytes (spelled_pair text ss vs))) (accepted_table text o).3
        ∙ rules_same file.slots (spelled_pair text ss vs) (pair_bytes file.slots) pair_spelled file.rules declared.each_rule)
        ∙ sym (print_written text file is_file)

    -- And are within the bound.
    pub spelled_bounded : length (spelled_file text ss vs read_table) ≤ longest
    spelled_bounded = rw print_spelled (print_bounded text file is_file)
