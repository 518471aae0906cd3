-- Names at spans of the text, the spans of the slots declared so far, and slots of the table by their spans.
-- Assumes nothing.
use Prim.Native.Nat.{ℕ, zero, suc, ◌+◌, ◌-◌, ◌*◌, ◌/◌, ◌%◌, ◌≤◌, ◌<◌}
use native.Mathlib.Omega.{arith}
use native.Mathlib.Numerals.{add-one}
use native.Mathlib.Nat.{sub-zero, suc-sub-suc}
use mathlib.Core.Path.{◌≡◌, refl, sym, ap, ap₂, ◌∙◌}
use mathlib.Core.Logic.{◌⊎◌, inl, inr}
use mathlib.Core.List.{List, [], ◌∷◌, ◌++◌, map, append_assoc}
use lib.ListN.{length, take, drop, set, replicate, length-append, length-drop, length-set, length-map, take-append-drop, get_or-append, get_or-eq_default}
use lib.Seq.{length-take-le, take-suc-set, drop-drop, take_at, drop_at, take-append-le, drop-append-le, get_or-append_seam, sets, sets-eq, length-sets}
use Rattle.laws.specs.Filled.{filled}
use Rattle.text.specs.Tokens.{Name}
use Rattle.grammar.specs.Files.{Slot, spellings, slot_names, values_of, no_slot}
use Rattle.table.specs.declared.Name as stretch
use Rattle.laws.specs.Limits.{slot_limit, value_limit, row}
use Rattle.table.specs.inner.Flat.{pair_places}
use Rattle.table.specs.Zero.{zero_name}
use Rattle.laws.proofs.Lists.{map_append}
use Rattle.laws.proofs.Truth.{le_or_lt}
use Rattle.steps.specs.inner.Places.{name_past, NamedLies}
use Rattle.steps.specs.inner.Spans.{key_of, keyed, span, span_start, SpanLies, Listed}
use Rattle.lines.specs.inner.Index.{span_name, span_names, span_slot, Spanned, row_of, Indexed, stretch_at, slot_by}
use Rattle.grammar.specs.TableFor.{name_for, slot_for}
use Rattle.lines.specs.inner.Lines.{DeclaredLies, ValuesLie}
use Rattle.lines.specs.inner.Remainder.{Remainder}
use Rattle.std.specs.Prelude.{Ok}
use Rattle.text.specs.declared.Span.{Span}
use Rattle.steps.specs.declared.step.Read.{Read}

-- A span's key, place and length.
pub start_of : (key start size : ℕ) → size < 32 → start * 32 + size < keyed → span_start (span key start size) ≡ start
start_of key start size h k = omega arith

pub size_of : (key start size : ℕ) → size < 32 → span key start size % 32 ≡ size
size_of key start size h = omega arith

pub key_at : (key start size : ℕ) → start * 32 + size < keyed → span key start size / keyed ≡ key
key_at key start size h = omega arith

-- A name of the remainder ends within the text.
pub past_ends : (text rest : List ℕ) (base at : ℕ) (n : Read Span) → Remainder text rest base → NamedLies (length rest) at (Ok n) → base + n.value.start + n.value.size ≤ length text
past_ends text rest base at n R l = omega (arith, l.1, l.2, l.4, ap length R.begins ∙ length-drop base text)

-- So its place and length are below a key.
past_below : (text rest : List ℕ) (base at : ℕ) (n : Read Span) → Remainder text rest base → NamedLies (length rest) at (Ok n) → (base + n.value.start) * 32 + n.value.size < keyed
past_below text rest base at n R l = omega (arith, past_ends text rest base at n R l, R.short)

-- It is the name at its span in the text.
pub span_past : (text rest : List ℕ) (base at : ℕ) (n : Read Span) (key : ℕ) → Remainder text rest base → NamedLies (length rest) at (Ok n)
    → name_past rest base n.value ≡ span_name text (span key (base + n.value.start) n.value.size)
span_past text rest base at n key R l =
    let s : n.value.size < 32 = omega (arith, l.3) in
    rw (start_of key (base + n.value.start) n.value.size s (past_below text rest base at n R l), size_of key (base + n.value.start) n.value.size s, R.begins, drop-drop n.value.start base text)

-- The span lies in the text where it has the name's key.
pub past_lies : (text rest : List ℕ) (base at : ℕ) (n : Read Span) (key : ℕ) → Remainder text rest base → NamedLies (length rest) at (Ok n) → key ≡ key_of (take n.value.size (drop n.value.start rest))
    → DeclaredLies text (length rest) at (Ok (record { value = span key (base + n.value.start) n.value.size; next = n.next }))
past_lies text rest base at n key R l e =
    let s : n.value.size < 32 = omega (arith, l.3) in
    let b = past_below text rest base at n R l in
    let o = start_of key (base + n.value.start) n.value.size s b in
    let z = size_of key (base + n.value.start) n.value.size s in (
      omega (arith, l.2),
      record {
        within = rw (o, z) (past_ends text rest base at n R l);
        key = key_at key (base + n.value.start) n.value.size b ∙ e ∙ ap (λ (m : Name). key_of m.letters) (span_past text rest base at n key R l);
      },
      l.0,
      l.1,
    )

-- Names by their spans are names by their bytes.
pub spanned_listed : (text ks : List ℕ) (names : List Name) → Spanned text ks names → Listed text ks (spellings names)
spanned_listed text [] [] S = tt
spanned_listed text [] (n ∷ ns) S = S
spanned_listed text (k ∷ ks) [] S = S.0
spanned_listed text (k ∷ ks) (n ∷ ns) S = (S.0, S.1, ap (λ (m : Name). m.letters) S.2, spanned_listed text ks ns S.3)

-- No names yet.
pub spanned_none : (text : List ℕ) (n : ℕ) → Spanned text (replicate n 0) []
spanned_none text zero = tt
spanned_none text (suc n) = (refl, spanned_none text n)

-- Nor in a part.
spanned_front : (text : List ℕ) (size n : ℕ) → Spanned text (take size (replicate n 0)) []
spanned_front text zero n = tt
spanned_front text (suc size) zero = tt
spanned_front text (suc size) (suc n) = (refl, spanned_front text size n)

spanned_part : (text : List ℕ) (from size n : ℕ) → Spanned text (take size (drop from (replicate n 0))) []
spanned_part text zero size n = spanned_front text size n
spanned_part text (suc from) size zero = spanned_front text size zero
spanned_part text (suc from) size (suc n) = spanned_part text from size n

-- One name more.
pub spanned_more : (text ks : List ℕ) (names : List Name) (k : ℕ) → Spanned text ks names → length names < length ks → 0 < k → SpanLies text k
    → Spanned text (set ks (length names) k) (names ++ span_name text k ∷ [])
spanned_more text [] names k S h z l = absurd (omega arith)
spanned_more text (x ∷ ks) [] k S h z l = (z, l, refl, S.1)
spanned_more text (x ∷ ks) (n ∷ ns) k S h z l = (S.0, S.1, S.2, spanned_more text ks ns k S.3 (omega arith) z l)

-- The names at the spans used.
pub names_count : (text spans : List ℕ) (count : ℕ) → count ≤ length spans → length (span_names text spans count) ≡ count
names_count text spans count h = length-map (take count spans) (span_name text) ∙ length-take-le count spans h

pub names_more : (text spans : List ℕ) (count k : ℕ) → count < length spans → span_names text (set spans count k) (count + 1) ≡ span_names text spans count ++ span_name text k ∷ []
names_more text spans count k h = rw (add-one count, take-suc-set spans count k h) (map_append (span_name text) (take count spans) (k ∷ []))

-- The names of a slot's values.
pub values_listed : {text spans : List ℕ} {count : ℕ} → ValuesLie text spans count → Listed text spans (spellings (span_names text spans count))
values_listed {text} {spans} {count} L = spanned_listed text spans (span_names text spans count) L.spanned

pub values_more : (text spans : List ℕ) (count k : ℕ) → ValuesLie text spans count → count < value_limit → 0 < k → SpanLies text k → ValuesLie text (set spans count k) (count + 1)
values_more text spans count k L h z l =
    let p = L.places in
    let i : count < length spans = omega arith in
    let c = names_count text spans count (omega arith) in
    let j : length (span_names text spans count) < length spans = omega arith in
    let S = spanned_more text spans (span_names text spans count) k L.spanned j z l in
    record { few = omega arith; places = length-set spans count k ∙ p; spanned = rw (names_more text spans count k i) (rw c at S) }

-- A list after a run of stores: what stands there, before it and after it.
sets_here : (l vs : List ℕ) (at size : ℕ) → length vs ≡ size → at + size ≤ length l → take size (drop at (sets l at vs)) ≡ vs
sets_here l vs at size e h =
    rw (sets-eq vs l at (omega arith), append_assoc, drop_at (take at l) (vs ++ drop (at + length vs) l) at (length-take-le at l (omega arith)))
    (take_at vs (drop (at + length vs) l) size e)

part_before : (xs ys : List ℕ) (from size : ℕ) → from + size ≤ length xs → take size (drop from (xs ++ ys)) ≡ take size (drop from xs)
part_before xs ys from size h =
    let k : size ≤ length (drop from xs) = simp length-drop (omega arith) in
    rw (drop-append-le from xs ys (omega arith)) (take-append-le size (drop from xs) ys k)

sets_before : (l vs : List ℕ) (at from size : ℕ) → at + length vs ≤ length l → from + size ≤ at → take size (drop from (sets l at vs)) ≡ take size (drop from l)
sets_before l vs at from size h b =
    let k : from + size ≤ length (take at l) = rw (length-take-le at l (omega arith)) b in
    ap (λ (x : List ℕ). take size (drop from x)) (sets-eq vs l at h ∙ append_assoc (take at l) vs (drop (at + length vs) l))
    ∙ part_before (take at l) (vs ++ drop (at + length vs) l) from size k
    ∙ sym (part_before (take at l) (drop at l) from size k)
    ∙ ap (λ (x : List ℕ). take size (drop from x)) (take-append-drop at l)

sets_after : (l vs : List ℕ) (at from : ℕ) → at + length vs ≤ length l → at + length vs ≤ from → drop from (sets l at vs) ≡ drop from l
sets_after l vs at from h b =
    let k : from ≡ at + length vs + (from - (at + length vs)) = omega arith in
    let n : length (take at l ++ vs) ≡ at + length vs = length-append (take at l) vs ∙ ap (λ (x : ℕ). x + length vs) (length-take-le at l (omega arith)) in
    rw k (sym (drop-drop (from - (at + length vs)) (at + length vs) (sets l at vs))
    ∙ ap (drop (from - (at + length vs))) (ap (drop (at + length vs)) (sets-eq vs l at h) ∙ drop_at (take at l ++ vs) (drop (at + length vs) l) (at + length vs) n)
    ∙ drop-drop (from - (at + length vs)) (at + length vs) l)

-- The slots declared so far with one more.
values_old : (slots : List Slot) (x : Slot) (s : ℕ) → s < length slots → values_of (slots ++ x ∷ []) s ≡ values_of slots s
values_old slots x s h = ap (λ (y : Slot). y.values) (get_or-append slots (x ∷ []) no_slot s h)

values_new : (slots : List Slot) (x : Slot) → values_of (slots ++ x ∷ []) (length slots) ≡ x.values
values_new slots x = ap (λ (y : Slot). y.values) (get_or-append_seam slots x [] no_slot)

values_past : (slots : List Slot) (x : Slot) (s : ℕ) → length slots < s → values_of (slots ++ x ∷ []) s ≡ values_of slots s
values_past slots x s h =
    let k : length (slots ++ x ∷ []) ≤ s = simp length-append (omega arith) in
    ap (λ (y : Slot). y.values) (get_or-eq_default (slots ++ x ∷ []) no_slot k ∙ sym (get_or-eq_default slots no_slot (omega arith)))

-- No slots yet.
pub indexed_none : (text : List ℕ) → Indexed text [] (replicate slot_limit 0) (replicate pair_places 0)
indexed_none text =
    record {
      head_places = refl;
      body_places = refl;
      few = omega arith;
      names = spanned_none text slot_limit;
      values = λ s h. spanned_part text (s * row + 1) value_limit pair_places;
    }

-- The slot of a line that was read, entered under its number.
pub indexed_more : (text slotspans valuespans spans : List ℕ) (slots : List Slot) (number name count : ℕ) → Indexed text slots slotspans valuespans → number ≡ length slots → number < slot_limit
    → 0 < name → SpanLies text name → ValuesLie text spans count
    → Indexed text (slots ++ span_slot text name spans count ∷ []) (set slotspans number name) (sets valuespans (number * row + 1) spans)
indexed_more text slotspans valuespans spans slots number name count I e h z l L =
    let hp = I.head_places in
    let n : length (slot_names slots) ≡ number = length-map slots (λ (y : Slot). y.name) ∙ sym e in
    record {
      head_places = length-set slotspans number name ∙ hp;
      body_places = length-sets valuespans at spans ∙ I.body_places;
      few = simp length-append (omega arith);
      names = rw map_append (rw n at (spanned_more text slotspans (slot_names slots) name I.names (omega arith) z l));
      values = λ s k. go s k (le_or_lt s number) (le_or_lt number s);
    }
  where
    slot : Slot
    slot = span_slot text name spans count

    at : ℕ
    at = number * row + 1

    fits : at + length spans ≤ length valuespans
    fits = let bp = I.body_places in let vp = L.places in omega arith

    go : (s : ℕ) → s < slot_limit → (s ≤ number) ⊎ (number < s) → (number ≤ s) ⊎ (s < number) → Spanned text (row_of (sets valuespans at spans) s) (values_of (slots ++ slot ∷ []) s)
    go s k (inl a) (inl b) =
        let f : s ≡ number = omega arith in
        let vp = L.places in
        let w : at + value_limit ≤ length valuespans = omega (arith, fits) in
        rw (f, sets_here valuespans spans at value_limit vp w, e, values_new slots slot) L.spanned
    go s k (inl a) (inr b) = rw (sets_before valuespans spans at (s * row + 1) value_limit fits (omega arith), values_old slots slot s (omega arith)) (I.values s k)
    go s k (inr a) b = rw (sets_after valuespans spans at (s * row + 1) fits (omega arith), values_past slots slot s (omega arith)) (I.values s k)

-- The names that the rules look up.
pub indexed_slots : {text : List ℕ} {slots : List Slot} {slotspans valuespans : List ℕ} → Indexed text slots slotspans valuespans → Listed text slotspans (spellings (slot_names slots))
indexed_slots {text} {slots} {slotspans} I = spanned_listed text slotspans (slot_names slots) I.names

pub indexed_values : {text : List ℕ} {slots : List Slot} {slotspans valuespans : List ℕ} (s : ℕ) → Indexed text slots slotspans valuespans → s < slot_limit → Listed text (row_of valuespans s) (spellings (values_of slots s))
indexed_values {text} {slots} {slotspans} {valuespans} s I h = spanned_listed text (row_of valuespans s) (values_of slots s) (I.values s h)

-- Names and slots of the table, by their spans.
place_name : (text : List ℕ) (k : ℕ) → SpanLies text k → stretch_at k ≡ name_for (span_name text k)
place_name text k l =
    let w = l.within in
    let h : k % 32 ≤ length (drop (span_start k) text) = simp length-drop (omega arith) in
    rw (length-take-le (k % 32) (drop (span_start k) text) h)

place_names : (text ks : List ℕ) (names : List Name) → Spanned text ks names → map stretch_at ks ≡ map name_for names ++ replicate (length ks - length names) zero_name
place_names text [] [] S = refl
place_names text [] (n ∷ ns) S = absurd S
place_names text (k ∷ ks) [] S =
    rw (S.0, sub-zero (suc (length ks)))
    (ap (λ (xs : List stretch.Name). zero_name ∷ xs) (place_names text ks [] S.1 ∙ rw (sub-zero (length ks))))
place_names text (k ∷ ks) (n ∷ ns) S =
    rw (suc-sub-suc (length ks) (length ns))
    (ap₂ (λ (x : stretch.Name) (xs : List stretch.Name). x ∷ xs) (place_name text k S.1 ∙ ap name_for S.2) (place_names text ks ns S.3))

pub slot_placed : (text spans : List ℕ) (name count : ℕ) → SpanLies text name → ValuesLie text spans count → slot_by name spans count ≡ slot_for (span_slot text name spans count)
unfolding filled
slot_placed text spans name count l L =
    let vp = L.places in
    let c = names_count text spans count (omega arith) in
    let n = length-map (span_names text spans count) name_for in
    let e = rw vp at (place_names text spans (span_names text spans count) L.spanned) in
    rw (place_name text name l, e, n, c)
