-- Fields put one after the other at the front of an output.
-- Assumes nothing.
use mathlib.Core.Path.{◌≡◌, refl, sym, ap, ap₂, ◌∙◌}
use mathlib.Core.List.{List, [], ◌∷◌, ◌++◌, map, append-nil}
use Prim.Native.Nat.{ℕ, ◌+◌, ◌-◌, ◌*◌, ◌≤◌, ◌<◌}
use native.Mathlib.Numerals.{add-one}
use native.Mathlib.Omega.{arith}
use lib.ListN.{length, get_or, take, drop, length-append, length-drop}
use lib.Seq.{take-suc, take_all, drop-drop, drop-append-add, length-take-le}
use Rattle.laws.specs.Tabulated.{tabulate}
use Rattle.laws.specs.Packed.{Field, field, bits, field_bits, byte_count, pack, pack_fields}
use Rattle.laws.specs.inner.Put.{put_at}
use Rattle.laws.proofs.Packed.{bits_length, pack_length}
use Rattle.laws.proofs.Fields.{field_bits_append}
use Rattle.laws.proofs.Put.{put_more}
use Rattle.laws.proofs.Lists.{map_append}
use Rattle.model.specs.Rules.{Pair}
use Rattle.cards.specs.Forms.{card_fields, change_fields, slip_fields, card_bytes, slip_bytes, card_bits, slip_bits}
use Rattle.cards.proofs.Tested.{no_pair}

-- The output holds the bytes of some fields, and after them what it held at first.
abbrev pub Written : List Field → List ℕ → List ℕ → Type 0
Written fs first out = out ≡ pack_fields fs ++ drop (byte_count (length (field_bits fs))) first

written_none : (out : List ℕ) → Written [] out out
unfolding pack_fields field_bits pack tabulate
written_none out = refl

one_field : (w x : ℕ) → field_bits (field w x ∷ []) ≡ bits w x
unfolding field_bits
one_field w x = append-nil (bits w x)

more_bits : (fs : List Field) (w x : ℕ) → field_bits (fs ++ field w x ∷ []) ≡ field_bits fs ++ bits w x
more_bits fs w x = field_bits_append fs (field w x ∷ []) ∙ ap (λ cs. field_bits fs ++ cs) (one_field w x)

pub more_length : (fs : List Field) (w x : ℕ) → length (field_bits (fs ++ field w x ∷ [])) ≡ length (field_bits fs) + w
more_length fs w x = ap length (more_bits fs w x) ∙ length-append (field_bits fs) (bits w x) ∙ rw (bits_length w x)

-- One field more.
pub written_more : (fs : List Field) (first out : List ℕ) (p w x : ℕ) → length (field_bits fs) ≡ p → p + w ≤ 8 * length first → Written fs first out → Written (fs ++ field w x ∷ []) first (put_at out p w x)
unfolding pack_fields
written_more fs first out p w x l h e =
    rw (more_length fs w x, more_bits fs w x) (ap (λ (zs : List ℕ). put_at zs p w x) (e ∙ rw l) ∙ put_more (field_bits fs) first p w x l h ∙ rw l)

pub written_start : (out : List ℕ) (w x : ℕ) → w ≤ 8 * length out → Written (field w x ∷ []) out (put_at out 0 w x)
unfolding field_bits
written_start out w x h = written_more [] out out 0 w x refl (omega arith) (written_none out)

front_length : (fs : List Field) → length (pack_fields fs) ≡ byte_count (length (field_bits fs))
unfolding pack_fields
front_length fs = pack_length (field_bits fs)

-- The length stays.
pub written_length : (fs : List Field) (first out : List ℕ) → byte_count (length (field_bits fs)) ≤ length first → Written fs first out → length out ≡ length first
written_length fs first out h e = ap length e ∙ length-append (pack_fields fs) _ ∙ rw (front_length fs, length-drop) (omega arith)

-- What stands after the fields is what stood there at first,
pub written_after : (fs : List Field) (first out : List ℕ) (n : ℕ) → byte_count (length (field_bits fs)) ≤ n → Written fs first out → drop n out ≡ drop n first
written_after fs first out n h e =
    let k = byte_count (length (field_bits fs)) in
    let z : n ≡ length (pack_fields fs) + (n - k) = omega (arith, front_length fs) in
    let y : k + (n - k) ≡ n = omega arith in
    ap₂ (λ (m : ℕ) (zs : List ℕ). drop m zs) z e ∙ drop-append-add (pack_fields fs) (drop k first) (n - k) ∙ drop-drop (n - k) k first ∙ ap (λ (m : ℕ). drop m first) y

-- so that it may count as what was there at first.
pub written_self : (fs : List Field) (first out : List ℕ) → Written fs first out → Written fs out out
written_self fs first out e = e ∙ ap (λ (zs : List ℕ). pack_fields fs ++ zs) (sym (written_after fs first out (byte_count (length (field_bits fs))) (omega arith) e))

-- The fields of a card up to slot i,
abbrev pub card_upto : List ℕ → ℕ → List Field
card_upto vs i = field 6 (length vs) ∷ map (field 4) (take i vs)

values_bits : (vs : List ℕ) → length (field_bits (map (field 4) vs)) ≡ 4 * length vs
unfolding field_bits
values_bits [] = refl
values_bits (v ∷ vs) = length-append (bits 4 v) _ ∙ rw (bits_length 4 v, values_bits vs) (omega arith)

pub card_bits_upto : (vs : List ℕ) (i : ℕ) → i ≤ length vs → length (field_bits (card_upto vs i)) ≡ card_bits i
unfolding field_bits
card_bits_upto vs i h = length-append (bits 6 (length vs)) _ ∙ rw (bits_length 6 (length vs), values_bits (take i vs), length-take-le i vs h)

pub card_bytes_length : (vs : List ℕ) → length (card_bytes vs) ≡ byte_count (card_bits (length vs))
unfolding card_bytes card_fields field_bits
card_bytes_length vs = front_length (card_fields vs) ∙ rw (length-append (bits 6 (length vs)) (field_bits (map (field 4) vs)), bits_length 6 (length vs), values_bits vs)

pub card_next : (vs : List ℕ) (i : ℕ) → i < length vs → card_upto vs (i + 1) ≡ card_upto vs i ++ field 4 (get_or vs i 0) ∷ []
card_next vs i h = rw (add-one i, take-suc vs i 0 h) (ap (λ fs. field 6 (length vs) ∷ fs) (map_append (field 4) (take i vs) (get_or vs i 0 ∷ [])))

pub card_all : (vs : List ℕ) (first out : List ℕ) (i : ℕ) → length vs ≤ i → Written (card_upto vs i) first out → out ≡ card_bytes vs ++ drop (byte_count (card_bits (length vs))) first
unfolding card_bytes card_fields
card_all vs first out i h e =
    let t = take_all i vs h in
    let f : card_upto vs i ≡ card_upto vs (length vs) = ap (λ zs. field 6 (length vs) ∷ map (field 4) zs) (t ∙ sym (take_all (length vs) vs (omega arith))) in
    (rw f at e) ∙ rw (card_bits_upto vs (length vs) (omega arith), take_all (length vs) vs (omega arith))

-- and of a slip up to change i.
abbrev pub slip_upto : List Pair → ℕ → List Field
slip_upto ps i = field 6 (length ps) ∷ change_fields (take i ps)

changes_bits : (ps : List Pair) → length (field_bits (change_fields ps)) ≡ 9 * length ps
unfolding field_bits change_fields
changes_bits [] = refl
changes_bits (p ∷ ps) =
    length-append (bits 5 p.slot) _ ∙ rw (bits_length 5 p.slot, length-append (bits 4 p.value) (field_bits (change_fields ps)), bits_length 4 p.value, changes_bits ps) (omega arith)

pub slip_bits_upto : (ps : List Pair) (i : ℕ) → i ≤ length ps → length (field_bits (slip_upto ps i)) ≡ slip_bits i
unfolding field_bits
slip_bits_upto ps i h = length-append (bits 6 (length ps)) _ ∙ rw (bits_length 6 (length ps), changes_bits (take i ps), length-take-le i ps h)

pub slip_bytes_length : (ps : List Pair) → length (slip_bytes ps) ≡ byte_count (slip_bits (length ps))
unfolding slip_bytes slip_fields field_bits
slip_bytes_length ps = front_length (slip_fields ps) ∙ rw (length-append (bits 6 (length ps)) (field_bits (change_fields ps)), bits_length 6 (length ps), changes_bits ps)

changes_append : (ps : List Pair) (p : Pair) → change_fields (ps ++ p ∷ []) ≡ change_fields ps ++ field 5 p.slot ∷ [] ++ field 4 p.value ∷ []
unfolding change_fields
changes_append [] p = refl
changes_append (q ∷ ps) p = ap (λ fs. field 5 q.slot ∷ field 4 q.value ∷ fs) (changes_append ps p)

pub slip_next : (ps : List Pair) (i : ℕ) → i < length ps → slip_upto ps (i + 1) ≡ slip_upto ps i ++ field 5 (get_or ps i no_pair).slot ∷ [] ++ field 4 (get_or ps i no_pair).value ∷ []
slip_next ps i h = rw (add-one i, take-suc ps i no_pair h) (ap (λ fs. field 6 (length ps) ∷ fs) (changes_append (take i ps) (get_or ps i no_pair)))

pub slip_all : (ps : List Pair) (first out : List ℕ) (i : ℕ) → length ps ≤ i → Written (slip_upto ps i) first out → out ≡ slip_bytes ps ++ drop (byte_count (slip_bits (length ps))) first
unfolding slip_bytes slip_fields
slip_all ps first out i h e =
    let t = take_all i ps h in
    let f : slip_upto ps i ≡ slip_upto ps (length ps) = ap (λ zs. field 6 (length ps) ∷ change_fields zs) (t ∙ sym (take_all (length ps) ps (omega arith))) in
    (rw f at e) ∙ rw (slip_bits_upto ps (length ps) (omega arith), take_all (length ps) ps (omega arith))
