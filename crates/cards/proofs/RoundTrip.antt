-- Accepted bytes are packed back to the same bytes; a form that is packed is unpacked to itself; bytes with one form are the same bytes.
-- Assumes nothing.
use mathlib.Core.Path.{◌≡◌, refl, sym, ap, ◌∙◌}
use mathlib.Core.Bool.{Bool, true, false, cond}
use mathlib.Core.List.{List, ◌∷◌, head-eq_of_cons-eq}
use Prim.Native.Nat.{ℕ, ◌+◌, ◌-◌, ◌*◌, ◌≤◌, ◌<◌}
use native.Mathlib.Omega.{arith}
use lib.Dec.{eqb}
use lib.ListN.{length, get_or}
use borrow.Author.Tests.{eqb-true}
use Rattle.laws.specs.Packed.{Field, field, byte_count, pack_fields, field_bits, field_at, fields_at, Bytes}
use Rattle.laws.proofs.Fields.{packs_back, reads_packed, padding_packed, fields_length}
use Rattle.model.specs.Rules.{Pair}
use Rattle.laws.specs.Limits.{slot_limit}
use Rattle.laws.specs.Answers.{Verdict, passed, fault, OrRefused, taken, refused, after}
use Rattle.cards.specs.Forms.{card_bits, slip_bits, card_fields, slip_fields, card_bytes, slip_bytes, count_in, values_in, changes_in, padding, card_test, slip_test, read_card, read_slip}
use Rattle.cards.proofs.Taken.{values_length, value_at, card_taken, slip_taken}
use Rattle.cards.proofs.Written.{card_bytes_length, slip_bytes_length}
use Rattle.cards.specs.inner.Fitting.{Slots}
use Rattle.cards.proofs.Passed.{card_pass, values_pass, changes_pass}
use Rattle.cards.proofs.FieldForms.{card_bits_sum, slip_bits_sum, card_in_bits, slip_in_bits, card_field_widths, slip_field_widths, card_read_fields, slip_read_fields, card_by_fields, slip_by_fields, card_fields_fit, slip_fields_fit}

-- What bytes that are taken passed.
pub record Accepted {A : Type 0} (long : Bool) (test : Verdict) (pad : ℕ) (form given : A) : Type 0 where
  pub length_right : long ≡ true
  pub passes : test ≡ passed
  pub padding_zero : pad ≡ 0
  pub same_form : form ≡ given

not_taken : {A : Type 0} (k s : ℕ) (x : A) → ◌≡◌ {A = OrRefused A} (refused k s) (taken x) → ⊥
not_taken k s x e = let z : ◌≡◌ {A = ℕ} 0 1 = cc in omega arith

accepted : {A : Type 0} (long : Bool) (test : Verdict) (pad k l : ℕ) (form given : A) → cond long (after test (cond (eqb pad 0) (taken form) (refused k 0))) (refused l 0) ≡ taken given → Accepted long test pad form given
unfolding after
accepted false test pad k l form given e = absurd (not_taken l 0 given e)
accepted true (fault j r) pad k l form given e = absurd (not_taken j r given e)
accepted true passed pad k l form given e = go (eqb pad 0) refl e
  where
    go : (b : Bool) → eqb pad 0 ≡ b → cond b (taken form) (refused k 0) ≡ taken given → Accepted true passed pad form given
    go true d e = record { length_right = refl; passes = refl; padding_zero = eqb-true pad 0 d; same_form = (let z : form ≡ given = cc in z) }
    go false d e = absurd (not_taken k 0 given e)

pub card_accepted : (counts ys vs : List ℕ) → read_card counts ys ≡ taken vs
    → Accepted (eqb (length ys) (byte_count (card_bits (count_in ys)))) (card_test counts (values_in ys)) (padding ys (card_bits (count_in ys))) (values_in ys) vs
unfolding read_card
card_accepted counts ys vs e = accepted _ (card_test counts (values_in ys)) _ 23 20 (values_in ys) vs e

pub slip_accepted : (counts ys : List ℕ) (ps : List Pair) → read_slip counts ys ≡ taken ps
    → Accepted (eqb (length ys) (byte_count (slip_bits (count_in ys)))) (slip_test counts (changes_in ys)) (padding ys (slip_bits (count_in ys))) (changes_in ys) ps
unfolding read_slip
slip_accepted counts ys ps e = accepted _ (slip_test counts (changes_in ys)) _ 28 24 (changes_in ys) ps e

-- An accepted card is packed back to the same bytes,
pub card_packs_back : (counts ys vs : List ℕ) → Bytes ys → read_card counts ys ≡ taken vs → card_bytes vs ≡ ys
unfolding card_bytes
card_packs_back counts ys vs b e =
    let a = card_accepted counts ys vs e in
    let l = eqb-true (length ys) (byte_count (card_bits (count_in ys))) a.length_right in
    let s = card_in_bits (count_in ys) in
    ap (λ (us : List ℕ). pack_fields (card_fields us)) (sym a.same_form) ∙ ap pack_fields (card_read_fields ys)
    ∙ packs_back ys (card_bits_sum (count_in ys)) b (rw s l) (rw s a.padding_zero)

-- and so is an accepted slip.
pub slip_packs_back : (counts ys : List ℕ) (ps : List Pair) → Bytes ys → read_slip counts ys ≡ taken ps → slip_bytes ps ≡ ys
unfolding slip_bytes
slip_packs_back counts ys ps b e =
    let a = slip_accepted counts ys ps e in
    let l = eqb-true (length ys) (byte_count (slip_bits (count_in ys))) a.length_right in
    let s = slip_in_bits (count_in ys) in
    ap (λ (qs : List Pair). pack_fields (slip_fields qs)) (sym a.same_form) ∙ ap pack_fields (slip_read_fields ys)
    ∙ packs_back ys (slip_bits_sum (count_in ys)) b (rw s l) (rw s a.padding_zero)

-- Two accepted byte strings with the same form are equal.
pub one_card : (counts ys zs vs : List ℕ) → Bytes ys → Bytes zs → read_card counts ys ≡ taken vs → read_card counts zs ≡ taken vs → ys ≡ zs
one_card counts ys zs vs b c e f = sym (card_packs_back counts ys vs b e) ∙ card_packs_back counts zs vs c f

pub one_slip : (counts ys zs : List ℕ) (ps : List Pair) → Bytes ys → Bytes zs → read_slip counts ys ≡ taken ps → read_slip counts zs ≡ taken ps → ys ≡ zs
one_slip counts ys zs ps b c e f = sym (slip_packs_back counts ys ps b e) ∙ slip_packs_back counts zs ps c f

-- A value is the number of its field: 0 stays no value, k the k-th.
pub value_kept : (counts ys vs : List ℕ) → read_card counts ys ≡ taken vs → (i : ℕ) → i < length vs → get_or vs i 0 ≡ field_at ys (6 + 4 * i) 4
value_kept counts ys vs e i h =
    let s = (card_accepted counts ys vs e).same_form in
    let k : i < count_in ys = omega (arith, h, ap length s, values_length ys) in
    ap (λ (us : List ℕ). get_or us i 0) (sym s) ∙ value_at ys i k

-- The first field read is the count.
first_number : (ys ws : List ℕ) (n : ℕ) (fs : List Field) → fields_at ys 0 (6 ∷ ws) ≡ field 6 n ∷ fs → count_in ys ≡ n
unfolding fields_at
first_number ys ws n fs r = ap (λ (f : Field). f.number) (head-eq_of_cons-eq r)

card_count : (ys vs : List ℕ) → fields_at ys 0 (card_bits_sum (length vs)) ≡ card_fields vs → count_in ys ≡ length vs
unfolding card_fields
card_count ys vs r = first_number ys _ (length vs) _ r

slip_count : (ys : List ℕ) (ps : List Pair) → fields_at ys 0 (slip_bits_sum (length ps)) ≡ slip_fields ps → count_in ys ≡ length ps
unfolding slip_fields
slip_count ys ps r = first_number ys _ (length ps) _ r

-- A card that passes the tests of packing is unpacked to itself.
pub card_reads_back : (counts vs : List ℕ) → Slots counts → card_test counts vs ≡ passed → read_card counts (card_bytes vs) ≡ taken vs
unfolding card_bytes
card_reads_back counts vs S e =
    let ys = card_bytes vs in
    let p = card_pass counts vs e in
    let n = length vs in
    let f = card_fields_fit vs (omega (arith, p.0, S.few)) (λ i h. (let k : i < length counts = omega (arith, p.0) in omega (arith, values_pass 0 counts vs p.1 i k h, S.small i k))) in
    let r : fields_at ys 0 (card_bits_sum n) ≡ card_fields vs = rw (card_field_widths vs) at (reads_packed (card_fields vs) f) in
    let c : count_in ys ≡ n = card_count ys vs r in
    let v : values_in ys ≡ vs = card_by_fields (values_in ys) vs (card_read_fields ys ∙ ap (λ (m : ℕ). fields_at ys 0 (card_bits_sum m)) c ∙ r) in
    let w : length (field_bits (card_fields vs)) ≡ card_bits n = fields_length (card_fields vs) ∙ rw (card_field_widths vs) (card_in_bits n) in
    let z : padding ys (card_bits n) ≡ 0 = rw w at (padding_packed (card_fields vs) (8 * length ys - card_bits n)) in
    card_taken counts ys (card_bytes_length vs ∙ ap (λ (m : ℕ). byte_count (card_bits m)) (sym c)) (rw v e) (rw c z) ∙ ap taken v

-- So is a slip of at most 32 changes.
pub slip_reads_back : (counts : List ℕ) (ps : List Pair) → Slots counts → length ps ≤ slot_limit → slip_test counts ps ≡ passed → read_slip counts (slip_bytes ps) ≡ taken ps
unfolding slip_bytes
slip_reads_back counts ps S few e =
    let ys = slip_bytes ps in
    let n = length ps in
    let f = slip_fields_fit ps (omega arith) (λ j h. (let q = changes_pass counts 0 0 ps e j h in (omega (arith, q.0, S.few), omega (arith, q.1, S.small _ q.0)))) in
    let r : fields_at ys 0 (slip_bits_sum n) ≡ slip_fields ps = rw (slip_field_widths ps) at (reads_packed (slip_fields ps) f) in
    let c : count_in ys ≡ n = slip_count ys ps r in
    let v : changes_in ys ≡ ps = slip_by_fields (changes_in ys) ps (slip_read_fields ys ∙ ap (λ (m : ℕ). fields_at ys 0 (slip_bits_sum m)) c ∙ r) in
    let w : length (field_bits (slip_fields ps)) ≡ slip_bits n = fields_length (slip_fields ps) ∙ rw (slip_field_widths ps) (slip_in_bits n) in
    let z : padding ys (slip_bits n) ≡ 0 = rw w at (padding_packed (slip_fields ps) (8 * length ys - slip_bits n)) in
    slip_taken counts ys (slip_bytes_length ps ∙ ap (λ (m : ℕ). byte_count (slip_bits m)) (sym c)) (rw v e) (rw c z) ∙ ap taken v
