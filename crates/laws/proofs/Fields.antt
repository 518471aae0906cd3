-- Fields of any widths: packing what is read gives the bytes back, reading what is packed gives the fields back.
-- Assumes nothing.
use Prim.Native.Nat.{ℕ, zero, suc, ◌+◌, ◌-◌, ◌*◌, ◌^◌, ◌≤◌, ◌<◌}
use native.Mathlib.Omega.{arith}
use mathlib.Core.Path.{◌≡◌, refl, sym, ap, ap₂, ◌∙◌}
use mathlib.Core.Bool.{Bool, false}
use mathlib.Core.List.{List, [], ◌∷◌, ◌++◌, map, append_assoc}
use lib.Dec.{T, ltb→lt}
use lib.ListN.{length, get_or, take, drop, replicate, length-append, length-take, length-drop, take-append-drop}
use lib.Seq.{take_all, take-add, drop-drop, take_at, drop_at}
use Rattle.laws.specs.Listed.{all_of}
use Rattle.laws.specs.Packed.{Field, field, bits, number_of, field_bits, byte_bits, byte_count, pack, pack_fields, field_at, fields_at, bits_in, field_fits}
use Rattle.laws.proofs.Truth.{and_l, and_r}
use Rattle.laws.proofs.Packed.{bits_length, bits_number, bits_zero, number_exact, byte_bits_length, pack_same, pack_bits, pack_bytes, pad_bit}

-- The bits of a field read are the bits there.
pub field_back : (ys : List ℕ) (p w : ℕ) → p + w ≤ 8 * length ys → bits w (field_at ys p w) ≡ take w (drop p (byte_bits ys))
unfolding field_at
field_back ys p w h =
    let l : length (take w (drop p (byte_bits ys))) ≡ w = rw (length-take, length-drop, byte_bits_length ys) (omega arith) in
    ap (λ (n : ℕ). bits n (number_of (take w (drop p (byte_bits ys))))) (sym l) ∙ bits_number (take w (drop p (byte_bits ys)))

pub fields_back : (ys : List ℕ) (p : ℕ) (ws : List ℕ) → p + bits_in ws ≤ 8 * length ys → field_bits (fields_at ys p ws) ≡ take (bits_in ws) (drop p (byte_bits ys))
unfolding field_bits fields_at bits_in
fields_back ys p [] h = refl
fields_back ys p (w ∷ ws) h =
    ap₂ (λ (cs bs : List Bool). cs ++ bs) (field_back ys p w (omega arith))
    (fields_back ys (p + w) ws (omega arith) ∙ ap (take (bits_in ws)) (sym (drop-drop w p (byte_bits ys))))
    ∙ sym (take-add w (bits_in ws) (drop p (byte_bits ys)))

-- Bits with the number 0 are zero bits.
zero_bits : (bs : List Bool) → number_of bs ≡ 0 → bs ≡ replicate (length bs) false
zero_bits bs e = sym (bits_number bs) ∙ rw e (bits_zero (length bs))

-- Bytes as long as the fields need, with zero padding, are what their fields pack to.
pub packs_back : (ys ws : List ℕ) → ((k : ℕ) → k < length ys → get_or ys k 0 < 256) → length ys ≡ byte_count (bits_in ws)
    → field_at ys (bits_in ws) (8 * length ys - bits_in ws) ≡ 0 → pack_fields (fields_at ys 0 ws) ≡ ys
unfolding pack_fields field_at
packs_back ys ws h l z =
    let W = bits_in ws in
    let bs = byte_bits ys in
    let n : length bs ≡ 8 * length ys = byte_bits_length ys in
    let t : length (take W bs) ≡ W = rw (length-take, n) (omega arith) in
    let d : length (drop W bs) ≡ 8 * length ys - W = length-drop W bs ∙ omega arith in
    let f : take (8 * length ys - W) (drop W bs) ≡ drop W bs = take_all (8 * length ys - W) (drop W bs) (omega (arith, d)) in
    let o = zero_bits (drop W bs) (rw f at z) in
    let c : bs ≡ take W bs ++ replicate (length (drop W bs)) false = sym (take-append-drop W bs) ∙ ap (λ (cs : List Bool). take W bs ++ cs) o in
    ap pack (fields_back ys 0 ws (omega arith))
    ∙ pack_same (take W bs) bs (rw (t, n) (omega arith)) (λ i. sym (ap (λ (cs : List Bool). get_or cs i false) c ∙ pad_bit (take W bs) (length (drop W bs)) i))
    ∙ pack_bytes ys h

-- Fields that stand in the bits of some bytes are read there.
fields_read : (ys : List ℕ) (p : ℕ) (cs : List Bool) (fs : List Field) (zs : List Bool) → byte_bits ys ≡ cs ++ (field_bits fs ++ zs) → length cs ≡ p → T (all_of field_fits fs)
    → fields_at ys p (map (λ f. f.width) fs) ≡ fs
unfolding field_bits fields_at field_at all_of
fields_read ys p cs [] zs e l t = refl
fields_read ys p cs (f ∷ fs) zs e l t =
    let bs = bits f.width f.number in
    let a : byte_bits ys ≡ cs ++ (bs ++ (field_bits fs ++ zs)) = e ∙ ap (λ (xs : List Bool). cs ++ xs) (append_assoc bs (field_bits fs) zs) in
    let b : byte_bits ys ≡ (cs ++ bs) ++ (field_bits fs ++ zs) = a ∙ sym (append_assoc cs bs (field_bits fs ++ zs)) in
    let n : length bs ≡ f.width = bits_length f.width f.number in
    let m : length (cs ++ bs) ≡ p + f.width = length-append cs bs ∙ rw (l, n) in
    let x : number_of (take f.width (drop p (byte_bits ys))) ≡ f.number =
    rw (a, drop_at cs (bs ++ (field_bits fs ++ zs)) p l, take_at bs (field_bits fs ++ zs) f.width n) (number_exact f.width f.number (ltb→lt f.number (2 ^ f.width) (and_l _ _ t))) in
    ap₂ (λ (k : ℕ) (gs : List Field). field f.width k ∷ gs) x (fields_read ys (p + f.width) (cs ++ bs) fs zs b m (and_r _ _ t))

pub reads_packed : (fs : List Field) → T (all_of field_fits fs) → fields_at (pack_fields fs) 0 (map (λ f. f.width) fs) ≡ fs
unfolding pack_fields
reads_packed fs t = fields_read (pack (field_bits fs)) 0 [] fs (replicate (8 * byte_count (length (field_bits fs)) - length (field_bits fs)) false) (pack_bits (field_bits fs)) refl t

take_zeros : (n m : ℕ) → number_of (take n (replicate m false)) ≡ 0
unfolding number_of
take_zeros zero m = refl
take_zeros (suc n) zero = refl
take_zeros (suc n) (suc m) = omega (arith, take_zeros n m)

-- The padding of what is packed is zero.
pub padding_packed : (fs : List Field) (n : ℕ) → field_at (pack_fields fs) (length (field_bits fs)) n ≡ 0
unfolding pack_fields field_at
padding_packed fs n =
    let bs = field_bits fs in
    rw (pack_bits bs, drop_at bs (replicate (8 * byte_count (length bs) - length bs) false) (length bs) refl) (take_zeros n (8 * byte_count (length bs) - length bs))

pub fields_length : (fs : List Field) → length (field_bits fs) ≡ bits_in (map (λ f. f.width) fs)
unfolding field_bits bits_in
fields_length [] = refl
fields_length (f ∷ fs) = length-append (bits f.width f.number) (field_bits fs) ∙ rw (bits_length f.width f.number, fields_length fs)

pub field_bits_append : (fs gs : List Field) → field_bits (fs ++ gs) ≡ field_bits fs ++ field_bits gs
unfolding field_bits
field_bits_append [] gs = refl
field_bits_append (f ∷ fs) gs = rw (field_bits_append fs gs) (sym (append_assoc (bits f.width f.number) (field_bits fs) (field_bits gs)))
