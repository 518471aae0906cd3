-- A field read from and put into a word of two bytes; fields put one after the other.
-- Assumes nothing.
use Prim.Native.Nat.{ℕ, zero, suc, ◌+◌, ◌-◌, ◌*◌, ◌^◌, ◌/◌, ◌%◌, ◌≤◌, ◌<◌}
use native.Mathlib.Nat.{add-mul, one-mul, mul-le-mul_right}
use native.Mathlib.Omega.{arith}
use mathlib.Core.Path.{◌≡◌, refl, sym, ap, ap₂, ◌∙◌}
use mathlib.Core.Bool.{Bool, false}
use mathlib.Core.List.{List, [], ◌∷◌, ◌++◌, append_assoc, append-nil}
use lib.ListN.{length, get_or, take, drop, set, replicate, length-append, length-drop, take-append-drop, get_or-append}
use lib.Seq.{drop-drop, take_at, drop_at, take-append-le, drop-append-le, drop-append-add, drop-cons, set_split, set_at, ext_get_or, get_or-take, get_or-append-add, get_or-drop, length-take-le}
use lib.Pow.{pow_pos, pow-add, shl_lt, shr_lt}
use Rattle.laws.specs.Tabulated.{tabulate}
use Rattle.laws.specs.Packed.{bits, byte_bits, byte_count, byte_at, pack, field_at}
use Rattle.laws.specs.inner.Put.{put_at}
use Rattle.laws.proofs.Tabulated.{tabulate_length, tabulate_at}
use Rattle.laws.proofs.Packed.{bits_length, bits_split, bits_join, bits_more, pack_bytes, bits_zero, number_bits, drop_bytes, pack_length, pack_at, byte_at_bits, byte_at_same, pack_same, pack_append, pad_bit}

-- The bits of a number between places.
bits_between : (h w s x : ℕ) → take w (drop h (bits (h + w + s) x)) ≡ bits w (x / 2 ^ s)
bits_between h w s x =
    let a : bits (h + w + s) x ≡ bits h (x / 2 ^ s / 2 ^ w) ++ (bits w (x / 2 ^ s) ++ bits s x) = bits_split (h + w) s x ∙ ap (λ (cs : List Bool). cs ++ bits s x) (bits_split h w (x / 2 ^ s)) ∙ append_assoc (bits h (x / 2 ^ s / 2 ^ w)) (bits w (x / 2 ^ s)) (bits s x) in
    rw (a, drop_at (bits h (x / 2 ^ s / 2 ^ w)) (bits w (x / 2 ^ s) ++ bits s x) h (bits_length h (x / 2 ^ s / 2 ^ w)), take_at (bits w (x / 2 ^ s)) (bits s x) w (bits_length w (x / 2 ^ s)))

-- Bits that reach no further than the first part are those of the first part.
take_drop_front : {A : Type 0} (h w : ℕ) (xs ys : List A) → h + w ≤ length xs → take w (drop h (xs ++ ys)) ≡ take w (drop h xs)
take_drop_front h w xs ys l = rw (drop-append-le h xs ys (omega arith)) (take-append-le w (drop h xs) ys (rw (length-drop h xs) (omega arith)))

-- Two bytes as one word.
word_bits : (h w a b : ℕ) → h + w ≤ 16 → b < 256 → take w (drop h (bits 8 a ++ bits 8 b)) ≡ bits w ((a * 256 + b) / 2 ^ (16 - h - w))
word_bits h w a b l f =
    let z : h + w + (16 - h - w) ≡ 8 + 8 = omega arith in
    ap (λ (cs : List Bool). take w (drop h cs)) (sym (bits_join 8 8 a b f) ∙ ap (λ (n : ℕ). bits n (a * 256 + b)) (sym z))
    ∙ bits_between h w (16 - h - w) (a * 256 + b)

bits_none : (x : ℕ) → [] ≡ bits 0 x
unfolding bits
bits_none x = refl

-- The two bytes at the front.
front_word : (zs : List ℕ) (h w a b : ℕ) → h < 8 → w ≤ 8 → h + w ≤ 8 * length zs → get_or zs 0 0 ≡ a → get_or zs 1 0 ≡ b → b < 256
    → take w (drop h (byte_bits zs)) ≡ bits w ((a * 256 + b) / 2 ^ (16 - h - w))
unfolding byte_bits
front_word [] h w a b l k n d e f =
    let z : w ≡ 0 = omega arith in
    let v : h ≡ 0 = omega arith in
    rw (v, z) (bits_none ((a * 256 + b) / 2 ^ (16 - 0 - 0)))
front_word (y ∷ []) h w a b l k n d e f =
    rw (d, take_drop_front h w (bits 8 a) [] (rw (bits_length 8 a) (omega arith))) (sym (take_drop_front h w (bits 8 a) (bits 8 b) (rw (bits_length 8 a) (omega arith)))) ∙ word_bits h w a b (omega arith) f
front_word (y ∷ v ∷ zs) h w a b l k n d e f =
    let m : length (bits 8 a ++ bits 8 b) ≡ 16 = length-append (bits 8 a) (bits 8 b) ∙ rw (bits_length 8 a, bits_length 8 b) in
    rw (d, e, ← append_assoc (bits 8 a) (bits 8 b) (byte_bits zs)) (take_drop_front h w (bits 8 a ++ bits 8 b) (byte_bits zs) (omega arith)) ∙ word_bits h w a b (omega arith) f

-- A field read by way of a word.
pub field_word : (ys : List ℕ) (p w a b : ℕ) → w ≤ 8 → p + w ≤ 8 * length ys → a ≡ get_or ys (p / 8) 0 → b ≡ get_or ys (p / 8 + 1) 0 → b < 256
    → field_at ys p w ≡ (a * 256 + b) / 2 ^ (16 - p % 8 - w) % 2 ^ w
unfolding field_at
field_word ys p w a b l n d e f =
    let k = p / 8 in
    let z : 8 * k + p % 8 ≡ p = omega arith in
    let g : drop p (byte_bits ys) ≡ drop (p % 8) (byte_bits (drop k ys)) = ap (λ (q : ℕ). drop q (byte_bits ys)) (sym z) ∙ sym (drop-drop (p % 8) (8 * k) (byte_bits ys)) ∙ ap (drop (p % 8)) (drop_bytes k ys) in
    let o : k + 0 ≡ k = omega arith in
    let i : get_or (drop k ys) 0 0 ≡ a = get_or-drop k ys 0 0 ∙ rw o (sym d) in
    let j : get_or (drop k ys) 1 0 ≡ b = get_or-drop k ys 1 0 ∙ sym e in
    let m : p % 8 + w ≤ 8 * length (drop k ys) = rw (length-drop k ys) (omega arith) in
    rw (g, front_word (drop k ys) (p % 8) w a b (omega arith) l m i j f) (number_bits w ((a * 256 + b) / 2 ^ (16 - p % 8 - w)))

-- The bytes of one byte's bits, and of a word's.
pack_byte : (y : ℕ) → y < 256 → pack (bits 8 y) ≡ y ∷ []
unfolding byte_bits
pack_byte y h = ap pack (sym (append-nil (bits 8 y))) ∙ pack_bytes (y ∷ []) one
  where
    one : (k : ℕ) → k < 1 → get_or (y ∷ []) k 0 < 256
    one zero l = h
    one (suc k) l = absurd (omega arith)

low_byte : (x : ℕ) → bits 8 x ≡ bits 8 (x % 256)
low_byte x = let e : x ≡ x / 256 * 2 ^ 8 + x % 256 = omega arith in ap (bits 8) e ∙ bits_more 8 (x / 256) (x % 256)

pack_word : (x : ℕ) → x < 65536 → pack (bits 16 x) ≡ x / 256 ∷ x % 256 ∷ []
pack_word x h =
    ap pack (bits_split 8 8 x) ∙ pack_append 1 (bits 8 (x / 256)) (bits 8 x) (bits_length 8 (x / 256))
    ∙ ap₂ (λ (cs bs : List ℕ). cs ++ bs) (pack_byte (x / 256) (omega arith)) (ap pack (low_byte x) ∙ pack_byte (x % 256) (omega arith))

-- One field of up to 16 bits begins a word; zero bits fill it.
word_bit : (t v i : ℕ) → t ≤ 16 → get_or (bits t v) i false ≡ get_or (bits 16 (v * 2 ^ (16 - t))) i false
word_bit t v i l =
    let z : t + (16 - t) ≡ 16 = omega arith in
    let o : v * 2 ^ (16 - t) + 0 ≡ v * 2 ^ (16 - t) = omega arith in
    let e : bits 16 (v * 2 ^ (16 - t)) ≡ bits t v ++ replicate (16 - t) false =
    ap₂ (λ (n x : ℕ). bits n x) (sym z) (sym o) ∙ bits_join t (16 - t) v 0 (pow_pos (16 - t)) ∙ ap (λ (cs : List Bool). bits t v ++ cs) (bits_zero (16 - t)) in
    sym (ap (λ (cs : List Bool). get_or cs i false) e ∙ pad_bit (bits t v) (16 - t) i)

word_lt : (t v : ℕ) → t ≤ 16 → v < 2 ^ t → v * 2 ^ (16 - t) < 65536
word_lt t v l h = let z : t + (16 - t) ≡ 16 = omega arith in rw z at (shl_lt t (16 - t) h)

-- Its bytes: the word's two, or its first where it is no longer than that.
pack_two : (t v x : ℕ) → 8 < t → t ≤ 16 → v < 2 ^ t → x ≡ v * 2 ^ (16 - t) → pack (bits t v) ≡ x / 256 ∷ x % 256 ∷ []
pack_two t v x g l h e =
    let b : byte_count (length (bits t v)) ≡ byte_count (length (bits 16 x)) = rw (bits_length t v, bits_length 16 x) (omega arith) in
    pack_same (bits t v) (bits 16 x) b (λ i. rw e (word_bit t v i l)) ∙ pack_word x (rw e (word_lt t v l h))

pack_one : (t v x : ℕ) → 1 ≤ t → t ≤ 8 → v < 2 ^ t → x ≡ v * 2 ^ (16 - t) → pack (bits t v) ≡ x / 256 ∷ []
pack_one t v x g l h e =
    let n : byte_count (length (bits t v)) ≡ 1 = rw (bits_length t v) (omega arith) in
    let m : 0 < byte_count (length (bits 16 x)) = rw (bits_length 16 x) (omega arith) in
    ext_get_or 0 (pack (bits t v)) (x / 256 ∷ []) (pack_length (bits t v) ∙ n) (λ i q. first n m i (omega (arith, q, pack_length (bits t v), n)))
  where
    first : byte_count (length (bits t v)) ≡ 1 → 0 < byte_count (length (bits 16 x)) → (i : ℕ) → i < 1 → get_or (pack (bits t v)) i 0 ≡ get_or (x / 256 ∷ []) i 0
    first n m zero q =
        pack_at (bits t v) 0 (omega arith) ∙ byte_at_same (bits t v) (bits 16 x) 0 0 (λ j r. rw e (word_bit t v (8 * 0 + j) (omega arith)))
        ∙ sym (pack_at (bits 16 x) 0 m) ∙ ap (λ (cs : List ℕ). get_or cs 0 0) (pack_word x (rw e (word_lt t v (omega arith) h)))
    first n m (suc i) q = absurd (omega arith)

-- What stands before a field in its byte, and the field after it, are one field.
kept_bits : (h w x y : ℕ) → h ≤ 8 → x < 2 ^ w → take h (bits 8 y) ++ bits w x ≡ bits (h + w) (y / 2 ^ (8 - h) * 2 ^ w + x)
kept_bits h w x y l g =
    let z : h + (8 - h) ≡ 8 = omega arith in
    let e : take h (bits 8 y) ≡ bits h (y / 2 ^ (8 - h)) = ap (λ (n : ℕ). take h (bits n y)) (sym z) ∙ ap (take h) (bits_split h (8 - h) y) ∙ take_at (bits h (y / 2 ^ (8 - h))) (bits (8 - h) y) h (bits_length h (y / 2 ^ (8 - h))) in
    ap (λ (cs : List Bool). cs ++ bits w x) e ∙ sym (bits_join h w (y / 2 ^ (8 - h)) x g)

pub kept_lt : (h w x y : ℕ) → h ≤ 8 → y < 256 → x < 2 ^ w → y / 2 ^ (8 - h) * 2 ^ w + x < 2 ^ (h + w)
kept_lt h w x y l f g =
    let z : h + (8 - h) ≡ 8 = omega arith in
    let q : y / 2 ^ (8 - h) < 2 ^ h = shr_lt h (8 - h) (rw z f) in
    rw (pow-add 2 h w) (omega (arith, g, add-mul 1 (y / 2 ^ (8 - h)) (2 ^ w), one-mul (2 ^ w), mul-le-mul_right (2 ^ w) q))

module _ (ys : List ℕ) (p w x y word : ℕ) (some : 1 ≤ w) (few : w ≤ 8) (fits : x < 2 ^ w) (inside : p + w ≤ 8 * length ys)
    (here : y ≡ get_or ys (p / 8) 0) (byte : y < 256) (made : word ≡ (y / 2 ^ (8 - p % 8) * 2 ^ w + x) * 2 ^ (16 - (p % 8 + w))) where
  put_form : (zs : List ℕ) → pack (bits (p % 8 + w) (y / 2 ^ (8 - p % 8) * 2 ^ w + x)) ≡ zs → put_at ys p w x ≡ take (p / 8) ys ++ zs ++ drop (byte_count (p + w)) ys
  unfolding put_at
  put_form zs e = rw (← here, kept_bits (p % 8) w x y (omega arith) fits, e)

  -- A field put that ends in the byte where it begins,
  pub put_one : p % 8 + w ≤ 8 → set ys (p / 8) (word / 256) ≡ put_at ys p w x
  put_one l =
      let d : byte_count (p + w) ≡ suc (p / 8) = omega arith in
      let f = kept_lt (p % 8) w x y (omega arith) byte fits in
      let e = put_form (word / 256 ∷ []) (pack_one (p % 8 + w) _ word (omega arith) l f made) in
      let i : p / 8 < length ys = omega arith in
      set_split ys (p / 8) (word / 256) i ∙ sym (e ∙ append_assoc (take (p / 8) ys) (word / 256 ∷ []) _ ∙ ap (λ (n : ℕ). take (p / 8) ys ++ word / 256 ∷ drop n ys) d)

  -- or in the next.
  pub put_two : 8 < p % 8 + w → set (set ys (p / 8) (word / 256)) (p / 8 + 1) (word % 256) ≡ put_at ys p w x
  put_two l =
      let k = p / 8 in
      let d : byte_count (p + w) ≡ suc (suc k) = omega arith in
      let f = kept_lt (p % 8) w x y (omega arith) byte fits in
      let q : k + 1 ≡ suc k = omega arith in
      let r : suc k < length ys = omega arith in
      let a : set ys k (word / 256) ≡ (take k ys ++ word / 256 ∷ []) ++ get_or ys (suc k) 0 ∷ drop (suc (suc k)) ys =
      set_split ys k (word / 256) (omega arith) ∙ rw (drop-cons ys (suc k) 0 r) (sym (append_assoc (take k ys) (word / 256 ∷ []) _)) in
      let n : length (take k ys ++ word / 256 ∷ []) ≡ suc k = length-append (take k ys) (word / 256 ∷ []) ∙ rw (length-take-le k ys (omega arith)) (omega arith) in
      let b = set_at (take k ys ++ word / 256 ∷ []) (get_or ys (suc k) 0) (drop (suc (suc k)) ys) (word % 256) (suc k) n in
      let e = put_form (word / 256 ∷ word % 256 ∷ []) (pack_two (p % 8 + w) _ word l (omega arith) f made) in
      ap₂ (λ (cs : List ℕ) (n : ℕ). set cs n (word % 256)) a q ∙ b ∙ append_assoc (take k ys) (word / 256 ∷ []) (word % 256 ∷ drop (suc (suc k)) ys)
      ∙ sym (e ∙ append_assoc (take k ys) (word / 256 ∷ word % 256 ∷ []) _ ∙ ap (λ (n : ℕ). take k ys ++ word / 256 ∷ word % 256 ∷ drop n ys) d)

-- The byte of up to eight bits begins with them.
byte_front : (bs : List Bool) (h : ℕ) → length bs ≡ h → h ≤ 8 → take h (bits 8 (byte_at bs 0)) ≡ bs
byte_front bs h l m =
    let t = tabulate (λ j. get_or bs (8 * 0 + j) false) 8 in
    let n : length (take h t) ≡ h = length-take-le h t (rw (tabulate_length (λ j. get_or bs (8 * 0 + j) false) 8) m) in
    rw (byte_at_bits bs 0)
    (ext_get_or false (take h t) bs (n ∙ sym l)
    (λ i q. let r : i < h = rw n at q in
    let z : 8 * 0 + i ≡ i = omega arith in
    get_or-take h t i false r ∙ tabulate_at (λ j. get_or bs (8 * 0 + j) false) 8 i false (omega arith) ∙ ap (λ (x : ℕ). get_or bs x false) z))

-- The same where the byte stands first among others.
kept_front : (bs : List Bool) (h : ℕ) (zs : List ℕ) → length bs ≡ h → h ≤ 8 → take h (bits 8 (get_or (pack bs ++ zs) 0 0)) ≡ bs
kept_front bs zero zs l m = none bs l
  where
    none : (bs : List Bool) → length bs ≡ 0 → [] ≡ bs
    none [] e = refl
    none (b ∷ bs) e = absurd (omega arith)
kept_front bs (suc h) zs l m =
    let n : 0 < byte_count (length bs) = rw l (omega arith) in
    let i : 0 < length (pack bs) = rw (pack_length bs) n in
    rw (get_or-append (pack bs) zs 0 0 i, pack_at bs 0 n) (byte_front bs (suc h) l m)

-- A field put after bits that were packed gives the bytes of both.
pub put_more : (bs : List Bool) (out : List ℕ) (p w x : ℕ) → length bs ≡ p → p + w ≤ 8 * length out
    → put_at (pack bs ++ drop (byte_count p) out) p w x ≡ pack (bs ++ bits w x) ++ drop (byte_count (p + w)) out
unfolding put_at
put_more bs out p w x l m =
    let k = p / 8 in
    let h = p % 8 in
    let zs = pack bs ++ drop (byte_count p) out in
    let a : length (take (8 * k) bs) ≡ 8 * k = length-take-le (8 * k) bs (omega arith) in
    let c : pack bs ≡ pack (take (8 * k) bs) ++ pack (drop (8 * k) bs) = ap pack (sym (take-append-drop (8 * k) bs)) ∙ pack_append k (take (8 * k) bs) (drop (8 * k) bs) a in
    let n : length (pack (take (8 * k) bs)) ≡ k = pack_length (take (8 * k) bs) ∙ rw a (omega arith) in
    let e : zs ≡ pack (take (8 * k) bs) ++ (pack (drop (8 * k) bs) ++ drop (byte_count p) out) = ap (λ (cs : List ℕ). cs ++ drop (byte_count p) out) c ∙ append_assoc (pack (take (8 * k) bs)) (pack (drop (8 * k) bs)) (drop (byte_count p) out) in
    let f : take k zs ≡ pack (take (8 * k) bs) = ap (take k) e ∙ take_at (pack (take (8 * k) bs)) _ k n in
    let o : length (pack (take (8 * k) bs)) + 0 ≡ k = omega arith in
    let v : get_or zs k 0 ≡ get_or (pack (drop (8 * k) bs) ++ drop (byte_count p) out) 0 0 =
    ap₂ (λ (cs : List ℕ) (q : ℕ). get_or cs q 0) e (sym o) ∙ get_or-append-add (pack (take (8 * k) bs)) _ 0 0 in
    let r : length (drop (8 * k) bs) ≡ h = length-drop (8 * k) bs ∙ omega arith in
    let g : take h (bits 8 (get_or zs k 0)) ≡ drop (8 * k) bs = rw v (kept_front (drop (8 * k) bs) h (drop (byte_count p) out) r (omega arith)) in
    let b : length (pack bs) ≡ byte_count p = pack_length bs ∙ rw l in
    let q : byte_count (p + w) ≡ length (pack bs) + (byte_count (p + w) - byte_count p) = omega arith in
    let y : byte_count p + (byte_count (p + w) - byte_count p) ≡ byte_count (p + w) = omega arith in
    let i : drop (byte_count (p + w)) zs ≡ drop (byte_count (p + w)) out =
    ap (λ (n : ℕ). drop n zs) q ∙ drop-append-add (pack bs) (drop (byte_count p) out) (byte_count (p + w) - byte_count p)
    ∙ drop-drop (byte_count (p + w) - byte_count p) (byte_count p) out ∙ ap (λ (n : ℕ). drop n out) y in
    let j : pack (take (8 * k) bs) ++ pack (drop (8 * k) bs ++ bits w x) ≡ pack (bs ++ bits w x) =
    sym (pack_append k (take (8 * k) bs) (drop (8 * k) bs ++ bits w x) a) ∙ ap pack (sym (append_assoc (take (8 * k) bs) (drop (8 * k) bs) (bits w x)) ∙ ap (λ (cs : List Bool). cs ++ bits w x) (take-append-drop (8 * k) bs)) in
    ap (λ (cs : List ℕ). take k zs ++ pack (take h (bits 8 (get_or zs k 0)) ++ bits w x) ++ cs) i
    ∙ rw (f, g) (ap (λ (cs : List ℕ). cs ++ drop (byte_count (p + w)) out) j)
