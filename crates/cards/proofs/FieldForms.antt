-- The values and the changes of packed bytes as fields one after the other.
-- Assumes nothing.
use mathlib.Core.Path.{◌≡◌, refl, sym, ap, ap₂, ◌∙◌}
use mathlib.Core.List.{List, [], ◌∷◌, map, tail-eq_of_cons-eq}
use Prim.Native.Nat.{ℕ, zero, suc, ◌+◌, ◌*◌, ◌<◌}
use native.Mathlib.Omega.{arith}
use lib.Dec.{T, lt→ltb}
use lib.ListN.{length, get_or, replicate}
use Rattle.laws.specs.Listed.{all_of}
use Rattle.laws.specs.Tabulated.{tabulate}
use Rattle.laws.specs.Packed.{Field, field, field_at, fields_at, bits_in, field_fits}
use Rattle.laws.proofs.Truth.{and_i}
use Rattle.laws.proofs.Tabulated.{tabulate_length, tabulate_at, is_tabulate}
use Rattle.model.specs.Rules.{Pair}
use Rattle.model.specs.Result.{pair}
use Rattle.cards.specs.Forms.{card_fields, change_fields, slip_fields, card_bits, slip_bits, count_in, values_in, changes_in}
use Rattle.cards.proofs.Tested.{no_pair}
use Rattle.cards.proofs.Taken.{values_length, changes_length}

tabulate_same : {A : Type 0} (f g : ℕ → A) (n : ℕ) (d : A) → ((i : ℕ) → f i ≡ g i) → tabulate f n ≡ tabulate g n
tabulate_same f g n d e = is_tabulate g n d (tabulate f n) (tabulate_length f n) (λ i h. tabulate_at f n i d h ∙ e i)

-- The widths of a card's fields, and of a slip's.
abbrev pub card_bits_sum : ℕ → List ℕ
card_bits_sum n = 6 ∷ replicate n 4

unfoldable pub change_widths : ℕ → List ℕ
change_widths zero = []
change_widths (suc m) = 5 ∷ 4 ∷ change_widths m

abbrev pub slip_bits_sum : ℕ → List ℕ
slip_bits_sum m = 6 ∷ change_widths m

-- Their sums.
values_in_bits : (n : ℕ) → bits_in (replicate n 4) ≡ 4 * n
unfolding bits_in
values_in_bits zero = refl
values_in_bits (suc n) = omega (arith, values_in_bits n)

pub card_in_bits : (n : ℕ) → bits_in (card_bits_sum n) ≡ card_bits n
unfolding bits_in
card_in_bits n = ap (λ (k : ℕ). 6 + k) (values_in_bits n)

changes_in_bits : (m : ℕ) → bits_in (change_widths m) ≡ 9 * m
unfolding bits_in change_widths
changes_in_bits zero = refl
changes_in_bits (suc m) = omega (arith, changes_in_bits m)

pub slip_in_bits : (m : ℕ) → bits_in (slip_bits_sum m) ≡ slip_bits m
unfolding bits_in
slip_in_bits m = ap (λ (k : ℕ). 6 + k) (changes_in_bits m)

-- The widths of the fields of a form.
values_widths : (vs : List ℕ) → map (λ f. f.width) (map (field 4) vs) ≡ replicate (length vs) 4
values_widths [] = refl
values_widths (v ∷ vs) = ap (λ (ws : List ℕ). 4 ∷ ws) (values_widths vs)

pub card_field_widths : (vs : List ℕ) → map (λ f. f.width) (card_fields vs) ≡ card_bits_sum (length vs)
unfolding card_fields
card_field_widths vs = ap (λ (ws : List ℕ). 6 ∷ ws) (values_widths vs)

changes_widths : (ps : List Pair) → map (λ f. f.width) (change_fields ps) ≡ change_widths (length ps)
unfolding change_fields change_widths
changes_widths [] = refl
changes_widths (p ∷ ps) = ap (λ (ws : List ℕ). 5 ∷ 4 ∷ ws) (changes_widths ps)

pub slip_field_widths : (ps : List Pair) → map (λ f. f.width) (slip_fields ps) ≡ slip_bits_sum (length ps)
unfolding slip_fields
slip_field_widths ps = ap (λ (ws : List ℕ). 6 ∷ ws) (changes_widths ps)

-- The values read by place are the fields read one after the other.
values_fields : (ys : List ℕ) (n p : ℕ) → map (field 4) (tabulate (λ i. field_at ys (p + 4 * i) 4) n) ≡ fields_at ys p (replicate n 4)
unfolding tabulate fields_at
values_fields ys zero p = refl
values_fields ys (suc n) p =
    let z : p + 4 * 0 ≡ p = omega arith in
    let e = tabulate_same (λ i. field_at ys (p + 4 * suc i) 4) (λ i. field_at ys (p + 4 + 4 * i) 4) n 0 (λ i. (let y : p + 4 * suc i ≡ p + 4 + 4 * i = omega arith in ap (λ (q : ℕ). field_at ys q 4) y)) in
    ap₂ (λ (x : ℕ) (fs : List Field). field 4 (field_at ys x 4) ∷ fs) z (ap (map (field 4)) e ∙ values_fields ys n (p + 4))

pub card_read_fields : (ys : List ℕ) → card_fields (values_in ys) ≡ fields_at ys 0 (card_bits_sum (count_in ys))
unfolding card_fields fields_at values_in
card_read_fields ys = ap₂ (λ (k : ℕ) (fs : List Field). field 6 k ∷ fs) (values_length ys) (values_fields ys (count_in ys) 6)

-- So are the changes.
changes_fields : (ys : List ℕ) (m p : ℕ) → change_fields (tabulate (λ j. pair (field_at ys (p + 9 * j) 5) (field_at ys (p + 5 + 9 * j) 4)) m) ≡ fields_at ys p (change_widths m)
unfolding tabulate fields_at change_fields change_widths
changes_fields ys zero p = refl
changes_fields ys (suc m) p =
    let z : p + 9 * 0 ≡ p = omega arith in
    let y : p + 5 + 9 * 0 ≡ p + 5 = omega arith in
    let x : p + 9 ≡ p + 5 + 4 = omega arith in
    let e = tabulate_same (λ j. pair (field_at ys (p + 9 * suc j) 5) (field_at ys (p + 5 + 9 * suc j) 4)) (λ j. pair (field_at ys (p + 9 + 9 * j) 5) (field_at ys (p + 9 + 5 + 9 * j) 4)) m no_pair
    (λ j. (let a : p + 9 * suc j ≡ p + 9 + 9 * j = omega arith in let b : p + 5 + 9 * suc j ≡ p + 9 + 5 + 9 * j = omega arith in ap₂ (λ (q r : ℕ). pair (field_at ys q 5) (field_at ys r 4)) a b)) in
    let r = ap change_fields e ∙ changes_fields ys m (p + 9) ∙ ap (λ (q : ℕ). fields_at ys q (change_widths m)) x in
    ap₂ (λ (q : ℕ) (fs : List Field). field 5 (field_at ys q 5) ∷ fs) z (ap₂ (λ (q : ℕ) (fs : List Field). field 4 (field_at ys q 4) ∷ fs) y r)

pub slip_read_fields : (ys : List ℕ) → slip_fields (changes_in ys) ≡ fields_at ys 0 (slip_bits_sum (count_in ys))
unfolding slip_fields fields_at changes_in
slip_read_fields ys = ap₂ (λ (k : ℕ) (fs : List Field). field 6 k ∷ fs) (changes_length ys) (changes_fields ys (count_in ys) 6)

-- Fields tell their numbers: a card by its fields,
values_of_fields : (vs us : List ℕ) → map (field 4) vs ≡ map (field 4) us → vs ≡ us
values_of_fields vs us e = sym (numbers vs) ∙ ap (map (λ (f : Field). f.number)) e ∙ numbers us
  where
    numbers : (vs : List ℕ) → map (λ (f : Field). f.number) (map (field 4) vs) ≡ vs
    numbers [] = refl
    numbers (v ∷ vs) = ap (λ (ws : List ℕ). v ∷ ws) (numbers vs)

pub card_by_fields : (vs us : List ℕ) → card_fields vs ≡ card_fields us → vs ≡ us
unfolding card_fields
card_by_fields vs us e = values_of_fields vs us (tail-eq_of_cons-eq e)

-- a slip by its fields.
paired : List Field → List Pair
paired [] = []
paired (f ∷ []) = []
paired (f ∷ g ∷ fs) = pair f.number g.number ∷ paired fs

paired_changes : (ps : List Pair) → paired (change_fields ps) ≡ ps
unfolding change_fields paired
paired_changes [] = refl
paired_changes (p ∷ ps) = ap (λ (qs : List Pair). p ∷ qs) (paired_changes ps)

pub slip_by_fields : (ps qs : List Pair) → slip_fields ps ≡ slip_fields qs → ps ≡ qs
unfolding slip_fields
slip_by_fields ps qs e = sym (paired_changes ps) ∙ ap paired (tail-eq_of_cons-eq e) ∙ paired_changes qs

-- The fields of forms within their ranges fit.
pub card_fields_fit : (vs : List ℕ) → length vs < 64 → ((i : ℕ) → i < length vs → get_or vs i 0 < 16) → T (all_of field_fits (card_fields vs))
unfolding card_fields all_of
card_fields_fit vs h g = and_i _ _ (lt→ltb (length vs) 64 h) (values_fit vs g)
  where
    values_fit : (vs : List ℕ) → ((i : ℕ) → i < length vs → get_or vs i 0 < 16) → T (all_of field_fits (map (field 4) vs))
    values_fit [] g = tt
    values_fit (v ∷ vs) g = and_i _ _ (lt→ltb v 16 (g 0 (omega arith))) (values_fit vs (λ i h. g (suc i) (omega arith)))

pub slip_fields_fit : (ps : List Pair) → length ps < 64 → ((j : ℕ) → j < length ps → ((get_or ps j no_pair).slot < 32) × ((get_or ps j no_pair).value < 16)) → T (all_of field_fits (slip_fields ps))
unfolding slip_fields change_fields all_of
slip_fields_fit ps h g = and_i _ _ (lt→ltb (length ps) 64 h) (changes_fit ps g)
  where
    changes_fit : (ps : List Pair) → ((j : ℕ) → j < length ps → ((get_or ps j no_pair).slot < 32) × ((get_or ps j no_pair).value < 16)) → T (all_of field_fits (change_fields ps))
    changes_fit [] g = tt
    changes_fit (p ∷ ps) g = and_i _ _ (lt→ltb p.slot 32 (g 0 (omega arith)).0) (and_i _ _ (lt→ltb p.value 16 (g 0 (omega arith)).1) (changes_fit ps (λ j h. g (suc j) (omega arith))))
