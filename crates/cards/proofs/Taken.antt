-- What bytes are read as, test by test; and the array that gathers what was read.
-- Assumes nothing.
use mathlib.Core.Path.{◌≡◌, refl, sym, ap, ◌∙◌}
use mathlib.Core.List.{List, [], ◌∷◌, ◌++◌, map}
use Prim.Native.Nat.{ℕ, suc, ◌+◌, ◌*◌, ◌≤◌, ◌<◌}
use native.Mathlib.Numerals.{add-one}
use native.Mathlib.Omega.{arith}
use lib.ListN.{length, get_or, take, set, replicate, length-map}
use lib.Seq.{take-suc, take_all, length-take-le}
use borrow.Author.Tests.{eq-eqb, ne_eqb}
use Rattle.laws.specs.Filled.{filled}
use Rattle.laws.specs.Packed.{byte_count, field_at}
use Rattle.laws.proofs.Filled.{filled_snoc}
use Rattle.laws.proofs.Lists.{map_append}
use Rattle.laws.proofs.Tabulated.{tabulate_length, tabulate_at}
use Rattle.model.specs.Result.{pair}
use Rattle.laws.specs.Limits.{slot_limit}
use Rattle.laws.specs.Answers.{passed, fault, taken, refused, after}
use Rattle.cards.specs.Forms.{card_bits, slip_bits, count_in, values_in, changes_in, padding, card_test, slip_test, read_card, read_slip}
use Rattle.cards.proofs.Tested.{no_pair}

-- As many values and changes as the bytes count, each at its place.
pub values_length : (ys : List ℕ) → length (values_in ys) ≡ count_in ys
unfolding values_in
values_length ys = tabulate_length (λ i. field_at ys (6 + 4 * i) 4) (count_in ys)

pub value_at : (ys : List ℕ) (i : ℕ) → i < count_in ys → get_or (values_in ys) i 0 ≡ field_at ys (6 + 4 * i) 4
unfolding values_in
value_at ys i h = tabulate_at (λ i. field_at ys (6 + 4 * i) 4) (count_in ys) i 0 h

pub changes_length : (ys : List ℕ) → length (changes_in ys) ≡ count_in ys
unfolding changes_in
changes_length ys = tabulate_length (λ j. pair (field_at ys (6 + 9 * j) 5) (field_at ys (11 + 9 * j) 4)) (count_in ys)

pub change_at : (ys : List ℕ) (j : ℕ) → j < count_in ys → get_or (changes_in ys) j no_pair ≡ pair (field_at ys (6 + 9 * j) 5) (field_at ys (11 + 9 * j) 4)
unfolding changes_in
change_at ys j h = tabulate_at (λ j. pair (field_at ys (6 + 9 * j) 5) (field_at ys (11 + 9 * j) 4)) (count_in ys) j no_pair h

module _ (counts ys : List ℕ) where
  pub card_short : (length ys ≡ byte_count (card_bits (count_in ys)) → ⊥) → read_card counts ys ≡ refused 20 0
  unfolding read_card
  card_short n = rw (ne_eqb (length ys) (byte_count (card_bits (count_in ys))) n)

  pub slip_short : (length ys ≡ byte_count (slip_bits (count_in ys)) → ⊥) → read_slip counts ys ≡ refused 24 0
  unfolding read_slip
  slip_short n = rw (ne_eqb (length ys) (byte_count (slip_bits (count_in ys))) n)

  module _ (long : length ys ≡ byte_count (card_bits (count_in ys))) where
    pub card_fault : (k s : ℕ) → card_test counts (values_in ys) ≡ fault k s → read_card counts ys ≡ refused k s
    unfolding read_card after
    card_fault k s e = rw (eq-eqb (length ys) (byte_count (card_bits (count_in ys))) long, e)

    pub card_padded : card_test counts (values_in ys) ≡ passed → (padding ys (card_bits (count_in ys)) ≡ 0 → ⊥) → read_card counts ys ≡ refused 23 0
    unfolding read_card after
    card_padded e n = rw (eq-eqb (length ys) (byte_count (card_bits (count_in ys))) long, e, ne_eqb (padding ys (card_bits (count_in ys))) 0 n)

    pub card_taken : card_test counts (values_in ys) ≡ passed → padding ys (card_bits (count_in ys)) ≡ 0 → read_card counts ys ≡ taken (values_in ys)
    unfolding read_card after
    card_taken e z = rw (eq-eqb (length ys) (byte_count (card_bits (count_in ys))) long, e, eq-eqb (padding ys (card_bits (count_in ys))) 0 z)

  module _ (long : length ys ≡ byte_count (slip_bits (count_in ys))) where
    pub slip_fault : (k s : ℕ) → slip_test counts (changes_in ys) ≡ fault k s → read_slip counts ys ≡ refused k s
    unfolding read_slip after
    slip_fault k s e = rw (eq-eqb (length ys) (byte_count (slip_bits (count_in ys))) long, e)

    pub slip_padded : slip_test counts (changes_in ys) ≡ passed → (padding ys (slip_bits (count_in ys)) ≡ 0 → ⊥) → read_slip counts ys ≡ refused 28 0
    unfolding read_slip after
    slip_padded e n = rw (eq-eqb (length ys) (byte_count (slip_bits (count_in ys))) long, e, ne_eqb (padding ys (slip_bits (count_in ys))) 0 n)

    pub slip_taken : slip_test counts (changes_in ys) ≡ passed → padding ys (slip_bits (count_in ys)) ≡ 0 → read_slip counts ys ≡ taken (changes_in ys)
    unfolding read_slip after
    slip_taken e z = rw (eq-eqb (length ys) (byte_count (slip_bits (count_in ys))) long, e, eq-eqb (padding ys (slip_bits (count_in ys))) 0 z)

-- Images by what changes nothing.
pub map_same : {A : Type 0} (xs : List A) → map (λ x. x) xs ≡ xs
map_same [] = refl
map_same (x ∷ xs) = ap (λ zs. x ∷ zs) (map_same xs)

-- The first i elements of a list gathered in an array, as `f` of each.
abbrev pub Gathered : {A B : Type 0} → (A → B) → B → List A → ℕ → List B → Type 0
Gathered f unused xs i places = places ≡ filled slot_limit unused (map f (take i xs))

pub gathered_start : {A B : Type 0} (f : A → B) (unused : B) (xs : List A) → Gathered f unused xs 0 (replicate slot_limit unused)
unfolding filled
gathered_start f unused xs = refl

pub gathered_next : {A B : Type 0} (f : A → B) (unused : B) (xs : List A) (i : ℕ) (d : A) (places : List B) → i < length xs → i < slot_limit
    → Gathered f unused xs i places → Gathered f unused xs (i + 1) (set places i (f (get_or xs i d)))
gathered_next f unused xs i d places h k g =
    let l : length (map f (take i xs)) ≡ i = length-map (take i xs) f ∙ length-take-le i xs (omega arith) in
    let e : map f (take (suc i) xs) ≡ map f (take i xs) ++ f (get_or xs i d) ∷ [] = ap (map f) (take-suc xs i d h) ∙ map_append f (take i xs) (get_or xs i d ∷ []) in
    rw (add-one i, g, e) (ap (λ (n : ℕ). set (filled slot_limit unused (map f (take i xs))) n (f (get_or xs i d))) (sym l) ∙ filled_snoc slot_limit unused (f (get_or xs i d)) (map f (take i xs)) (omega arith))

pub gathered_all : {A B : Type 0} (f : A → B) (unused : B) (xs : List A) (i : ℕ) (places : List B) → length xs ≤ i → Gathered f unused xs i places → places ≡ filled slot_limit unused (map f xs)
gathered_all f unused xs i places h g = g ∙ ap (λ zs. filled slot_limit unused (map f zs)) (take_all i xs h)
