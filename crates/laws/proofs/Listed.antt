-- Laws of tests and properties over lists, and of going through the first elements of a list one after the other.
-- Assumes nothing.
use Prim.Native.Nat.{ℕ, zero, suc, ◌+◌, ◌≤◌, ◌<◌}
use native.Mathlib.Numerals.{add-one}
use native.Mathlib.Omega.{arith}
use mathlib.Core.Path.{◌≡◌, refl, ap₂}
use mathlib.Core.Bool.{Bool, true, false}
use mathlib.Core.List.{List, [], ◌∷◌, ◌++◌, map}
use lib.Dec.{T}
use lib.ListN.{length, get_or, take, drop, length-map, length-take, drop_of_length-le, get_or-map}
use lib.Seq.{drop-cons, get_or-take}
use Rattle.laws.specs.Truth.{◌∧ᵇ◌}
use Rattle.laws.specs.Listed.{all_of, Each}
use Rattle.laws.proofs.Truth.{and_l, and_r, and_i}

-- What is left of the images of the first m elements begins with that of the next.
pub used_next : {A B : Type 0} (f : A → B) (m : ℕ) (xs : List A) (j : ℕ) (d : A) → j < m → j < length xs → drop j (map f (take m xs)) ≡ f (get_or xs j d) ∷ drop (j + 1) (map f (take m xs))
used_next f m xs j d h k =
    let i : j < length (map f (take m xs)) = rw (length-map, length-take) (omega arith) in
    rw (drop-cons (map f (take m xs)) j (f d) i, add-one j, get_or-map f (take m xs) j d, get_or-take m xs j d h)

-- In the end nothing is left.
pub used_end : {A B : Type 0} (f : A → B) (m : ℕ) (xs : List A) (j : ℕ) → m ≤ j → drop j (map f (take m xs)) ≡ []
used_end f m xs j h = drop_of_length-le (map f (take m xs)) {i = j} (rw (length-map, length-take) (omega arith))

-- A test over a list is one of each element.
pub all_i : {A : Type 0} (f : A → Bool) (xs : List A) (d : A) → ((i : ℕ) → i < length xs → T (f (get_or xs i d))) → T (all_of f xs)
unfolding all_of
all_i f [] d h = tt
all_i f (x ∷ xs) d h = and_i _ _ (h 0 (omega arith)) (all_i f xs d (λ i l. h (suc i) (omega arith)))

pub all_e : {A : Type 0} (f : A → Bool) (xs : List A) (d : A) → T (all_of f xs) → (i : ℕ) → i < length xs → T (f (get_or xs i d))
unfolding all_of
all_e f [] d t i l = absurd (omega arith)
all_e f (x ∷ xs) d t zero l = and_l _ _ t
all_e f (x ∷ xs) d t (suc i) l = all_e f xs d (and_r _ _ t) i (omega arith)

pub all_append : {A : Type 0} (f : A → Bool) (xs ys : List A) → all_of f (xs ++ ys) ≡ (all_of f xs ∧ᵇ all_of f ys)
unfolding all_of ◌∧ᵇ◌
all_append f [] ys = refl
all_append f (x ∷ xs) ys = rw (all_append f xs ys) (go (f x))
  where
    go : (b : Bool) → (b ∧ᵇ (all_of f xs ∧ᵇ all_of f ys)) ≡ ((b ∧ᵇ all_of f xs) ∧ᵇ all_of f ys)
    go true = refl
    go false = refl

-- Two tests that agree at each element agree over the list.
pub all_same : {A : Type 0} (f g : A → Bool) (xs : List A) → ((x : A) → f x ≡ g x) → all_of f xs ≡ all_of g xs
unfolding all_of
all_same f g [] h = refl
all_same f g (x ∷ xs) h = rw (h x, all_same f g xs h)

-- A property that each element has is that of the element at each place.
pub each_at : {A : Type 0} (P : A → Type 0) (xs : List A) (i : ℕ) (d : A) → Each P xs → i < length xs → P (get_or xs i d)
each_at P [] i d h l = absurd (omega arith)
each_at P (x ∷ xs) zero d h l = h.0
each_at P (x ∷ xs) (suc i) d h l = each_at P xs i d h.1 (omega arith)

-- What follows of each element has each image.
pub each_map : {A B : Type 0} (P : A → Type 0) (Q : B → Type 0) (f : A → B) (xs : List A) → ((x : A) → P x → Q (f x)) → Each P xs → Each Q (map f xs)
each_map P Q f [] k h = tt
each_map P Q f (x ∷ xs) k h = (k x h.0, each_map P Q f xs k h.1)

-- What follows of each element has each element.
pub each_imply : {A : Type 0} (P Q : A → Type 0) (xs : List A) → ((x : A) → P x → Q x) → Each P xs → Each Q xs
each_imply P Q [] k h = tt
each_imply P Q (x ∷ xs) k h = (k x h.0, each_imply P Q xs k h.1)

-- Two maps that agree on each element.
pub maps_alike : {A B : Type 0} (P : A → Type 0) (f g : A → B) (xs : List A) → ((x : A) → P x → f x ≡ g x) → Each P xs → map f xs ≡ map g xs
maps_alike P f g [] k h = refl
maps_alike {B = B} P f g (x ∷ xs) k h = ap₂ (λ (y : B) (ys : List B). y ∷ ys) (k x h.0) (maps_alike P f g xs k h.1)

-- An element more at the end.
pub each_last : {A : Type 0} (P : A → Type 0) (xs : List A) (x : A) → Each P xs → P x → Each P (xs ++ x ∷ [])
each_last P [] x h g = (g, tt)
each_last P (y ∷ xs) x h g = (h.0, each_last P xs x h.1 g)
