-- Laws of arrays of which a number of places is used.
-- Assumes nothing.
use Prim.Native.Nat.{ℕ, zero, suc, ◌+◌, ◌-◌, ◌≤◌, ◌<◌}
use native.Mathlib.Omega.{arith}
use native.Mathlib.Numerals.{add-one}
use mathlib.Core.Path.{◌≡◌, refl, sym, ap, ◌∙◌}
use mathlib.Core.List.{List, [], ◌∷◌, ◌++◌, append_assoc}
use mathlib.Core.Logic.{⊎_elim}
use lib.ListN.{length, get_or, length-append, take, drop, set, replicate, length-set, length-replicate, take-append-drop, get_or-replicate, get_or-append, get_or-eq_default}
use lib.Seq.{length-take-le, take-suc-set, take-append_seam}
use Rattle.laws.specs.Filled.{filled}
use Rattle.laws.specs.inner.Filled.{Filled}
use Rattle.laws.proofs.Truth.{le_or_lt}

-- An array of one value has it at every place, as reading past the end gives.
pub replicate_at : {A : Type 0} (n : ℕ) (u : A) (i : ℕ) → get_or (replicate n u) i u ≡ u
replicate_at n u i = ⊎_elim (λ le. get_or-eq_default (replicate n u) u {n = i} (rw length-replicate le)) (λ lt. get_or-replicate n i u u lt) (le_or_lt n i)

-- No place is used.
pub filled_none : {A : Type 0} (n : ℕ) (unused : A) → Filled n unused (replicate n unused) 0
filled_none n unused = record { used = omega arith; size = length-replicate n unused; rest = let z : n - 0 ≡ n = omega arith in rw z }

drop_set : {A : Type 0} (xs : List A) (k : ℕ) (x : A) → drop (suc k) (set xs k x) ≡ drop (suc k) xs
drop_set [] zero x = refl
drop_set [] (suc k) x = refl
drop_set (y ∷ ys) zero x = refl
drop_set (y ∷ ys) (suc k) x = drop_set ys k x

drop_first : {A : Type 0} (xs : List A) (k m : ℕ) (u : A) → drop k xs ≡ replicate (suc m) u → drop (suc k) xs ≡ replicate m u
drop_first [] zero m u e = absurd (let z : ◌≡◌ {A = ℕ} 0 1 = cc in omega arith)
drop_first [] (suc k) m u e = absurd (let z : ◌≡◌ {A = ℕ} 0 1 = cc in omega arith)
drop_first (y ∷ ys) zero m u e = let z : ys ≡ replicate m u = cc in z
drop_first (y ∷ ys) (suc k) m u e = drop_first ys k m u e

-- One more place is used.
pub filled_add : {A : Type 0} (n : ℕ) (unused : A) (places : List A) (count : ℕ) (x : A) → Filled n unused places count → count < n → Filled n unused (set places count x) (count + 1)
filled_add n unused places count x F h =
    let z : n - count ≡ suc (n - suc count) = omega arith in
    record {
      used = omega arith;
      size = length-set places count x ∙ F.size;
      rest = rw (add-one count) (drop_set places count x ∙ drop_first places count (n - suc count) unused (F.rest ∙ ap (λ (k : ℕ). replicate k unused) z));
    }

-- The used places are those before and the new one.
pub filled_used : {A : Type 0} (n : ℕ) (unused : A) (places : List A) (count : ℕ) (x : A) → Filled n unused places count → count < n
    → take (count + 1) (set places count x) ≡ take count places ++ x ∷ []
filled_used n unused places count x F h =
    let l = F.size in
    ap (λ (k : ℕ). take k (set places count x)) (add-one count) ∙ take-suc-set places count x (omega arith)

-- The used places tell all.
pub filled_is : {A : Type 0} (n : ℕ) (unused : A) (places : List A) (count : ℕ) → Filled n unused places count → places ≡ filled n unused (take count places)
unfolding filled
filled_is n unused places count F =
    let u = F.used in
    let s = F.size in
    let l : length (take count places) ≡ count = length-take-le count places (omega arith) in
    sym (take-append-drop count places) ∙ rw l (ap (λ zs. take count places ++ zs) F.rest)

set_end : {A : Type 0} (xs : List A) (u x : A) (ys : List A) → set (xs ++ u ∷ ys) (length xs) x ≡ xs ++ x ∷ ys
set_end [] u x ys = refl
set_end (y ∷ xs) u x ys = ap (λ zs. y ∷ zs) (set_end xs u x ys)

-- A list filled up, with one more element in its place.
pub filled_snoc : {A : Type 0} (n : ℕ) (unused x : A) (xs : List A) → length xs < n → set (filled n unused xs) (length xs) x ≡ filled n unused (xs ++ x ∷ [])
unfolding filled
filled_snoc n unused x xs h =
    let l : length (xs ++ x ∷ []) ≡ suc (length xs) = length-append xs (x ∷ []) ∙ omega arith in
    let z : n - length xs ≡ suc (n - length (xs ++ x ∷ [])) = omega arith in
    ap (λ (k : ℕ). set (xs ++ replicate k unused) (length xs) x) z ∙ set_end xs unused x (replicate (n - length (xs ++ x ∷ [])) unused) ∙ sym (append_assoc xs (x ∷ []) _)

-- A list filled up has n places.
pub filled_length : {A : Type 0} (n : ℕ) (unused : A) (xs : List A) → length xs ≤ n → length (filled n unused xs) ≡ n
unfolding filled
filled_length n unused xs h = length-append xs (replicate (n - length xs) unused) ∙ rw (length-replicate (n - length xs) unused) (omega arith)

-- Its first places are the list.
pub filled_front : {A : Type 0} (n : ℕ) (unused : A) (xs : List A) → take (length xs) (filled n unused xs) ≡ xs
unfolding filled
filled_front n unused xs = take-append_seam xs (replicate (n - length xs) unused)

-- What stands at a used place.
pub used_at : {A : Type 0} (n : ℕ) (unused : A) (xs : List A) (i : ℕ) (d : A) → i < length xs → get_or (filled n unused xs) i d ≡ get_or xs i d
unfolding filled
used_at n unused xs i d h = get_or-append xs (replicate (n - length xs) unused) d i h

replicated : {A : Type 0} (P : A → Type 0) (u d : A) (k i : ℕ) → P u → i < k → P (get_or (replicate k u) i d)
replicated P u d zero i p h = absurd (omega arith)
replicated P u d (suc k) zero p h = p
replicated P u d (suc k) (suc i) p h = replicated P u d k i p (omega arith)

appended : {A : Type 0} (P : A → Type 0) (xs ys : List A) (d : A) → ((i : ℕ) → i < length xs → P (get_or xs i d)) → ((i : ℕ) → i < length ys → P (get_or ys i d))
    → (i : ℕ) → i < length (xs ++ ys) → P (get_or (xs ++ ys) i d)
appended P [] ys d f g i h = g i h
appended P (x ∷ xs) ys d f g zero h = f 0 (omega arith)
appended P (x ∷ xs) ys d f g (suc i) h = appended P xs ys d (λ j l. f (suc j) (omega arith)) g i (omega arith)

-- What holds of each element of the list and of `unused` holds at each place.
pub filled_each : {A : Type 0} (P : A → Type 0) (n : ℕ) (unused : A) (xs : List A) (d : A) → length xs ≤ n → P unused → ((i : ℕ) → i < length xs → P (get_or xs i d))
    → (i : ℕ) → i < n → P (get_or (filled n unused xs) i d)
unfolding filled
filled_each P n unused xs d few p f i h =
    let l : length (replicate (n - length xs) unused) ≡ n - length xs = length-replicate (n - length xs) unused in
    appended P xs (replicate (n - length xs) unused) d f (λ j k. replicated P unused d (n - length xs) j p (omega (arith, l, k))) i
    (omega (arith, h, few, l, length-append xs (replicate (n - length xs) unused)))
