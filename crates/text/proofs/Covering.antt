-- The tokens of a text cover it but for white.
-- Assumes nothing.
use Prim.Native.Nat.{ℕ, zero, suc, ◌+◌, ◌≤◌}
use native.Mathlib.Omega.{arith}
use mathlib.Core.Path.{◌≡◌, refl, sym, subst}
use mathlib.Core.Bool.{Bool, true, false, cond}
use mathlib.Core.List.{List, [], ◌∷◌, ◌++◌}
use lib.Dec.{eqb, ltb}
use lib.ListN.{length, take, drop, get_or, length-drop, take-append-drop}
use lib.Seq.{length-take-le}
use borrow.Author.Tests.{eqb-true, eqb-false, ne_eqb, ltb-true}
use Rattle.laws.specs.Limits.{name_limit}
use Rattle.laws.specs.Listed.{Each}
use Rattle.classes.specs.Classes.{one_of, between, class_of}
use Rattle.text.specs.Tokens.{word, long, bad, run, run_token, word_or_name, same_letters, one_further, place, reserved, mark_of, token_here, more_bytes, tokens_from, tokens}
use Rattle.text.specs.Covering.{marks, spelling, Spells, Covers, done, over_white, token}
use Rattle.text.proofs.Cut.{bytes_le}
use Rattle.text.proofs.Position.{tokens_skip}

-- Names compared as the same are the same.
pub same_letters_eq : (a b : List ℕ) → same_letters a b ≡ true → a ≡ b
same_letters_eq [] [] e = refl
same_letters_eq [] (y ∷ ys) e = absurd (let z : ◌≡◌ {A = ℕ} 0 1 = cc in omega arith)
same_letters_eq (x ∷ xs) [] e = absurd (let z : ◌≡◌ {A = ℕ} 0 1 = cc in omega arith)
same_letters_eq (x ∷ xs) (y ∷ ys) e = go (eqb x y) refl (same_letters_eq xs ys) e
  where
    go : (t : Bool) → eqb x y ≡ t → (same_letters xs ys ≡ true → xs ≡ ys) → cond t (same_letters xs ys) false ≡ true → x ∷ xs ≡ y ∷ ys
    go true f r g = let z = eqb-true x y f in rw (z, r g)
    go false f r g = absurd (let z : ◌≡◌ {A = ℕ} 0 1 = cc in omega arith)

-- A name at a place of a list of words is the word there, whatever words follow the list.
pub place_spelled : (n : List ℕ) (ms more : List (List ℕ)) (k : ℕ) → place n ms ≡ suc k → n ≡ get_or (ms ++ more) k []
place_spelled n [] more k e = absurd (omega arith)
place_spelled n (m ∷ ms) more k e = go (same_letters n m) refl (place n ms) (place_spelled n ms more) k e
  where
    go : (t : Bool) → same_letters n m ≡ t → (q : ℕ) → ((j : ℕ) → q ≡ suc j → n ≡ get_or (ms ++ more) j []) → (j : ℕ) → cond t 1 (one_further q) ≡ suc j → n ≡ get_or (m ∷ ms ++ more) j []
    go true f q r zero g = same_letters_eq n m f
    go true f q r (suc j) g = absurd (omega arith)
    go false f zero r j g = absurd (omega arith)
    go false f (suc q) r zero g = absurd (omega arith)
    go false f (suc q) r (suc j) g = r j (omega arith)

-- A run of name bytes is spelled by its token.
run_spells : (p : ℕ) (l : List ℕ) → Spells p (run_token p l) l
unfolding run_token Spells spelling
run_spells p l = go (ltb name_limit (length l)) refl (place l reserved) (place_spelled l reserved _)
  where
    go : (t : Bool) → ltb name_limit (length l) ≡ t → (w : ℕ) → ((k : ℕ) → w ≡ suc k → l ≡ get_or (reserved ++ marks) k [])
        → Spells p (cond t long (word_or_name (record { start = p; letters = l }) w)) l
    go true e w f = ltb-true name_limit (length l) e
    go false e zero f = (refl, refl)
    go false e (suc k) f = f k refl

-- The class by its seven tests.
abbrev chosen : Bool → Bool → Bool → Bool → Bool → Bool → Bool → ℕ
chosen a b c d e f g = cond a 1 (cond b 2 (cond c 2 (cond d 2 (cond e 3 (cond f 4 (cond g 5 0))))))

-- A byte of class 4 or 5 is one of the listed ones.
class_listed : (x : ℕ) → (class_of x ≡ 4 → one_of (123 ∷ 125 ∷ 44 ∷ 59 ∷ []) x ≡ true) × (class_of x ≡ 5 → one_of (42 ∷ 124 ∷ 58 ∷ []) x ≡ true)
unfolding class_of
class_listed x =
    go (one_of (9 ∷ 10 ∷ 13 ∷ 32 ∷ []) x) (between 48 57 x) (between 65 90 x) (between 97 122 x) (eqb x 45) (one_of (123 ∷ 125 ∷ 44 ∷ 59 ∷ []) x) (one_of (42 ∷ 124 ∷ 58 ∷ []) x)
  where
    go : (a b c d e f g : Bool) → (chosen a b c d e f g ≡ 4 → f ≡ true) × (chosen a b c d e f g ≡ 5 → g ≡ true)
    go true b c d e f g = (λ h. absurd (omega arith), λ h. absurd (omega arith))
    go false true c d e f g = (λ h. absurd (omega arith), λ h. absurd (omega arith))
    go false false true d e f g = (λ h. absurd (omega arith), λ h. absurd (omega arith))
    go false false false true e f g = (λ h. absurd (omega arith), λ h. absurd (omega arith))
    go false false false false true f g = (λ h. absurd (omega arith), λ h. absurd (omega arith))
    go false false false false false true g = (λ h. refl, λ h. absurd (omega arith))
    go false false false false false false true = (λ h. absurd (omega arith), λ h. refl)
    go false false false false false false false = (λ h. absurd (omega arith), λ h. absurd (omega arith))

-- What each listed number has, a listed number has.
pub each_listed : (P : ℕ → Type 0) (x : ℕ) (ks : List ℕ) → one_of ks x ≡ true → Each P ks → P x
each_listed P x [] e h = absurd (let z : ◌≡◌ {A = ℕ} 0 1 = cc in omega arith)
each_listed P x (k ∷ ks) e h = go (eqb x k) refl (λ f. each_listed P x ks f h.1) e
  where
    go : (t : Bool) → eqb x k ≡ t → (one_of ks x ≡ true → P x) → cond t true (one_of ks x) ≡ true → P x
    go true f r g = subst P (sym (eqb-true x k f)) h.0
    go false f r g = r g

single_spelled : (x : ℕ) → class_of x ≡ 4 → x ∷ [] ≡ spelling (mark_of x)
unfolding spelling mark_of reserved
single_spelled x e = each_listed (λ (y : ℕ). y ∷ [] ≡ spelling (mark_of y)) x (123 ∷ 125 ∷ 44 ∷ 59 ∷ []) ((class_listed x).0 e) (refl, (refl, (refl, (refl, tt))))

double_spelled : (x : ℕ) → class_of x ≡ 5 → x ∷ 61 ∷ [] ≡ spelling (mark_of x)
unfolding spelling mark_of reserved
double_spelled x e = each_listed (λ (y : ℕ). y ∷ 61 ∷ [] ≡ spelling (mark_of y)) x (42 ∷ 124 ∷ 58 ∷ []) ((class_listed x).1 e) (refl, (refl, (refl, tt)))

-- The token that begins with a byte spells that byte and those that belong to it.
spells_two : (p x : ℕ) (xs : List ℕ) → class_of x ≡ 2 → Spells p (token_here p x xs) (x ∷ take (more_bytes x xs) xs)
unfolding token_here more_bytes
spells_two p x xs e = rw e (run_spells p (x ∷ take (run xs) xs))

spells_four : (p x : ℕ) (xs : List ℕ) → class_of x ≡ 4 → Spells p (token_here p x xs) (x ∷ take (more_bytes x xs) xs)
unfolding token_here more_bytes Spells
spells_four p x xs e = rw e (single_spelled x e)

spells_five : (p x : ℕ) (xs : List ℕ) → class_of x ≡ 5 → Spells p (token_here p x xs) (x ∷ take (more_bytes x xs) xs)
unfolding token_here more_bytes Spells
spells_five p x [] e = rw e refl
spells_five p x (y ∷ ys) e = rw e (go (eqb y 61) refl)
  where
    go : (t : Bool) → eqb y 61 ≡ t → Spells p (cond t (word (mark_of x)) bad) (x ∷ take (cond t 1 0) (y ∷ ys))
    go true f = rw (eqb-true y 61 f) (double_spelled x e)
    go false f = refl

spells_other : (p x : ℕ) (xs : List ℕ) → (class_of x ≡ 2 → ⊥) → (class_of x ≡ 4 → ⊥) → (class_of x ≡ 5 → ⊥) → Spells p (token_here p x xs) (x ∷ take (more_bytes x xs) xs)
unfolding token_here more_bytes Spells
spells_other p x xs a b c = rw (ne_eqb (class_of x) 2 a, ne_eqb (class_of x) 4 b, ne_eqb (class_of x) 5 c) refl

spells_here : (p x : ℕ) (xs : List ℕ) → Spells p (token_here p x xs) (x ∷ take (more_bytes x xs) xs)
spells_here p x xs = two (eqb (class_of x) 2) refl
  where
    five : (t : Bool) → eqb (class_of x) 5 ≡ t → (class_of x ≡ 2 → ⊥) → (class_of x ≡ 4 → ⊥) → Spells p (token_here p x xs) (x ∷ take (more_bytes x xs) xs)
    five true e a b = spells_five p x xs (eqb-true (class_of x) 5 e)
    five false e a b = spells_other p x xs a b (eqb-false (class_of x) 5 e)

    four : (t : Bool) → eqb (class_of x) 4 ≡ t → (class_of x ≡ 2 → ⊥) → Spells p (token_here p x xs) (x ∷ take (more_bytes x xs) xs)
    four true e a = spells_four p x xs (eqb-true (class_of x) 4 e)
    four false e a = five (eqb (class_of x) 5) refl a (eqb-false (class_of x) 4 e)

    two : (t : Bool) → eqb (class_of x) 2 ≡ t → Spells p (token_here p x xs) (x ∷ take (more_bytes x xs) xs)
    two true e = spells_two p x xs (eqb-true (class_of x) 2 e)
    two false e = four (eqb (class_of x) 4) refl (eqb-false (class_of x) 2 e)

white_alone : (x : ℕ) (xs : List ℕ) → class_of x ≡ 1 → more_bytes x xs ≡ 0
unfolding more_bytes
white_alone x xs e = rw e

-- A first token and a covered rest.
first_covers : (p x : ℕ) (xs : List ℕ) → Covers (suc p + more_bytes x xs) (drop (more_bytes x xs) xs) (tokens_from (drop (more_bytes x xs) xs) 0 (suc p + more_bytes x xs))
    → Covers p (x ∷ xs) (token_here p x xs ∷ tokens_from xs (more_bytes x xs) (suc p))
first_covers p x xs c =
    let m = more_bytes x xs in
    let l = length-take-le m xs (bytes_le x xs) in
    let z : suc p + m ≡ p + length (x ∷ take m xs) = omega arith in
    let d : Covers (p + length (x ∷ take m xs)) (drop m xs) (tokens_from (drop m xs) 0 (suc p + m)) = subst (λ (q : ℕ). Covers q (drop m xs) (tokens_from (drop m xs) 0 (suc p + m))) z c in
    rw (tokens_skip xs m (suc p)) (subst (λ (s : List ℕ). Covers p (x ∷ s) (token_here p x xs ∷ tokens_from (drop m xs) 0 (suc p + m))) (take-append-drop m xs)
    (token (x ∷ take m xs) (drop m xs) (spells_here p x xs) (omega arith) d))

covers_within : (f : ℕ) (s : List ℕ) (p : ℕ) → length s ≤ f → Covers p s (tokens_from s 0 p)
unfolding tokens_from
covers_within zero [] p h = done
covers_within zero (x ∷ xs) p h = absurd (omega arith)
covers_within (suc f) [] p h = done
covers_within (suc f) (x ∷ xs) p h =
    let l = length-drop (more_bytes x xs) xs in
    go (eqb (class_of x) 1) refl (covers_within f xs (suc p) (omega arith)) (covers_within f (drop (more_bytes x xs) xs) (suc p + more_bytes x xs) (omega arith))
  where
    go : (t : Bool) → eqb (class_of x) 1 ≡ t → Covers (suc p) xs (tokens_from xs 0 (suc p))
        → Covers (suc p + more_bytes x xs) (drop (more_bytes x xs) xs) (tokens_from (drop (more_bytes x xs) xs) 0 (suc p + more_bytes x xs))
        → Covers p (x ∷ xs) (cond t (tokens_from xs (more_bytes x xs) (suc p)) (token_here p x xs ∷ tokens_from xs (more_bytes x xs) (suc p)))
    go true e r c = let k = eqb-true (class_of x) 1 e in rw (white_alone x xs k) (over_white k r)
    go false e r c = first_covers p x xs c

-- THE TOKENS COVER THE TEXT: it is white bytes and the bytes of its tokens, in their order.
pub tokens_cover : (s : List ℕ) → Covers 0 s (tokens s)
unfolding tokens
tokens_cover s = covers_within (length s) s 0 (omega arith)
