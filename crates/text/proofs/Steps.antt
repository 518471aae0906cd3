-- What a text begins with, one byte at a time, at a position.
-- Assumes nothing.
use Rattle.std.proofs.lemmas.List.Folds.{length-prefix_len}
use borrow.Author.Tests.{ltb-true, ltb-false}
use lib.ListN.{drop_of_length-le}
use Prim.Native.Nat.{min, ℕ, zero, suc, ◌+◌, ◌-◌}
use native.Mathlib.Omega.{arith}
use mathlib.Core.Path.{◌≡◌, refl, sym, ap, ◌∙◌}
use mathlib.Core.Bool.{Bool, true, false, cond, ◌&&◌}
use mathlib.Core.List.{List, [], ◌∷◌, ◌++◌}
use lib.Dec.{eqb, ltb}
use lib.ListN.{length, take, drop, length-drop}
use lib.Seq.{drop-drop}
use Rattle.std.specs.List.{starts_with}
use Rattle.std.proofs.lemmas.List.{take_all}
use Rattle.std.proofs.lemmas.Slice.Eq.{starts_is}
use Rattle.std.proofs.lemmas.Bool.Decides.{Decides-eqb}
use Rattle.std.specs.List.{prefix_len}
use Rattle.std.specs.Cmp.Lexicographic.{pointwise}
use Rattle.classes.specs.Classes.{one_of, class_of}
use Rattle.text.specs.Tokens.{Name, run, same_letters, one_further, place, word_or_name}
use Rattle.text.specs.Next.{white, coded}
use Rattle.text.specs.Words.{word_by_number}
use Rattle.text.specs.declared.Token.TheVariants as v

-- The white at the front is the elements from the front on that are white.
pub prefix_white : (s : List ℕ) → prefix_len (λ x. eqb (class_of x) 1) s ≡ white s
unfolding white
prefix_white [] = refl
prefix_white (x ∷ xs) = let z : 1 + white xs ≡ suc (white xs) = omega arith in rw (prefix_white xs, z)

pub prefix_run : (s : List ℕ) → prefix_len (λ x. one_of (2 ∷ 3 ∷ []) (class_of x)) s ≡ run s
unfolding run
prefix_run [] = refl
prefix_run (x ∷ xs) = let z : 1 + run xs ≡ suc (run xs) = omega arith in rw (prefix_run xs, z)

-- Sixteen spaces are white.
abbrev pub spaces : List ℕ
spaces = 32 ∷ 32 ∷ 32 ∷ 32 ∷ 32 ∷ 32 ∷ 32 ∷ 32 ∷ 32 ∷ 32 ∷ 32 ∷ 32 ∷ 32 ∷ 32 ∷ 32 ∷ 32 ∷ []

white_spaces : (xs : List ℕ) → white (spaces ++ xs) ≡ 16 + white xs
unfolding white class_of
white_spaces xs = omega arith

pub blank_over : (s : List ℕ) (i : ℕ) (r : Bool) → r ≡ starts_with eqb (take (length s - i) (drop i s)) spaces → r ≡ true → white (drop i s) ≡ 16 + white (drop (i + 16) s)
blank_over s i r e t =
    let l = length-drop i s in
    let z : take (length s - i) (drop i s) ≡ drop i s = take_all (length s - i) (drop i s) (omega arith) in
    let f : r ≡ starts_with eqb (drop i s) spaces = rw z at e in
    ap white ((starts_is Decides-eqb (drop i s) spaces r f).0 t ∙ ap (λ (xs : List ℕ). spaces ++ xs) (drop-drop 16 i s)) ∙ white_spaces (drop (i + 16) s)

-- Two names compared.
pub pointwise_same : (a b : List ℕ) → pointwise eqb a b ≡ same_letters a b
pointwise_same [] [] = refl
pointwise_same [] (y ∷ ys) = refl
pointwise_same (x ∷ xs) [] = refl
pointwise_same (x ∷ xs) (y ∷ ys) = go (eqb x y) (pointwise_same xs ys)
  where
    go : (t : Bool) → pointwise eqb xs ys ≡ same_letters xs ys → t && pointwise eqb xs ys ≡ cond t (same_letters xs ys) false
    go true e = e
    go false e = refl

-- The place of a name among words, counted on from `k`; 0 where it is not there.
abbrev pub counted : ℕ → List ℕ → List (List ℕ) → ℕ
counted k n [] = 0
counted k n (m ∷ ms) = cond (same_letters n m) k (counted (suc k) n ms)

abbrev further : ℕ → ℕ → ℕ
further k zero = 0
further k (suc j) = k + j

counted_from : (k : ℕ) (n : List ℕ) (ms : List (List ℕ)) → counted k n ms ≡ further k (place n ms)
counted_from k n [] = refl
counted_from k n (m ∷ ms) = go (same_letters n m) (place n ms) (counted_from (suc k) n ms)
  where
    go : (t : Bool) (p : ℕ) → counted (suc k) n ms ≡ further (suc k) p → cond t k (counted (suc k) n ms) ≡ further k (cond t 1 (one_further p))
    go true p e = omega arith
    go false zero e = e
    go false (suc p) e = e ∙ omega arith

-- A word's number is its place, counted from 1.
pub place_counted : (n : List ℕ) (ms : List (List ℕ)) → place n ms ≡ counted 1 n ms
place_counted n ms = sym (counted_from 1 n ms ∙ from_one (place n ms))
  where
    from_one : (p : ℕ) → further 1 p ≡ p
    from_one zero = refl
    from_one (suc p) = omega arith

-- What a run of name bytes is to the code.
pub coded_name : (n : Name) (k : ℕ) → k ≡ 0 → coded (word_or_name n k) ≡ v.Name (record { start = n.start; size = length n.letters })
coded_name n k e = rw e

pub coded_word : (n : Name) (k : ℕ) → (k ≡ 0 → ⊥) → coded (word_or_name n k) ≡ v.Word (word_by_number k)
coded_word n zero e = absurd (e refl)
coded_word n (suc k) e = refl

-- The part from a place on, or nothing where the place lies past the end.
pub part_from : (s : List ℕ) (at m : ℕ) → m ≡ min at (length s) → take (length s - m) (drop m s) ≡ drop at s
part_from s at m e =
    let l = length-drop m s in
    take_all (length s - m) (drop m s) (omega arith) ∙ go (ltb at (length s)) refl
  where
    go : (t : Bool) → ltb at (length s) ≡ t → drop m s ≡ drop at s
    go true f = let h = ltb-true at (length s) f in let z : m ≡ at = omega arith in rw z
    go false f = let h = ltb-false at (length s) f in let z : m ≡ length s = omega arith in rw (drop_of_length-le s {i = m} (omega arith), drop_of_length-le s {i = at} h)

-- The bytes that begin the part from a place on and pass a test, counted, are those that begin what stands there.
pub prefix_counted : (p : ℕ → Bool) (walk : List ℕ → ℕ) → ((xs : List ℕ) → prefix_len p xs ≡ walk xs) → (s : List ℕ) (at m r : ℕ) → m ≡ min at (length s)
    → r ≡ length (take (prefix_len p (take (length s - m) (drop m s))) (take (length s - m) (drop m s))) → r ≡ walk (drop at s)
prefix_counted p walk same s at m r e c = c ∙ length-prefix_len p (take (length s - m) (drop m s)) ∙ same (take (length s - m) (drop m s)) ∙ ap walk (part_from s at m e)
