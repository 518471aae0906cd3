-- Words and marks and their numbers.
-- Assumes nothing.
use Prim.Native.Nat.{ℕ, zero, suc, ◌≤◌}
use native.Mathlib.Omega.{arith}
use mathlib.Core.Path.{◌≡◌, refl, sym, ap, ◌∙◌}
use mathlib.Core.Bool.{Bool, true, false, cond}
use mathlib.Core.List.{List, [], ◌∷◌}
use lib.Dec.{eqb, ltb}
use lib.ListN.{length, take}
use Rattle.laws.specs.Limits.{name_limit}
use Rattle.classes.specs.Classes.{class_of}
use Rattle.text.specs.Tokens.{Token, word, name, long, bad, same_letters, one_further, place, reserved, mark_of, run, run_token, word_or_name, equals_first, token_here}
use Rattle.text.specs.Words.{word_number, word_by_number}
use Rattle.text.specs.declared.Word.{Word}
use Rattle.text.specs.declared.Word.TheVariants as w

pub word_numbered : (x : Word) → word_by_number (word_number x) ≡ x
word_numbered w.Slot = refl
word_numbered w.When = refl
word_numbered w.If = refl
word_numbered w.Then = refl
word_numbered w.And = refl
word_numbered w.Not = refl
word_numbered w.True = refl
word_numbered w.None = refl
word_numbered w.Open = refl
word_numbered w.Close = refl
word_numbered w.Comma = refl
word_numbered w.Semicolon = refl
word_numbered w.Becomes = refl
word_numbered w.Has = refl
word_numbered w.Gets = refl

-- Words with one number are one word.
pub same_word : (x y : Word) → word_number x ≡ word_number y → x ≡ y
same_word x y e = sym (word_numbered x) ∙ ap word_by_number e ∙ word_numbered y

pub positive : (x : Word) → word_number x ≡ 0 → ⊥
positive x e = absurd (go x e)
  where
    go : (x : Word) → word_number x ≡ 0 → ⊥
    go w.Slot e = omega arith
    go w.When e = omega arith
    go w.If e = omega arith
    go w.Then e = omega arith
    go w.And e = omega arith
    go w.Not e = omega arith
    go w.True e = omega arith
    go w.None e = omega arith
    go w.Open e = omega arith
    go w.Close e = omega arith
    go w.Comma e = omega arith
    go w.Semicolon e = omega arith
    go w.Becomes e = omega arith
    go w.Has e = omega arith
    go w.Gets e = omega arith

-- Of other numbers than these no word or mark is told.
abbrev pub Numbered : ℕ → Type 0
Numbered n = word_number (word_by_number n) ≡ n

pub mark_numbered : (b : ℕ) → Numbered (mark_of b)
unfolding mark_of
mark_numbered b = go (eqb b 123) (eqb b 125) (eqb b 44) (eqb b 59) (eqb b 42) (eqb b 124)
  where
    go : (c d e f g h : Bool) → Numbered (cond c 9 (cond d 10 (cond e 11 (cond f 12 (cond g 13 (cond h 14 15))))))
    go true d e f g h = refl
    go false true e f g h = refl
    go false false true f g h = refl
    go false false false true g h = refl
    go false false false false true h = refl
    go false false false false false true = refl
    go false false false false false false = refl

-- The place of a name that is a reserved word.
pub place_numbered : (n : List ℕ) (k : ℕ) → place n reserved ≡ suc k → Numbered (suc k)
unfolding reserved
place_numbered n k e = small k (under (place n reserved) (suc k) e (place_le n reserved))
  where
    place_le : (n : List ℕ) (ms : List (List ℕ)) → place n ms ≤ length ms
    place_le n [] = omega arith
    place_le n (m ∷ ms) = step (same_letters n m) (place n ms) (place_le n ms)
      where
        step : (t : Bool) (p : ℕ) → p ≤ length ms → cond t 1 (one_further p) ≤ suc (length ms)
        step true p h = omega arith
        step false zero h = omega arith
        step false (suc p) h = omega arith

    under : (p q : ℕ) → p ≡ q → p ≤ 8 → q ≤ 8
    under p q e h = omega arith

    small : (k : ℕ) → suc k ≤ 8 → Numbered (suc k)
    small zero h = refl
    small (suc zero) h = refl
    small (suc (suc zero)) h = refl
    small (suc (suc (suc zero))) h = refl
    small (suc (suc (suc (suc zero)))) h = refl
    small (suc (suc (suc (suc (suc zero))))) h = refl
    small (suc (suc (suc (suc (suc (suc zero)))))) h = refl
    small (suc (suc (suc (suc (suc (suc (suc zero))))))) h = refl
    small (suc (suc (suc (suc (suc (suc (suc (suc k)))))))) h = absurd (omega arith)

-- A token that is a word or a mark has a number of one.
abbrev pub TokenNumbered : Token → Type 0
TokenNumbered (word n) = Numbered n
TokenNumbered (name n) = Unit
TokenNumbered long = Unit
TokenNumbered bad = Unit

run_numbered : (p : ℕ) (l : List ℕ) → TokenNumbered (run_token p l)
unfolding run_token
run_numbered p l = go (ltb name_limit (length l)) (place l reserved) refl
  where
    go : (t : Bool) (k : ℕ) → place l reserved ≡ k → TokenNumbered (cond t long (word_or_name (record { start = p; letters = l }) k))
    go true k e = tt
    go false zero e = tt
    go false (suc k) e = place_numbered l k e

pub here_numbered : (p x : ℕ) (xs : List ℕ) → TokenNumbered (token_here p x xs)
unfolding token_here
here_numbered p x xs = go (eqb (class_of x) 2) (eqb (class_of x) 4) (eqb (class_of x) 5) (equals_first xs)
  where
    go : (a b c d : Bool) → TokenNumbered (cond a (run_token p (x ∷ take (run xs) xs)) (cond b (word (mark_of x)) (cond c (cond d (word (mark_of x)) bad) bad)))
    go true b c d = run_numbered p (x ∷ take (run xs) xs)
    go false true c d = mark_numbered x
    go false false true true = mark_numbered x
    go false false true false = tt
    go false false false d = tt
