-- Laws of tokens: a `;` cuts a text, a token does not depend on where its text stands, and a name is the text at its place.
-- Assumes nothing.
use Prim.Native.Nat.{ℕ, zero, suc, ◌+◌, ◌-◌, ◌≤◌}
use native.Mathlib.Omega.{arith}
use mathlib.Core.Path.{◌≡◌, refl, sym, ap, ap₂, ◌∙◌}
use mathlib.Core.Bool.{Bool, true, false, cond}
use mathlib.Core.List.{List, [], ◌∷◌, ◌++◌, map}
use lib.Dec.{eqb, ltb}
use borrow.Author.Tests.{ne_eqb}
use lib.ListN.{length, length-drop, take, drop}
use lib.Seq.{take-append-le, length-take-le}
use Rattle.laws.specs.Limits.{name_limit}
use Rattle.classes.specs.Classes.{one_of, class_of}
use Rattle.text.specs.Tokens.{Token, word, long, bad, OPEN, CLOSE, COMMA, SEMICOLON, BECOMES, HAS, GETS, reserved, mark_of, same_letters, one_further, place, word_or_name, run_token, run, equals_first, token_here, more_bytes, unless_white, tokens_from, tokens}
use Rattle.text.specs.Cut.{moved, NoSemi, is_semi, Free, before_semi, past_semi, TokenStands, AllStand}
use Rattle.laws.proofs.Lists.{drop_next}

run_cut : (xs b : List ℕ) → run (xs ++ 59 ∷ b) ≡ run xs
unfolding run class_of
run_cut [] b = refl
run_cut (x ∷ xs) b = ap (λ (k : ℕ). cond (one_of (2 ∷ 3 ∷ []) (class_of x)) (suc k) 0) (run_cut xs b)

-- A run lies in its text.
pub run_le : (xs : List ℕ) → run xs ≤ length xs
unfolding run
run_le [] = omega arith
run_le (x ∷ xs) = go (one_of (2 ∷ 3 ∷ []) (class_of x)) (run_le xs)
  where
    go : (t : Bool) → run xs ≤ length xs → cond t (suc (run xs)) 0 ≤ suc (length xs)
    go true h = omega arith
    go false h = omega arith

equals_cut : (xs b : List ℕ) → equals_first (xs ++ 59 ∷ b) ≡ equals_first xs
equals_cut [] b = refl
equals_cut (x ∷ xs) b = refl

letters_cut : (xs b : List ℕ) → take (run (xs ++ 59 ∷ b)) (xs ++ 59 ∷ b) ≡ take (run xs) xs
letters_cut xs b = rw (run_cut xs b) (take-append-le (run xs) xs (59 ∷ b) (run_le xs))

token_cut : (p x : ℕ) (xs b : List ℕ) → token_here p x (xs ++ 59 ∷ b) ≡ token_here p x xs
unfolding token_here
token_cut p x xs b = rw (letters_cut xs b, equals_cut xs b)

bytes_cut : (x : ℕ) (xs b : List ℕ) → more_bytes x (xs ++ 59 ∷ b) ≡ more_bytes x xs
unfolding more_bytes
bytes_cut x xs b = rw (run_cut xs b, equals_cut xs b)

pub equals_le : (xs : List ℕ) → cond (equals_first xs) 1 0 ≤ length xs
equals_le [] = omega arith
equals_le (x ∷ xs) = go (eqb x 61)
  where
    go : (t : Bool) → cond t 1 0 ≤ suc (length xs)
    go true = omega arith
    go false = omega arith

pub bytes_le : (x : ℕ) (xs : List ℕ) → more_bytes x xs ≤ length xs
unfolding more_bytes
bytes_le x xs = go (eqb (class_of x) 2) (eqb (class_of x) 5)
  where
    go : (s t : Bool) → cond s (run xs) (cond t (cond (equals_first xs) 1 0) 0) ≤ length xs
    go true t = run_le xs
    go false true = equals_le xs
    go false false = omega arith

unless_append : (x : ℕ) (t : Token) (ts us : List Token) → unless_white x t (ts ++ us) ≡ unless_white x t ts ++ us
unless_append x t ts us = go (eqb (class_of x) 1)
  where
    go : (w : Bool) → cond w (ts ++ us) (t ∷ (ts ++ us)) ≡ cond w ts (t ∷ ts) ++ us
    go true = refl
    go false = refl

-- The tokens from a byte that belongs to no token before it.
pub tokens_step : (x : ℕ) (xs : List ℕ) (p : ℕ) → tokens_from (x ∷ xs) 0 p ≡ unless_white x (token_here p x xs) (tokens_from xs (more_bytes x xs) (suc p))
unfolding tokens_from
tokens_step x xs p = refl

cut_here : (p x : ℕ) (xs b : List ℕ) (us : List Token) → tokens_from (xs ++ 59 ∷ b) (more_bytes x xs) (suc p) ≡ tokens_from xs (more_bytes x xs) (suc p) ++ us
    → tokens_from (x ∷ xs ++ 59 ∷ b) 0 p ≡ tokens_from (x ∷ xs) 0 p ++ us
cut_here p x xs b us e =
    tokens_step x (xs ++ 59 ∷ b) p
    ∙ rw (token_cut p x xs b, bytes_cut x xs b, e, tokens_step x xs p) (unless_append x (token_here p x xs) (tokens_from xs (more_bytes x xs) (suc p)) us)

-- The tokens of `a ; b` are those of a, the `;`, and those of b from its own place on.
pub tokens_cut : (a b : List ℕ) (k p q : ℕ) → k ≤ length a → q ≡ p + suc (length a)
    → tokens_from (a ++ 59 ∷ b) k p ≡ tokens_from a k p ++ word SEMICOLON ∷ tokens_from b 0 q
unfolding tokens_from class_of token_here more_bytes mark_of
tokens_cut [] b zero p q h e = let z : q ≡ suc p = omega arith in rw z
tokens_cut [] b (suc k) p q h e = absurd (omega arith)
tokens_cut (x ∷ xs) b (suc k) p q h e = tokens_cut xs b k (suc p) q (omega arith) (omega arith)
tokens_cut (x ∷ xs) b zero p q h e = cut_here p x xs b _ (tokens_cut xs b (more_bytes x xs) (suc p) q (bytes_le x xs) (omega arith))

run_moved : (f : ℕ → ℕ) (p : ℕ) (l : List ℕ) → moved f (run_token p l) ≡ run_token (f p) l
unfolding run_token
run_moved f p l = go (ltb name_limit (length l)) (place l reserved)
  where
    go : (t : Bool) (k : ℕ) → moved f (cond t long (word_or_name (record { start = p; letters = l }) k)) ≡ cond t long (word_or_name (record { start = f p; letters = l }) k)
    go true k = refl
    go false zero = refl
    go false (suc k) = refl

token_moved : (f : ℕ → ℕ) (p x : ℕ) (xs : List ℕ) → moved f (token_here p x xs) ≡ token_here (f p) x xs
unfolding token_here
token_moved f p x xs = go (eqb (class_of x) 2) (eqb (class_of x) 4) (eqb (class_of x) 5) (equals_first xs)
  where
    go : (a b c d : Bool) → moved f (cond a (run_token p (x ∷ take (run xs) xs)) (cond b (word (mark_of x)) (cond c (cond d (word (mark_of x)) bad) bad)))
        ≡ cond a (run_token (f p) (x ∷ take (run xs) xs)) (cond b (word (mark_of x)) (cond c (cond d (word (mark_of x)) bad) bad))
    go true b c d = run_moved f p (x ∷ take (run xs) xs)
    go false true c d = refl
    go false false true true = refl
    go false false true false = refl
    go false false false d = refl

unless_moved : (f : ℕ → ℕ) (x : ℕ) (t : Token) (ts : List Token) → map (moved f) (unless_white x t ts) ≡ unless_white x (moved f t) (map (moved f) ts)
unless_moved f x t ts = go (eqb (class_of x) 1)
  where
    go : (w : Bool) → map (moved f) (cond w ts (t ∷ ts)) ≡ cond w (map (moved f) ts) (moved f t ∷ map (moved f) ts)
    go true = refl
    go false = refl

-- The tokens of a text that stands elsewhere are the same but for their places.
pub tokens_moved : (s : List ℕ) (k p q : ℕ) (f : ℕ → ℕ) → ((j : ℕ) → f (p + j) ≡ q + j) → map (moved f) (tokens_from s k p) ≡ tokens_from s k q
unfolding tokens_from
tokens_moved [] k p q f h = refl
tokens_moved (x ∷ xs) (suc k) p q f h = tokens_moved xs k (suc p) (suc q) f (λ j. ap f (omega arith) ∙ h (suc j) ∙ omega arith)
tokens_moved (x ∷ xs) zero p q f h =
    unless_moved f x (token_here p x xs) (tokens_from xs (more_bytes x xs) (suc p))
    ∙ ap₂ (λ (t : Token) (ts : List Token). unless_white x t ts)
    (token_moved f p x xs ∙ ap (λ (y : ℕ). token_here y x xs) (ap f (omega arith) ∙ h 0 ∙ omega arith))
    (tokens_moved xs (more_bytes x xs) (suc p) (suc q) f (λ j. ap f (omega arith) ∙ h (suc j) ∙ omega arith))

-- The place of a name among names is one of theirs.
pub place_le : (n : List ℕ) (ms : List (List ℕ)) → place n ms ≤ length ms
place_le n [] = omega arith
place_le n (m ∷ ms) = go (same_letters n m) (place n ms) (place_le n ms)
  where
    go : (t : Bool) (k : ℕ) → k ≤ length ms → cond t 1 (one_further k) ≤ suc (length ms)
    go true k h = omega arith
    go false zero h = omega arith
    go false (suc k) h = omega arith

run_free : (p : ℕ) (l : List ℕ) → is_semi (run_token p l) ≡ false
unfolding run_token reserved
run_free p l = go (ltb name_limit (length l)) (place l reserved) (place_le l reserved)
  where
    go : (t : Bool) (k : ℕ) → k ≤ length reserved → is_semi (cond t long (word_or_name (record { start = p; letters = l }) k)) ≡ false
    go true k h = refl
    go false zero h = refl
    go false (suc k) h = ne_eqb (suc k) SEMICOLON (λ e. omega arith)

mark_free : (x : ℕ) → eqb x 59 ≡ false → eqb (mark_of x) SEMICOLON ≡ false
unfolding mark_of
mark_free x h = rw h (go (eqb x 123) (eqb x 125) (eqb x 44) (eqb x 42) (eqb x 124))
  where
    go : (a b c d e : Bool) → eqb (cond a OPEN (cond b CLOSE (cond c COMMA (cond d BECOMES (cond e HAS GETS))))) SEMICOLON ≡ false
    go true b c d e = refl
    go false true c d e = refl
    go false false true d e = refl
    go false false false true e = refl
    go false false false false true = refl
    go false false false false false = refl

token_free : (p x : ℕ) (xs : List ℕ) → eqb x 59 ≡ false → is_semi (token_here p x xs) ≡ false
unfolding token_here
token_free p x xs h = go (eqb (class_of x) 2) (eqb (class_of x) 4) (eqb (class_of x) 5) (equals_first xs)
  where
    go : (a b c d : Bool) → is_semi (cond a (run_token p (x ∷ take (run xs) xs)) (cond b (word (mark_of x)) (cond c (cond d (word (mark_of x)) bad) bad))) ≡ false
    go true b c d = run_free p (x ∷ take (run xs) xs)
    go false true c d = mark_free x h
    go false false true true = mark_free x h
    go false false true false = refl
    go false false false d = refl

unless_free : (x : ℕ) (t : Token) (ts : List Token) → is_semi t ≡ false → Free ts → Free (unless_white x t ts)
unless_free x t ts h g = go (eqb (class_of x) 1)
  where
    go : (w : Bool) → Free (cond w ts (t ∷ ts))
    go true = g
    go false = (h, g)

-- A text without the byte `;` has no token `;`.
pub tokens_free : (s : List ℕ) (k p : ℕ) → NoSemi s → Free (tokens_from s k p)
unfolding tokens_from
tokens_free [] k p h = tt
tokens_free (x ∷ xs) (suc k) p h = tokens_free xs k (suc p) h.1
tokens_free (x ∷ xs) zero p h = unless_free x (token_here p x xs) _ (token_free p x xs h.0) (tokens_free xs (more_bytes x xs) (suc p) h.1)

-- Tokens without `;` stand before the first one.
pub before_free : (ts us : List Token) → Free ts → before_semi (ts ++ word SEMICOLON ∷ us) ≡ ts
before_free [] us h = refl
before_free (t ∷ ts) us h = rw h.0 (ap (λ (y : List Token). t ∷ y) (before_free ts us h.1))

-- What follows the `;` after tokens without `;` stands after the first one.
pub past_free : (ts us : List Token) → Free ts → past_semi (ts ++ word SEMICOLON ∷ us) ≡ us
past_free [] us h = refl
past_free (t ∷ ts) us h = rw h.0 (past_free ts us h.1)

-- The tokens of a whole text, cut at a `;`.
pub tokens_semi : (a b : List ℕ) → tokens (a ++ 59 ∷ b) ≡ tokens a ++ word SEMICOLON ∷ tokens_from b 0 (suc (length a))
unfolding tokens
tokens_semi a b = tokens_cut a b 0 0 (suc (length a)) (omega arith) (omega arith)

-- The tokens of a text that stands `p` bytes further.
pub tokens_elsewhere : (b : List ℕ) (p : ℕ) → tokens_from b 0 p ≡ map (moved (λ i. i + p)) (tokens b)
unfolding tokens
tokens_elsewhere b p = sym (tokens_moved b 0 0 p (λ i. i + p) (λ j. omega arith))

run_stands : (s : List ℕ) (p : ℕ) (l : List ℕ) → p + length l ≤ length s → take (length l) (drop p s) ≡ l → TokenStands s (run_token p l)
unfolding run_token
run_stands s p l i h = go (ltb name_limit (length l)) (place l reserved)
  where
    go : (t : Bool) (k : ℕ) → TokenStands s (cond t long (word_or_name (record { start = p; letters = l }) k))
    go true k = tt
    go false zero = record { inside = i; there = h }
    go false (suc k) = tt

pub here_stands : (s : List ℕ) (p x : ℕ) (xs : List ℕ) → drop p s ≡ x ∷ xs → TokenStands s (token_here p x xs)
unfolding token_here
here_stands s p x xs e = go (eqb (class_of x) 2) (eqb (class_of x) 4) (eqb (class_of x) 5) (equals_first xs)
  where
    go : (a b c d : Bool) → TokenStands s (cond a (run_token p (x ∷ take (run xs) xs)) (cond b (word (mark_of x)) (cond c (cond d (word (mark_of x)) bad) bad)))
    go true b c d =
        let k = length-take-le (run xs) xs (run_le xs) in
        let size : length s - p ≡ suc (length xs) = sym (length-drop p s) ∙ ap length e in
        run_stands s p (x ∷ take (run xs) xs) (omega (arith, k, size, run_le xs)) (rw (e, k))
    go false true c d = tt
    go false false true true = tt
    go false false true false = tt
    go false false false d = tt

unless_stands : (s : List ℕ) (x : ℕ) (t : Token) (ts : List Token) → TokenStands s t → AllStand s ts → AllStand s (unless_white x t ts)
unless_stands s x t ts h g = go (eqb (class_of x) 1)
  where
    go : (w : Bool) → AllStand s (cond w ts (t ∷ ts))
    go true = g
    go false = (h, g)

stand_from : (s xs : List ℕ) (k p : ℕ) → drop p s ≡ xs → AllStand s (tokens_from xs k p)
unfolding tokens_from
stand_from s [] k p e = tt
stand_from s (x ∷ xs) (suc k) p e = stand_from s xs k (suc p) (drop_next s p x xs e)
stand_from s (x ∷ xs) zero p e = unless_stands s x (token_here p x xs) _ (here_stands s p x xs e) (stand_from s xs (more_bytes x xs) (suc p) (drop_next s p x xs e))

-- Every name among the tokens of a text lies inside it and is the text at its place.
pub names_stand : (s : List ℕ) → AllStand s (tokens s)
unfolding tokens
names_stand s = stand_from s s 0 0 refl
