-- The token at a position and the tokens of the text: it is the first of them, the position moves on, and it stays in the text.
-- Assumes nothing.
use Prim.Native.Nat.{ℕ, zero, suc, ◌+◌, ◌≤◌, ◌<◌}
use native.Mathlib.Omega.{arith}
use mathlib.Core.Path.{◌≡◌, refl, sym, ap, ◌∙◌}
use mathlib.Core.Bool.{Bool, true, false, cond}
use mathlib.Core.List.{List, [], ◌∷◌}
use lib.Dec.{eqb, ltb}
use lib.ListN.{length, take, drop, length-drop}
use lib.Seq.{drop-drop, length-take-le}
use borrow.Author.Tests.{eqb-true, ltb-false}
use Rattle.laws.specs.Limits.{name_limit}
use Rattle.laws.proofs.Lists.{drop_next}
use Rattle.classes.specs.Classes.{class_of}
use Rattle.text.specs.Tokens.{Token, word, name, long, bad, run, run_token, word_or_name, place, reserved, mark_of, equals_first, token_here, more_bytes, tokens_from}
use Rattle.text.specs.Next.{white, coded, next_from, next_at, tokens_at, shown, Lies}
use Rattle.text.specs.Cut.{TokenStands}
use Rattle.text.proofs.Numbers.{TokenNumbered, here_numbered}
use Rattle.text.proofs.Cut.{here_stands, run_le, equals_le, tokens_step}

-- The tokens after a token already taken.
pub tokens_skip : (xs : List ℕ) (k p : ℕ) → tokens_from xs k p ≡ tokens_from (drop k xs) 0 (p + k)
unfolding tokens_from
tokens_skip [] zero p = refl
tokens_skip [] (suc k) p = refl
tokens_skip (x ∷ xs) zero p = let z : p + 0 ≡ p = omega arith in rw z
tokens_skip (x ∷ xs) (suc k) p = tokens_skip xs k (suc p) ∙ ap (λ (q : ℕ). tokens_from (drop k xs) 0 q) (let z : suc p + k ≡ p + suc k = omega arith in z)

-- White at the front changes no token.
white_skip : (xs : List ℕ) (p : ℕ) → tokens_from xs 0 p ≡ tokens_from (drop (white xs) xs) 0 (p + white xs)
unfolding white more_bytes
white_skip [] p = let z : p + 0 ≡ p = omega arith in rw z
white_skip (x ∷ xs) p = go (eqb (class_of x) 1) refl (white_skip xs (suc p))
  where
    go : (t : Bool) → eqb (class_of x) 1 ≡ t → tokens_from xs 0 (suc p) ≡ tokens_from (drop (white xs) xs) 0 (suc p + white xs)
        → tokens_from (x ∷ xs) 0 p ≡ tokens_from (drop (cond t (suc (white xs)) 0) (x ∷ xs)) 0 (p + cond t (suc (white xs)) 0)
    go true e r =
        let c = eqb-true (class_of x) 1 e in
        let z : suc p + white xs ≡ p + suc (white xs) = omega arith in
        tokens_step x xs p ∙ rw c (r ∙ ap (λ (q : ℕ). tokens_from (drop (white xs) xs) 0 q) z)
    go false e r = let z : p + 0 ≡ p = omega arith in rw z

-- What follows the white is not white.
white_over : (ys : List ℕ) (x : ℕ) (xs : List ℕ) → drop (white ys) ys ≡ x ∷ xs → eqb (class_of x) 1 ≡ false
unfolding white
white_over [] x xs e = absurd (let z : ◌≡◌ {A = ℕ} 0 1 = cc in omega arith)
white_over (y ∷ ys) x xs e = go (eqb (class_of y) 1) refl (white_over ys x xs) e
  where
    go : (t : Bool) → eqb (class_of y) 1 ≡ t → (drop (white ys) ys ≡ x ∷ xs → eqb (class_of x) 1 ≡ false) → drop (cond t (suc (white ys)) 0) (y ∷ ys) ≡ x ∷ xs → eqb (class_of x) 1 ≡ false
    go true f r g = r g
    go false f r g = let z : y ≡ x = cc in rw (← z) f

-- The tokens from the first byte that is not white.
past_white : (s : List ℕ) (at : ℕ) → tokens_at s at ≡ tokens_at s (at + white (drop at s))
unfolding tokens_at
past_white s at = white_skip (drop at s) at ∙ rw (drop-drop (white (drop at s)) at s)

-- A token that stands in the text is shown as it is.
shown_coded : (s : List ℕ) (t : Token) (ts : List Token) → TokenStands s t → TokenNumbered t → shown s (coded t) ts ≡ t ∷ ts
shown_coded s (word w) ts h k = rw k
shown_coded s (name n) ts h k = rw h.there
shown_coded s long ts h k = refl
shown_coded s bad ts h k = refl

-- The tokens where a byte `x` that is not white stands at `p`, before `xs`.
tokens_here : (s : List ℕ) (p x : ℕ) (xs : List ℕ) → drop p s ≡ x ∷ xs → eqb (class_of x) 1 ≡ false
    → tokens_at s p ≡ token_here p x xs ∷ tokens_at s (suc p + more_bytes x xs)
unfolding tokens_at
tokens_here s p x xs e c =
    ap (λ (y : List ℕ). tokens_from y 0 p) e ∙ tokens_step x xs p
    ∙ rw c (ap (λ (y : List Token). token_here p x xs ∷ y)
    (tokens_skip xs (more_bytes x xs) (suc p)
    ∙ ap (λ (y : List ℕ). tokens_from y 0 (suc p + more_bytes x xs)) (ap (drop (more_bytes x xs)) (sym (drop_next s p x xs e)) ∙ drop-drop (more_bytes x xs) (suc p) s)))

-- Nothing is left, or a token begins.
ended : (s : List ℕ) (p : ℕ) → drop p s ≡ [] → tokens_at s p ≡ shown s (next_from p []).token (tokens_at s (next_from p []).at)
unfolding tokens_at next_from tokens_from
ended s p e = rw e

begun : (s : List ℕ) (p x : ℕ) (xs : List ℕ) → drop p s ≡ x ∷ xs → eqb (class_of x) 1 ≡ false
    → tokens_at s p ≡ shown s (next_from p (x ∷ xs)).token (tokens_at s (next_from p (x ∷ xs)).at)
unfolding next_from
begun s p x xs e c = tokens_here s p x xs e c ∙ sym (shown_coded s (token_here p x xs) (tokens_at s (suc p + more_bytes x xs)) (here_stands s p x xs e) (here_numbered p x xs))

-- THE FIRST TOKEN: the tokens from a position on are the token answered there and the tokens from the position after it.
pub tokens_next : (s : List ℕ) (at : ℕ) → tokens_at s at ≡ shown s (next_at s at).token (tokens_at s (next_at s at).at)
unfolding next_at
tokens_next s at = past_white s at ∙ go (drop (at + white (drop at s)) s) refl
  where
    go : (ys : List ℕ) → drop (at + white (drop at s)) s ≡ ys
        → tokens_at s (at + white (drop at s)) ≡ shown s (next_from (at + white (drop at s)) ys).token (tokens_at s (next_from (at + white (drop at s)) ys).at)
    go [] e = ended s _ e
    go (x ∷ xs) e = begun s _ x xs e (white_over (drop at s) x xs (drop-drop (white (drop at s)) at s ∙ e))

-- The part of a text from `p` on has so many bytes.
left_over : (s : List ℕ) (p x : ℕ) (xs : List ℕ) → drop p s ≡ x ∷ xs → suc (p + length xs) ≡ length s
left_over s p x xs e = let l = length-drop p s in let m = ap length e in omega arith

run_lies : (size from p : ℕ) (l : List ℕ) → from ≤ p → 0 < length l → p + length l ≤ size → Lies size from (coded (run_token p l)) (p + length l)
unfolding run_token
run_lies size from p l h k m = go (ltb name_limit (length l)) (place l reserved) refl
  where
    go : (t : Bool) (w : ℕ) → ltb name_limit (length l) ≡ t → Lies size from (coded (cond t long (word_or_name (record { start = p; letters = l }) w))) (p + length l)
    go true w e = (omega arith, m)
    go false zero e = (h, k, ltb-false name_limit (length l) e, refl, m)
    go false (suc w) e = (omega arith, m)

begun_lies : (size from p x : ℕ) (xs : List ℕ) → from ≤ p → suc (p + length xs) ≡ size
    → Lies size from (coded (token_here p x xs)) (suc p + more_bytes x xs)
unfolding token_here more_bytes
begun_lies size from p x xs h k = go (eqb (class_of x) 2) (eqb (class_of x) 4) (eqb (class_of x) 5) (equals_first xs) (equals_le xs)
  where
    go : (a b c d : Bool) → cond d 1 0 ≤ length xs
        → Lies size from (coded (cond a (run_token p (x ∷ take (run xs) xs)) (cond b (word (mark_of x)) (cond c (cond d (word (mark_of x)) bad) bad))))
        (suc p + cond a (run xs) (cond c (cond d 1 0) 0))
    go true b c d m =
        let r = run_le xs in
        let l = length-take-le (run xs) xs r in
        let z : p + length (x ∷ take (run xs) xs) ≡ suc p + run xs = omega arith in
        rw z at (run_lies size from p (x ∷ take (run xs) xs) h (omega arith) (omega arith))
    go false true true true m = (omega arith, omega arith)
    go false true true false m = (omega arith, omega arith)
    go false true false d m = (omega arith, omega arith)
    go false false true true m = (omega arith, omega arith)
    go false false true false m = (omega arith, omega arith)
    go false false false d m = (omega arith, omega arith)

ended_lies : (s : List ℕ) (from p : ℕ) → from ≤ p → drop p s ≡ [] → Lies (length s) from (next_from p []).token (next_from p []).at
unfolding next_from
ended_lies s from p h e = let l = length-drop p s in let m = ap length e in (h, omega arith)

-- THE POSITION MOVES ON AND STAYS IN THE TEXT: what is answered at a position lies where `Lies` says.
pub next_lies : (s : List ℕ) (at : ℕ) → Lies (length s) at (next_at s at).token (next_at s at).at
unfolding next_at next_from
next_lies s at = go (drop (at + white (drop at s)) s) refl
  where
    go : (ys : List ℕ) → drop (at + white (drop at s)) s ≡ ys
        → Lies (length s) at (next_from (at + white (drop at s)) ys).token (next_from (at + white (drop at s)) ys).at
    go [] e = ended_lies s at _ (omega arith) e
    go (x ∷ xs) e = begun_lies (length s) at _ x xs (omega arith) (left_over s _ x xs e)
