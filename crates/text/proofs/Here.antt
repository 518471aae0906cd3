-- The token at a position, by what the code sees there.
-- Assumes nothing.
use Prim.Native.Nat.{ℕ, suc, ◌+◌, ◌-◌, ◌≤◌, ◌<◌}
use native.Mathlib.Omega.{arith}
use native.Mathlib.Numerals.{add-one}
use mathlib.Core.Path.{◌≡◌, refl, sym, ap, ◌∙◌}
use mathlib.Core.Bool.{Bool, true, false, ◌&&◌}
use mathlib.Core.List.{List, [], ◌∷◌}
use lib.Dec.{eqb}
use lib.ListN.{length, take, drop, get_or, drop_of_length-le, length-drop}
use lib.Seq.{drop-cons, length-take-le}
use Rattle.std.specs.List.{starts_with}
use Rattle.std.proofs.lemmas.List.{take_all}
use Rattle.std.proofs.lemmas.Bool.Decides.{eqb_tells}
use mathlib.Core.Logic.{◌⊎◌, inl, inr}
use borrow.Author.Tests.{ne_eqb, lt-ltb, le-ltb}
use Rattle.laws.specs.Limits.{name_limit}
use Rattle.classes.specs.Classes.{class_of, class_number}
use Rattle.classes.specs.declared.Class.{Class}
use Rattle.classes.specs.declared.Class.TheVariants.{Other, White, Alphanumeric, Hyphen, Single, Double}
use Rattle.text.specs.Tokens.{run, run_token, place, reserved, mark_of, equals_first, token_here, more_bytes}
use Rattle.text.specs.Next.{white, coded, next_from, next_at}
use Rattle.text.specs.Words.{word_number, word_by_number}
use Rattle.text.specs.declared.Next.{Next}
use Rattle.text.specs.declared.Word.{Word}
use Rattle.text.specs.declared.Token as code
use Rattle.text.specs.declared.Token.TheVariants as v
use Rattle.text.proofs.Steps.{coded_name, coded_word}
use Rattle.text.proofs.Numbers.{positive, word_numbered}

-- A part has its length.
part_length : (s : List ℕ) (a b : ℕ) → a ≤ b → b ≤ length s → length (take (b - a) (drop a s)) ≡ b - a
part_length s a b h k = let d = length-drop a s in length-take-le (b - a) (drop a s) (omega arith)

-- A run of name bytes from `a` to `b`: over the limit, no reserved word, a reserved word.
pub run_long : (s : List ℕ) (a b : ℕ) → a ≤ b → b ≤ length s → name_limit < b - a → coded (run_token a (take (b - a) (drop a s))) ≡ v.Long
unfolding run_token
run_long s a b h k l = rw (part_length s a b h k, lt-ltb name_limit (b - a) l)

pub run_name : (s : List ℕ) (a b w : ℕ) → a ≤ b → b ≤ length s → b - a ≤ name_limit → w ≡ place (take (b - a) (drop a s)) reserved → w ≡ 0
    → coded (run_token a (take (b - a) (drop a s))) ≡ v.Name (record { start = a; size = b - a })
unfolding run_token
run_name s a b w h k l e z =
    rw (part_length s a b h k, le-ltb name_limit (b - a) l, ← e) (coded_name (record { start = a; letters = take (b - a) (drop a s) }) w z ∙ ap (λ (n : ℕ). v.Name (record { start = a; size = n })) (part_length s a b h k))

pub run_word : (s : List ℕ) (a b : ℕ) (w : Word) → a ≤ b → b ≤ length s → b - a ≤ name_limit → word_number w ≡ place (take (b - a) (drop a s)) reserved
    → coded (run_token a (take (b - a) (drop a s))) ≡ v.Word w
unfolding run_token
run_word s a b w h k l e =
    rw (part_length s a b h k, le-ltb name_limit (b - a) l, ← e) (coded_word (record { start = a; letters = take (b - a) (drop a s) }) (word_number w) (positive w) ∙ ap v.Word (word_numbered w))

-- White passed over in part leaves the token.
pub next_same : (s : List ℕ) (at i : ℕ) → i + white (drop i s) ≡ at + white (drop at s) → next_at s i ≡ next_at s at
unfolding next_at
next_same s at i e = rw e

-- Nothing but white stands there.
pub next_end : (s : List ℕ) (at p : ℕ) → p ≡ at + white (drop at s) → length s ≤ p → next_at s at ≡ record { token = v.End; at = p }
unfolding next_at next_from
next_end s at p e h = rw (← e, drop_of_length-le s h)

-- A byte that is not white stands at `p`.
next_byte : (s : List ℕ) (at p : ℕ) → p ≡ at + white (drop at s) → p < length s
    → next_at s at ≡ record { token = coded (token_here p (get_or s p 0) (drop (p + 1) s)); at = suc p + more_bytes (get_or s p 0) (drop (p + 1) s) }
unfolding next_at next_from
next_byte s at p e h = rw (← e, drop-cons s p 0 h, add-one p)

made : (t u : code.Token) (p q : ℕ) → t ≡ u → p ≡ q → ◌≡◌ {A = Next} (record { token = t; at = p }) (record { token = u; at = q })
made t u p q e f = rw (e, f)

-- It begins a name or a reserved word that ends before `q`.
pub next_run : (s : List ℕ) (at p q : ℕ) (t : code.Token) → p ≡ at + white (drop at s) → p < length s → class_of (get_or s p 0) ≡ 2
    → q ≡ p + 1 + run (drop (p + 1) s) → t ≡ coded (run_token p (take (q - p) (drop p s))) → next_at s at ≡ record { token = t; at = q }
unfolding token_here more_bytes
next_run s at p q t e h c f g =
    let z : q - p ≡ suc (run (drop (p + 1) s)) = omega arith in
    next_byte s at p e h ∙ rw c (made _ t _ q (sym (g ∙ rw (z, drop-cons s p 0 h, add-one p))) (omega arith))

-- It is one of `{ } , ;`.
pub next_single : (s : List ℕ) (at p : ℕ) (w : Word) → p ≡ at + white (drop at s) → p < length s → class_of (get_or s p 0) ≡ 4 → word_number w ≡ mark_of (get_or s p 0)
    → next_at s at ≡ record { token = v.Word w; at = p + 1 }
unfolding token_here more_bytes
next_single s at p w e h c m = next_byte s at p e h ∙ rw c (made _ (v.Word w) _ (p + 1) (ap v.Word (ap word_by_number (sym m) ∙ word_numbered w)) (omega arith))

-- It is one of `* | :` before `=`.
pub next_double : (s : List ℕ) (at p : ℕ) (w : Word) → p ≡ at + white (drop at s) → p < length s → class_of (get_or s p 0) ≡ 5 → equals_first (drop (p + 1) s) ≡ true → word_number w ≡ mark_of (get_or s p 0)
    → next_at s at ≡ record { token = v.Word w; at = p + 2 }
unfolding token_here more_bytes
next_double s at p w e h c q m =
    next_byte s at p e h ∙ rw (c, q) (made _ (v.Word w) _ (p + 2) (ap v.Word (ap word_by_number (sym m) ∙ word_numbered w)) (omega arith))

-- It is one of `* | :` without `=`: at the end of the text, or before another byte.
pub next_lone : (s : List ℕ) (at p : ℕ) → p ≡ at + white (drop at s) → p < length s → class_of (get_or s p 0) ≡ 5 → equals_first (drop (p + 1) s) ≡ false
    → next_at s at ≡ record { token = v.Bad; at = p + 1 }
unfolding token_here more_bytes
next_lone s at p e h c q = next_byte s at p e h ∙ rw (c, q) (made v.Bad v.Bad _ (p + 1) refl (omega arith))

-- A text begins with `=` where the code's test says so.
equals_starts : (xs : List ℕ) → starts_with eqb xs (61 ∷ []) ≡ equals_first xs
equals_starts [] = refl
equals_starts (x ∷ xs) = go x (eqb_tells 61 x) (eqb_tells x 61)
  where
    go : (x : ℕ) → ((eqb 61 x ≡ true) × (61 ≡ x)) ⊎ ((eqb 61 x ≡ false) × (61 ≡ x → ⊥)) → ((eqb x 61 ≡ true) × (x ≡ 61)) ⊎ ((eqb x 61 ≡ false) × (x ≡ 61 → ⊥)) → eqb 61 x && true ≡ eqb x 61
    go x (inl p) (inl q) = rw (p.0, q.0)
    go x (inl p) (inr q) = absurd (q.1 (sym p.1))
    go x (inr p) (inl q) = absurd (p.1 (sym q.1))
    go x (inr p) (inr q) = rw (p.0, q.0)

pub equals_tested : (s : List ℕ) (i : ℕ) (b t : Bool) → b ≡ starts_with eqb (take (length s - i) (drop i s)) (61 ∷ []) → b ≡ t → equals_first (drop i s) ≡ t
equals_tested s i b t e f =
    let l = length-drop i s in
    let z : take (length s - i) (drop i s) ≡ drop i s = take_all (length s - i) (drop i s) (omega arith) in
    sym (sym f ∙ rw z at e ∙ equals_starts (drop i s))

-- It can begin no token.
next_none : (s : List ℕ) (at p : ℕ) → p ≡ at + white (drop at s) → p < length s → (class_of (get_or s p 0) ≡ 2 → ⊥) → (class_of (get_or s p 0) ≡ 4 → ⊥) → (class_of (get_or s p 0) ≡ 5 → ⊥)
    → next_at s at ≡ record { token = v.Bad; at = p + 1 }
unfolding token_here more_bytes
next_none s at p e h a b c =
    next_byte s at p e h ∙ rw (ne_eqb (class_of (get_or s p 0)) 2 a, ne_eqb (class_of (get_or s p 0)) 4 b, ne_eqb (class_of (get_or s p 0)) 5 c) (made v.Bad v.Bad _ (p + 1) refl (omega arith))

-- A byte of any other class can begin none.
begins_none : (x : Class) → (x ≡ Alphanumeric → ⊥) → (x ≡ Single → ⊥) → (x ≡ Double → ⊥) → (class_number x ≡ 2 → ⊥) × (class_number x ≡ 4 → ⊥) × (class_number x ≡ 5 → ⊥)
begins_none Other a b c = (λ h. omega arith, λ h. omega arith, λ h. omega arith)
begins_none White a b c = (λ h. omega arith, λ h. omega arith, λ h. omega arith)
begins_none Alphanumeric a b c = absurd (a refl)
begins_none Hyphen a b c = (λ h. omega arith, λ h. omega arith, λ h. omega arith)
begins_none Single a b c = absurd (b refl)
begins_none Double a b c = absurd (c refl)

pub next_bad : (s : List ℕ) (at p : ℕ) (x : Class) → p ≡ at + white (drop at s) → p < length s → class_number x ≡ class_of (get_or s p 0) → (x ≡ Alphanumeric → ⊥) → (x ≡ Single → ⊥) → (x ≡ Double → ⊥)
    → next_at s at ≡ record { token = v.Bad; at = p + 1 }
next_bad s at p x e h f a b c = let n = begins_none x a b c in next_none s at p e h (λ g. n.0 (f ∙ g)) (λ g. n.1 (f ∙ g)) (λ g. n.2 (f ∙ g))
