-- Laws of lists that the library lacks.
-- Assumes nothing.
use Prim.Native.Nat.{ℕ, zero, suc, ◌+◌, ◌<◌}
use native.Mathlib.Omega.{arith}
use mathlib.Core.Path.{◌≡◌, refl, sym, ap, ap₂, ◌∙◌}
use mathlib.Core.List.{List, [], ◌∷◌, ◌++◌, map, head-eq_of_cons-eq, tail-eq_of_cons-eq}
use mathlib.Core.Logic.{◌⊎◌, inl, inr, ⊎_elim}
use lib.ListN.{length, get_or, drop}
use lib.Seq.{drop-drop}

pub map_append : {A B : Type 0} (f : A → B) (xs ys : List A) → map f (xs ++ ys) ≡ map f xs ++ map f ys
map_append f [] ys = refl
map_append f (x ∷ xs) ys = ap (λ (z : List _). f x ∷ z) (map_append f xs ys)

-- What stands after the first of what stands from `p` on.
pub drop_next : (s : List ℕ) (p x : ℕ) (xs : List ℕ) → drop p s ≡ x ∷ xs → drop (suc p) s ≡ xs
drop_next s p x xs e = let z : suc p ≡ p + 1 = omega arith in rw z (sym (drop-drop 1 p s) ∙ ap (drop 1) e)

-- Two cuts of one list: at the same place, or one inside what stands before the other.
pub two_cuts : {A : Type 0} (xs ys zs ws : List A) → xs ++ ys ≡ zs ++ ws
    → (xs ≡ zs) ⊎ (((u : A) × (mid : List A) × (rest : List A) × (xs ≡ zs ++ u ∷ mid) × (ws ≡ u ∷ rest))
    ⊎ ((u : A) × (mid : List A) × (rest : List A) × (zs ≡ xs ++ u ∷ mid) × (ys ≡ u ∷ rest)))
two_cuts [] ys [] ws e = inl refl
two_cuts [] ys (z ∷ zs) ws e = inr (inr (z, zs, zs ++ ws, refl, e))
two_cuts (x ∷ xs) ys [] ws e = inr (inl (x, xs, xs ++ ys, refl, sym e))
two_cuts {A} (x ∷ xs) ys (z ∷ zs) ws e =
    let h : x ≡ z = head-eq_of_cons-eq e in
    ⊎_elim (λ q. inl (ap₂ (λ (a : A) (l : List A). a ∷ l) h q))
    (λ m. ⊎_elim (λ q. inr (inl (q.0, q.1, q.2, ap₂ (λ (a : A) (l : List A). a ∷ l) h q.3, q.4)))
    (λ q. inr (inr (q.0, q.1, q.2, ap₂ (λ (a : A) (l : List A). a ∷ l) (sym h) q.3, q.4))) m)
    (two_cuts xs ys zs ws (tail-eq_of_cons-eq e))

-- What stands before the end of a list does not depend on what would stand past it.
pub any_default : {A : Type 0} (xs : List A) (i : ℕ) (d e : A) → i < length xs → get_or xs i d ≡ get_or xs i e
any_default [] i d e h = absurd (omega arith)
any_default (x ∷ xs) zero d e h = refl
any_default (x ∷ xs) (suc i) d e h = any_default xs i d e (omega arith)
