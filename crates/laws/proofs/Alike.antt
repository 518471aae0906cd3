-- A rearrangement of one list carried over to a list that stands beside it, or to equal lists.
-- Assumes nothing.
use Prim.Native.Nat.{ℕ, zero, suc}
use mathlib.Core.Path.{◌≡◌, refl, ap, subst, ◌∙◌}
use mathlib.Core.List.{List, [], ◌∷◌, Forall₂}
use Rattle.laws.specs.Rearranged.{Perm, p_nil, p_skip, p_swap, p_trans, under, goes}

under_same : (h k : ℕ → ℕ) → ((i : ℕ) → h i ≡ k i) → (i : ℕ) → under h i ≡ under k i
under_same h k e zero = refl
under_same h k e (suc i) = ap suc (e i)

-- Where `R` holds between two lists, part by part, a rearrangement of the one rearranges the other alike.
pub alike : {A B : Type 0} {R : A → B → Type 0} {l m : List A} {bs : List B} → (p : Perm l m) → Forall₂ R l bs
    → (cs : List B) × Forall₂ R m cs × (q : Perm bs cs) × ((i : ℕ) → goes q i ≡ goes p i)
unfolding goes
alike p_nil Forall₂.nil = ([], Forall₂.nil, p_nil, λ i. refl)
alike (p_skip p) (Forall₂.cons {b = b} h hs) =
    let r = alike p hs in (b ∷ r.0, Forall₂.cons h r.1, p_skip r.2, under_same (goes r.2) (goes p) r.3)
alike p_swap (Forall₂.cons {b = b} h (Forall₂.cons {b = c} {l₂ = bs} g hs)) = (c ∷ b ∷ bs, Forall₂.cons g (Forall₂.cons h hs), p_swap, λ i. refl)
alike (p_trans p q) hs =
    let r = alike p hs in
    let s = alike q r.1 in
    (s.0, s.1, p_trans r.2 s.2, λ i. s.3 (goes r.2 i) ∙ ap (goes q) (r.3 i))

-- A rearrangement of lists is one of equal lists.
pub p_along : {A : Type 0} (l l' m m' : List A) → l ≡ m → l' ≡ m' → (p : Perm l l') → (q : Perm m m') × ((i : ℕ) → goes q i ≡ goes p i)
p_along {A} l l' m m' e e' p =
    subst (λ (k : List A). (q : Perm m k) × ((i : ℕ) → goes q i ≡ goes p i)) e' (subst (λ (k : List A). (q : Perm k l') × ((i : ℕ) → goes q i ≡ goes p i)) e (p, λ i. refl))
