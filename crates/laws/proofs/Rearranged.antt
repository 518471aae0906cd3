-- Laws of rearranged lists.
-- Assumes nothing.
use Prim.Native.Nat.{ℕ, zero, suc, ◌<◌}
use native.Mathlib.Omega.{arith}
use mathlib.Core.Path.{◌≡◌, refl, ap, ap₂, ◌∙◌}
use mathlib.Core.List.{List, ◌∷◌}
use lib.ListN.{get_or, length}
use Rattle.laws.specs.Rearranged.{Perm, p_nil, p_skip, p_swap, p_trans, under, swap01, goes}
use Rattle.laws.specs.inner.Back.{p_sym}

pub under_under : (h k : ℕ → ℕ) → ((i : ℕ) → k (h i) ≡ i) → (i : ℕ) → under k (under h i) ≡ i
under_under h k e zero = refl
under_under h k e (suc i) = ap suc (e i)

swap_swap : (i : ℕ) → swap01 (swap01 i) ≡ i
swap_swap zero = refl
swap_swap (suc zero) = refl
swap_swap (suc (suc i)) = refl

under_lt : (h : ℕ → ℕ) (a b : ℕ) → ((i : ℕ) → i < a → h i < b) → (i : ℕ) → i < suc a → under h i < suc b
under_lt h a b e zero lt = omega arith
under_lt h a b e (suc i) lt = omega (arith, e i (omega arith))

swap_lt : (n i : ℕ) → i < suc (suc n) → swap01 i < suc (suc n)
swap_lt n zero lt = omega arith
swap_lt n (suc zero) lt = omega arith
swap_lt n (suc (suc i)) lt = lt

module _ {A : Type 0} where
  pub goes_back : {l m : List A} (p : Perm l m) (i : ℕ) → goes (p_sym p) (goes p i) ≡ i
  unfolding goes p_sym
  goes_back p_nil i = refl
  goes_back (p_skip p) i = under_under (goes p) (goes (p_sym p)) (goes_back p) i
  goes_back p_swap i = swap_swap i
  goes_back (p_trans p q) i = rw (goes_back q (goes p i)) (goes_back p i)

  pub back_goes : {l m : List A} (p : Perm l m) (i : ℕ) → goes p (goes (p_sym p) i) ≡ i
  unfolding goes p_sym
  back_goes p_nil i = refl
  back_goes (p_skip p) i = under_under (goes (p_sym p)) (goes p) (back_goes p) i
  back_goes p_swap i = swap_swap i
  back_goes (p_trans p q) i = rw (back_goes p (goes (p_sym q) i)) (back_goes q i)

  pub p_sym_sym : {l m : List A} (p : Perm l m) → p_sym (p_sym p) ≡ p
  unfolding p_sym
  p_sym_sym p_nil = refl
  p_sym_sym (p_skip p) = ap p_skip (p_sym_sym p)
  p_sym_sym p_swap = refl
  p_sym_sym (p_trans p q) = ap₂ p_trans (p_sym_sym p) (p_sym_sym q)

  pub under_at : (x d : A) (l m : List A) (h : ℕ → ℕ) → ((i : ℕ) → get_or m (h i) d ≡ get_or l i d) → (i : ℕ) → get_or (x ∷ m) (under h i) d ≡ get_or (x ∷ l) i d
  under_at x d l m h e zero = refl
  under_at x d l m h e (suc i) = e i

  swap_at : (x y d : A) (l : List A) (i : ℕ) → get_or (y ∷ x ∷ l) (swap01 i) d ≡ get_or (x ∷ y ∷ l) i d
  swap_at x y d l zero = refl
  swap_at x y d l (suc zero) = refl
  swap_at x y d l (suc (suc i)) = refl

  pub goes_at : {l m : List A} (p : Perm l m) (d : A) (i : ℕ) → get_or m (goes p i) d ≡ get_or l i d
  unfolding goes
  goes_at p_nil d i = refl
  goes_at (p_skip {x = x} {l = l} {m = m} p) d i = under_at x d l m (goes p) (goes_at p d) i
  goes_at (p_swap {x = x} {y = y} {l = l}) d i = swap_at x y d l i
  goes_at (p_trans p q) d i = goes_at q d (goes p i) ∙ goes_at p d i

  pub goes_lt : {l m : List A} (p : Perm l m) (i : ℕ) → i < length l → goes p i < length m
  unfolding goes
  goes_lt p_nil i lt = lt
  goes_lt (p_skip {l = l} {m = m} p) i lt = under_lt (goes p) (length l) (length m) (goes_lt p) i lt
  goes_lt (p_swap {l = l}) i lt = swap_lt (length l) i lt
  goes_lt (p_trans p q) i lt = goes_lt q (goes p i) (goes_lt p i lt)

  pub p_length : {l m : List A} → Perm l m → length l ≡ length m
  p_length p_nil = refl
  p_length (p_skip p) = ap suc (p_length p)
  p_length p_swap = refl
  p_length (p_trans p q) = p_length p ∙ p_length q
