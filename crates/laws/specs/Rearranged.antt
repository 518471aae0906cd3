-- Rearranged lists, and where each element goes.
use Rattle.std.specs.Prelude.{ℕ, zero, suc, List, [], ◌∷◌}

-- The second list is a rearrangement of the first.
pub data Perm {A : Type 0} : List A → List A → Type 0 where
  p_nil : Perm [] []
  p_skip : {x : A} {l m : List A} → Perm l m → Perm (x ∷ l) (x ∷ m)
  p_swap : {x y : A} {l : List A} → Perm (x ∷ y ∷ l) (y ∷ x ∷ l)
  p_trans : {l m n : List A} → Perm l m → Perm m n → Perm l n

-- A map of positions, carried past one element: 0 stays. It also turns positions from 0 into numbers from 1.
abbrev pub under : (ℕ → ℕ) → ℕ → ℕ
under h zero = zero
under h (suc i) = suc (h i)

-- The first two positions exchanged.
abbrev pub swap01 : ℕ → ℕ
swap01 zero = 1
swap01 (suc zero) = 0
swap01 (suc (suc i)) = suc (suc i)

module _ {A : Type 0} where
  -- The position, from 0, to which a rearrangement takes a position.
  unfoldable pub goes : {l m : List A} → Perm l m → ℕ → ℕ
  goes p_nil i = i
  goes (p_skip p) i = under (goes p) i
  goes p_swap i = swap01 i
  goes (p_trans p q) i = goes q (goes p i)
