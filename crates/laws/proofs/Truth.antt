-- Laws of the tests of Truth.
-- Assumes nothing.
use Prim.Native.Nat.{ℕ, ◌≤◌, ◌<◌}
use mathlib.Core.Path.{◌≡◌, refl}
use mathlib.Core.Bool.{Bool, true, false, not}
use mathlib.Core.Logic.{◌⊎◌, inl, inr}
use lib.Dec.{T, leb, leb→le, nleb→lt}
use Rattle.laws.specs.Truth.{◌∧ᵇ◌, ◌∨ᵇ◌, notᵇ}

pub bool_ext : (a b : Bool) → (T a → T b) → (T b → T a) → a ≡ b
bool_ext true true f g = refl
bool_ext true false f g = absurd (f tt)
bool_ext false true f g = absurd (g tt)
bool_ext false false f g = refl

pub le_or_lt : (a b : ℕ) → (a ≤ b) ⊎ (b < a)
le_or_lt a b = go (leb a b) (λ t. leb→le a b t) (λ t. nleb→lt a b t)
  where
    go : (t : Bool) → (T t → a ≤ b) → (T (not t) → b < a) → (a ≤ b) ⊎ (b < a)
    go true f g = inl (f tt)
    go false f g = inr (g tt)

pub and_l : (a b : Bool) → T (a ∧ᵇ b) → T a
unfolding ◌∧ᵇ◌
and_l true b h = tt
and_l false b h = h

pub and_r : (a b : Bool) → T (a ∧ᵇ b) → T b
unfolding ◌∧ᵇ◌
and_r true b h = h
and_r false b h = absurd h

pub and_i : (a b : Bool) → T a → T b → T (a ∧ᵇ b)
unfolding ◌∧ᵇ◌
and_i true b g h = h
and_i false b g h = g

pub or_l : (a b : Bool) → T a → T (a ∨ᵇ b)
unfolding ◌∨ᵇ◌
or_l true b h = tt
or_l false b h = absurd h

pub or_r : (a b : Bool) → T b → T (a ∨ᵇ b)
unfolding ◌∨ᵇ◌
or_r true b h = tt
or_r false b h = h

pub or_e : (a b : Bool) → T (a ∨ᵇ b) → T a ⊎ T b
unfolding ◌∨ᵇ◌
or_e true b h = inl tt
or_e false b h = inr h

pub not_e : (a : Bool) → T (notᵇ a) → ¬ T a
unfolding notᵇ
not_e true h t = h
not_e false h t = t

pub not_i : (a : Bool) → (¬ T a) → T (notᵇ a)
unfolding notᵇ
not_i true f = f tt
not_i false f = tt

pub stable : (a : Bool) → (¬ (¬ T a)) → T a
stable true f = tt
stable false f = f (λ t. t)
