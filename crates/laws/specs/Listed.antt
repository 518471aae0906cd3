-- A test over the elements of a list, and a property that each has.
use Rattle.std.specs.Prelude.{Bool, true, List, [], ◌∷◌}
use Rattle.laws.specs.Truth.{◌∧ᵇ◌}

-- Every element passes.
unfoldable pub all_of : {A : Type 0} → (A → Bool) → List A → Bool
all_of f [] = true
all_of f (x ∷ xs) = f x ∧ᵇ all_of f xs

-- A property has each element.
abbrev pub Each : {A : Type 0} → (A → Type 0) → List A → Type 0
Each P [] = Unit
Each P (x ∷ xs) = P x × Each P xs
