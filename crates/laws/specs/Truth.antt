-- AND, OR and NOT on tests. They do not unfold (no `abbrev`), so that a law finds its arguments by itself.
use Rattle.std.specs.Prelude.{Bool, true, false}

infixl 35 ◌∧ᵇ◌
infixl 30 ◌∨ᵇ◌
unfoldable pub ◌∧ᵇ◌ : Bool → Bool → Bool
true ∧ᵇ b = b
false ∧ᵇ b = false

unfoldable pub ◌∨ᵇ◌ : Bool → Bool → Bool
true ∨ᵇ b = true
false ∨ᵇ b = b

unfoldable pub notᵇ : Bool → Bool
notᵇ true = false
notᵇ false = true
