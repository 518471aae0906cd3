-- Rules that wake each other: document 02, section 2, 'neither has an outside cause'.
use Rattle.std.specs.Prelude.{ℕ, Bool, List, ◌⊎◌, T, length}
use Rattle.laws.specs.Numbers.{Numbered}
use Rattle.model.specs.Rules.{Pair, Rule, among, was}
use Rattle.model.specs.Orders.{rule_at}
use Rattle.model.specs.Strata.{needed}

module _ (rs : List Rule) (S : List ℕ) (I : List Pair) (X : ℕ → Bool) where
  -- A pair cannot come to the rules of a set from outside: the card has it already, or it is not the slip's and rules of the set alone assign it.
  unfoldable pub FromInside : Pair → Type 0
  FromInside p = T (was S p) ⊎ ((¬ T (among p I)) × ((m : ℕ) → Numbered (length rs) m → T (among p (rule_at rs m).assignments) → T (X m)))

  -- No rule of the set has a cause outside of it: each needs a pair that cannot come from outside.
  unfoldable pub NoOutsideCause : Type 0
  NoOutsideCause = (n : ℕ) → Numbered (length rs) n → T (X n) → (p : Pair) × T (among p (needed (rule_at rs n))) × FromInside p
