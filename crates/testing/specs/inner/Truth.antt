-- The tests of a card and its changes as an array of flags, indexed by the number of a test without NOT.
use Rattle.std.specs.Prelude.{◌≡◌, Bool, false, List, ℕ, ◌+◌, ◌*◌, ◌<◌, length, get_or}
use Rattle.laws.specs.Truth.{◌∧ᵇ◌, notᵇ}
use Rattle.model.specs.Rules.{was}
use Rattle.table.specs.inner.Flat.{pair_places, pair_at}

-- At each pair's place stands whether the card has it, and after all these whether it became.
pub record Truth (S : List ℕ) (bs truth : List Bool) : Type 0 where
  pub size : length truth ≡ 2 * pair_places
  pub had : (q : ℕ) → q < pair_places → get_or truth q false ≡ was S (pair_at q)
  pub came : (q : ℕ) → q < pair_places → get_or truth (pair_places + q) false ≡ (notᵇ (was S (pair_at q)) ∧ᵇ get_or bs q false)
