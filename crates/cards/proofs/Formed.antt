-- Unpacked forms: as many values and changes as they count, each at its place.
-- Assumes nothing.
use mathlib.Core.Path.{◌≡◌}
use Prim.Native.Nat.{ℕ, ◌<◌}
use lib.ListN.{length, get_or}
use Rattle.laws.proofs.Tabulated.{tabulate_length, tabulate_at}
use Rattle.cards.specs.declared.Card.{Card}
use Rattle.cards.specs.declared.Slip.{Slip}
use Rattle.cards.specs.Cards.{card_values, changes_of, pair_of, no_change}
use Rattle.cards.proofs.Tested.{no_pair}

pub card_length : (c : Card) → length (card_values c) ≡ c.count
unfolding card_values
card_length c = tabulate_length (λ i. get_or c.values i 0) c.count

pub card_at : (c : Card) (i : ℕ) → i < c.count → get_or (card_values c) i 0 ≡ get_or c.values i 0
unfolding card_values
card_at c i h = tabulate_at (λ i. get_or c.values i 0) c.count i 0 h

pub slip_length : (s : Slip) → length (changes_of s) ≡ s.count
unfolding changes_of
slip_length s = tabulate_length (λ j. pair_of (get_or s.changes j no_change)) s.count

pub slip_at : (s : Slip) (j : ℕ) → j < s.count → get_or (changes_of s) j no_pair ≡ pair_of (get_or s.changes j no_change)
unfolding changes_of
slip_at s j h = tabulate_at (λ j. pair_of (get_or s.changes j no_change)) s.count j no_pair h
