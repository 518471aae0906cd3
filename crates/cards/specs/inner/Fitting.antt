-- What the steps of unpacking and packing are given, ask and answer: slots within the limits, forms that their fields hold, the outcome of a test.
use Rattle.std.specs.Prelude.{ℕ, ◌≤◌, ◌<◌, List, length, get_or, Result, Ok, Err}
use Rattle.laws.specs.Limits.{slot_limit, value_limit}
use Rattle.cards.specs.declared.Card.{Card}
use Rattle.cards.specs.declared.Slip.{Slip}
use Rattle.refusals.specs.declared.ChangeFault.{ChangeFault}
use Rattle.refusals.specs.declared.Refusal.{Refusal}
use Rattle.refusals.specs.Numbers.{change_number, refusal_number, refusal_second}
use Rattle.laws.specs.Answers.{Verdict, passed, fault}
use Rattle.cards.specs.Cards.{no_change}

-- Slots within the limits: at most 32, each of at most 15 values.
pub record Slots (counts : List ℕ) : Type 0 where
  pub few : length counts ≤ slot_limit
  pub small : (i : ℕ) → i < length counts → get_or counts i 0 ≤ value_limit

-- A card that the writing of its bytes takes: 32 slots at most, each value in 4 bits. One that passes its tests is one.
pub record CardFits (c : Card) : Type 0 where
  pub few : c.count ≤ slot_limit
  pub values_fit : (i : ℕ) → i < c.count → get_or c.values i 0 < 16

-- A slip that the writing of its bytes takes: 32 changes at most, each slot in 5 bits and each value in 4.
pub record SlipFits (s : Slip) : Type 0 where
  pub few : s.count ≤ slot_limit
  pub slots_fit : (j : ℕ) → j < s.count → (get_or s.changes j no_change).slot < 32
  pub values_fit : (j : ℕ) → j < s.count → (get_or s.changes j no_change).value < 16

-- The fault of a change by its number, 0 for none.
abbrev pub change_number_of : Result (Unit {0}) ChangeFault → ℕ
change_number_of (Ok u) = 0
change_number_of (Err f) = change_number f

-- The code's result of a test as its verdict.
abbrev pub verdict_of : Result (Unit {0}) Refusal → Verdict
verdict_of (Ok u) = passed
verdict_of (Err r) = fault (refusal_number r) (refusal_second r)
