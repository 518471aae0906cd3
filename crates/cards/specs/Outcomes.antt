-- What an unpacking comes to: document 01, 'Refusals by who can cause them'.
use Rattle.std.specs.Prelude.{ℕ}
use Rattle.cards.specs.declared.Card.{Card}
use Rattle.cards.specs.declared.Slip.{Slip}

-- A refusal has its number and its second number.
pub data FormOutcome : Type 0 where
  Accepted : FormOutcome
  Refused : ℕ → ℕ → FormOutcome

-- The outcome and the card, without slots where it is refused.
pub record CardRead : Type 0 where
  pub outcome : FormOutcome
  pub card : Card

-- The outcome and the slip, without changes where it is refused.
pub record SlipRead : Type 0 where
  pub outcome : FormOutcome
  pub slip : Slip
