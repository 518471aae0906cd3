-- What a response comes to: document 01, 'Refusals by who can cause them'.
use Rattle.std.specs.Prelude.{ℕ}
use Rattle.tally.specs.declared.Tally.{Tally}

-- The length of the changes and how many rules fired, or a refusal with its number and its second number.
pub data Outcome : Type 0 where
  Answered : ℕ → ℕ → Outcome
  Refused : ℕ → ℕ → Outcome

-- The outcome and the record after it.
pub record Response : Type 0 where
  pub outcome : Outcome
  pub tally : Tally
