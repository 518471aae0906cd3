-- What a reading comes to, by its numbers.
use Rattle.std.specs.Prelude.{ℕ}
use Rattle.table.specs.declared.Table.{Table}

-- Whether a text is accepted: a refusal has its number and its second number.
pub data ReadingOutcome : Type 0 where
  Accepted : ReadingOutcome
  Refused : ℕ → ℕ → ReadingOutcome

-- The outcome and the table, without slots or rules where it is refused.
pub record FileRead : Type 0 where
  pub outcome : ReadingOutcome
  pub table : Table

-- The number of a refusal, 0 for none, and its second number.
abbrev pub reading_refusal : ReadingOutcome → ℕ
reading_refusal Accepted = 0
reading_refusal (Refused k n) = k

abbrev pub reading_second : ReadingOutcome → ℕ
reading_second Accepted = 0
reading_second (Refused k n) = n
