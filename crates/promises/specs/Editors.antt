-- A counter for each editor: document 02, section 4, 'An editor's slips change that editor's record and no other, and a refusal changes no other lent byte. 32 looks only at the caller's record.' and
-- '44, ahead of every other refusal and uncounted, an editor number outside 1 to 40 or a table of another length.' It is said of what both responses return, of any table of any length and any editor number.
use Rattle.std.specs.Prelude.{ℕ, suc, ◌≡◌, List, ◌↔◌, ◌⊎◌, length, get_or}
use Rattle.table.specs.declared.Table.{Table}
use Rattle.table.specs.declared.Way.{Way}
use Rattle.tally.specs.declared.Tally.{Tally}
use Rattle.tally.specs.Counting.{fresh, one_answered, one_refused}
use Rattle.tally.specs.Editors.{Editors, record_at, own_record}
use Rattle.response.specs.Respond.{Outputs, rooms_of, answer_at, response_at, outputs_after}
use Rattle.promises.specs.Returned.{told_in, left_in, number_in, second_in}
use Rattle.promises.specs.Reasons.{HasRecord, Full, Countable}

-- The caller's record after a response to a slip of the caller's.
abbrev pub own_after : Way → Table → Editors → List ℕ → List ℕ → Outputs → Tally
own_after way t y card slip o = record_at (told_in way t y card slip o).records y.caller

-- What a response leaves in the lent table: as many records; the caller's, where the slip can be counted, with one slip more answered, or one more refused, and every other, by its place, as it was.
pub record OwnRecordCounts (way : Way) (t : Table) (y : Editors) (card slip : List ℕ) (o : Outputs) : Type 0 where
  pub as_many : length (told_in way t y card slip o).records ≡ length y.records
  pub others_kept : (i : ℕ) → ¬ (suc i ≡ y.caller) → get_or (told_in way t y card slip o).records i fresh ≡ get_or y.records i fresh
  pub one_more_answered : number_in way t y card slip o ≡ 0 → own_after way t y card slip o ≡ one_answered (own_record y)
  pub one_more_refused : ¬ (number_in way t y card slip o ≡ 0) → Countable y → own_after way t y card slip o ≡ one_refused (own_record y)

pub record ForEachEditor : Type 0 where
  -- 44 exactly where the caller has no record, and 32 exactly where the caller has one and it is full.
  pub exactly_44 : (way : Way) (t : Table) (y : Editors) (card slip : List ℕ) (o : Outputs) → (number_in way t y card slip o ≡ 44) ↔ (¬ HasRecord y)
  pub exactly_32 : (way : Way) (t : Table) (y : Editors) (card slip : List ℕ) (o : Outputs) → (number_in way t y card slip o ≡ 32) ↔ (HasRecord y × Full (own_record y))
  -- Both change nothing: their second number is 0, and records and outputs are as they were.
  pub nothing_changed : (way : Way) (t : Table) (y : Editors) (card slip : List ℕ) (o : Outputs) → (number_in way t y card slip o ≡ 44) ⊎ (number_in way t y card slip o ≡ 32)
      → (second_in way t y card slip o ≡ 0) × ((told_in way t y card slip o).records ≡ y.records) × (left_in way t y card slip o ≡ o)
  -- Whatever comes back, only the caller's record changes.
  pub own_record_counts : (way : Way) (t : Table) (y : Editors) (card slip : List ℕ) (o : Outputs) → OwnRecordCounts way t y card slip o
  -- What comes back depends on the caller's record alone, not on the caller's number nor on what any other record holds.
  pub others_aside : (way : Way) (t : Table) (y y' : Editors) (card slip : List ℕ) (o : Outputs) → HasRecord y → HasRecord y' → own_record y ≡ own_record y'
      → ((told_in way t y card slip o).outcome ≡ (told_in way t y' card slip o).outcome) × (left_in way t y card slip o ≡ left_in way t y' card slip o) × (own_after way t y card slip o ≡ own_after way t y' card slip o)
  -- What `response::respond` and `respond_by_marks` say at one record is what comes back to an editor who has that record.
  pub at_own_record : (way : Way) (t : Table) (y : Editors) (card slip : List ℕ) (o : Outputs) → HasRecord y
      → ((told_in way t y card slip o).outcome ≡ (response_at way t (own_record y) card slip (rooms_of o.card o.changes o.fired)).outcome)
      × (own_after way t y card slip o ≡ (response_at way t (own_record y) card slip (rooms_of o.card o.changes o.fired)).tally)
      × (left_in way t y card slip o ≡ outputs_after (answer_at way t (own_record y) card slip (rooms_of o.card o.changes o.fired)) o)
