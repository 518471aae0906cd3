-- Document 02, section 4: 'Each slip now comes with an editor number from 1 to 40, and the counts lie in a lent table of forty editor records'.
use Rattle.std.specs.Prelude.{ℕ, ◌-◌, Bool, List, leb, eqb, length, get_or, set, replicate}
use Rattle.laws.specs.Limits.{editor_limit}
use Rattle.laws.specs.Truth.{◌∧ᵇ◌}
use Rattle.tally.specs.declared.Tally.{Tally}
use Rattle.tally.specs.Counting.{fresh}

-- What a slip is counted in: the lent table of records, and the number of the editor who calls.
pub record Editors : Type 0 where
  pub records : List Tally
  pub caller : ℕ

abbrev pub lent : List Tally → ℕ → Editors
lent records n = record { records = records; caller = n }

-- Forty fresh records.
abbrev pub fresh_records : List Tally
fresh_records = replicate editor_limit fresh

-- An editor number: from 1 to 40.
unfoldable pub is_editor : ℕ → Bool
is_editor n = leb 1 n ∧ᵇ leb n editor_limit

-- The caller has a record, else it is 44: an editor number, in a table of forty records.
unfoldable pub has_record : Editors → Bool
has_record y = eqb (length y.records) editor_limit ∧ᵇ is_editor y.caller

-- The record of an editor: editor 1's comes first.
abbrev pub record_at : List Tally → ℕ → Tally
record_at records n = get_or records (n - 1) fresh

abbrev pub own_record : Editors → Tally
own_record y = record_at y.records y.caller

-- The table with another record for the caller.
abbrev pub with_record : Editors → Tally → List Tally
with_record y r = set y.records (y.caller - 1) r
