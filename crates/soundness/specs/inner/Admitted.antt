-- What is kept of a table that passed: how many values each slot has, and rows that stand for its rules.
use Rattle.std.specs.Prelude.{◌≡◌, Bool, true, false, List, [], ℕ, ◌≤◌, ◌<◌, length, map, get_or, take, Option, Some, None}
use Rattle.laws.specs.Limits.{rule_limit}
use Rattle.table.specs.declared.Table.{Table}
use Rattle.table.specs.Zero.{zero_slot}
use Rattle.table.specs.inner.Shape.{Shaped}
use Rattle.table.specs.Link.{rules_of, carried_strata}
use Rattle.soundness.specs.declared.Entry.{Entry}
use Rattle.rows.specs.declared.RuleRow.{RuleRow}
use Rattle.rows.specs.inner.Rows.{RowFits}
use Rattle.rows.specs.inner.RuleRows.{held_table}

-- The counts are those of the slots, and the rows have the rules, with the strata that they carry.
pub record AdmittedIn {A : Type 0} (numbers : A → List ℕ) (t : Table) (counts : List ℕ) (places : List A) : Type 0 where
  pub same_count : (i : ℕ) → i < t.width → get_or counts i 0 ≡ (get_or t.slots i zero_slot).count
  pub few : t.count ≤ rule_limit
  pub inside : t.count ≤ length places
  pub each_fits : (i : ℕ) → i < t.count → RowFits (get_or (map numbers places) i [])
  pub same_rules : rules_of (held_table numbers (take t.count places)) ≡ rules_of t
  pub same_strata : carried_strata (held_table numbers (take t.count places)) ≡ carried_strata t

-- How many slots and rules a table has that passed, with what is kept of it.
pub record EntryKeptIn {A : Type 0} (numbers : A → List ℕ) (t : Table) (e : Entry) (counts : List ℕ) (places : List A) : Type 0 where
  pub width_is : e.width ≡ t.width
  pub count_is : e.count ≡ t.count
  pub shaped : Shaped t
  pub admitted : AdmittedIn numbers t counts places

-- What is said of a table that was tested: whether it passes, and where it does what is kept of it.
abbrev pub EntersIn : {A : Type 0} → (A → List ℕ) → Table → Bool → Option Entry → List ℕ → List A → Type 0
EntersIn numbers t passes None counts places = false ≡ passes
EntersIn numbers t passes (Some e) counts places = (true ≡ passes) × EntryKeptIn numbers t e counts places

-- What is kept, of rows.
abbrev pub Admitted : Table → List ℕ → List RuleRow → Type 0
Admitted = AdmittedIn (λ (r : RuleRow). r.numbers)

-- How many slots and rules with it, of rows.
abbrev pub EntryKept : Table → Entry → List ℕ → List RuleRow → Type 0
EntryKept = EntryKeptIn (λ (r : RuleRow). r.numbers)

-- What is said, of rows.
abbrev pub Enters : Table → Bool → Option Entry → List ℕ → List RuleRow → Type 0
Enters = EntersIn (λ (r : RuleRow). r.numbers)
