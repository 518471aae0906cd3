-- What the steps over rules mean.
use Rattle.std.specs.Prelude.{ℕ, ◌≤◌, ◌<◌, ◌≡◌, Result, Ok, Err, List}
use Rattle.text.specs.Tokens.{Token, IF, BECOMES, SEMICOLON}
use Rattle.model.specs.Rules.{Pair, Rule}
use Rattle.grammar.specs.Files.{Slot}
use Rattle.grammar.specs.Reading.{Part, took, ◌then◌, expects, read_slot, read_value, read_condition, read_assign}
use Rattle.model.specs.Result.{pair}
use Rattle.laws.specs.inner.Filled.{Filled}
use Rattle.laws.specs.Limits.{literal_limit, assignment_limit, slot_limit, value_limit}
use Rattle.table.specs.Zero.{zero_literal, zero_assignment}
use Rattle.table.specs.declared.Rule as ruled
use Rattle.steps.specs.inner.Places.{read_part}
use Rattle.clauses.specs.inner.Assignments.{AssignmentPlaces}
use Rattle.clauses.specs.inner.Conditions.{LiteralPlaces}
use Rattle.steps.specs.declared.step.Fault.{Fault}
use Rattle.steps.specs.declared.step.Read.{Read}
use Rattle.table.specs.Link.{rule_of}
use Rattle.reader.specs.declared.rules.Trigger.{Trigger}

-- A trigger: `slot *= value`.
unfoldable pub trigger_pair : List Slot → List Token → Part Pair
trigger_pair slots ts =
    read_slot slots ts then λ s t1.
    expects BECOMES t1 then λ u t2.
    read_value slots s t2 then λ v t3.
    took (pair s v) t3

-- The beginning of a rule after its WHEN: its trigger, IF.
unfoldable pub read_trigger : List Slot → List Token → Part Pair
read_trigger slots ts =
    trigger_pair slots ts then λ p t1.
    expects IF t1 then λ u t2.
    took p t2

-- A trigger's pair.
abbrev pub trigger_as_pair : Trigger → Pair
trigger_as_pair t = pair t.slot t.value

-- A pair read.
abbrev pub pair_part : List ℕ → ℕ → Result (Read Trigger) Fault → Part Pair
pair_part rest base r = read_part trigger_as_pair rest base r

abbrev pub PairLies : ℕ → ℕ → Result (Read Trigger) Fault → Type 0
PairLies size from (Ok r) = (r.value.slot < slot_limit) × (r.value.value ≤ value_limit) × (from < r.next) × (r.next ≤ size)
PairLies size from (Err k) = Unit

-- The rest of a rule, after its trigger and IF.
unfoldable pub read_rest : List Slot → Pair → List Token → Part Rule
read_rest slots p ts =
    read_condition slots ts then λ literals t1.
    read_assign slots t1 then λ assignments t2.
    expects SEMICOLON t2 then λ u t3.
    took (record { trigger = p; literals = literals; assignments = assignments }) t3

-- A rule in its places whose unused places are zero, and which has no stratum yet.
pub record PlainRule (r : ruled.Rule) : Type 0 where
  pub literals_filled : Filled literal_limit zero_literal r.literals r.tested
  pub assignments_filled : Filled assignment_limit zero_assignment r.assignments r.assigned
  pub no_stratum : r.stratum ≡ 0

-- A rule read.
abbrev pub rule_part : List ℕ → ℕ → Result (Read ruled.Rule) Fault → Part Rule
rule_part rest base r = read_part rule_of rest base r

abbrev pub RuleLies : ℕ → ℕ → Result (Read ruled.Rule) Fault → Type 0
RuleLies size from (Ok r) = (from < r.next) × (r.next ≤ size) × PlainRule r.value
RuleLies size from (Err k) = Unit

-- A rule of its parts.
abbrev pub made_rule : Trigger → LiteralPlaces → AssignmentPlaces → ruled.Rule
made_rule t ls ps = record { slot = t.slot; value = t.value; literals = ls.places; tested = ls.count; assignments = ps.places; assigned = ps.count; stratum = 0 }
