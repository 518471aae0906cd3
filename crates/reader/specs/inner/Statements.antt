-- The reading from the middle of a file on, one statement at a time.
use Rattle.std.specs.Prelude.{ℕ, ◌-◌, ◌≤◌, ◌<◌, ◌≡◌, Result, Ok, Err, false, List, [], ◌∷◌, ◌++◌, length}
use Rattle.text.specs.Tokens.{Token, SLOT}
use Rattle.model.specs.Rules.{Rule}
use Rattle.laws.specs.Limits.{slot_limit}
use Rattle.grammar.specs.Files.{Slot}
use Rattle.grammar.specs.Reading.{Parsed, accepted, refused, begins_with, read_lines, read_rules}
use Rattle.table.specs.Link.{rule_of}
use Rattle.steps.specs.inner.Places.{tokens_past}
use Rattle.steps.specs.inner.Spans.{SpanLies}
use Rattle.lines.specs.inner.Index.{span_slot}
use Rattle.lines.specs.inner.Lines.{ValuesLie}
use Rattle.reader.specs.inner.Rules.{PlainRule}
use Rattle.steps.specs.Faults.{fault_number}
use Rattle.steps.specs.declared.step.Fault.{Fault}
use Rattle.reader.specs.declared.statements.Statement.{Statement}
use Rattle.reader.specs.declared.statements.Statement.TheVariants as statement

-- What the tokens left come to after these slots and rules, where `most` rules are taken: slot lines may still come while there is no rule.
unfoldable pub read_on : ℕ → List Slot → List Rule → List Token → Parsed
read_on most slots [] ts = read_lines most (slot_limit - length slots) slots ts
read_on most slots (r ∷ rs) ts = read_rules (most - length (r ∷ rs)) slots (r ∷ rs) ts

-- A rule must stand next: something stands there, and no SLOT where no rule came before.
abbrev pub RuleNext : List Rule → List Token → Type 0
RuleNext rules [] = ⊥
RuleNext [] (t ∷ ts) = begins_with SLOT (t ∷ ts) ≡ false
RuleNext (r ∷ rs) (t ∷ ts) = Unit

-- What the reading comes to by the statement that stood next.
abbrev pub statement_answer : ℕ → List ℕ → List ℕ → ℕ → List Slot → List Rule → Result Statement Fault → Parsed
statement_answer most text rest base slots rules (Ok statement.End) = accepted (record { slots = slots; rules = rules })
statement_answer most text rest base slots rules (Ok (statement.Slot r)) = read_on most (slots ++ span_slot text r.value.name r.value.values.places r.value.values.count ∷ []) rules (tokens_past rest base r.next)
statement_answer most text rest base slots rules (Ok (statement.Rule r)) = read_on most slots (rules ++ rule_of r.value ∷ []) (tokens_past rest base r.next)
statement_answer most text rest base slots rules (Err k) = refused (fault_number k) (length rules)

-- What is known of the statement: the position after it moves on and stays in the remainder; a slot line comes where there is no rule and room for it, a rule where there is room.
abbrev pub StatementLies : ℕ → List ℕ → ℕ → ℕ → ℕ → Result Statement Fault → Type 0
StatementLies most text size width count (Ok statement.End) = Unit
StatementLies most text size width count (Ok (statement.Slot r)) =
    (0 < r.next) × (r.next ≤ size) × (width < slot_limit) × (count ≡ 0) × (0 < r.value.name) × SpanLies text r.value.name × ValuesLie text r.value.values.places r.value.values.count
StatementLies most text size width count (Ok (statement.Rule r)) = (0 < r.next) × (r.next ≤ size) × (count < most) × PlainRule r.value
StatementLies most text size width count (Err k) = Unit
