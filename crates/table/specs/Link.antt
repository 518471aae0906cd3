-- A table as the model has it: its slots with their values, its rules, the strata that it carries. Places beyond a used number are not looked at.
use Rattle.std.specs.Prelude.{List, ◌∷◌, map, ℕ, get_or, take}
use Rattle.model.specs.Rules.{Pair}
use Rattle.model.specs.Rules as model
use Rattle.model.specs.Result.{pair}
use Rattle.table.specs.declared.Literal.{Literal}
use Rattle.table.specs.declared.Assignment.{Assignment}
use Rattle.table.specs.declared.Rule.{Rule}
use Rattle.table.specs.declared.Slot.{Slot}
use Rattle.table.specs.declared.Table.{Table}

-- A literal.
abbrev pub literal_of : Literal → model.Literal
literal_of l = record { becomes = l.becomes; negated = l.negated; pair = pair l.slot l.value }

-- The pair that an assignment assigns.
abbrev pub assignment_of : Assignment → Pair
assignment_of a = pair a.slot a.value

-- The condition of a rule: the literal places used.
abbrev pub literals_of : Rule → List model.Literal
literals_of r = map literal_of (take r.tested r.literals)

-- What a rule assigns: the assignment places used.
abbrev pub assignments_of : Rule → List Pair
assignments_of r = map assignment_of (take r.assigned r.assignments)

-- A rule.
abbrev pub rule_of : Rule → model.Rule
rule_of r = record { trigger = pair r.slot r.value; literals = literals_of r; assignments = assignments_of r }

-- The places of rules that are used; rule 1 first.
abbrev pub used_rules : Table → List Rule
used_rules t = take t.count t.rules

-- The rules of a table.
unfoldable pub rules_of : Table → List model.Rule
rules_of t = map rule_of (used_rules t)

-- The strata that a table carries, that of rule 1 first.
unfoldable pub carried_strata : Table → List ℕ
carried_strata t = map (λ r. r.stratum) (used_rules t)

-- The stratum of the rule of a number, from 1.
unfoldable pub stratum_at : Table → ℕ → ℕ
stratum_at t n = get_or (0 ∷ carried_strata t) n 0

-- The slots of a table, slot 0 first.
abbrev pub slots_of : Table → List Slot
slots_of t = take t.width t.slots

-- How many values each slot has.
unfoldable pub value_counts : Table → List ℕ
value_counts t = map (λ s. s.count) (slots_of t)
