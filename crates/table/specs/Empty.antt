-- Document 01, 'Rule text': unused places are zero, and a refused reading gives a table without slots or rules.
use Rattle.std.specs.Prelude.{replicate}
use Rattle.table.specs.declared.Rule.{Rule}
use Rattle.table.specs.declared.Slot.{Slot}
use Rattle.table.specs.declared.Table.{Table}
use Rattle.laws.specs.Limits.{slot_limit, value_limit, rule_limit, literal_limit, assignment_limit}
use Rattle.table.specs.Zero.{zero_literal, zero_assignment, zero_name}

-- A rule's place that is not used.
abbrev pub unused_rule : Rule
unused_rule = record { slot = 0; value = 0; literals = replicate literal_limit zero_literal; tested = 0; assignments = replicate assignment_limit zero_assignment; assigned = 0; stratum = 0 }

-- A slot's place that is not used.
abbrev pub unused_slot : Slot
unused_slot = record { name = zero_name; values = replicate value_limit zero_name; count = 0 }

-- The table without slots or rules.
abbrev pub empty_table : Table
empty_table = record { slots = replicate slot_limit unused_slot; width = 0; rules = replicate rule_limit unused_rule; count = 0 }
