-- The zero value of each struct of the table: what reading an array past its end gives.
use Rattle.std.specs.Prelude.{false, []}
use Rattle.table.specs.declared.Literal.{Literal}
use Rattle.table.specs.declared.Assignment.{Assignment}
use Rattle.table.specs.declared.Rule.{Rule}
use Rattle.table.specs.declared.Name.{Name}
use Rattle.table.specs.declared.Slot.{Slot}

-- A literal.
abbrev pub zero_literal : Literal
zero_literal = record { becomes = false; negated = false; slot = 0; value = 0 }

-- An assignment.
abbrev pub zero_assignment : Assignment
zero_assignment = record { slot = 0; value = 0 }

-- A rule.
abbrev pub zero_rule : Rule
zero_rule = record { slot = 0; value = 0; literals = []; tested = 0; assignments = []; assigned = 0; stratum = 0 }

-- A name.
abbrev pub zero_name : Name
zero_name = record { start = 0; size = 0 }

-- A slot.
abbrev pub zero_slot : Slot
zero_slot = record { name = zero_name; values = []; count = 0 }
