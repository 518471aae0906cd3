-- The table of a file: document 01, 'Rule text'. Unused places are zero; strata are not known yet.
use Rattle.std.specs.Prelude.{map, length}
use Rattle.laws.specs.Filled.{filled}
use Rattle.text.specs.Tokens.{Name}
use Rattle.grammar.specs.Files.{Slot, File}
use Rattle.table.specs.declared.Name as stretch
use Rattle.table.specs.declared.Slot as tabled
use Rattle.laws.specs.Limits.{value_limit, slot_limit, rule_limit, literal_limit, assignment_limit}
use Rattle.table.specs.Zero.{zero_name, zero_literal, zero_assignment}
use Rattle.model.specs.Rules.{Pair}
use Rattle.table.specs.declared.Assignment.{Assignment}
use Rattle.model.specs.Rules as model
use Rattle.table.specs.Empty.{unused_rule, unused_slot}
use Rattle.table.specs.declared.Literal as code
use Rattle.table.specs.declared.Rule as ruled
use Rattle.table.specs.declared.Table.{Table}

-- Where a name stands, as the table has it.
abbrev pub name_for : Name → stretch.Name
name_for n = record { start = n.start; size = length n.letters }

-- A slot as the table has it: places not used are zero.
abbrev pub slot_for : Slot → tabled.Slot
slot_for s = record { name = name_for s.name; values = filled value_limit zero_name (map name_for s.values); count = length s.values }

-- The assignment of the table that assigns a pair.
abbrev pub assignment_for : Pair → Assignment
assignment_for p = record { slot = p.slot; value = p.value }

-- A literal and a rule in their places; strata are not known yet.
abbrev pub literal_for : model.Literal → code.Literal
literal_for l = record { becomes = l.becomes; negated = l.negated; slot = l.pair.slot; value = l.pair.value }

abbrev pub rule_for : model.Rule → ruled.Rule
rule_for r = record {
  slot = r.trigger.slot;
  value = r.trigger.value;
  literals = filled literal_limit zero_literal (map literal_for r.literals);
  tested = length r.literals;
  assignments = filled assignment_limit zero_assignment (map assignment_for r.assignments);
  assigned = length r.assignments;
  stratum = 0;
}

-- The table of a file.
unfoldable pub table_for : File → Table
table_for f = record {
  slots = filled slot_limit unused_slot (map slot_for f.slots);
  width = length f.slots;
  rules = filled rule_limit unused_rule (map rule_for f.rules);
  count = length f.rules;
}
