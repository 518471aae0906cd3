-- What is known of the arrays of every table, of one that the code has by its types and of one that rows stand for: their lengths, and the ranges of their numbers.
use Rattle.std.specs.Prelude.{◌≡◌, ℕ, ◌≤◌, ◌<◌, length, get_or}
use Rattle.table.specs.declared.Literal.{Literal}
use Rattle.table.specs.declared.Assignment.{Assignment}
use Rattle.table.specs.declared.Rule.{Rule}
use Rattle.table.specs.declared.Slot.{Slot}
use Rattle.table.specs.declared.Table.{Table}
use Rattle.laws.specs.Limits.{slot_limit, value_limit, rule_limit, literal_limit, assignment_limit}
use Rattle.table.specs.Zero.{zero_literal, zero_assignment, zero_rule, zero_slot}

-- A literal names its pair in bytes.
pub record LiteralShaped (l : Literal) : Type 0 where
  pub slot_byte : l.slot < 256
  pub value_byte : l.value < 256

-- So does an assignment.
pub record AssignmentShaped (a : Assignment) : Type 0 where
  pub slot_byte : a.slot < 256
  pub value_byte : a.value < 256

-- A rule has eight literal places and four assignment places; its trigger is of bytes, and its stratum has sixteen bits.
pub record RuleShaped (r : Rule) : Type 0 where
  pub slot_byte : r.slot < 256
  pub value_byte : r.value < 256
  pub literal_places : length r.literals ≡ literal_limit
  pub each_literal : (j : ℕ) → j < literal_limit → LiteralShaped (get_or r.literals j zero_literal)
  pub assignment_places : length r.assignments ≡ assignment_limit
  pub each_assignment : (j : ℕ) → j < assignment_limit → AssignmentShaped (get_or r.assignments j zero_assignment)
  pub stratum_small : r.stratum < 65536

-- A slot has fifteen places for names of values.
pub record SlotShaped (s : Slot) : Type 0 where
  pub value_places : length s.values ≡ value_limit

-- A table has 32 places for slots, and as many for rules as it says that it uses, if that is within the limit.
pub record Shaped (t : Table) : Type 0 where
  pub slot_places : length t.slots ≡ slot_limit
  pub each_slot : (i : ℕ) → i < slot_limit → SlotShaped (get_or t.slots i zero_slot)
  pub rule_places : t.count ≤ rule_limit → t.count ≤ length t.rules
  pub each_rule : (i : ℕ) → i < length t.rules → RuleShaped (get_or t.rules i zero_rule)
