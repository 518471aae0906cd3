-- Rules whose pairs all have a place in an array indexed by pair: what the work over such arrays asks of a table. A table that 31 lets pass has it.
use Rattle.std.specs.Prelude.{ℕ, ◌≤◌, ◌<◌, get_or}
use Rattle.table.specs.declared.Rule.{Rule}
use Rattle.table.specs.declared.Table.{Table}
use Rattle.laws.specs.Limits.{rule_limit, literal_limit, assignment_limit}
use Rattle.table.specs.Zero.{zero_rule, zero_literal, zero_assignment}
use Rattle.table.specs.inner.Flat.{Placed}

-- A rule: its numbers of literals and assignments are within the limits, and the pairs of its trigger, of the literals used and of the assignments used have a place.
pub record RuleFits (r : Rule) : Type 0 where
  pub trigger : Placed r.slot r.value
  pub literals_fit : r.tested ≤ literal_limit
  pub assignments_fit : r.assigned ≤ assignment_limit
  pub literal : (j : ℕ) → j < r.tested → Placed (get_or r.literals j zero_literal).slot (get_or r.literals j zero_literal).value
  pub assignment : (j : ℕ) → j < r.assigned → Placed (get_or r.assignments j zero_assignment).slot (get_or r.assignments j zero_assignment).value

-- A table: its number of rules is within the limit, and each rule used fits.
pub record TableFits (t : Table) : Type 0 where
  pub rules_fit : t.count ≤ rule_limit
  pub each_fits : (i : ℕ) → i < t.count → RuleFits (get_or t.rules i zero_rule)
