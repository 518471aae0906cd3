use mathlib.Core.Path.{◌≡◌}
use mathlib.Core.Bool.{Bool, true, false}
use mathlib.Core.List.{List}
use Prim.Native.Nat.{◌+◌, ◌≤◌}
use lib.ListN.{length}
use Rattle.model.specs.Rules.{all_hold, enabled}
use Rattle.table.specs.Link.{rule_of}
use Rattle.table.specs.inner.Flat.{set_of}
use Rattle.table.proofs.Walks.{literals_from}
use Rattle.rows.specs.inner.Rows.{rule_in}
use Rattle.rows.specs.inner.RuleRows.{rows_table}
use Rattle.testing.specs.inner.Truth.{Truth}
use Rattle.testing.specs.inner.Waiting.{Waiting, Woken}
use Rattle.firing.proofs.Sorted.{Sorts}
use Rattle.firing.proofs.Running.{Kept, turns_left, passes_left, Running}
use Rattle.firing.proofs.fire_within.Given as goal

-- The invariants of the loops of `firing::fire_within`, and what is known at the places that its proof speaks of: a pass, a rule to look at, a literal.
abbrev pub invariant-literals : goal.invariant-literals
invariant-literals l = (all_hold l.card (set_of l.changes) (literals_from (rule_in (l.row.numbers)) l.j) ≡ enabled l.card (set_of l.changes) (rule_of (rule_in (l.row.numbers)))) × Waiting (length l.rows) l.heads l.nexts × (length l.nexts ≡ length l.initial.nexts)

abbrev pub invariant-rules : goal.invariant-rules
invariant-rules l =
    (l.initial.k ≤ l.k) × Kept l.initial.fired l.fired l.moved × Truth l.card l.changes l.truth × Waiting (length l.rows) l.heads l.nexts × Woken (length l.rows) l.left l.woken
    × ((slip : List Bool) → Running (rows_table l.rows) l.card slip l.positions l.stratum l.initial.k l.initial.k false l.initial.changes l.initial.fired → Running (rows_table l.rows) l.card slip l.positions l.stratum l.initial.k l.k l.moved l.changes l.fired)
    × (length l.nexts ≡ length l.initial.nexts) × (length l.woken ≡ length l.initial.woken)

abbrev pub decreases-rules : goal.decreases-rules
decreases-rules l = turns_left l.fired l.to l.k l.left

abbrev pub invariant-passes : goal.invariant-passes
invariant-passes l =
    ((o : Sorts (rows_table l.rows) l.positions l.starts) → l.stratum ≤ o.top) × Running (rows_table l.rows) l.card l.initial.changes l.positions l.stratum 0 0 true l.changes l.fired × Truth l.card l.changes l.truth × Waiting (length l.rows) l.heads l.nexts
    × (length l.fired ≡ length l.initial.fired) × (length l.nexts ≡ length l.initial.nexts) × (length l.woken ≡ length l.initial.woken)

abbrev pub decreases-passes : goal.decreases-passes
decreases-passes l = passes_left (length l.rows + 1) l.stratum l.fired
