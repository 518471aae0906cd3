use mathlib.Core.Path.{◌≡◌}
use Prim.Native.Nat.{◌-◌, ◌≤◌}
use Rattle.table.specs.inner.Flat.{pair_places}
use Rattle.rows.specs.inner.RuleRows.{rows_table}
use Rattle.leastness.proofs.Carried.{Carried, Valid}
use Rattle.leastness.proofs.Closing.{Closing}
use Rattle.leastness.proofs.Following.{Done, Chaining}
use lib.ListN.{length}
use Rattle.leastness.proofs.are_held.Given as goal

abbrev pub invariant-gather : goal.invariant-gather
invariant-gather l = Carried (rows_table l.rows) l.row-index l.high

abbrev pub invariant-ask : goal.invariant-ask
invariant-ask l = ((length l.held ≡ length l.initial.held) × (length l.nexts ≡ length l.initial.nexts)) × (Valid (rows_table l.rows) l.k l.high × Closing (rows_table l.rows) l.high l.k l.held l.flags l.queue l.top l.heads l.nexts)

abbrev pub invariant-chain : goal.invariant-chain
invariant-chain l = (length l.held ≡ length l.initial.held) × Chaining (rows_table l.rows) l.high l.at l.p l.x l.held l.flags l.queue l.top l.heads l.nexts

abbrev pub decreases-chain : goal.decreases-chain
decreases-chain l = l.x

abbrev pub invariant-work : goal.invariant-work
invariant-work l = (l.at ≤ l.top) × (length l.held ≡ length l.initial.held) × (Closing (rows_table l.rows) l.high (rows_table l.rows).count l.held l.flags l.queue l.top l.heads l.nexts × Done (rows_table l.rows) l.high l.at l.queue l.held)

abbrev pub decreases-work : goal.decreases-work
decreases-work l = pair_places - l.at
