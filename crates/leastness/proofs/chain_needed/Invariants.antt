use mathlib.Core.Path.{◌≡◌}
use Prim.Native.Nat.{◌+◌, ◌*◌, ◌≤◌}
use Rattle.model.specs.Strata.{is_plain}
use Rattle.table.proofs.Walks.{picked_from}
use Rattle.rows.specs.inner.Rows.{rule_in}
use Rattle.leastness.specs.inner.Chains.{heads_with, nexts_with}
use lib.ListN.{length}
use Rattle.leastness.proofs.chain_needed.Given as goal

abbrev pub invariant-literals : goal.invariant-literals
invariant-literals l = (l.o ≤ l.i * 9 + 1 + l.j) × ((length l.nexts ≡ length l.initial.nexts) × (heads_with l.high l.s (picked_from (rule_in l.row.numbers) is_plain l.j) l.o l.heads ≡ heads_with l.high l.s (picked_from (rule_in l.row.numbers) is_plain 0) (l.i * 9 + 1) l.initial.heads) × (nexts_with l.high l.s (picked_from (rule_in l.row.numbers) is_plain l.j) l.o l.heads l.nexts ≡ nexts_with l.high l.s (picked_from (rule_in l.row.numbers) is_plain 0) (l.i * 9 + 1) l.initial.heads l.initial.nexts))
