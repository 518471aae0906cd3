use mathlib.Core.Path.{◌≡◌}
use Rattle.table.specs.Link.{assignments_of}
use Rattle.table.proofs.Walks.{assigned_from}
use Rattle.rows.specs.inner.Rows.{rule_in}
use Rattle.leastness.specs.inner.Flagging.{flagging, Room, flag_all}
use Rattle.leastness.proofs.flag_assigned.Given as goal

abbrev pub invariant-pairs : goal.invariant-pairs
invariant-pairs l = Room l.flags l.n × (flag_all l.high l.s (assigned_from (rule_in l.row.numbers) l.k) (flagging l.flags l.queue l.n) ≡ flag_all l.high l.s (assignments_of (rule_in l.row.numbers)) (flagging l.initial.flags l.initial.queue l.top))
