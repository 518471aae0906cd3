use Prim.Native.Nat.{ℕ, ◌-◌, ◌≤◌}
use mathlib.Core.Path.{◌≡◌}
use mathlib.Core.List.{List, []}
use Rattle.laws.specs.Limits.{assignment_limit}
use Rattle.grammar.specs.Files.{Slot}
use Rattle.grammar.specs.Reading.{read_assignments}
use Rattle.steps.specs.inner.Places.{tokens_past}
use Rattle.clauses.specs.inner.Literals.{Looked}
use Rattle.clauses.specs.inner.Assignments.{pairs_in, UnusedZero}
use Rattle.clauses.proofs.assignments.assignments_next.Given as goal

abbrev pub invariant-loop-list : goal.invariant-loop-list
invariant-loop-list l =
    (l.start ≤ l.at) × UnusedZero l.list × ((base : ℕ) (slots : List Slot) → Looked l.s.text.now slots l.s.slotspans.now l.s.valuespans.now
    → read_assignments slots assignment_limit [] (tokens_past l.s.tokens.rest.now base l.start) ≡ read_assignments slots (assignment_limit - l.list.count) (pairs_in l.list) (tokens_past l.s.tokens.rest.now base l.at))

abbrev pub decreases-loop-list : goal.decreases-loop-list
decreases-loop-list l = assignment_limit - l.list.count
