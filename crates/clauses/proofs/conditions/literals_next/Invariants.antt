use Prim.Native.Nat.{ℕ, ◌-◌, ◌≤◌}
use mathlib.Core.Path.{◌≡◌}
use mathlib.Core.List.{List, []}
use Rattle.laws.specs.inner.Filled.{Filled}
use Rattle.table.specs.Zero.{zero_literal}
use Rattle.grammar.specs.Files.{Slot}
use Rattle.laws.specs.Limits.{literal_limit}
use Rattle.grammar.specs.Reading.{read_literals}
use Rattle.steps.specs.inner.Places.{tokens_past}
use Rattle.clauses.specs.inner.Literals.{Looked}
use Rattle.clauses.specs.inner.Conditions.{literals_in}
use Rattle.clauses.proofs.conditions.literals_next.Given as goal

abbrev pub invariant-loop-list : goal.invariant-loop-list
invariant-loop-list l =
    (l.start ≤ l.at) × Filled literal_limit zero_literal l.list.places l.list.count × ((base : ℕ) (slots : List Slot) → Looked l.s.text.now slots l.s.slotspans.now l.s.valuespans.now
    → read_literals slots literal_limit [] (tokens_past l.s.tokens.rest.now base l.start) ≡ read_literals slots (literal_limit - l.list.count) (literals_in l.list) (tokens_past l.s.tokens.rest.now base l.at))

abbrev pub decreases-loop-list : goal.decreases-loop-list
decreases-loop-list l = literal_limit - l.list.count
