use Prim.Native.Nat.{ℕ, ◌-◌, ◌≤◌}
use mathlib.Core.Path.{◌≡◌}
use mathlib.Core.List.{List}
use lib.ListN.{length}
use mathlib.Core.Bool.{false}
use Rattle.grammar.specs.Files.{Slot}
use Rattle.grammar.specs.Reading.{read_literal}
use Rattle.steps.specs.inner.Places.{tokens_past}
use Rattle.clauses.proofs.literal.skip_nots.Given as goal

abbrev pub invariant-loop-next : goal.invariant-loop-next
invariant-loop-next l = (l.start ≤ l.at) × ((base : ℕ) (slots : List Slot) → read_literal (tokens_past l.tokens.rest.now base l.start) slots false ≡ read_literal (tokens_past l.tokens.rest.now base l.at) slots l.negated)

abbrev pub decreases-loop-next : goal.decreases-loop-next
decreases-loop-next l = length l.tokens.rest.now - l.at
