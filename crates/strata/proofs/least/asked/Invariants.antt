use mathlib.Core.Path.{◌≡◌}
use mathlib.Core.List.{List}
use Prim.Native.Nat.{ℕ, ◌+◌, ◌≤◌, max}
use Rattle.model.specs.Strata.{is_plain, is_under_not}
use Rattle.table.specs.Link.{rule_of}
use Rattle.table.proofs.Walks.{picked_from}
use Rattle.rows.specs.inner.Rows.{rule_in}
use Rattle.strata.specs.inner.Heights.{highest_at, asked_at}
use Rattle.strata.proofs.least.asked.Given as goal

-- What the literals from a place on ask.
abbrev pub ask-from : List ℕ → List ℕ → ℕ → ℕ
ask-from high row j = max (highest_at high (picked_from (rule_in row) is_plain j)) (highest_at high (picked_from (rule_in row) is_under_not j) + 1)

abbrev pub invariant-literals : goal.invariant-literals
invariant-literals l = (1 ≤ l.h) × (max l.h (ask-from l.high l.row.numbers l.j) ≡ asked_at l.high (rule_of (rule_in l.row.numbers)))
