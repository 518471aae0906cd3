use Prim.Native.Nat.{ℕ}
use mathlib.Core.List.{List}
use Rattle.steps.specs.inner.Spans.{Listed}
use Rattle.steps.proofs.Spans.{Left}
use Rattle.steps.proofs.lookup.find.Given as goal

-- The names passed were others.
abbrev pub invariant-loop-i : goal.invariant-loop-i
invariant-loop-i l = (names : List (List ℕ)) → Listed l.text l.spans names → Left l.text l.spans l.name names l.i
