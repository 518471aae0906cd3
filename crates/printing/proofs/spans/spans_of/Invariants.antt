use mathlib.Core.Path.{◌≡◌}
use mathlib.Core.List.{map}
use lib.ListN.{length, take}
use Rattle.laws.specs.Limits.{value_limit}
use Rattle.printing.specs.inner.Tabled.{span_of}
use Rattle.printing.proofs.spans.spans_of.Given as goal

abbrev pub invariant-loop-i : goal.invariant-loop-i
invariant-loop-i l = (length l.spans ≡ value_limit) × (take l.i l.spans ≡ map (span_of l.text) (take l.i l.s.values))
