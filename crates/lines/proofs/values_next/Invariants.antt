use Prim.Native.Nat.{◌-◌, ◌≤◌}
use mathlib.Core.Path.{◌≡◌}
use mathlib.Core.List.{[]}
use Rattle.laws.specs.Limits.{value_limit}
use Rattle.grammar.specs.Reading.{read_values}
use Rattle.steps.specs.inner.Places.{tokens_past}
use Rattle.lines.specs.inner.Index.{span_names}
use Rattle.lines.specs.inner.Lines.{ValuesLie}
use Rattle.lines.proofs.values_next.Given as goal

-- The values so far are those of the spans, and what is left of the reading gives what the whole gives.
abbrev pub invariant-loop-values : goal.invariant-loop-values
invariant-loop-values l =
    ValuesLie l.f.text.now l.values.places l.values.count × (l.start ≤ l.at) × (read_values value_limit [] (tokens_past l.f.tokens.rest.now l.f.base l.start) ≡ read_values (value_limit - l.values.count) (span_names l.f.text.now l.values.places l.values.count) (tokens_past l.f.tokens.rest.now l.f.base l.at))

abbrev pub decreases-loop-values : goal.decreases-loop-values
decreases-loop-values l = value_limit - l.values.count
