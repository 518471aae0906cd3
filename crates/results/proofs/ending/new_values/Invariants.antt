use mathlib.Core.Path.{◌≡◌}
use Rattle.laws.specs.Filled.{filled}
use Rattle.laws.specs.Tabulated.{tabulate}
use Rattle.model.specs.Result.{new_value}
use Rattle.laws.specs.Limits.{slot_limit, row}
use Rattle.table.specs.inner.Flat.{set_of}
use Rattle.results.proofs.ending.new_values.Given as goal

abbrev pub invariant-loop-s : goal.invariant-loop-s
invariant-loop-s l = l.values ≡ filled slot_limit 0 (tabulate (new_value row (set_of l.changes) l.card) l.s)
