use mathlib.Core.Path.{◌≡◌}
use Rattle.model.specs.Result.{is_changed}
use Rattle.table.specs.inner.Flat.{set_of}
use Rattle.results.proofs.ending.is_changed.Given as goal

abbrev pub invariant-loop-v : goal.invariant-loop-v
invariant-loop-v l = l.found ≡ is_changed l.v (set_of l.changes) l.slot
