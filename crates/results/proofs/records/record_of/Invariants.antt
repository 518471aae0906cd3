use mathlib.Core.Path.{◌≡◌}
use mathlib.Core.List.{◌++◌}
use lib.ListN.{drop}
use Rattle.laws.specs.Tabulated.{tabulate}
use Rattle.laws.specs.Packed.{byte_at}
use Rattle.results.proofs.records.record_of.Given as goal

abbrev pub invariant-loop-k : goal.invariant-loop-k
invariant-loop-k l = l.out ≡ tabulate (byte_at l.fired) l.k ++ drop l.k l.initial.out
