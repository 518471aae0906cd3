use mathlib.Core.Path.{◌≡◌}
use Rattle.results.proofs.Bits.{bits_until}
use Rattle.results.proofs.records.byte_at.Given as goal

abbrev pub invariant-loop-j : goal.invariant-loop-j
invariant-loop-j l = l.x ≡ bits_until l.fired l.k l.j
