use mathlib.Core.Path.{◌≡◌}
use lib.ListN.{length, drop}
use Rattle.soundness.proofs.WellFormed.{Counted, RightUpTo}
use Rattle.rows.proofs.RuleRows.{EnteredIn}
use Rattle.soundness.proofs.enter.Given as goal

abbrev pub invariant-slots : goal.invariant-slots
invariant-slots g l = Counted l.t l.k l.counts

abbrev pub invariant-rules : goal.invariant-rules
invariant-rules g l = (length l.rows ≡ length l.initial.rows) × (drop l.n l.rows ≡ drop l.n l.initial.rows) × RightUpTo l.t l.counts l.i × EnteredIn g.P.RowPlace.numbers l.t.rules l.rows l.i
