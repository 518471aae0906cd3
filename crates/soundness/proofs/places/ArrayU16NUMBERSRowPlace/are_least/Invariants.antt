use Rattle.std.proofs.Common.{◌≡◌, length, take}
use Rattle.rows.specs.inner.RuleRows.{numbers_of}
use Rattle.soundness.proofs.places.ArrayU16NUMBERSRowPlace.are_least.Given as goal

abbrev pub invariant-rows : goal.invariant-rows
invariant-rows l = (length l.rows ≡ length l.initial.rows) × (numbers_of (take l.i l.rows) ≡ take l.i l.places)
