use Prim.Native.Nat.{◌≤◌}
use mathlib.Core.Path.{◌≡◌}
use lib.ListN.{length}
use Rattle.laws.specs.Limits.{rule_limit}
use Rattle.reader.proofs.ReadLaws.{Halfway}
use Rattle.rows.specs.inner.Rows.{Entered}
use Rattle.rows.specs.inner.RuleRows.{numbers_of}
use Rattle.strata.proofs.Layered.{Numbering}
use Rattle.rule_file.proofs.read_into.Given as goal

abbrev pub invariant-rows : goal.invariant-rows
invariant-rows l = (l.count ≤ rule_limit) × (length l.rows ≡ rule_limit) × Entered l.t.rules (numbers_of l.rows) l.i

abbrev pub invariant-strata : goal.invariant-strata
invariant-strata l = (l.count ≤ rule_limit) × Numbering l.numbers l.initial.t l.j l.t

abbrev pub invariant-statements : goal.invariant-statements
invariant-statements l = Halfway l.most l.text l.t l.slotspans l.valuespans l.rest l.base

abbrev pub decreases-statements : goal.decreases-statements
decreases-statements l = length l.rest
