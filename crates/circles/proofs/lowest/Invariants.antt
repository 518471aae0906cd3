use mathlib.Core.Path.{◌≡◌}
use Rattle.laws.specs.Numbers.{first_of}
use Rattle.model.specs.Strata.{weak}
use Rattle.model.specs.Circles.{on_circle}
use Rattle.table.specs.Link.{rules_of}
use Rattle.rows.specs.inner.RuleRows.{rows_table}
use Rattle.circles.proofs.Circled.{Gathered, Barring}
use Rattle.circles.proofs.lowest.Given as goal

abbrev pub invariant-links : goal.invariant-links
invariant-links l = Gathered (rows_table l.rows) l.row-index l.links

abbrev pub invariant-flags : goal.invariant-flags
invariant-flags l = Barring (rows_table l.rows) l.links l.row-index l.flags

abbrev pub invariant-search : goal.invariant-search
invariant-search l = first_of (on_circle weak (rules_of (rows_table l.rows))) l.k ≡ 0
