-- Document 01, refusal 31: a table that 'carries other than the least strata'; the strata are those of document 02, section 2.
use Rattle.std.specs.Prelude.{Bool, eqb, length}
use Rattle.laws.specs.Truth.{◌∧ᵇ◌, notᵇ}
use Rattle.laws.specs.Numbers.{some_of}
use Rattle.model.specs.Strata.{weak}
use Rattle.model.specs.Circles.{circle_of}
use Rattle.model.specs.Least.{strata_of}
use Rattle.table.specs.declared.Table.{Table}
use Rattle.table.specs.Link.{rules_of, stratum_at}

-- A table carries the least strata: they exist, and no rule carries another number than its own.
unfoldable pub carries_least : Table → Bool
carries_least t =
    eqb (circle_of weak (rules_of t)) 0 ∧ᵇ notᵇ (some_of (λ n. notᵇ (eqb (stratum_at t n) (strata_of weak (rules_of t) n))) (length (rules_of t)))
