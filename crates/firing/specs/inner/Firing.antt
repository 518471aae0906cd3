-- Document 01, 'Preconditions and response': what firing the rules of a table leaves, in arrays of flags, and what it works with.
use Rattle.std.specs.Prelude.{◌≡◌, Bool, false, List, ℕ, suc, ◌+◌, ◌≤◌, ◌<◌, length, get_or, replicate}
use Rattle.laws.specs.Limits.{rule_limit}
use Rattle.model.specs.Orders.{names, changes}
use Rattle.model.specs.Strata.{weak, Strata}
use Rattle.model.specs.Response.{response}
use Rattle.table.specs.declared.Table.{Table}
use Rattle.table.specs.Link.{rules_of, stratum_at}
use Rattle.table.specs.inner.Flat.{flags_of, pairs_of}
use Rattle.table.specs.inner.Fits.{TableFits}

-- What firing asks of a table: every pair that its rules name has a place, and the numbers that it carries are strata, none above the number of rules. A table that 31 lets pass has it.
pub record CanFire (t : Table) : Type 0 where
  pub fits : TableFits t
  pub strata : Strata weak (rules_of t) (stratum_at t)
  pub low : (i : ℕ) → i < t.count → stratum_at t (suc i) ≤ t.count

-- What the rules of a firing order leave: the changes, indexed by pair, and a flag for each rule that it names, rule 1 first. The slip is an array of flags.
pub record Fired (t : Table) (slip : List Bool) (ns : List ℕ) (ended fired : List Bool) : Type 0 where
  pub changes_are : ended ≡ flags_of (changes (rules_of t) (pairs_of slip) ns)
  pub flagged : (i : ℕ) → i < t.count → get_or fired i false ≡ names ns (suc i)

-- Firing: the response, by the least strata.
abbrev pub TableFired : Table → List ℕ → List Bool → List Bool → List Bool → Type 0
TableFired t S slip ended fired = Fired t slip (response weak (rules_of t) S (pairs_of slip)) ended fired

-- What firing is lent to work with has room for n rules, and for where the strata up to n begin and the last ends; no start is entered yet, and no rule waits.
pub record FiringRoom (n : ℕ) (positions starts nexts woken : List ℕ) : Type 0 where
  pub positions_room : n ≤ length positions
  pub starts_room : n + 2 ≤ length starts
  pub no_starts : starts ≡ replicate (length starts) 0
  pub nexts_room : n ≤ length nexts
  pub nexts_few : length nexts ≤ rule_limit
  pub none_waits : nexts ≡ replicate (length nexts) 0
  pub woken_room : n ≤ length woken
