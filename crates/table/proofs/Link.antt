-- Laws of the link from a table to the model.
-- Assumes nothing.
use mathlib.Core.Path.{◌≡◌, ap, ◌∙◌}
use Prim.Native.Nat.{ℕ, suc, ◌≤◌, ◌<◌}
use native.Mathlib.Omega.{arith}
use lib.ListN.{length, get_or, take, length-map, length-take, get_or-map}
use lib.Seq.{get_or-take}
use Rattle.model.specs.Orders.{rule_at}
use Rattle.model.specs.Orders as orders
use Rattle.table.specs.declared.Table.{Table}
use Rattle.table.specs.Zero.{zero_rule, zero_slot}
use Rattle.table.specs.Link.{rule_of, rules_of, carried_strata, stratum_at, value_counts}

pub rules_length : (t : Table) → t.count ≤ length t.rules → length (rules_of t) ≡ t.count
unfolding rules_of
rules_length t h = simp (length-map, length-take) (omega arith)

pub rule_is : (t : Table) (i : ℕ) → i < t.count → get_or (rules_of t) i (rule_of zero_rule) ≡ rule_of (get_or t.rules i zero_rule)
unfolding rules_of
rule_is t i h = get_or-map rule_of (take t.count t.rules) i zero_rule ∙ ap rule_of (get_or-take t.count t.rules i zero_rule h)

pub strata_length : (t : Table) → t.count ≤ length t.rules → length (carried_strata t) ≡ t.count
unfolding carried_strata
strata_length t h = simp (length-map, length-take) (omega arith)

pub stratum_is : (t : Table) (i : ℕ) → i < t.count → get_or (carried_strata t) i 0 ≡ (get_or t.rules i zero_rule).stratum
unfolding carried_strata
stratum_is t i h = get_or-map (λ r. r.stratum) (take t.count t.rules) i zero_rule ∙ rw (get_or-take t.count t.rules i zero_rule h)

pub counts_length : (t : Table) → t.width ≤ length t.slots → length (value_counts t) ≡ t.width
unfolding value_counts
counts_length t h = simp (length-map, length-take) (omega arith)

pub count_is : (t : Table) (i : ℕ) → i < t.width → get_or (value_counts t) i 0 ≡ (get_or t.slots i zero_slot).count
unfolding value_counts
count_is t i h = get_or-map (λ s. s.count) (take t.width t.slots) i zero_slot ∙ rw (get_or-take t.width t.slots i zero_slot h)

-- The same by the rule's number.
pub rule_at_is : (t : Table) (i : ℕ) → i < t.count → rule_at (rules_of t) (suc i) ≡ rule_of (get_or t.rules i zero_rule)
unfolding rule_at orders.no_rule
rule_at_is t i h = rule_is t i h

pub stratum_at_is : (t : Table) (i : ℕ) → i < t.count → stratum_at t (suc i) ≡ (get_or t.rules i zero_rule).stratum
unfolding stratum_at
stratum_at_is t i h = stratum_is t i h
