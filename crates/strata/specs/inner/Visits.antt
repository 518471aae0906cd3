-- What is known of an order to visit rules in, and of the arrays that it is found with.
-- A reader need not believe what stands here: the order is a hint.
use Rattle.std.specs.Prelude.{List, ℕ, ◌+◌, ◌*◌, ◌-◌, ◌≤◌, ◌<◌, get_or}
use Rattle.laws.specs.Limits.{rule_limit}
use Rattle.table.specs.inner.Flat.{pair_places}

-- The most visits in an order.
abbrev pub visit_limit : ℕ
visit_limit = 3 * rule_limit

-- The most nodes that are searched: rules, the start, and pairs.
abbrev pub node_limit : ℕ
node_limit = rule_limit + 1 + pair_places

-- No number is above b.
pub record AtMost (b : ℕ) (xs : List ℕ) : Type 0 where
  pub each : (k : ℕ) → get_or xs k 0 ≤ b

-- These numbers are places of n rules, and the first of them are visits.
pub record Visits (n tail : ℕ) (order : List ℕ) : Type 0 where
  pub few : tail ≤ visit_limit
  pub entries : AtMost (n - 1) order
  pub some : 0 < tail → 0 < n
