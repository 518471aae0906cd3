-- The places where rules test a pair by `*=`, chained to it: the last one of each pair, and the one before each, counted from 1 with 0 for none.
use Rattle.std.specs.Prelude.{ℕ, ◌+◌, ◌*◌, ◌≤◌, List, length, get_or}
use Rattle.laws.specs.Limits.{rule_limit, literal_limit}

-- The places of all rules: for each its trigger and its literals.
abbrev pub test_places : ℕ
test_places = rule_limit * (literal_limit + 1)

-- The chains name the first m places only, which find room, and fall.
pub record Chained (m : ℕ) (heads nexts : List ℕ) : Type 0 where
  pub room : m ≤ length nexts
  pub heads_low : (p : ℕ) → get_or heads p 0 ≤ m
  pub nexts_fall : (o : ℕ) → get_or nexts o 0 ≤ o
