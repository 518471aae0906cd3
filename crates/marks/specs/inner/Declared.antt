-- Rules and a slip that name declared pairs alone.
use Rattle.std.specs.Prelude.{ℕ, List, T, length}
use Rattle.laws.specs.Numbers.{Numbered}
use Rattle.model.specs.Rules.{Pair, Rule, among}
use Rattle.model.specs.Orders.{rule_at}
use Rattle.model.specs.Strata.{tested}

-- The pairs of the slip and of the rules are declared, as 25, 27 and 31 test.
pub record Declared (ps : List Pair) (rs : List Rule) (I : List Pair) : Type 0 where
  pub slip : (p : Pair) → T (among p I) → T (among p ps)
  pub assigned : (n : ℕ) (p : Pair) → Numbered (length rs) n → T (among p (rule_at rs n).assignments) → T (among p ps)
  pub in_tests : (n : ℕ) (p : Pair) → Numbered (length rs) n → T (among p (tested (rule_at rs n))) → T (among p ps)
