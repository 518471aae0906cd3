-- Literals in another order: document 02, section 5, 'a condition's mark is the same for its literals in any order'.
use Rattle.std.specs.Prelude.{ℕ, ◌≡◌, List, length}
use Rattle.laws.specs.Rearranged.{Perm}
use Rattle.laws.specs.Numbers.{Numbered}
use Rattle.model.specs.Rules.{Rule}
use Rattle.model.specs.Orders.{rule_at}

-- Two rules that differ in the order of their literals at most.
pub record LiteralsMoved (r r' : Rule) : Type 0 where
  pub same_trigger : r.trigger ≡ r'.trigger
  pub moved_literals : Perm r.literals r'.literals
  pub same_assignments : r.assignments ≡ r'.assignments

-- Two lists of as many rules that differ so, rule by rule.
pub record EachMoved (rs rs' : List Rule) : Type 0 where
  pub as_many : length rs ≡ length rs'
  pub each_rule : (n : ℕ) → Numbered (length rs) n → LiteralsMoved (rule_at rs n) (rule_at rs' n)
