-- True, False and Unknown as a list: document 02, section 5, 'Show that, with false, unknown and true as 0, 1 and 2, AND is the smaller of two and NOT is two minus the mark; that a condition's mark is the same for its literals
-- in any order; and that no result of §3 changes.' The functions `truths::and` and `truths::not` of the code give what AND₃ and NOT₃ say, by their contracts, which repeat the numbers.
use Rattle.std.specs.Prelude.{ℕ, ◌-◌, min, ◌≡◌, cond, List}
use Rattle.laws.specs.Truth.{◌∧ᵇ◌, ◌∨ᵇ◌}
use Rattle.laws.specs.Rearranged.{Perm}
use Rattle.model.specs.Rules.{Literal, Rule}
use Rattle.truths.specs.declared.Truth3.{Truth3}
use Rattle.truths.specs.declared.Truth3.TheVariants.{True, False, Unknown}
use Rattle.truths.specs.Truths.{◌AND₃◌, NOT₃, is_true, is_false, number}
use Rattle.marks.specs.Marks.{Marks, truth_condition, truth_rule}
use Rattle.marks.specs.AnyOrder.{LiteralsMoved, EachMoved}
use Rattle.table.specs.declared.Way.TheVariants as ways
use Rattle.grammar.specs.Files.{File, slot_counts}
use Rattle.grammar.specs.Meaning.{IsFile}
use Rattle.rule_file.specs.Whole.{reading_without_18}
use Rattle.tally.specs.Editors.{Editors}
use Rattle.response.specs.Respond.{Outputs}
use Rattle.promises.specs.ByMarks.{SameReturned}

pub record TruthValues : Type 0 where
  -- The lists say what section 6.1 of the paper says in words. AND is True where both are True, False where one is False, Unknown otherwise; NOT is True of False, False of True, Unknown otherwise.
  pub and_in_words : (p q : Truth3) → p AND₃ q ≡ cond (is_true p ∧ᵇ is_true q) True (cond (is_false p ∨ᵇ is_false q) False Unknown)
  pub not_in_words : (p : Truth3) → NOT₃ p ≡ cond (is_false p) True (cond (is_true p) False Unknown)
  -- With False, Unknown and True as 0, 1 and 2, AND is the smaller of two numbers, and NOT is two minus the number.
  pub and_smaller : (p q : Truth3) → number (p AND₃ q) ≡ min (number p) (number q)
  pub not_two_minus : (p : Truth3) → number (NOT₃ p) ≡ 2 - number p
  -- A condition comes to the same for its literals in any order, at any card and marks; so does a rule.
  pub condition_any_order : (S : List ℕ) (Z : Marks) (ls ls' : List Literal) → Perm ls ls' → truth_condition S Z ls ≡ truth_condition S Z ls'
  pub rule_any_order : (S : List ℕ) (Z : Marks) (r r' : Rule) → LiteralsMoved r r' → truth_rule S Z r ≡ truth_rule S Z r'
  -- So two texts whose rules differ in the order of their literals at most, over slots of as many values, get the same response by marks by their tables, read without test 18: outcome, records and every byte of the outputs.
  pub response_any_order : (text text' : List ℕ) (f f' : File) → IsFile text f → IsFile text' f' → slot_counts f.slots ≡ slot_counts f'.slots → EachMoved f.rules f'.rules
      → (y : Editors) (card slip : List ℕ) (o : Outputs) → SameReturned ways.Marks ways.Marks (reading_without_18 text).table (reading_without_18 text').table y card slip o
