-- Laws of the tests of a rule, one literal after the other.
-- Assumes nothing.
use mathlib.Core.Path.{◌≡◌}
use mathlib.Core.Bool.{Bool, true, false, not, cond}
use mathlib.Core.List.{List}
use Prim.Native.Nat.{ℕ, ◌+◌, ◌≤◌, ◌<◌}
use lib.ListN.{get_or}
use Rattle.laws.specs.Truth.{◌∧ᵇ◌, notᵇ}
use Rattle.model.specs.Rules.{Pairs, Literal, was, became, test, holds, all_hold, enabled}
use Rattle.model.specs.Rules as model
use Rattle.table.specs.declared.Rule.{Rule}
use Rattle.laws.specs.Limits.{literal_limit}
use Rattle.table.specs.Zero.{zero_literal}
use Rattle.table.specs.inner.Shape.{RuleShaped}
use Rattle.table.specs.Link.{literal_of, rule_of}
use Rattle.table.proofs.Walks.{literals_from, literals_start, literals_next, literals_end}

-- The test of a `*=` and of a `|=`.
pub test_becomes : (S : List ℕ) (C : Pairs) (l : Literal) → l.becomes ≡ true → test S C l ≡ became S C l.pair
unfolding test
test_becomes S C l e = rw e

pub test_was : (S : List ℕ) (C : Pairs) (l : Literal) → l.becomes ≡ false → test S C l ≡ was S l.pair
unfolding test
test_was S C l e = rw e

-- A literal under NOT, and a plain one.
pub holds_not : (S : List ℕ) (C : Pairs) (l : Literal) (b : Bool) → l.negated ≡ true → b ≡ test S C l → not b ≡ holds S C l
unfolding holds notᵇ
holds_not S C l b e q = go l.negated b (test S C l) e q
  where
    go : (n b u : Bool) → n ≡ true → b ≡ u → not b ≡ cond n (notᵇ u) u
    go n true u e q = rw (e, ← q)
    go n false u e q = rw (e, ← q)

pub holds_plain : (S : List ℕ) (C : Pairs) (l : Literal) (b : Bool) → l.negated ≡ false → b ≡ test S C l → b ≡ holds S C l
unfolding holds
holds_plain S C l b e q = go l.negated (test S C l) e q
  where
    go : (n u : Bool) → n ≡ false → b ≡ u → b ≡ cond n (notᵇ u) u
    go n u e q = rw e q

-- A rule whose trigger does not hold is not enabled.
pub enabled_off : (S : List ℕ) (C : Pairs) (r : model.Rule) → became S C r.trigger ≡ false → enabled S C r ≡ false
unfolding enabled ◌∧ᵇ◌
enabled_off S C r e = rw e

module _ (S : List ℕ) (C : Pairs) (r : Rule) where
  -- Else its literals decide,
  pub enabled_on : became S C (rule_of r).trigger ≡ true → all_hold S C (literals_from r 0) ≡ enabled S C (rule_of r)
  unfolding enabled ◌∧ᵇ◌
  enabled_on e = rw (e, literals_start r)

  -- the next literal and those after it,
  pub literal_false : RuleShaped r → (j : ℕ) → j < r.tested → r.tested ≤ literal_limit → holds S C (literal_of (get_or r.literals j zero_literal)) ≡ false
      → all_hold S C (literals_from r j) ≡ false
  unfolding all_hold ◌∧ᵇ◌
  literal_false sh j h k e = rw (literals_next r sh j h k, e)

  pub literal_true : RuleShaped r → (j : ℕ) → j < r.tested → r.tested ≤ literal_limit → holds S C (literal_of (get_or r.literals j zero_literal)) ≡ true
      → all_hold S C (literals_from r j) ≡ all_hold S C (literals_from r (j + 1))
  unfolding all_hold ◌∧ᵇ◌
  literal_true sh j h k e = rw (literals_next r sh j h k, e)

  -- and in the end all held.
  pub literals_held : (j : ℕ) → r.tested ≤ j → all_hold S C (literals_from r j) ≡ true
  unfolding all_hold
  literals_held j h = rw (literals_end r j h)
