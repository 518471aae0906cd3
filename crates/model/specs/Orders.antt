-- Firing orders: document 01, 'Preconditions and response'. They know the rules, the card S and the slip I, and no strata.
-- A moment of an order is the list of the rules fired so far; C and the fired rules do not depend on the order of that list.
use Rattle.std.specs.Prelude.{ℕ, Bool, true, false, List, [], ◌∷◌, eqb, leb, get_or, length}
use Rattle.laws.specs.Truth.{◌∧ᵇ◌, ◌∨ᵇ◌, notᵇ}
use Rattle.laws.specs.Numbers.{some_of}
use Rattle.model.specs.Rules.{Pair, Pairs, Rule, among, enabled}

-- What stands at a number that no rule has.
unfoldable pub no_rule : Rule
no_rule = record { trigger = record { slot = 0; value = 0 }; literals = []; assignments = [] }

-- The rule of a number; rules are numbered from 1 (01, 'Rule text').
unfoldable pub rule_at : List Rule → ℕ → Rule
rule_at rs n = get_or (no_rule ∷ rs) n no_rule

-- A list of rule numbers names n. The fired rules of an order are those that it names.
unfoldable pub names : List ℕ → ℕ → Bool
names [] n = false
names (m ∷ ms) n = eqb n m ∨ᵇ names ms n

-- Every number of a list passes.
unfoldable pub each : (ℕ → Bool) → List ℕ → Bool
each f [] = true
each f (n ∷ ns) = f n ∧ᵇ each f ns

-- C once the rules that a list names have fired: the slip's pairs, and what those rules assign.
unfoldable pub changes : List Rule → List Pair → List ℕ → Pairs
changes rs I [] p = among p I
changes rs I (n ∷ ns) p = among p (rule_at rs n).assignments ∨ᵇ changes rs I ns p

module _ (rs : List Rule) (S : List ℕ) (I : List Pair) where
  -- Where the rules of `done` have fired, n can fire: it is a rule, unfired, and enabled then.
  unfoldable pub ready : List ℕ → ℕ → Bool
  ready done n = leb 1 n ∧ᵇ leb n (length rs) ∧ᵇ notᵇ (names done n) ∧ᵇ enabled S (changes rs I done) (rule_at rs n)

  -- Where the rules of `done` have fired, those of a list can fire one after the other.
  unfoldable pub can_fire : List ℕ → List ℕ → Bool
  can_fire done [] = true
  can_fire done (n ∷ ns) = ready done n ∧ᵇ can_fire (n ∷ done) ns

  -- A list is a firing order: it starts at the slip with nothing fired.
  unfoldable pub firing_order : List ℕ → Bool
  firing_order ns = can_fire [] ns

  -- It is complete: at its end no unfired rule is enabled.
  unfoldable pub complete : List ℕ → Bool
  complete ns = notᵇ (some_of (ready ns) (length rs))

  -- It is consistent: every fired rule is still enabled at its end.
  unfoldable pub consistent : List ℕ → Bool
  consistent ns = each (λ n. enabled S (changes rs I ns) (rule_at rs n)) ns

  -- A firing order that is complete and consistent: what demand 3 is about (01, 'Agreement').
  unfoldable pub whole_order : List ℕ → Bool
  whole_order ns = firing_order ns ∧ᵇ complete ns ∧ᵇ consistent ns
