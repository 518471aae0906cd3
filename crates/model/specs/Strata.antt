-- Dependence and strata: document 01, 'Preconditions and response'; the RL paper, section 7; document 02, section 2, for weak strata.
use Rattle.std.specs.Prelude.{ℕ, ◌≤◌, ◌<◌, Bool, false, cond, List, [], ◌∷◌, T, length}
use Rattle.laws.specs.Truth.{◌∧ᵇ◌, ◌∨ᵇ◌, notᵇ}
use Rattle.laws.specs.Numbers.{Numbered}
use Rattle.model.specs.Rules.{Pair, Literal, Rule, among}
use Rattle.model.specs.Orders.{rule_at}

-- A literal is a `*=`; `|=` binds nothing.
unfoldable pub is_becomes : Literal → Bool
is_becomes l = l.becomes

-- A literal is a plain `*=`.
unfoldable pub is_plain : Literal → Bool
is_plain l = l.becomes ∧ᵇ notᵇ l.negated

-- A literal is a `*=` under NOT.
unfoldable pub is_under_not : Literal → Bool
is_under_not l = l.becomes ∧ᵇ l.negated

-- The pairs of the literals that pass a test, in the condition's order.
unfoldable pub pairs_where : (Literal → Bool) → List Literal → List Pair
pairs_where f [] = []
pairs_where f (l ∷ ls) = cond (f l) (l.pair ∷ pairs_where f ls) (pairs_where f ls)

-- The pairs that a rule tests by `*=`, in trigger or condition, plain or under NOT.
unfoldable pub tested : Rule → List Pair
tested r = r.trigger ∷ pairs_where is_becomes r.literals

-- Those that it tests plainly, the trigger's among them: it needs them in C.
unfoldable pub needed : Rule → List Pair
needed r = r.trigger ∷ pairs_where is_plain r.literals

-- Those that it tests under NOT: it bars them from C.
unfoldable pub barred : Rule → List Pair
barred r = pairs_where is_under_not r.literals

-- Some pair is in both lists.
unfoldable pub meet : List Pair → List Pair → Bool
meet [] qs = false
meet (p ∷ ps) qs = among p qs ∨ᵇ meet ps qs

-- Rule n depends on rule m: m assigns a pair that n tests. (In section 7, m is in the definition of that pair.)
unfoldable pub depends : List Rule → ℕ → ℕ → Bool
depends rs n m = meet (tested (rule_at rs n)) (rule_at rs m).assignments

-- It depends plainly: m assigns a pair that n needs.
unfoldable pub depends_plainly : List Rule → ℕ → ℕ → Bool
depends_plainly rs n m = meet (needed (rule_at rs n)) (rule_at rs m).assignments

-- It depends under NOT: m assigns a pair that n bars.
unfoldable pub depends_under_not : List Rule → ℕ → ℕ → Bool
depends_under_not rs n m = meet (barred (rule_at rs n)) (rule_at rs m).assignments

-- Strict strata, of document 01 and section 7, fall along every dependence; weak strata, of document 02, section 2, fall under NOT alone.
pub data Grading : Type 0 where
  strict weak : Grading

-- The dependences along which strata may stay level.
unfoldable pub may_stay_level : Grading → List Rule → ℕ → ℕ → Bool
may_stay_level strict rs n m = false
may_stay_level weak rs n m = depends_plainly rs n m

-- The dependences along which strata must fall.
unfoldable pub must_fall : Grading → List Rule → ℕ → ℕ → Bool
must_fall strict rs n m = depends rs n m
must_fall weak rs n m = depends_under_not rs n m

-- Numbers t are strata of the rules: from 1, no higher where they may stay level, and smaller where they must fall.
pub record Strata (G : Grading) (rs : List Rule) (t : ℕ → ℕ) : Type 0 where
  pub from_one : (n : ℕ) → Numbered (length rs) n → 1 ≤ t n
  pub no_higher : (n m : ℕ) → Numbered (length rs) n → Numbered (length rs) m → T (may_stay_level G rs n m) → t m ≤ t n
  pub smaller : (n m : ℕ) → Numbered (length rs) n → Numbered (length rs) m → T (must_fall G rs n m) → t m < t n
