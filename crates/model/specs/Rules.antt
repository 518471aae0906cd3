-- Rules, cards and changes: document 01, 'Preconditions and response'; the RL paper, section 2; for NONE document 02, section 6.
use Rattle.std.specs.Prelude.{ℕ, Bool, true, false, cond, List, [], ◌∷◌, eqb, get_or}
use Rattle.laws.specs.Truth.{◌∧ᵇ◌, ◌∨ᵇ◌, notᵇ}

-- A slot, from 0, and a value: from 1 in declared order, 0 for NONE.
pub record Pair : Type 0 where
  pub slot : ℕ
  pub value : ℕ

-- A test in a condition: `s *= v` (becomes) or `s |= v`, plain or under NOT.
pub record Literal : Type 0 where
  pub becomes : Bool
  pub negated : Bool
  pub pair : Pair

-- WHEN trigger IF literals THEN assignments.
pub record Rule : Type 0 where
  pub trigger : Pair
  pub literals : List Literal
  pub assignments : List Pair

-- Two pairs are the same.
unfoldable pub same : Pair → Pair → Bool
same p q = eqb p.slot q.slot ∧ᵇ eqb p.value q.value

-- A pair is one of a list.
unfoldable pub among : Pair → List Pair → Bool
among p [] = false
among p (q ∷ qs) = same p q ∨ᵇ among p qs

-- One of some assignments is to a slot.
unfoldable pub assigns : List Pair → ℕ → Bool
assigns [] s = false
assigns (p ∷ ps) s = eqb p.slot s ∨ᵇ assigns ps s

-- No two of some assignments are to one slot.
unfoldable pub each_once : List Pair → Bool
each_once [] = true
each_once (p ∷ ps) = notᵇ (assigns ps p.slot) ∧ᵇ each_once ps

-- A set of pairs, as the changes C are.
abbrev pub Pairs : Type 0
Pairs = Pair → Bool

-- `s |= v`: the card S, a value for each slot with 0 for no value, has v in s; so `s |= NONE` where it has no value there.
unfoldable pub was : List ℕ → Pair → Bool
was S p = eqb (get_or S p.slot 0) p.value

-- `s *= v`: S does not have v in s, and (s, v) is in C; so `s *= NONE` where S has a value there and (s, 0) is in C.
unfoldable pub became : List ℕ → Pairs → Pair → Bool
became S C p = notᵇ (was S p) ∧ᵇ C p

-- The test of a literal, without its NOT.
unfoldable pub test : List ℕ → Pairs → Literal → Bool
test S C l = cond l.becomes (became S C l.pair) (was S l.pair)

-- A literal holds.
unfoldable pub holds : List ℕ → Pairs → Literal → Bool
holds S C l = cond l.negated (notᵇ (test S C l)) (test S C l)

-- AND: every literal holds. TRUE is the condition with none.
unfoldable pub all_hold : List ℕ → Pairs → List Literal → Bool
all_hold S C [] = true
all_hold S C (l ∷ ls) = holds S C l ∧ᵇ all_hold S C ls

-- A rule is enabled: its trigger and all its literals hold.
unfoldable pub enabled : List ℕ → Pairs → Rule → Bool
enabled S C r = became S C r.trigger ∧ᵇ all_hold S C r.literals
