-- Orders of selection: the RL paper, section 6.1, `never` and Definition 3; document 02, section 3. They know the declared pairs, the rules, the card S and the slip I, and no strata.
-- A moment of an order is the list of the moves made so far, the last one first.
use Rattle.std.specs.Prelude.{ℕ, zero, suc, ◌+◌, ◌≡◌, Bool, true, cond, List, [], ◌∷◌, reverse, ◌⊎◌, leb, length}
use Rattle.laws.specs.Truth.{◌∧ᵇ◌, notᵇ}
use Rattle.laws.specs.Numbers.{some_of}
use Rattle.laws.specs.Listed.{all_of}
use Rattle.model.specs.Rules.{Pair, Rule, among}
use Rattle.model.specs.Orders.{rule_at, names}
use Rattle.truths.specs.Truths.{is_true, is_false}
use Rattle.marks.specs.Marks.{Marks, is_unknown, is_both, no_marks, update, rule_out, truth_rule}

-- One move: a rule is fired, or a pair is ruled out.
pub data Move : Type 0 where
  fires : ℕ → Move
  drops : Pair → Move

-- The rules fired, the last one first.
unfoldable pub fired : List Move → List ℕ
fired [] = []
fired (fires n ∷ cs) = n ∷ fired cs
fired (drops p ∷ cs) = fired cs

-- The rules fired, in the order fired.
unfoldable pub order_fired : List Move → List ℕ
order_fired cs = reverse (fired cs)

-- The marks after some moves: at first they are those of the slip, I⁺; a rule that is fired updates them by what it assigns; a pair that is ruled out becomes negative.
unfoldable pub marks_after : List Rule → List Pair → List Move → Marks
marks_after rs I [] = update no_marks I
marks_after rs I (fires n ∷ cs) = update (marks_after rs I cs) (rule_at rs n).assignments
marks_after rs I (drops p ∷ cs) = rule_out (marks_after rs I cs) p

module _ (ps : List Pair) (rs : List Rule) (S : List ℕ) (I : List Pair) where
  -- No declared pair is both positive and negative.
  unfoldable pub no_clash : List Move → Bool
  no_clash cs = all_of (λ p. notᵇ (is_both (marks_after rs I cs) p)) ps

  -- No declared pair is unknown.
  unfoldable pub all_known : List Move → Bool
  all_known cs = all_of (λ p. notᵇ (is_unknown (marks_after rs I cs) p)) ps

  -- No rule assigns a pair, or every rule that does is False: none assigns it that is not.
  unfoldable pub never : List Move → Pair → Bool
  never cs p = notᵇ (some_of (λ n. among p (rule_at rs n).assignments ∧ᵇ notᵇ (is_false (truth_rule S (marks_after rs I cs) (rule_at rs n)))) (length rs))

  -- A move can be made: there is no clash, and it fires a rule that is unfired and True, or rules out a declared pair that is unknown and never comes.
  unfoldable pub applies : List Move → Move → Bool
  applies cs (fires n) = no_clash cs ∧ᵇ leb 1 n ∧ᵇ leb n (length rs) ∧ᵇ notᵇ (names (fired cs) n) ∧ᵇ is_true (truth_rule S (marks_after rs I cs) (rule_at rs n))
  applies cs (drops p) = no_clash cs ∧ᵇ among p ps ∧ᵇ is_unknown (marks_after rs I cs) p ∧ᵇ never cs p

  -- An order of selection: each move could be made after those before it. Definition 3 rules out all that it can before each firing; an order here may, and need not.
  unfoldable pub selects : List Move → Bool
  selects [] = true
  selects (c ∷ cs) = selects cs ∧ᵇ applies cs c

  -- It is complete: no move can be made.
  unfoldable pub ends : List Move → Bool
  ends cs = all_of (λ p. notᵇ (applies cs (drops p))) ps ∧ᵇ notᵇ (some_of (λ n. applies cs (fires n)) (length rs))

  -- A complete order of selection.
  unfoldable pub whole_selection : List Move → Bool
  whole_selection cs = selects cs ∧ᵇ ends cs

  -- What it comes to: 41 where a pair is both positive and negative, otherwise 42 where a pair is unknown; 0 where it is accepted.
  unfoldable pub selection_refusal : List Move → ℕ
  selection_refusal cs = cond (no_clash cs) (cond (all_known cs) 0 42) 41

  -- A move is made if it can be.
  unfoldable pub try : Move → List Move → List Move
  try c cs = cond (applies cs c) (c ∷ cs) cs

  -- Each pair of a list is ruled out in turn if it can be.
  unfoldable pub try_pairs : List Pair → List Move → List Move
  try_pairs [] cs = cs
  try_pairs (p ∷ qs) cs = try_pairs qs (try (drops p) cs)

  -- Each rule from 1 to k is fired in turn if it can be.
  unfoldable pub try_rules : ℕ → List Move → List Move
  try_rules zero cs = cs
  try_rules (suc k) cs = try (fires (suc k)) (try_rules k cs)

  -- So many sweeps, each over all declared pairs and then over all rules.
  unfoldable pub sweeps : ℕ → List Move
  sweeps zero = []
  sweeps (suc k) = try_rules (length rs) (try_pairs ps (sweeps k))

  -- The selection, one complete order: a sweep makes a move while one can be made, and each pair is ruled out once at most and each rule fired once at most.
  unfoldable pub selection : List Move
  selection = sweeps (suc (length ps + length rs))

-- Two orders, of rules rs and of rs', both end in 41; or they end in the same marks, have fired the same rules, n of the one being f n of the other,
-- and both are accepted or both end in 42.
unfoldable pub EndAlike : List Pair → List ℕ → List Pair → List Rule → List Rule → (ℕ → ℕ) → List Move → List Move → Type 0
EndAlike ps S I rs rs' f a b =
    ((selection_refusal ps rs S I a ≡ 41) × (selection_refusal ps rs' S I b ≡ 41))
    ⊎ ((marks_after rs I a ≡ marks_after rs' I b) × ((n : ℕ) → names (fired a) n ≡ names (fired b) (f n)) × (selection_refusal ps rs S I a ≡ selection_refusal ps rs' S I b))
