-- A condition and a rule come to the same for their literals in any order, and so does the selection.
-- Assumes nothing.
use Prim.Native.Nat.{ℕ, zero, suc, ◌+◌, ◌≤◌, ◌<◌}
use native.Mathlib.Omega.{arith}
use mathlib.Core.Path.{◌≡◌, refl, ap, ◌∙◌}
use mathlib.Core.Bool.{cond}
use mathlib.Core.List.{List, [], ◌∷◌}
use mathlib.Core.Logic.{⊎_elim}
use lib.Dec.{leb}
use lib.ListN.{length, get_or, get_or-eq_default}
use Rattle.laws.specs.Truth.{◌∧ᵇ◌, notᵇ}
use Rattle.laws.specs.Numbers.{some_of}
use Rattle.laws.specs.Listed.{all_of}
use Rattle.laws.specs.Rearranged.{Perm, p_nil, p_skip, p_swap, p_trans}
use Rattle.laws.proofs.Truth.{le_or_lt}
use Rattle.model.specs.Rules.{Pair, Literal, Rule, among}
use Rattle.model.specs.Orders.{no_rule, rule_at, names}
use Rattle.truths.specs.declared.Truth3.{Truth3}
use Rattle.truths.specs.Truths.{◌AND₃◌, is_true, is_false}
use Rattle.truths.proofs.Laws.{and_swap}
use Rattle.marks.specs.Marks.{Marks, is_unknown, is_both, update, rule_out, truth_turns, truth_literal, truth_condition, truth_rule}
use Rattle.marks.specs.Selection.{Move, fires, drops, fired, marks_after, no_clash, all_known, never, applies, selection_refusal, try, try_pairs, try_rules, sweeps, selection}
use Rattle.marks.specs.AnyOrder.{LiteralsMoved, EachMoved}

-- A condition comes to the same for its literals in any order,
pub condition_any_order : (S : List ℕ) (Z : Marks) (ls ls' : List Literal) → Perm ls ls' → truth_condition S Z ls ≡ truth_condition S Z ls'
unfolding truth_condition
condition_any_order S Z _ _ p_nil = refl
condition_any_order S Z _ _ (p_skip {x = l} p) = ap (λ (t : Truth3). truth_literal S Z l AND₃ t) (condition_any_order S Z _ _ p)
condition_any_order S Z _ _ (p_swap {x = l} {y = m} {l = ls}) = and_swap (truth_literal S Z l) (truth_literal S Z m) (truth_condition S Z ls)
condition_any_order S Z _ _ (p_trans p q) = condition_any_order S Z _ _ p ∙ condition_any_order S Z _ _ q

-- and so does a rule.
pub rule_any_order : (S : List ℕ) (Z : Marks) (r r' : Rule) → LiteralsMoved r r' → truth_rule S Z r ≡ truth_rule S Z r'
unfolding truth_rule
rule_any_order S Z r r' m = λ i. truth_turns S Z (m.same_trigger i) AND₃ condition_any_order S Z r.literals r'.literals m.moved_literals i

-- The place without a rule differs in nothing from itself.
no_rule_moved : LiteralsMoved no_rule no_rule
unfolding no_rule
no_rule_moved = record { same_trigger = refl; moved_literals = p_nil; same_assignments = refl }

module _ (ps : List Pair) (rs rs' : List Rule) (S : List ℕ) (I : List Pair) (M : EachMoved rs rs') where
  -- Every number names two rules that differ so, or no rule.
  each : (n : ℕ) → LiteralsMoved (rule_at rs n) (rule_at rs' n)
  unfolding rule_at
  each zero = no_rule_moved
  each (suc i) = ⊎_elim outside (λ (h : i < length rs). M.each_rule (suc i) (record { first = omega arith; last = h })) (le_or_lt (length rs) i)
    where
      outside : length rs ≤ i → LiteralsMoved (get_or rs i no_rule) (get_or rs' i no_rule)
      outside l = rw (get_or-eq_default rs no_rule {n = i} l, get_or-eq_default rs' no_rule {n = i} (omega (arith, l, M.as_many))) no_rule_moved

  -- What a rule assigns and what it comes to are the same.
  assigns_same : (n : ℕ) → (rule_at rs n).assignments ≡ (rule_at rs' n).assignments
  assigns_same n = (each n).same_assignments

  comes_same : (Z Z' : Marks) → Z ≡ Z' → (n : ℕ) → truth_rule S Z (rule_at rs n) ≡ truth_rule S Z' (rule_at rs' n)
  comes_same Z Z' e n = rule_any_order S Z (rule_at rs n) (rule_at rs' n) (each n) ∙ ap (λ (Y : Marks). truth_rule S Y (rule_at rs' n)) e

  -- So are the marks after some moves,
  pub marks_same : (cs : List Move) → marks_after rs I cs ≡ marks_after rs' I cs
  unfolding marks_after
  marks_same [] = refl
  marks_same (fires n ∷ cs) = λ i. update (marks_same cs i) (assigns_same n i)
  marks_same (drops p ∷ cs) = λ i. rule_out (marks_same cs i) p

  clash_same : (cs : List Move) → no_clash ps rs S I cs ≡ no_clash ps rs' S I cs
  unfolding no_clash
  clash_same cs = λ i. all_of (λ p. notᵇ (is_both (marks_same cs i) p)) ps

  -- the number that they come to,
  pub refusal_same : (cs : List Move) → selection_refusal ps rs S I cs ≡ selection_refusal ps rs' S I cs
  unfolding selection_refusal all_known
  refusal_same cs = λ i. cond (clash_same cs i) (cond (all_of (λ p. notᵇ (is_unknown (marks_same cs i) p)) ps) 0 42) 41

  -- which pairs never come and which moves can be made,
  never_same : (cs : List Move) (p : Pair) → never ps rs S I cs p ≡ never ps rs' S I cs p
  unfolding never
  never_same cs p = λ i. notᵇ (some_of (λ n. among p (assigns_same n i) ∧ᵇ notᵇ (is_false (comes_same (marks_after rs I cs) (marks_after rs' I cs) (marks_same cs) n i))) (M.as_many i))

  applies_same : (cs : List Move) (c : Move) → applies ps rs S I cs c ≡ applies ps rs' S I cs c
  unfolding applies
  applies_same cs (fires n) = λ i. clash_same cs i ∧ᵇ leb 1 n ∧ᵇ leb n (M.as_many i) ∧ᵇ notᵇ (names (fired cs) n) ∧ᵇ is_true (comes_same (marks_after rs I cs) (marks_after rs' I cs) (marks_same cs) n i)
  applies_same cs (drops p) = λ i. clash_same cs i ∧ᵇ among p ps ∧ᵇ is_unknown (marks_same cs i) p ∧ᵇ never_same cs p i

  -- each sweep,
  try_same : (c : Move) (cs : List Move) → try ps rs S I c cs ≡ try ps rs' S I c cs
  unfolding try
  try_same c cs = λ i. cond (applies_same cs c i) (c ∷ cs) cs

  pairs_same : (qs : List Pair) (cs : List Move) → try_pairs ps rs S I qs cs ≡ try_pairs ps rs' S I qs cs
  unfolding try_pairs
  pairs_same [] cs = refl
  pairs_same (p ∷ qs) cs = pairs_same qs (try ps rs S I (drops p) cs) ∙ ap (try_pairs ps rs' S I qs) (try_same (drops p) cs)

  rules_same : (k : ℕ) (cs : List Move) → try_rules ps rs S I k cs ≡ try_rules ps rs' S I k cs
  unfolding try_rules
  rules_same zero cs = refl
  rules_same (suc k) cs = try_same (fires (suc k)) (try_rules ps rs S I k cs) ∙ ap (try ps rs' S I (fires (suc k))) (rules_same k cs)

  sweeps_same : (k : ℕ) → sweeps ps rs S I k ≡ sweeps ps rs' S I k
  unfolding sweeps
  sweeps_same zero = refl
  sweeps_same (suc k) =
      rules_same (length rs) (try_pairs ps rs S I ps (sweeps ps rs S I k))
      ∙ (λ i. try_rules ps rs' S I (M.as_many i) (pairs_same ps (sweeps_same k i) i))

  -- and the selection.
  pub selection_same : selection ps rs S I ≡ selection ps rs' S I
  unfolding selection
  selection_same = λ i. sweeps_same (suc (length ps + M.as_many i)) i
