-- Laws of what a rule comes to, found literal by literal.
-- Assumes nothing.
use mathlib.Core.Path.{◌≡◌, sym, ap, ◌∙◌}
use mathlib.Core.List.{List, [], ◌∷◌}
use Prim.Native.Nat.{ℕ, zero, suc, ◌+◌, ◌≤◌, ◌<◌}
use native.Mathlib.Omega.{arith}
use lib.ListN.{get_or, drop}
use Rattle.model.specs.Rules.{Literal}
use Rattle.table.specs.declared.Rule.{Rule}
use Rattle.table.specs.Zero.{zero_literal}
use Rattle.table.specs.Link.{literal_of, rule_of}
use Rattle.table.proofs.Walks.{literals_from, literals_start, literals_next, literals_end}
use Rattle.rows.specs.inner.Rows.{literal_in, rule_in, RowBounded}
use Rattle.rows.proofs.Laws.{literal_is, row_rule_shaped}
use Rattle.truths.specs.declared.Truth3.{Truth3}
use Rattle.truths.specs.declared.Truth3.TheVariants.{True, False}
use Rattle.truths.specs.Truths.{◌AND₃◌}
use Rattle.marks.specs.Marks.{Marks, truth_turns, truth_literal, truth_condition, truth_rule}
use Rattle.truths.proofs.Laws.{and_false, and_comm}

-- The next literal of a row by its number.
row_literals_next : (row : List ℕ) → RowBounded row → (j x : ℕ) → j < (rule_in row).tested → x ≡ get_or row (4 + j) 0 → literals_from (rule_in row) j ≡ literal_of (literal_in x) ∷ literals_from (rule_in row) (j + 1)
row_literals_next row fits j x h e =
    let l : get_or (rule_in row).literals j zero_literal ≡ literal_in x = literal_is row j (omega (arith, h, fits.few_literals)) ∙ ap literal_in (sym e) in
    literals_next (rule_in row) (row_rule_shaped row fits.row_shaped) j h fits.few_literals ∙ ap (λ k. literal_of k ∷ literals_from (rule_in row) (j + 1)) l

module _ (S : List ℕ) (Z : Marks) where
  -- Without a literal the condition is True.
  pub condition_none : (r : Rule) (j : ℕ) → r.tested ≤ j → True ≡ truth_condition S Z (literals_from r j)
  unfolding truth_condition
  condition_none r j h = rw (literals_end r j h)

  -- The literal at a place is joined to those after it.
  pub condition_next : (row : List ℕ) → RowBounded row → (j after x : ℕ) → after ≡ j + 1 → j < (rule_in row).tested → x ≡ get_or row (4 + j) 0
      → truth_literal S Z (literal_of (literal_in x)) AND₃ truth_condition S Z (literals_from (rule_in row) after) ≡ truth_condition S Z (literals_from (rule_in row) j)
  unfolding truth_condition
  condition_next row fits j after x i h e = rw (i, row_literals_next row fits j x h e)

  -- Where some of the last literals come to False, so do all.
  condition_false : (ls : List Literal) (j : ℕ) → truth_condition S Z (drop j ls) ≡ False → truth_condition S Z ls ≡ False
  unfolding truth_condition
  condition_false ls zero e = e
  condition_false [] (suc j) e = e
  condition_false (l ∷ ls) (suc j) e = ap (λ (t : Truth3). truth_literal S Z l AND₃ t) (condition_false ls j e) ∙ and_comm (truth_literal S Z l) False ∙ and_false (truth_literal S Z l)

  module _ (r : Rule) where
    -- A rule is its trigger AND its condition;
    pub rule_joined : truth_turns S Z (rule_of r).trigger AND₃ truth_condition S Z (literals_from r 0) ≡ truth_rule S Z (rule_of r)
    unfolding truth_rule
    rule_joined = rw (literals_start r)

    -- a trigger that is False decides,
    pub trigger_decides : truth_turns S Z (rule_of r).trigger ≡ False → False ≡ truth_rule S Z (rule_of r)
    trigger_decides e = sym (and_false (truth_condition S Z (literals_from r 0))) ∙ ap (λ (t : Truth3). t AND₃ truth_condition S Z (literals_from r 0)) (sym e) ∙ rule_joined

    -- and so do some of the last literals that come to False.
    pub literals_decide : (j : ℕ) → truth_condition S Z (literals_from r j) ≡ False → False ≡ truth_rule S Z (rule_of r)
    unfolding literals_from
    literals_decide j e =
        let t = truth_turns S Z (rule_of r).trigger in
        sym (and_comm t False ∙ and_false t) ∙ ap (λ (u : Truth3). t AND₃ u) (sym (condition_false (literals_from r 0) j e)) ∙ rule_joined
