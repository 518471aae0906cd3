-- Rules with strict strata (document 01): selection gives 41 exactly where the strata response has a conflict, and otherwise its answer; never 42.
-- Assumes nothing.
use Prim.Native.Nat.{ℕ, zero, suc, ◌<◌}
use native.Mathlib.Omega.{arith}
use mathlib.Core.Path.{◌≡◌, refl}
use mathlib.Core.Bool.{Bool, true, false}
use mathlib.Core.List.{List}
use mathlib.Core.Logic.{◌⊎◌, inl, inr, ⊎_elim, ◌↔◌}
use lib.Dec.{T}
use lib.ListN.{length}
use Rattle.laws.specs.Numbers.{Numbered}
use Rattle.laws.proofs.Truth.{and_l, and_r, not_i, not_e, stable}
use Rattle.laws.proofs.Equations.{is_true}
use Rattle.model.specs.Rules.{Pair, Rule, among, enabled}
use Rattle.model.specs.Orders.{rule_at, names, changes}
use Rattle.model.specs.Strata.{strict, must_fall, Strata}
use Rattle.model.specs.Circles.{circle_of}
use Rattle.model.specs.Least.{strata_of}
use Rattle.model.specs.Response.{response}
use Rattle.model.specs.Paper.{SlotConsistent, firing_of}
use Rattle.model.proofs.Orders.{whole_e}
use Rattle.model.proofs.Gradings.{depends_i}
use Rattle.model.proofs.Strata.{least_strata}
use Rattle.model.proofs.Demand3.{response_is_whole}
use Rattle.truths.specs.declared.Truth3.{Truth3}
use Rattle.truths.specs.Truths.{is_false}
use Rattle.truths.specs.Truths as truths
use Rattle.marks.specs.Marks.{is_unknown, truth_rule}
use Rattle.marks.specs.Selection.{Move, fired, marks_after, no_clash, all_known, selects, whole_selection, selection_refusal}
use Rattle.marks.specs.inner.Declared.{Declared}
use Rattle.marks.proofs.Known.{of_test, exact_rule}
use Rattle.marks.proofs.Selections.{all_pairs_i, fired_positive, Ends, ends_e}
use Rattle.marks.proofs.Answered.{known_rule, order_no_clash}
use Rattle.marks.proofs.Correct.{strata_equal}

-- A truth value is True or False.
Decided : Truth3 → Type 0
Decided t = T (truths.is_true t) ⊎ T (is_false t)

test_decided : (b : Bool) → Decided (of_test b)
unfolding Decided of_test truths.is_true is_false
test_decided true = inl tt
test_decided false = inr tt

module _ (ps : List Pair) (rs : List Rule) (S : List ℕ) (I : List Pair) (D : Declared ps rs I) (t : ℕ → ℕ) (strata : Strata strict rs t)
    (cs : List Move) (O : T (selects ps rs S I cs)) (E : Ends ps rs S I cs) (k : T (no_clash ps rs S I cs)) where
  -- A pair that only decided rules assign is marked.
  pair_known : (p : Pair) → T (among p ps) → ((n : ℕ) → Numbered (length rs) n → T (among p (rule_at rs n).assignments) → Decided (truth_rule S (marks_after rs I cs) (rule_at rs n)))
      → (¬ T ((marks_after rs I cs).positive p)) → T ((marks_after rs I cs).negative p)
  unfolding Decided
  pair_known p l decided u = stable ((marks_after rs I cs).negative p) (λ v. E.no_drop p (record {
    clear = k;
    listed = l;
    not_positive = u;
    not_negative = v;
    all_False = λ n i a. ⊎_elim
        (λ x. absurd (u (fired_positive rs I cs n p (stable (names (fired cs) n) (λ h. E.no_fire n (record { clear = k; rule = i; unfired = h; is_True = x }))) a)))
        (λ x. x) (decided n i a);
  }))

  -- By strata from below: every rule is decided.
  rule_decided : (j n : ℕ) → t n < j → Numbered (length rs) n → Decided (truth_rule S (marks_after rs I cs) (rule_at rs n))
  unfolding must_fall Decided
  rule_decided zero n lt i = absurd (omega arith)
  rule_decided (suc j) n lt i =
      let C = changes rs I (fired cs) in
      let s = known_rule ps rs S I D cs O k (rule_at rs n) (λ p a. pair_known p (D.in_tests n p i a)
      (λ m i' b. rule_decided j m (omega (arith, lt, strata.smaller n m i i' (depends_i rs n m p a b))) i')) in
      ⊎_elim (λ x. inl (s.stays_true (rw (exact_rule S C (rule_at rs n)) x))) (λ x. inr (s.stays_false (rw (exact_rule S C (rule_at rs n)) x))) (test_decided (enabled S C (rule_at rs n)))

  -- So every declared pair is marked.
  nothing_unknown : T (all_known ps rs S I cs)
  unfolding all_known is_unknown
  nothing_unknown = all_pairs_i _ ps (λ p l. not_i _ (λ u. not_e _ (and_r _ _ u)
      (pair_known p l (λ n i a. rule_decided (suc (t n)) n (omega arith) i) (not_e _ (and_l _ _ u)))))

module _ (ps : List Pair) (rs : List Rule) (S : List ℕ) (I : List Pair) (D : Declared ps rs I) (none : circle_of strict rs ≡ 0) (cs : List Move) (W : T (whole_selection ps rs S I cs)) where
  clear_answers : T (no_clash ps rs S I cs) → selection_refusal ps rs S I cs ≡ 0
  unfolding whole_selection selection_refusal
  clear_answers k =
      rw (is_true (no_clash ps rs S I cs) k, is_true (all_known ps rs S I cs) (nothing_unknown ps rs S I D (strata_of strict rs) (least_strata strict rs none) cs (and_l _ _ W) (ends_e ps rs S I cs (and_r _ _ W)) k))

  -- With strict strata a selection never ends in 42.
  pub strict_no_42 : (selection_refusal ps rs S I cs ≡ 0) ⊎ (selection_refusal ps rs S I cs ≡ 41)
  unfolding selection_refusal
  strict_no_42 = go (no_clash ps rs S I cs) refl
    where
      go : (b : Bool) → no_clash ps rs S I cs ≡ b → (selection_refusal ps rs S I cs ≡ 0) ⊎ (selection_refusal ps rs S I cs ≡ 41)
      go true e = inl (clear_answers (rw e tt))
      go false e = inr (rw e)

  -- It answers exactly where the strata response gives no slot two values.
  pub strict_answers_iff : (selection_refusal ps rs S I cs ≡ 0) ↔ SlotConsistent (firing_of rs I (response strict rs S I))
  unfolding whole_selection
  strict_answers_iff = (
    λ A. (strata_equal ps rs S I D cs W A strict none).2,
    λ one. clear_answers (order_no_clash ps rs S I (response strict rs S I) (whole_e rs S I (response strict rs S I) (response_is_whole strict rs S I none)) one cs (and_l _ _ W)),
  )
