-- Marks that selection cannot leave: every order of selection stays within them. A complete order without clash ends in such marks.
-- Assumes nothing.
use Prim.Native.Nat.{ℕ}
use mathlib.Core.Path.{◌≡◌}
use mathlib.Core.Bool.{Bool}
use mathlib.Core.List.{List, [], ◌∷◌}
use mathlib.Core.Logic.{⊎_elim}
use lib.Dec.{T}
use lib.ListN.{length}
use Rattle.laws.specs.Numbers.{Numbered}
use Rattle.laws.proofs.Truth.{or_e, stable}
use Rattle.model.specs.Rules.{Pair, Rule, among}
use Rattle.model.specs.Orders.{rule_at, names}
use Rattle.model.proofs.Pairs.{same_eq}
use Rattle.model.proofs.Changes.{names_e, names_none}
use Rattle.truths.specs.Truths.{is_true, is_false}
use Rattle.marks.specs.Marks.{Marks, rivals, no_marks, update, rule_out, truth_rule}
use Rattle.marks.specs.Selection.{Move, fires, drops, fired, marks_after, no_clash, selects}
use Rattle.marks.specs.inner.Declared.{Declared}
use Rattle.truths.proofs.Laws.{Stays, true_not_false}
use Rattle.marks.proofs.Known.{rule_stays}
use Rattle.marks.proofs.Selections.{slip_positive, slip_rival, fired_positive, fired_rival, fires_e, drops_e, Ends, last_move, before_last, positive_cause, not_both_ever, fired_rule, fired_True}

module _ (ps : List Pair) (rs : List Rule) (S : List ℕ) (I : List Pair) where
  -- Marks Z and rules F that selection cannot leave: no pair is both; the slip and the rules of F have done their part;
  -- every True rule is in F; and every pair that is not the slip's and that only False rules assign is negative.
  pub record Closed (Z : Marks) (F : ℕ → Bool) : Type 0 where
    pub never_both : (p : Pair) → T (Z.positive p) → ¬ T (Z.negative p)
    pub slip_in : (p : Pair) → T (among p I) → T (Z.positive p)
    pub slip_out : (p : Pair) → T (rivals p I) → T (Z.negative p)
    pub True_fired : (n : ℕ) → Numbered (length rs) n → T (is_true (truth_rule S Z (rule_at rs n))) → T (F n)
    pub fired_marked : (n : ℕ) (p : Pair) → T (F n) → T (among p (rule_at rs n).assignments) → T (Z.positive p)
    pub fired_out : (n : ℕ) (p : Pair) → T (F n) → T (rivals p (rule_at rs n).assignments) → T (Z.negative p)
    pub False_out : (p : Pair) → T (among p ps) → (¬ T (among p I))
        → ((n : ℕ) → Numbered (length rs) n → T (among p (rule_at rs n).assignments) → T (is_false (truth_rule S Z (rule_at rs n)))) → T (Z.negative p)

  -- What an order has marked and fired is so in Z and F.
  pub record Within (cs : List Move) (Z : Marks) (F : ℕ → Bool) : Type 0 where
    pub positive_in : (p : Pair) → T ((marks_after rs I cs).positive p) → T (Z.positive p)
    pub negative_in : (p : Pair) → T ((marks_after rs I cs).negative p) → T (Z.negative p)
    pub fired_in : (n : ℕ) → T (names (fired cs) n) → T (F n)

  module _ (Z : Marks) (F : ℕ → Bool) (C : Closed Z F) where
    stays_within : (cs : List Move) → Within cs Z F → (r : Rule) → Stays (truth_rule S (marks_after rs I cs) r) (truth_rule S Z r)
    stays_within cs w r = rule_stays S (marks_after rs I cs) Z r (λ p a. record { positive_kept = w.positive_in p; negative_kept = w.negative_in p; not_both = C.never_both p })

    -- Every order of selection stays within closed marks.
    pub within : (cs : List Move) → T (selects ps rs S I cs) → Within cs Z F
    unfolding marks_after update rule_out no_marks fired
    within [] t = record {
      positive_in = λ p h. ⊎_elim (C.slip_in p) (λ x. absurd x) (or_e _ _ h);
      negative_in = λ p h. ⊎_elim (C.slip_out p) (λ x. absurd x) (or_e _ _ h);
      fired_in = λ n h. absurd (names_none n h);
    }
    within (fires m ∷ cs) t =
        let w = within cs (before_last ps rs S I (fires m) cs t) in
        let r = fires_e ps rs S I cs m (last_move ps rs S I (fires m) cs t) in
        let f : T (F m) = C.True_fired m r.rule ((stays_within cs w (rule_at rs m)).stays_true r.is_True) in
        record {
          positive_in = λ p h. ⊎_elim (C.fired_marked m p f) (w.positive_in p) (or_e _ _ h);
          negative_in = λ p h. ⊎_elim (C.fired_out m p f) (w.negative_in p) (or_e _ _ h);
          fired_in = λ n h. ⊎_elim (λ (e : n ≡ m). rw e f) (w.fired_in n) (names_e n m (fired cs) h);
        }
    within (drops q ∷ cs) t =
        let w = within cs (before_last ps rs S I (drops q) cs t) in
        let r = drops_e ps rs S I cs q (last_move ps rs S I (drops q) cs t) in
        let f : T (Z.negative q) = C.False_out q r.listed (λ h. r.not_positive (slip_positive rs I cs q h)) (λ n i h. (stays_within cs w (rule_at rs n)).stays_false (r.all_False n i h)) in
        record {
          positive_in = w.positive_in;
          negative_in = λ p h. ⊎_elim (λ s. rw (same_eq p q s) f) (w.negative_in p) (or_e _ _ h);
          fired_in = w.fired_in;
        }

  -- A complete order without clash ends in closed marks.
  pub whole_closed : Declared ps rs I → (cs : List Move) → T (selects ps rs S I cs) → Ends ps rs S I cs → T (no_clash ps rs S I cs) → Closed (marks_after rs I cs) (names (fired cs))
  whole_closed D cs t e k = record {
    never_both = not_both_ever ps rs S I D cs t k;
    slip_in = slip_positive rs I cs;
    slip_out = slip_rival rs I cs;
    True_fired = λ n i h. stable (names (fired cs) n) (λ u. e.no_fire n (record { clear = k; rule = i; unfired = u; is_True = h }));
    fired_marked = fired_positive rs I cs;
    fired_out = fired_rival rs I cs;
    False_out = λ p l s f. stable ((marks_after rs I cs).negative p) (λ u. e.no_drop p (record {
      clear = k;
      listed = l;
      not_positive = λ h. ⊎_elim s (λ c. true_not_false (truth_rule S (marks_after rs I cs) (rule_at rs c.0)) (fired_True ps rs S I D cs t k c.0 c.1) (f c.0 (fired_rule ps rs S I cs t c.0 c.1) c.2)) (positive_cause rs I cs p h);
      not_negative = u;
      all_False = f;
    }));
  }
