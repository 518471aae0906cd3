-- Where selection answers, its fired rules are a complete and consistent firing order that gives no slot two values, and every such order agrees with it.
-- Assumes nothing.
use Prim.Native.Nat.{ℕ}
use mathlib.Core.Path.{◌≡◌, refl, sym, subst, fun_ext, ◌∙◌}
use mathlib.Core.Bool.{Bool, true, false, cond}
use mathlib.Core.List.{List, [], ◌∷◌, reverse, reverse-cons, reverse-reverse}
use mathlib.Core.Logic.{⊎_elim}
use native.Mathlib.Omega.{arith}
use lib.Dec.{T}
use lib.ListN.{length}
use Rattle.laws.specs.Truth.{notᵇ}
use Rattle.laws.specs.Numbers.{Numbered}
use Rattle.laws.proofs.Truth.{bool_ext, and_l, and_r, not_e, not_i, stable}
use Rattle.laws.proofs.Equations.{either}
use Rattle.model.specs.Rules.{Pair, Pairs, Rule, among, enabled}
use Rattle.model.specs.Orders.{rule_at, names, changes, firing_order, whole_order}
use Rattle.model.specs.Strata.{tested}
use Rattle.model.specs.Result.{pair}
use Rattle.model.specs.Paper.{SlotConsistent, firing_of}
use Rattle.model.proofs.Changes.{names_reverse, changes_same, from_slip, from_rule, cause}
use Rattle.model.proofs.Orders.{Ready, fire_none, fire_last, Complete, Consistent, complete_same, consistent_same, all_fired, WholeOrder, whole_e, whole_i, rules_of}
use Rattle.truths.specs.Truths.{is_true}
use Rattle.marks.specs.Marks.{truth_rule}
use Rattle.marks.specs.Selection.{Move, fires, drops, fired, order_fired, marks_after, no_clash, all_known, selects, whole_selection, selection_refusal}
use Rattle.marks.specs.inner.Declared.{Declared}
use Rattle.truths.proofs.Laws.{Stays}
use Rattle.marks.proofs.Known.{Kept, rule_stays, exact, exact_true, enabled_true, exact_false}
use Rattle.marks.proofs.Updates.{rivals_e}
use Rattle.marks.proofs.Selections.{positive_changes, rivalled, no_clash_i, all_known_e, fires_e, Ends, ends_e, last_move, before_last, not_both_ever, fired_True}
use Rattle.marks.proofs.Closed.{Closed, Within, within}

-- Where no slot has two values a pair and its rival are not both in C.
rival_barred : (rs : List Rule) (I : List Pair) (b : List ℕ) → SlotConsistent (firing_of rs I b) → (p q : Pair) → p.slot ≡ q.slot → (p.value ≡ q.value → ⊥)
    → T (changes rs I b q) → T (notᵇ (changes rs I b p))
unfolding SlotConsistent firing_of
rival_barred rs I b one p q s v h = not_i _ (λ t. v (one p.slot p.value q.value t (rw s h)))

module _ (ps : List Pair) (rs : List Rule) (S : List ℕ) (I : List Pair) where
  -- An answer is neither 41 nor 42.
  pub answers_e : (cs : List Move) → selection_refusal ps rs S I cs ≡ 0 → T (no_clash ps rs S I cs) × T (all_known ps rs S I cs)
  unfolding selection_refusal
  answers_e cs e = go (no_clash ps rs S I cs) (all_known ps rs S I cs) e
    where
      go : (a b : Bool) → ◌≡◌ {A = ℕ} (cond a (cond b 0 42) 41) 0 → T a × T b
      go true true e = (tt, tt)
      go true false e = absurd (omega arith)
      go false b e = absurd (omega arith)

  module _ (b : List ℕ) (B : WholeOrder rs S I b) (one : SlotConsistent (firing_of rs I b)) where
    -- The changes of a complete and consistent firing order that gives no slot two values are closed marks.
    pub order_closed : Closed ps rs S I (exact (changes rs I b)) (names b)
    unfolding exact Consistent
    order_closed = record {
      never_both = λ p t u. not_e _ u t;
      slip_in = from_slip rs I b;
      slip_out = λ p t. let w = rivals_e p I t in rival_barred rs I b one p w.0 w.2 w.3 (from_slip rs I b w.0 w.1);
      True_fired = λ n i h. all_fired rs S I b B.completes n i (exact_true S (changes rs I b) (rule_at rs n) h);
      fired_marked = λ n p f h. from_rule rs I b p n f h;
      fired_out = λ n p f t. let w = rivals_e p (rule_at rs n).assignments t in rival_barred rs I b one p w.0 w.2 w.3 (from_rule rs I b w.0 n f w.1);
      False_out = λ p l s f. not_i _ (λ t. ⊎_elim s
          (λ c. exact_false S (changes rs I b) (rule_at rs c.0) (f c.0 (rules_of rs S I b B c.0 c.1) c.2) (B.stays_consistent c.0 c.1))
          (cause rs I b p t));
    }

    -- So no order of selection clashes: 41 is given only where there is no such firing order.
    pub order_no_clash : (cs : List Move) → T (selects ps rs S I cs) → T (no_clash ps rs S I cs)
    order_no_clash cs t =
        let w = within ps rs S I (exact (changes rs I b)) (names b) order_closed cs t in
        no_clash_i ps rs S I cs (λ p x y. order_closed.never_both p (w.positive_in p x) (w.negative_in p y))

  module _ (D : Declared ps rs I) where
    -- A True rule is enabled at the changes so far.
    pub True_enabled : (cs : List Move) → T (selects ps rs S I cs) → T (no_clash ps rs S I cs) → (r : Rule) → T (is_true (truth_rule S (marks_after rs I cs) r)) → T (enabled S (changes rs I (fired cs)) r)
    unfolding exact
    True_enabled cs t k r h = exact_true S (changes rs I (fired cs)) r ((rule_stays S (marks_after rs I cs) (exact (changes rs I (fired cs))) r (λ p a. kept p)).stays_true h)
      where
        kept : (p : Pair) → Kept (marks_after rs I cs) (exact (changes rs I (fired cs))) p
        kept p = record {
          positive_kept = λ x. rw (positive_changes rs I cs p) at x;
          negative_kept = λ x. not_i _ (λ c. not_both_ever ps rs S I D cs t k p (rw (positive_changes rs I cs p) c) x);
          not_both = λ x y. not_e _ y x;
        }

    -- A rule whose tested pairs are all marked is True or False, as it is enabled at the changes or not.
    pub known_rule : (cs : List Move) → T (selects ps rs S I cs) → T (no_clash ps rs S I cs) → (r : Rule)
        → ((p : Pair) → T (among p (tested r)) → (¬ T ((marks_after rs I cs).positive p)) → T ((marks_after rs I cs).negative p))
        → Stays (truth_rule S (exact (changes rs I (fired cs))) r) (truth_rule S (marks_after rs I cs) r)
    unfolding exact
    known_rule cs t k r known = rule_stays S (exact (changes rs I (fired cs))) (marks_after rs I cs) r (λ p a. record {
      positive_kept = λ x. rw (positive_changes rs I cs p) x;
      negative_kept = λ x. known p a (λ y. not_e _ x (rw (positive_changes rs I cs p) at y));
      not_both = not_both_ever ps rs S I D cs t k p;
    })

    -- The rules fired by an order of selection, in the order fired, are a firing order.
    pub fired_order : (cs : List Move) → T (selects ps rs S I cs) → T (firing_order rs S I (order_fired cs))
    unfolding order_fired fired firing_order
    fired_order [] t = fire_none rs S I []
    fired_order (fires n ∷ cs) t =
        let r = fires_e ps rs S I cs n (last_move ps rs S I (fires n) cs t) in
        let u = before_last ps rs S I (fires n) cs t in
        let y : Ready rs S I (fired cs) n = record { rule = r.rule; unfired = r.unfired; enabled_then = True_enabled cs u r.clear (rule_at rs n) r.is_True } in
        rw (reverse-cons n (fired cs)) (fire_last rs S I [] (reverse (fired cs)) n (fired_order cs u) (rw (reverse-reverse (fired cs)) y))
    fired_order (drops q ∷ cs) t = fired_order cs (before_last ps rs S I (drops q) cs t)

    module _ (cs : List Move) (W : T (whole_selection ps rs S I cs)) (A : selection_refusal ps rs S I cs ≡ 0) where
      order : T (selects ps rs S I cs)
      unfolding whole_selection
      order = and_l _ _ W

      ended : Ends ps rs S I cs
      unfolding whole_selection
      ended = ends_e ps rs S I cs (and_r _ _ W)

      clear : T (no_clash ps rs S I cs)
      clear = (answers_e cs A).0

      known : (p : Pair) → T (among p ps) → (¬ T ((marks_after rs I cs).positive p)) → T ((marks_after rs I cs).negative p)
      known = all_known_e ps rs S I cs (answers_e cs A).1

      -- A rule that is enabled at the changes is True.
      enabled_True : (n : ℕ) → Numbered (length rs) n → T (enabled S (changes rs I (fired cs)) (rule_at rs n)) → T (is_true (truth_rule S (marks_after rs I cs) (rule_at rs n)))
      enabled_True n i h =
          (known_rule cs order clear (rule_at rs n) (λ p a. known p (D.in_tests n p i a))).stays_true (enabled_true S (changes rs I (fired cs)) (rule_at rs n) h)

      fired_complete : Complete rs S I (fired cs)
      unfolding Complete
      fired_complete n r = ended.no_fire n (record { clear = clear; rule = r.rule; unfired = r.unfired; is_True = enabled_True n r.rule r.enabled_then })

      fired_consistent : Consistent rs S I (fired cs)
      unfolding Consistent
      fired_consistent n h = True_enabled cs order clear (rule_at rs n) (fired_True ps rs S I D cs order clear n h)

      same_names : names (fired cs) ≡ names (order_fired cs)
      unfolding order_fired
      same_names = sym (names_reverse (fired cs))

      -- The rules fired, in the order fired, are a complete and consistent firing order.
      pub answer_whole : T (whole_order rs S I (order_fired cs))
      answer_whole = whole_i rs S I (order_fired cs) (record {
        order = fired_order cs order;
        completes = complete_same rs S I (fired cs) (order_fired cs) same_names fired_complete;
        stays_consistent = consistent_same rs S I (fired cs) (order_fired cs) same_names fired_consistent;
      })

      -- Its changes are exactly the positive pairs.
      pub answer_changes : changes rs I (order_fired cs) ≡ (marks_after rs I cs).positive
      answer_changes = changes_same rs I (order_fired cs) (fired cs) (sym same_names) ∙ fun_ext (λ p. sym (positive_changes rs I cs p))

      -- No slot has two values.
      pub answer_one_value : SlotConsistent (firing_of rs I (order_fired cs))
      unfolding SlotConsistent firing_of
      answer_one_value x v w a b =
          ⊎_elim (λ e. e)
          (λ n. absurd (not_both_ever ps rs S I D cs order clear (pair x v) (rw answer_changes at a) (rivalled rs I cs (pair x w) (pair x v) (rw answer_changes at b) refl n)))
          (either v w)

      -- Demand 3: every complete and consistent firing order that gives no slot two values has these changes and these fired rules.
      pub answer_only : (b : List ℕ) → T (whole_order rs S I b) → SlotConsistent (firing_of rs I b)
          → (changes rs I b ≡ changes rs I (order_fired cs)) × (names b ≡ names (order_fired cs))
      unfolding exact Consistent
      answer_only b t one = (same_changes, fun_ext (λ n. bool_ext (names b n) (names (order_fired cs) n) (forth n) (λ h. w.fired_in n (rw same_names h))))
        where
          B : WholeOrder rs S I b
          B = whole_e rs S I b t

          w : Within ps rs S I cs (exact (changes rs I b)) (names b)
          w = within ps rs S I (exact (changes rs I b)) (names b) (order_closed b B one) cs order

          in_ps : (p : Pair) → T (changes rs I b p) → T (among p ps)
          in_ps p h = ⊎_elim (D.slip p) (λ c. D.assigned c.0 p (rules_of rs S I b B c.0 c.1) c.2) (cause rs I b p h)

          same_changes : changes rs I b ≡ changes rs I (order_fired cs)
          same_changes =
              fun_ext (λ p. bool_ext (changes rs I b p) ((marks_after rs I cs).positive p)
              (λ h. stable ((marks_after rs I cs).positive p) (λ u. not_e _ (w.negative_in p (known p (in_ps p h) u)) h)) (w.positive_in p))
              ∙ sym answer_changes

          forth : (n : ℕ) → T (names b n) → T (names (order_fired cs) n)
          forth n h = rw (← same_names) (all_fired rs S I (fired cs) fired_complete n (rules_of rs S I b B n h) (subst (λ (C : Pairs). T (enabled S C (rule_at rs n))) (same_changes ∙ changes_same rs I (order_fired cs) (fired cs) (sym same_names)) (B.stays_consistent n h)))
