-- What the sweeps of the selection keep; and that they keep it as they start, fire a rule and find a rule False; and what they come to at their end.
-- Assumes nothing.
use mathlib.Core.Path.{◌≡◌, refl, sym, ap, subst, ◌∙◌}
use mathlib.Core.Bool.{Bool, true, false, cond}
use mathlib.Core.List.{List, ◌∷◌}
use mathlib.Core.Logic.{⊎_elim}
use Prim.Native.Nat.{ℕ, zero, suc, ◌+◌, ◌≤◌, ◌<◌}
use native.Mathlib.Omega.{arith}
use lib.Dec.{T, eqb, eqb→eq}
use lib.ListN.{length, get_or, set}
use lib.Seq.{get_or-set_same, get_or-set_other}
use borrow.Author.Tests.{eq-eqb, ne_eqb}
use Rattle.laws.specs.Truth.{◌∧ᵇ◌, ◌∨ᵇ◌, notᵇ}
use Rattle.laws.specs.Limits.{row}
use Rattle.laws.specs.Numbers.{Numbered}
use Rattle.laws.proofs.Truth.{bool_ext, and_l, and_r, and_i, or_l, or_r, or_e, not_i, not_e, stable, le_or_lt}
use Rattle.laws.specs.Listed.{all_of}
use Rattle.laws.proofs.Equations.{either, from_true}
use Rattle.laws.proofs.Equations as equations
use Rattle.laws.proofs.Numbers.{is_false}
use Rattle.laws.proofs.Flags.{flag_from}
use Rattle.model.specs.Rules.{Pair, Pairs, Rule, among}
use Rattle.model.specs.Orders.{rule_at, names}
use Rattle.model.specs.Result.{pair, value_in, is_changed}
use Rattle.model.proofs.Results.{value_in_right, is_changed_i}
use Rattle.table.specs.inner.Flat.{Placed, pair_places, place_of, set_of}
use Rattle.table.proofs.Flat.{placed_inside, set_in}
use Rattle.truths.specs.declared.Truth3.{Truth3}
use Rattle.truths.specs.declared.Truth3.TheVariants.{True, False, Unknown}
use Rattle.truths.specs.Truths.{is_true}
use Rattle.truths.specs.Truths as three
use Rattle.marks.specs.Marks.{Marks, declared_pairs, is_unknown, rivals, no_marks, update, truth_rule}
use Rattle.marks.specs.Selection.{order_fired, marks_after, selection_refusal, selection}
use Rattle.truths.proofs.Laws.{true_not_false}
use Rattle.marks.proofs.Pairs.{declared_iff}
use Rattle.marks.proofs.Updates.{SameAt, same_at_refl, rivals_i, rivals_e}
use Rattle.marks.proofs.Selections.{all_pairs_i, all_pairs_e}
use Rattle.marks.proofs.Correct.{selection_positive_declared}
use Rattle.marks.proofs.Loop.{Clear, more_stays, Selecting, selecting_rivalled, fired_marks, fire_one, loop_clash, loop_end}
use Rattle.marks.proofs.Loop as loop
use Rattle.judging.specs.declared.truth.Known.{Known}
use Rattle.judging.specs.inner.Known.{known, marks_of, Truths}
use Rattle.judging.specs.inner.Times.{times}
use Rattle.marking.specs.inner.Marked.{assigned, clashes, unassigned_out, FirstNegative, AllMarked, NotMarked}
use Rattle.selecting.specs.inner.Live.{Live}
use Rattle.selecting.specs.inner.Selected.{SlipIs, OneValue, Selected}
use Rattle.selecting.proofs.Live.{assigned_at, times_among, among_times, live_has, live_some, live_released}
use Rattle.selecting.proofs.MarkLaws.{unassigned_outs}
use Rattle.selecting.proofs.Given.{rules_in, Given, declared_value, declared_placed, rule_at_row, row_number, number_row, assigns_declared}
use Rattle.selecting.proofs.Assigning.{Tidy, assigned_right, clash_both}
use Rattle.selecting.proofs.Dropping.{without, without_clear, drop_all}

-- A rule has fired, by its number.
abbrev pub fired_at : List Bool → ℕ → Bool
fired_at fired m = get_or (false ∷ fired) m false

-- The marks and the fired rules are those of an order of selection without clash; the tests come to what they say; positive pairs are declared;
-- what is left are the assignments of rules that are not dead; dead rules are False; a declared pair that is unknown has an assignment left.
pub record Standing (rows : List (List ℕ)) (n : ℕ) (ks : List ℕ) (S : List ℕ) (I : List Pair) (k : Known) (live : List ℕ) (dead fired : List Bool) : Type 0 where
  pub positive_size : length k.positive ≡ pair_places
  pub negative_size : length k.negative ≡ pair_places
  pub selecting : Selecting (declared_pairs ks) (rules_in rows n) S I (marks_of k) (fired_at fired)
  pub clear : Clear (declared_pairs ks) (marks_of k)
  pub truths : Truths S k
  pub inside : (p : Pair) → T (set_of k.positive p) → T (among p (declared_pairs ks))
  pub counted : Live rows dead n live
  pub dead_False : (i : ℕ) → i < n → T (get_or dead i false) → T (three.is_false (truth_rule S (marks_of k) (rule_at (rules_in rows n) (suc i))))
  pub supported : (p : Pair) → T (among p (declared_pairs ks)) → (¬ T (set_of k.positive p)) → (¬ T (set_of k.negative p)) → 0 < get_or live (place_of p) 0

-- What `is_true` and `is_false` say of True, of False and of Unknown.
comes_true : (x : Truth3) → x ≡ True → T (is_true x)
unfolding is_true
comes_true x e = rw e tt

comes_false : (x : Truth3) → x ≡ False → T (three.is_false x)
unfolding three.is_false
comes_false x e = rw e tt

comes_unknown : (x : Truth3) → x ≡ Unknown → (¬ T (is_true x)) × (¬ T (three.is_false x))
unfolding is_true three.is_false
comes_unknown x e = rw e (λ t. t, λ t. t)

-- One rule more has fired.
fired_more : (fired : List Bool) (i : ℕ) → i < length fired → (m : ℕ) → fired_at (set fired i true) m ≡ (eqb m (suc i) ∨ᵇ fired_at fired m)
unfolding ◌∨ᵇ◌
fired_more fired i h zero = rw (ne_eqb 0 (suc i) (λ (e : 0 ≡ suc i). omega arith))
fired_more fired i h (suc j) = ⊎_elim
    (λ (e : j ≡ i). rw (e, get_or-set_same fired i true false h, eq-eqb (suc i) (suc i) refl))
    (λ (e : j ≡ i → ⊥). rw (get_or-set_other fired i j true false e, ne_eqb (suc j) (suc i) (λ (z : suc j ≡ suc i). e (omega arith))))
    (either j i)

-- Pairs that are not positive and have no assignment left.
unfoldable unassigned : List ℕ → Pairs → Pairs
unassigned live C p = eqb (get_or live (place_of p) 0) 0 ∧ᵇ notᵇ (C p)

module _ (rows : List (List ℕ)) (n : ℕ) (ks : List ℕ) (width : ℕ) (counts : List ℕ) (S : List ℕ) (I : List Pair) (G : Given rows n ks width counts I) where
  -- What stands is tidy.
  tidy_of : (k : Known) (live : List ℕ) (dead fired : List Bool) → Standing rows n ks S I k live dead fired → Tidy (declared_pairs ks) S k
  tidy_of k live dead fired X = record {
    whole = record { positive_size = X.positive_size; negative_size = X.negative_size; truths = X.truths };
    inside = X.inside;
    clear = X.clear;
    rivalled = selecting_rivalled (declared_pairs ks) (rules_in rows n) S I (marks_of k) (fired_at fired) X.selecting;
  }

  -- A rule that is True is fired, and nothing that it assigns is negative.
  pub fire : (k : Known) (live : List ℕ) (dead fired : List Bool) (i : ℕ) → Standing rows n ks S I k live dead fired → i < n → get_or fired i false ≡ false
      → truth_rule S (marks_of k) (rule_at (rules_in rows n) (suc i)) ≡ True → clashes counts (assigned_at rows i) k ≡ false → i < length fired
      → Standing rows n ks S I (assigned counts (assigned_at rows i) k) live dead (set fired i true)
  unfolding update
  fire k live dead fired i X h u t c l =
      let ps = declared_pairs ks in
      let rs = rules_in rows n in
      let k' = assigned counts (assigned_at rows i) k in
      let A = assigned_right rows n ks width counts I G S (assigned_at rows i) k (tidy_of k live dead fired X) (λ q a. assigns_declared rows n ks width counts I G i q h a) c in
      let positive_kept : (p : Pair) → T (among p ps) → T (set_of k.positive p) → T (set_of k'.positive p) = λ p o x. rw (A.1 p o).same_positive (or_r _ _ x) in
      let negative_kept : (p : Pair) → T (among p ps) → T (set_of k.negative p) → T (set_of k'.negative p) = λ p o x. rw (A.1 p o).same_negative (or_r _ _ x) in
      record {
        positive_size = A.0.whole.positive_size;
        negative_size = A.0.whole.negative_size;
        selecting = fire_one ps rs S I G.all_declared (marks_of k) (fired_at fired) X.selecting (marks_of k') (fired_at (set fired i true)) (suc i) X.clear
            (row_number rows n ks width counts I G i h) (λ x. subst T u x) (comes_true _ t) (λ p o. rw (rule_at_row rows n i h) (A.1 p o))
            (λ m j. fired_more fired i l m);
        clear = A.0.clear;
        truths = A.0.whole.truths;
        inside = A.0.inside;
        counted = X.counted;
        dead_False = λ j b d. (more_stays ps rs S I G.all_declared (marks_of k) (marks_of k') positive_kept negative_kept A.0.clear (suc j)
            (row_number rows n ks width counts I G j b)).stays_false (X.dead_False j b d);
        supported = λ p o a b. X.supported p o (λ x. a (positive_kept p o x)) (λ x. b (negative_kept p o x));
      }

  -- A rule that is True is fired, and something that it assigns is negative: the selection ends in 41.
  pub clash : (k : Known) (live : List ℕ) (dead fired : List Bool) (i : ℕ) → Standing rows n ks S I k live dead fired → i < n → get_or fired i false ≡ false
      → truth_rule S (marks_of k) (rule_at (rules_in rows n) (suc i)) ≡ True → clashes counts (assigned_at rows i) k ≡ true
      → selection_refusal (declared_pairs ks) (rules_in rows n) S I (selection (declared_pairs ks) (rules_in rows n) S I) ≡ 41
  clash k live dead fired i X h u t c =
      let ps = declared_pairs ks in
      let rs = rules_in rows n in
      let Z = update (marks_of k) (assigned_at rows i) in
      let F : ℕ → Bool = λ m. eqb m (suc i) ∨ᵇ fired_at fired m in
      let w = clash_both rows n ks width counts I G S (assigned_at rows i) k (tidy_of k live dead fired X) (λ q a. assigns_declared rows n ks width counts I G i q h a) c in
      let Y : Selecting ps rs S I Z F = fire_one ps rs S I G.all_declared (marks_of k) (fired_at fired) X.selecting Z F (suc i) X.clear (row_number rows n ks width counts I G i h)
      (λ x. subst T u x) (comes_true _ t) (λ p o. rw (rule_at_row rows n i h) (same_at_refl Z p)) (λ m j. refl) in
      loop_clash ps rs S I G.all_declared Z F Y w.0 w.1 w.2 w.3

  -- Of the pairs that are not positive those without an assignment left are ruled out.
  settled : (k : Known) (live : List ℕ) (dead fired : List Bool) (Z : Marks) → Selecting (declared_pairs ks) (rules_in rows n) S I Z (fired_at fired) → Clear (declared_pairs ks) Z
      → Live rows dead n live → ((i : ℕ) → i < n → T (get_or dead i false) → T (three.is_false (truth_rule S Z (rule_at (rules_in rows n) (suc i)))))
      → length k.positive ≡ pair_places → length k.negative ≡ pair_places → Truths S k → ((p : Pair) → T (set_of k.positive p) → T (among p (declared_pairs ks)))
      → ((p : Pair) → T (among p (declared_pairs ks)) → SameAt (marks_of k) (without Z (unassigned live Z.positive)) p)
      → Standing rows n ks S I k live dead fired
  unfolding unassigned without Clear Live
  settled k live dead fired Z X c L d a b W inside e = record {
    positive_size = a;
    negative_size = b;
    selecting = drop_all ps rs S I G.all_declared Z (fired_at fired) X c (unassigned live Z.positive) open_one all_False (marks_of k) e;
    clear = clear;
    truths = W;
    inside = inside;
    counted = L;
    dead_False = λ i h t. (more_stays ps rs S I G.all_declared Z (marks_of k) (λ p o x. subst T (sym (e p o).same_positive) x) (λ p o x. subst T (sym (e p o).same_negative) (or_r _ _ x)) clear (suc i)
        (row_number rows n ks width counts I G i h)).stays_false (d i h t);
    supported = λ p o x y. ⊎_elim
        (λ (z : 1 ≤ get_or live (place_of p) 0). z)
        (λ (z : get_or live (place_of p) 0 < 1). absurd (y (subst T (sym (e p o).same_negative) (or_l _ _ (and_i _ _ (from_true _ (eq-eqb (get_or live (place_of p) 0) 0 (omega arith))) (not_i _ (λ v. x (subst T (sym (e p o).same_positive) v))))))))
        (le_or_lt 1 (get_or live (place_of p) 0));
  }
    where
      ps : List Pair
      ps = declared_pairs ks

      rs : List Rule
      rs = rules_in rows n

      open_one : (q : Pair) → T (among q ps) → T (unassigned live Z.positive q) → ¬ T (Z.positive q)
      open_one q l t = not_e _ (and_r _ _ t)

      all_False : (q : Pair) → T (among q ps) → T (unassigned live Z.positive q) → (m : ℕ) → Numbered (length rs) m → T (among q (rule_at rs m).assignments) → T (three.is_false (truth_rule S Z (rule_at rs m)))
      all_False q l t m j r =
          let w = number_row rows n ks width counts I G m j in
          let g : T (among q (assigned_at rows w.0)) = rw (w.2, rule_at_row rows n w.0 w.1) at r in
          let z = eqb→eq (get_or live (place_of q) 0) 0 (and_l _ _ t) in
          let o = L (place_of q) (placed_inside q (declared_placed rows n ks width counts I G q l)) in
          rw w.2 (d w.0 w.1 (stable (get_or dead w.0 false)
          (λ x. omega (arith, z, o, times_among q (assigned_at rows w.0) g, live_has rows dead (place_of q) n w.0 w.1 (is_false _ x)))))

      clear : Clear ps (marks_of k)
      clear p o x y = without_clear ps Z (unassigned live Z.positive) c open_one p o (subst T (e p o).same_positive x) (subst T (e p o).same_negative y)

  -- The start: the slip's pairs are positive and their rivals negative; so are the pairs that no rule assigns.
  pub start : (positive negative : List Bool) (truth : List Truth3) (live : List ℕ) (dead fired : List Bool)
      → ((i : ℕ) → get_or dead i false ≡ false) → ((i : ℕ) → get_or fired i false ≡ false) → SlipIs I positive → OneValue I → FirstNegative width live positive negative
      → Truths S (known positive negative truth) → Live rows dead n live → length positive ≡ pair_places
      → Standing rows n ks S I (known positive negative truth) live dead fired
  unfolding update no_marks without unassigned SlipIs OneValue Clear
  start positive negative truth live dead fired none_dead none_fired slip one N W L l =
      settled (known positive negative truth) live dead fired (update no_marks I)
      (loop.start ps (rules_in rows n) S I (update no_marks I) (fired_at fired) (λ p o. same_at_refl (update no_marks I) p) none)
      (λ p o a b. single p (given p a) (rival p b)) L (λ i h t. absurd (rw (none_dead i) at t)) l N.size W (λ p t. G.all_declared.slip p (rw (slip p) at t))
      (λ p o. record {
        same_positive = slip p ∙ bool_ext _ _ (or_l _ _) (given p);
        same_negative = rw (set_in negative p (declared_placed rows n ks width counts I G p o).in_row) (first p o ∙ bool_ext _ _ (there p o) (back p o));
      })
    where
      ps : List Pair
      ps = declared_pairs ks

      none : (m : ℕ) → Numbered (length (rules_in rows n)) m → fired_at fired m ≡ false
      none zero j = refl
      none (suc i) j = none_fired i

      given : (p : Pair) → T (among p I ∨ᵇ false) → T (among p I)
      given p t = ⊎_elim (λ x. x) (λ x. absurd x) (or_e _ _ t)

      rival : (p : Pair) → T (rivals p I ∨ᵇ false) → T (rivals p I)
      rival p t = ⊎_elim (λ x. x) (λ x. absurd x) (or_e _ _ t)

      single : (p : Pair) → T (among p I) → ¬ T (rivals p I)
      single p a b = let w = rivals_e p I b in w.3 (one p w.0 a w.1 w.2)

      first : (p : Pair) → T (among p ps)
          → get_or negative (place_of p) false ≡ (notᵇ (set_of positive p) ∧ᵇ (is_changed row (set_of positive) p.slot ∨ᵇ eqb (get_or live (place_of p) 0) 0))
      first p o =
          let h = (declared_placed rows n ks width counts I G p o).in_row in
          N.at p.slot p.value (declared_value rows n ks width counts I G p o).0 h
          ∙ ap (λ (b : Bool). notᵇ b ∧ᵇ (is_changed row (set_of positive) p.slot ∨ᵇ eqb (get_or live (place_of p) 0) 0)) (sym (set_in positive p h))

      there : (p : Pair) → T (among p ps) → T (notᵇ (set_of positive p) ∧ᵇ (is_changed row (set_of positive) p.slot ∨ᵇ eqb (get_or live (place_of p) 0) 0))
          → T (eqb (get_or live (place_of p) 0) 0 ∧ᵇ notᵇ (among p I ∨ᵇ false) ∨ᵇ (rivals p I ∨ᵇ false))
      there p o t =
          let not_given : ¬ T (set_of positive p) = not_e _ (and_l _ _ t) in
          ⊎_elim
          (λ x. let q = pair p.slot (value_in row (set_of positive) p.slot) in
          let y : T (set_of positive q) = value_in_right row (set_of positive) p.slot x in
          or_r _ _ (or_l _ _ (rivals_i p q I (rw (slip q) at y) refl (λ z. not_given (subst (λ (r : Pair). T (set_of positive r)) (λ i. record { slot = p.slot; value = sym z i }) y)))))
          (λ x. or_l _ _ (and_i _ _ x (not_i _ (λ y. not_given (rw (slip p) (given p y))))))
          (or_e _ _ (and_r _ _ t))

      back : (p : Pair) → T (among p ps) → T (eqb (get_or live (place_of p) 0) 0 ∧ᵇ notᵇ (among p I ∨ᵇ false) ∨ᵇ (rivals p I ∨ᵇ false))
          → T (notᵇ (set_of positive p) ∧ᵇ (is_changed row (set_of positive) p.slot ∨ᵇ eqb (get_or live (place_of p) 0) 0))
      back p o t = ⊎_elim
          (λ x. and_i _ _ (not_i _ (λ y. not_e _ (and_r _ _ x) (or_l _ _ (rw (slip p) at y)))) (or_r _ _ (and_l _ _ x)))
          (λ x. let r = rival p x in
          let w = rivals_e p I r in
          let q = w.0 in
          let h = declared_placed rows n ks width counts I G q (G.all_declared.slip q w.1) in
          and_i _ _ (not_i _ (λ y. single p (rw (slip p) at y) r))
          (or_l _ _ (is_changed_i row (set_of positive) p.slot q.value h.in_row (subst (λ (r : Pair). T (set_of positive r)) (λ i. record { slot = sym w.2 i; value = q.value }) (rw (slip q) w.1)))))
          (or_e _ _ t)

  -- A rule is False: its assignments are left no more, and the pairs that have none left are ruled out.
  pub kill : (k : Known) (live live' : List ℕ) (dead fired : List Bool) (i : ℕ) → Standing rows n ks S I k live dead fired → i < n → get_or dead i false ≡ false
      → truth_rule S (marks_of k) (rule_at (rules_in rows n) (suc i)) ≡ False → ((q : ℕ) → q < pair_places → get_or live' q 0 + times q (assigned_at rows i) ≡ get_or live q 0)
      → i < length dead → Standing rows n ks S I (unassigned_out live' (assigned_at rows i) k) live' (set dead i true) fired
  unfolding without unassigned
  kill k live live' dead fired i X h u t r l =
      let placed : (p : Pair) → T (among p (declared_pairs ks)) → Placed p.slot p.value = declared_placed rows n ks width counts I G in
      let O = unassigned_outs S live' (assigned_at rows i) k (λ q a. placed q (assigns_declared rows n ks width counts I G i q h a)) (tidy_of k live dead fired X).whole in
      settled (unassigned_out live' (assigned_at rows i) k) live' (set dead i true) fired (marks_of k) X.selecting X.clear
      (live_released rows dead n i live live' X.counted h l u r)
      (λ j b x. ⊎_elim (λ (z : j ≡ i). rw z (comes_false _ t)) (λ y. X.dead_False j b y) (flag_from dead i j x))
      O.whole.positive_size O.whole.negative_size O.whole.truths (λ p x. X.inside p (rw O.positive_same at x))
      (λ p o. record {
        same_positive = ap (λ (bs : List Bool). set_of bs p) O.positive_same;
        same_negative = bool_ext _ _
            (λ x. ⊎_elim (λ g. or_l _ _ (and_i _ _ (from_true _ (eq-eqb (get_or live' (place_of p) 0) 0 g.1)) (not_i _ g.2))) (λ y. or_r _ _ y) (O.from p x))
            (λ x. ⊎_elim
            (λ y. let z = eqb→eq (get_or live' (place_of p) 0) 0 (and_l _ _ y) in
            let m = not_e _ (and_r _ _ y) in
            stable (set_of (unassigned_out live' (assigned_at rows i) k).negative p)
            (λ v. v (O.out p (
              among_times p (assigned_at rows i) (placed p o).in_row (λ q a. (placed q (assigns_declared rows n ks width counts I G i q h a)).in_row)
                  (omega (arith, z, r (place_of p) (placed_inside p (placed p o)), X.supported p o m (λ w. v (O.kept p w)))),
              z,
              m,
            ))))
            (λ y. O.kept p y) (or_e _ _ x));
      })

  -- The end: every rule that has neither fired nor been found False is Unknown.
  pub end : (k : Known) (live : List ℕ) (dead fired : List Bool) → Standing rows n ks S I k live dead fired
      → ((i : ℕ) → i < n → get_or fired i false ≡ false → get_or dead i false ≡ false → truth_rule S (marks_of k) (rule_at (rules_in rows n) (suc i)) ≡ Unknown)
      → (AllMarked ks k.positive k.negative → Selected (declared_pairs ks) (rules_in rows n) S I 0 k.positive fired)
      × ((positive : List Bool) → NotMarked ks k.positive k.negative → Selected (declared_pairs ks) (rules_in rows n) S I 42 positive fired)
  unfolding AllMarked is_unknown Live
  end k live dead fired X quiet = (
    λ m. record {
      number = sym (found.0 ∙ ap (λ (b : Bool). cond b 0 42) (all_marked m));
      same_positive = λ e p. bool_ext _ _ (λ t. subst T (found.1 p (X.inside p t)) t) (λ t. subst T (sym (found.1 p (selection_positive_declared ps rs S I G.all_declared p t))) t);
      same_fired = λ e i l. found.2 (suc i) (record { first = omega arith; last = l });
    },
    λ positive m. record {
      number = sym (found.0 ∙ ap (λ (b : Bool). cond b 0 42) (not_marked m));
      same_positive = λ e. absurd (omega arith);
      same_fired = λ e. absurd (omega arith);
    },
  )
    where
      ps : List Pair
      ps = declared_pairs ks

      rs : List Rule
      rs = rules_in rows n

      none_True : (m : ℕ) → Numbered (length rs) m → T (is_true (truth_rule S (marks_of k) (rule_at rs m))) → T (fired_at fired m)
      none_True m j t =
          let w = number_row rows n ks width counts I G m j in
          let u = rw w.2 at t in
          rw w.2 (stable (get_or fired w.0 false) (λ x. (comes_unknown _
          (quiet w.0 w.1 (is_false _ x) (is_false _ (λ y. true_not_false _ u (X.dead_False w.0 w.1 y))))).0 u))

      none_out : (q : Pair) → T (among q ps) → (¬ T (set_of k.positive q)) → (¬ T (set_of k.negative q))
          → ¬ ((m : ℕ) → Numbered (length rs) m → T (among q (rule_at rs m).assignments) → T (three.is_false (truth_rule S (marks_of k) (rule_at rs m))))
      none_out q l a b all =
          let h = declared_placed rows n ks width counts I G q l in
          let w = live_some rows dead (place_of q) n (omega (arith, X.supported q l a b, X.counted (place_of q) (placed_inside q h))) in
          let i = w.0 in
          let g : T (among q (rule_at rs (suc i)).assignments) = rw (rule_at_row rows n i w.1)
          (among_times q (assigned_at rows i) h.in_row (λ p c. (declared_placed rows n ks width counts I G p (assigns_declared rows n ks width counts I G i p w.1 c)).in_row) w.3) in
          let j = row_number rows n ks width counts I G i w.1 in
          (comes_unknown _ (quiet i w.1 (is_false _ (λ f. a (fired_marks ps rs S I (marks_of k) (fired_at fired) X.selecting (suc i) q j f g l))) w.2)).1 (all (suc i) j g)

      is_known : Pair → Bool
      is_known p = notᵇ (is_unknown (marks_of k) p)

      found : (selection_refusal ps rs S I (selection ps rs S I) ≡ cond (all_of is_known ps) 0 42)
          × ((p : Pair) → T (among p ps) → set_of k.positive p ≡ (marks_after rs I (selection ps rs S I)).positive p)
          × ((m : ℕ) → Numbered (length rs) m → fired_at fired m ≡ names (order_fired (selection ps rs S I)) m)
      found = loop_end ps rs S I G.all_declared (marks_of k) (fired_at fired) X.selecting X.clear none_True none_out

      all_marked : AllMarked ks k.positive k.negative → all_of is_known ps ≡ true
      all_marked m = equations.is_true (all_of is_known ps) (all_pairs_i is_known ps (λ p l. not_i (is_unknown (marks_of k) p) (λ t.
          let w = (declared_iff ks p).0 l in
          let h = (declared_placed rows n ks width counts I G p l).in_row in
          ⊎_elim (λ x. not_e _ (and_l _ _ t) (rw (set_in k.positive p h) x)) (λ x. not_e _ (and_r _ _ t) (rw (set_in k.negative p h) x))
          (or_e _ _ (from_true _ (m p.slot p.value w.0 w.1))))))

      not_marked : NotMarked ks k.positive k.negative → all_of is_known ps ≡ false
      not_marked m = is_false (all_of is_known ps) (λ t.
          let p = pair m.slot m.value in
          let l = (declared_iff ks p).1 (m.in_width, m.in_count) in
          let h = (declared_placed rows n ks width counts I G p l).in_row in
          not_e (is_unknown (marks_of k) p) (all_pairs_e is_known ps t p l) (and_i _ _
          (not_i (set_of k.positive p) (λ x. subst T m.neither (or_l _ _ (subst T (set_in k.positive p h) x))))
          (not_i (set_of k.negative p) (λ x. subst T m.neither (or_r _ _ (subst T (set_in k.negative p h) x))))))
