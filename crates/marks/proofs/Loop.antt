-- What a loop that selects keeps: its marks of the declared pairs and its fired rules are those of an order of selection. At its end they are the selection's.
-- Assumes nothing.
use Prim.Native.Nat.{ℕ}
use mathlib.Core.Path.{◌≡◌, sym, ap, ◌∙◌}
use mathlib.Core.Bool.{Bool, true, false, cond}
use mathlib.Core.List.{List, [], ◌∷◌}
use mathlib.Core.Logic.{⊎_elim}
use native.Mathlib.Omega.{arith}
use lib.Dec.{T, eqb}
use lib.ListN.{length}
use Rattle.laws.specs.Truth.{◌∨ᵇ◌, notᵇ}
use Rattle.laws.specs.Numbers.{Numbered}
use Rattle.laws.specs.Listed.{all_of}
use Rattle.laws.proofs.Truth.{bool_ext, and_l, and_r, and_i, not_i}
use Rattle.laws.proofs.Equations.{is_true}
use Rattle.laws.proofs.Numbers.{is_false}
use Rattle.model.specs.Rules.{Pair, Rule, among}
use Rattle.model.specs.Orders.{rule_at, names}
use Rattle.model.proofs.Changes.{names_reverse}
use Rattle.truths.specs.Truths as truths
use Rattle.marks.specs.Marks.{Marks, is_unknown, is_both, no_marks, update, rule_out, truth_rule}
use Rattle.marks.specs.Selection.{Move, fires, drops, fired, order_fired, marks_after, no_clash, all_known, selects, whole_selection, selection_refusal, selection, EndAlike}
use Rattle.marks.specs.inner.Declared.{Declared}
use Rattle.truths.proofs.Laws.{Stays}
use Rattle.marks.proofs.Known.{rule_stays}
use Rattle.marks.proofs.Updates.{SameAt, same_at_trans, update_same, rule_out_same, rule_same}
use Rattle.marks.proofs.Selections.{all_pairs_e, all_pairs_i, fired_positive, rivalled, no_clash_e, fires_i, drops_i, Ends, ends_i}
use Rattle.marks.proofs.Correct.{selection_agrees}

not_41 : (b : Bool) → ◌≡◌ {A = ℕ} (cond b 0 42) 41 → ⊥
not_41 true e = omega arith
not_41 false e = omega arith

-- No declared pair is both.
unfoldable pub Clear : List Pair → Marks → Type 0
Clear ps Z = (p : Pair) → T (among p ps) → T (Z.positive p) → ¬ T (Z.negative p)

-- What a rule comes to stays as marks are added without clash.
pub more_stays : (ps : List Pair) (rs : List Rule) (S : List ℕ) (I : List Pair) → Declared ps rs I → (Z Z' : Marks)
    → ((p : Pair) → T (among p ps) → T (Z.positive p) → T (Z'.positive p)) → ((p : Pair) → T (among p ps) → T (Z.negative p) → T (Z'.negative p)) → Clear ps Z'
    → (n : ℕ) → Numbered (length rs) n → Stays (truth_rule S Z (rule_at rs n)) (truth_rule S Z' (rule_at rs n))
unfolding Clear
more_stays ps rs S I D Z Z' f g c n i = rule_stays S Z Z' (rule_at rs n) (λ p a. record {
  positive_kept = f p (D.in_tests n p i a);
  negative_kept = g p (D.in_tests n p i a);
  not_both = c p (D.in_tests n p i a);
})

module _ (ps : List Pair) (rs : List Rule) (S : List ℕ) (I : List Pair) where
  -- The marks Z and the fired rules F are those of an order of selection, as far as pairs are declared and numbers are numbers of rules.
  pub record Selecting (Z : Marks) (F : ℕ → Bool) : Type 0 where
    pub moves : List Move
    pub is_order : T (selects ps rs S I moves)
    pub marked : (p : Pair) → T (among p ps) → SameAt Z (marks_after rs I moves) p
    pub has_fired : (n : ℕ) → Numbered (length rs) n → F n ≡ names (fired moves) n

  -- A loop starts with the slip's pairs positive, their rivals negative, and nothing fired.
  pub start : (Z : Marks) (F : ℕ → Bool) → ((p : Pair) → T (among p ps) → SameAt Z (update no_marks I) p) → ((n : ℕ) → Numbered (length rs) n → F n ≡ false) → Selecting Z F
  unfolding selects marks_after fired names
  start Z F e f = record { moves = []; is_order = tt; marked = e; has_fired = f }

  module _ (Z : Marks) (F : ℕ → Bool) (X : Selecting Z F) where
    -- The other values of a positive pair's slot are negative.
    pub selecting_rivalled : (p q : Pair) → T (among p ps) → T (among q ps) → T (Z.positive p) → q.slot ≡ p.slot → ¬ (q.value ≡ p.value) → T (Z.negative q)
    selecting_rivalled p q l m t s v = rw (X.marked q m).same_negative (rivalled rs I X.moves p q (rw (X.marked p l).same_positive at t) s v)

    -- The pairs of a fired rule are positive.
    pub fired_marks : (n : ℕ) (p : Pair) → Numbered (length rs) n → T (F n) → T (among p (rule_at rs n).assignments) → T (among p ps) → T (Z.positive p)
    fired_marks n p i f a l = rw (X.marked p l).same_positive (fired_positive rs I X.moves n p (rw (X.has_fired n i) at f) a)

  module _ (D : Declared ps rs I) (Z : Marks) (F : ℕ → Bool) (X : Selecting Z F) where
    -- A rule comes to the same by both.
    pub looks_same : (n : ℕ) → Numbered (length rs) n → truth_rule S Z (rule_at rs n) ≡ truth_rule S (marks_after rs I X.moves) (rule_at rs n)
    looks_same n i = rule_same S Z (marks_after rs I X.moves) (rule_at rs n) (λ p a. X.marked p (D.in_tests n p i a))

    clear_same : Clear ps Z → T (no_clash ps rs S I X.moves)
    unfolding Clear no_clash is_both
    clear_same k = all_pairs_i _ ps (λ p l. not_i _ (λ b. k p l (rw (X.marked p l).same_positive (and_l _ _ b)) (rw (X.marked p l).same_negative (and_r _ _ b))))

    -- An unfired rule that is True is fired.
    pub fire_one : (Z' : Marks) (F' : ℕ → Bool) (n : ℕ) → Clear ps Z → Numbered (length rs) n → (¬ T (F n)) → T (truths.is_true (truth_rule S Z (rule_at rs n)))
        → ((p : Pair) → T (among p ps) → SameAt Z' (update Z (rule_at rs n).assignments) p) → ((m : ℕ) → Numbered (length rs) m → F' m ≡ (eqb m n ∨ᵇ F m)) → Selecting Z' F'
    unfolding selects marks_after fired names
    fire_one Z' F' n k i u t e f = record {
      moves = fires n ∷ X.moves;
      is_order = and_i _ _ X.is_order (fires_i ps rs S I X.moves n (record {
        clear = clear_same k;
        rule = i;
        unfired = λ h. u (rw (X.has_fired n i) h);
        is_True = rw (looks_same n i) at t;
      }));
      marked = λ p l. same_at_trans Z' (update Z (rule_at rs n).assignments) (update (marks_after rs I X.moves) (rule_at rs n).assignments) p (e p l) (update_same Z (marks_after rs I X.moves) (rule_at rs n).assignments p (X.marked p l));
      has_fired = λ m j. f m j ∙ ap (λ (b : Bool). eqb m n ∨ᵇ b) (X.has_fired m j);
    }

    -- A declared pair that is unknown and that only False rules assign is ruled out.
    pub drop_one : (Z' : Marks) (q : Pair) → Clear ps Z → T (among q ps) → (¬ T (Z.positive q)) → (¬ T (Z.negative q))
        → ((n : ℕ) → Numbered (length rs) n → T (among q (rule_at rs n).assignments) → T (truths.is_false (truth_rule S Z (rule_at rs n))))
        → ((p : Pair) → T (among p ps) → SameAt Z' (rule_out Z q) p) → Selecting Z' F
    unfolding selects marks_after fired
    drop_one Z' q k l u v f e = record {
      moves = drops q ∷ X.moves;
      is_order = and_i _ _ X.is_order (drops_i ps rs S I X.moves q (record {
        clear = clear_same k;
        listed = l;
        not_positive = λ h. u (rw (X.marked q l).same_positive h);
        not_negative = λ h. v (rw (X.marked q l).same_negative h);
        all_False = λ n i a. rw (looks_same n i) at (f n i a);
      }));
      marked = λ p m. same_at_trans Z' (rule_out Z q) (rule_out (marks_after rs I X.moves) q) p (e p m) (rule_out_same Z (marks_after rs I X.moves) q p (X.marked p m));
      has_fired = X.has_fired;
    }

    clear_refusal : T (no_clash ps rs S I X.moves) → selection_refusal ps rs S I X.moves ≡ cond (all_of (λ p. notᵇ (is_unknown (marks_after rs I X.moves) p)) ps) 0 42
    unfolding selection_refusal all_known
    clear_refusal c = rw (is_true (no_clash ps rs S I X.moves) c)

    unknown_same : (p : Pair) → T (among p ps) → is_unknown (marks_after rs I X.moves) p ≡ is_unknown Z p
    unfolding is_unknown
    unknown_same p l = rw ((X.marked p l).same_positive, (X.marked p l).same_negative)

    known_same : all_of (λ p. notᵇ (is_unknown (marks_after rs I X.moves) p)) ps ≡ all_of (λ p. notᵇ (is_unknown Z p)) ps
    known_same = bool_ext _ _
        (λ t. all_pairs_i _ ps (λ p l. rw (← unknown_same p l) (all_pairs_e (λ q. notᵇ (is_unknown (marks_after rs I X.moves) q)) ps t p l)))
        (λ t. all_pairs_i _ ps (λ p l. rw (unknown_same p l) (all_pairs_e (λ q. notᵇ (is_unknown Z q)) ps t p l)))

    -- Where a declared pair is both, the selection ends in 41.
    pub loop_clash : (p : Pair) → T (among p ps) → T (Z.positive p) → T (Z.negative p) → selection_refusal ps rs S I (selection ps rs S I) ≡ 41
    unfolding whole_selection selection_refusal EndAlike
    loop_clash p l a b =
        let c : no_clash ps rs S I X.moves ≡ false = is_false (no_clash ps rs S I X.moves) (λ k. no_clash_e ps rs S I X.moves k p l (rw (X.marked p l).same_positive at a) (rw (X.marked p l).same_negative at b)) in
        let e : Ends ps rs S I X.moves = record { no_drop = λ q r. absurd (rw c at r.clear); no_fire = λ n r. absurd (rw c at r.clear) } in
        ⊎_elim (λ w. w.1) (λ w. sym w.2 ∙ rw c) (selection_agrees ps rs S I D X.moves (and_i _ _ X.is_order (ends_i ps rs S I X.moves e)))

    -- Where no pair is both, no unfired rule is True and no pair can be ruled out, the marks and the fired rules are the selection's, and 42 is told by them.
    pub loop_end : Clear ps Z → ((n : ℕ) → Numbered (length rs) n → T (truths.is_true (truth_rule S Z (rule_at rs n))) → T (F n))
        → ((q : Pair) → T (among q ps) → (¬ T (Z.positive q)) → (¬ T (Z.negative q))
        → ¬ ((n : ℕ) → Numbered (length rs) n → T (among q (rule_at rs n).assignments) → T (truths.is_false (truth_rule S Z (rule_at rs n)))))
        → (selection_refusal ps rs S I (selection ps rs S I) ≡ cond (all_of (λ p. notᵇ (is_unknown Z p)) ps) 0 42)
        × ((p : Pair) → T (among p ps) → Z.positive p ≡ (marks_after rs I (selection ps rs S I)).positive p)
        × ((n : ℕ) → Numbered (length rs) n → F n ≡ names (order_fired (selection ps rs S I)) n)
    unfolding whole_selection EndAlike order_fired
    loop_end k none_True none_out =
        ⊎_elim (λ w. absurd (not_41 (all_of (λ p. notᵇ (is_unknown Z p)) ps) (sym refused ∙ w.0)))
        (λ w. (sym w.2 ∙ refused, λ p l. (X.marked p l).same_positive ∙ ap (λ (Y : Marks). Y.positive p) w.0, λ n i. X.has_fired n i ∙ w.1 n ∙ sym (ap (λ f. f n) (names_reverse (fired (selection ps rs S I))))))
        (selection_agrees ps rs S I D X.moves (and_i _ _ X.is_order (ends_i ps rs S I X.moves ended)))
      where
        ended : Ends ps rs S I X.moves
        ended = record {
          no_drop = λ q r. none_out q r.listed (λ h. r.not_positive (rw (X.marked q r.listed).same_positive at h)) (λ h. r.not_negative (rw (X.marked q r.listed).same_negative at h))
              (λ n i a. rw (looks_same n i) (r.all_False n i a));
          no_fire = λ n r. r.unfired (rw (X.has_fired n r.rule) at (none_True n r.rule (rw (looks_same n r.rule) r.is_True)));
        }

        refused : selection_refusal ps rs S I X.moves ≡ cond (all_of (λ p. notᵇ (is_unknown Z p)) ps) 0 42
        refused = clear_refusal (clear_same k) ∙ ap (λ (b : Bool). cond b 0 42) known_same
