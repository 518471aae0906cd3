-- Marks in arrays: a pair ruled out, a pair made positive, the other values of its slot ruled out, pairs without an assignment left ruled out.
-- Assumes nothing.
use mathlib.Core.Path.{◌≡◌, refl, sym, ap, subst, ◌∙◌}
use mathlib.Core.Bool.{Bool, true, false, cond}
use mathlib.Core.List.{List, [], ◌∷◌}
use mathlib.Core.Logic.{◌⊎◌, inl, inr, ⊎_elim}
use Prim.Native.Nat.{ℕ, zero, suc, ◌+◌, ◌*◌, ◌/◌, ◌≤◌, ◌<◌}
use native.Mathlib.Nat.{eq-or-lt_of_le}
use native.Mathlib.Omega.{arith}
use lib.Dec.{T, eqb, eqb→eq}
use lib.ListN.{length, get_or, set, length-set}
use lib.Seq.{get_or-set_same, get_or-set_other}
use borrow.Author.Tests.{eq-eqb}
use Rattle.laws.specs.Truth.{◌∧ᵇ◌, ◌∨ᵇ◌, notᵇ}
use Rattle.laws.specs.Limits.{row, value_limit}
use Rattle.laws.proofs.Truth.{bool_ext, or_l, or_r, or_e, not_i, not_e, stable}
use Rattle.laws.proofs.Equations.{either, from_true}
use Rattle.laws.proofs.Numbers.{is_false}
use Rattle.model.specs.Rules.{Pair, same, among, was}
use Rattle.model.specs.Result.{pair}
use Rattle.model.proofs.Pairs.{same_refl, same_eq}
use Rattle.table.specs.inner.Flat.{Placed, pair_places, place_of, pair_at, set_of}
use Rattle.table.proofs.Flat.{placed_inside, set_in, set_more, at_place}
use Rattle.truths.specs.declared.Truth3.{Truth3}
use Rattle.truths.specs.declared.Truth3.TheVariants.{True, False, Unknown}
use Rattle.truths.specs.Truths.{is_true}
use Rattle.marks.specs.Marks.{Marks, update, rivals, truth_had, truth_turns}
use Rattle.marks.proofs.Updates.{SameAt, rivals_i, rivals_e}
use Rattle.judging.specs.declared.truth.Known.{Known}
use Rattle.judging.specs.inner.Known.{known, marks_of, Truths}
use Rattle.marking.specs.inner.Marked.{ruled_out, made_positive, rival_out, rivals_out, marked, unassigned_one, unassigned_out}
use Rattle.selecting.specs.inner.Selected.{CardIs}

-- One pair more is flagged: it is, and the others are as they were.
set_here : (bs : List Bool) (q : Pair) → q.value < row → place_of q < length bs → T (set_of (set bs (place_of q) true) q)
set_here bs q h l = rw (set_more bs q q h l) (or_l _ _ (same_refl q))

set_there : (bs : List Bool) (q p : Pair) → q.value < row → place_of q < length bs → (¬ (p ≡ q)) → set_of (set bs (place_of q) true) p ≡ set_of bs p
unfolding ◌∨ᵇ◌
set_there bs q p h l n = set_more bs q p h l ∙ rw (is_false (same p q) (λ t. n (same_eq p q t)))

-- The tests look at the card's values alone.
pub truths_card : (S card : List ℕ) (k : Known) → CardIs S card → Truths card k → Truths S k
unfolding CardIs truth_had truth_turns was
truths_card S card k e W = record {
  size = W.size;
  had = λ q l. W.had q l ∙ rw (e (q / row));
  turns = λ q l. W.turns q l ∙ rw (e (q / row));
}

-- The arrays have their places, and the tests come to what the card and the marks say.
pub record Whole (S : List ℕ) (k : Known) : Type 0 where
  pub positive_size : length k.positive ≡ pair_places
  pub negative_size : length k.negative ≡ pair_places
  pub truths : Truths S k

module _ (S : List ℕ) where
  -- A `*=` looks at the mark of its pair.
  turns_same : (Y Z : Marks) (p : Pair) → Y.positive p ≡ Z.positive p → Y.negative p ≡ Z.negative p → truth_turns S Y p ≡ truth_turns S Z p
  unfolding truth_turns
  turns_same Y Z p a b = rw (a, b)

  -- The mark of one pair alone changes, and its test.
  truths_one : (k : Known) (positive negative : List Bool) (q : Pair) (x : Truth3) → Truths S k → Placed q.slot q.value
      → ((p : Pair) → (¬ (p ≡ q)) → (set_of positive p ≡ set_of k.positive p) × (set_of negative p ≡ set_of k.negative p))
      → x ≡ truth_turns S (record { positive = set_of positive; negative = set_of negative }) q
      → Truths S (known positive negative (set k.truth (pair_places + place_of q) x))
  unfolding truth_had
  truths_one k positive negative q x W h others e =
      let l = W.size in
      let i = placed_inside q h in
      record {
        size = length-set k.truth (pair_places + place_of q) x ∙ W.size;
        had = λ r b. get_or-set_other k.truth (pair_places + place_of q) r x False (λ (z : r ≡ pair_places + place_of q). omega arith) ∙ W.had r b;
        turns = λ r b. ⊎_elim
            (λ (z : r ≡ place_of q). rw (z, get_or-set_same k.truth (pair_places + place_of q) x False (omega arith))
            (e ∙ ap (λ (p : Pair). truth_turns S (record { positive = set_of positive; negative = set_of negative }) p) (sym (at_place q h.in_row))))
            (λ (z : r ≡ place_of q → ⊥).
            let w = others (pair_at r) (λ y. z (omega (arith, ap (λ (p : Pair). place_of p) y))) in
            get_or-set_other k.truth (pair_places + place_of q) (pair_places + r) x False (λ (y : pair_places + r ≡ pair_places + place_of q). z (omega arith)) ∙ W.turns r b
            ∙ sym (turns_same (record { positive = set_of positive; negative = set_of negative }) (marks_of k) (pair_at r) w.0 w.1))
            (either r (place_of q));
      }

  -- A pair that is not positive is ruled out.
  out_whole : (k : Known) (q : Pair) → Whole S k → Placed q.slot q.value → (¬ T (set_of k.positive q)) → Whole S (ruled_out (place_of q) k)
  unfolding ruled_out truth_turns ◌∧ᵇ◌ ◌∨ᵇ◌
  out_whole k q W h n =
      let i : place_of q < length k.negative = omega (arith, W.negative_size, placed_inside q h) in
      record {
        positive_size = W.positive_size;
        negative_size = length-set k.negative (place_of q) true ∙ W.negative_size;
        truths = truths_one k k.positive (set k.negative (place_of q) true) q False W.truths h (λ p m. (refl, set_there k.negative q p h.in_row i m))
            (is_False (set_of k.positive q) (set_of (set k.negative (place_of q) true) q) (was S q) n (set_here k.negative q h.in_row i));
      }
    where
      is_False : (a b w : Bool) → (¬ T a) → T b → False ≡ cond (a ∧ᵇ notᵇ w) True (cond (b ∨ᵇ w) False Unknown)
      is_False true b w n t = absurd (n tt)
      is_False false true w n t = refl
      is_False false false w n t = absurd t

  -- A pair becomes positive.
  positive_whole : (k : Known) (q : Pair) → Whole S k → Placed q.slot q.value → Whole S (made_positive (place_of q) k)
  unfolding made_positive truth_had truth_turns is_true ◌∧ᵇ◌ notᵇ ◌∨ᵇ◌
  positive_whole k q W h =
      let i : place_of q < length k.positive = omega (arith, W.positive_size, placed_inside q h) in
      let e : get_or k.truth (place_of q) False ≡ truth_had S (marks_of k) q =
      W.truths.had (place_of q) (placed_inside q h) ∙ ap (λ (p : Pair). truth_had S (marks_of k) p) (at_place q h.in_row) in
      record {
        positive_size = length-set k.positive (place_of q) true ∙ W.positive_size;
        negative_size = W.negative_size;
        truths = truths_one k (set k.positive (place_of q) true) k.negative q _ W.truths h (λ p m. (set_there k.positive q p h.in_row i m, refl))
            (ap (λ (y : Truth3). cond (is_true y) False True) e ∙ unless_had (was S q) (set_of (set k.positive (place_of q) true) q) (set_of k.negative q) (set_here k.positive q h.in_row i));
      }
    where
      unless_had : (w a b : Bool) → T a → cond (is_true (cond w True False)) False True ≡ cond (a ∧ᵇ notᵇ w) True (cond (b ∨ᵇ w) False Unknown)
      unless_had true true true t = refl
      unless_had true true false t = refl
      unless_had false true b t = refl
      unless_had w false b t = absurd t

-- Another value below v of a pair's slot.
abbrev pub Rival : Pair → ℕ → Pair → Type 0
Rival q v p = (p.slot ≡ q.slot) × (¬ (p.value ≡ q.value)) × (p.value < v)

-- One of some pairs that is not positive and has no assignment left.
abbrev pub Unassigned : List ℕ → List Pair → List Bool → Pair → Type 0
Unassigned live qs positive p = T (among p qs) × (get_or live (place_of p) 0 ≡ 0) × (¬ T (set_of positive p))

-- A rival of one pair.
pub rivals_one : (p q : Pair) → T (rivals p (q ∷ [])) → (p.slot ≡ q.slot) × (¬ (p.value ≡ q.value))
unfolding among
rivals_one p q t =
    let w = rivals_e p (q ∷ []) t in
    ⊎_elim (λ s. let e = same_eq w.0 q s in (rw e at w.2, rw e at w.3)) (λ x. absurd x) (or_e _ _ w.1)

-- From k to k' the pairs that f is about are ruled out, and no others.
pub record Outs (S : List ℕ) (f : Pair → Type 0) (k k' : Known) : Type 0 where
  pub whole : Whole S k'
  pub positive_same : k'.positive ≡ k.positive
  pub kept : (p : Pair) → T (set_of k.negative p) → T (set_of k'.negative p)
  pub out : (p : Pair) → f p → T (set_of k'.negative p)
  pub from : (p : Pair) → T (set_of k'.negative p) → f p ⊎ T (set_of k.negative p)

module _ (S : List ℕ) where
  -- One pair is ruled out unless a test passes.
  out_unless : (b : Bool) (q : Pair) (k : Known) (f : Pair → Type 0) → Whole S k → Placed q.slot q.value → (T b → (p : Pair) → f p → T (set_of k.negative p))
      → ((¬ T b) → (¬ T (set_of k.positive q)) × f q × ((p : Pair) → f p → p ≡ q)) → Outs S f k (cond b k (ruled_out (place_of q) k))
  unfolding ruled_out
  out_unless true q k f W h stays goes = record { whole = W; positive_same = refl; kept = λ p t. t; out = stays tt; from = λ p t. inr t }
  out_unless false q k f W h stays goes =
      let w = goes (λ t. t) in
      let i : place_of q < length k.negative = omega (arith, W.negative_size, placed_inside q h) in
      record {
        whole = out_whole S k q W h w.0;
        positive_same = refl;
        kept = λ p t. rw (set_more k.negative q p h.in_row i) (or_r _ _ t);
        out = λ p g. rw (w.2 p g) (set_here k.negative q h.in_row i);
        from = λ p t. ⊎_elim (λ s. inl (subst f (sym (same_eq p q s)) w.1)) (λ s. inr s) (or_e _ _ (rw (set_more k.negative q p h.in_row i) at t));
      }

  -- No pair is ruled out.
  outs_none : (k : Known) (f : Pair → Type 0) → Whole S k → ((p : Pair) → ¬ f p) → Outs S f k k
  outs_none k f W n = record { whole = W; positive_same = refl; kept = λ p t. t; out = λ p g. absurd (n p g); from = λ p t. inr t }

  -- Some pairs are ruled out, and then others.
  outs_then : (f g h : Pair → Type 0) (k k' k'' : Known) → Outs S f k k' → Outs S g k' k'' → ((p : Pair) → h p → f p ⊎ g p) → ((p : Pair) → f p → h p) → ((p : Pair) → g p → h p)
      → Outs S h k k''
  outs_then f g h k k' k'' A B split first second = record {
    whole = B.whole;
    positive_same = B.positive_same ∙ A.positive_same;
    kept = λ p t. B.kept p (A.kept p t);
    out = λ p x. ⊎_elim (λ y. B.kept p (A.out p y)) (λ y. B.out p y) (split p x);
    from = λ p t. ⊎_elim (λ y. inl (second p y)) (λ y. ⊎_elim (λ z. inl (first p z)) (λ z. inr z) (A.from p y)) (B.from p t);
  }

  -- The other values of a slot are ruled out, as far as they are below v.
  rivals_outs : (q : Pair) (v : ℕ) (k : Known) → Placed q.slot q.value → v ≤ row → Whole S k → ((p : Pair) → Rival q v p → ¬ T (set_of k.positive p))
      → Outs S (Rival q v) k (rivals_out (place_of q) v k)
  unfolding rivals_out rival_out
  rivals_outs q zero k h l W n = outs_none k (Rival q 0) W (λ p g. omega (arith, g.2))
  rivals_outs q (suc v) k h l W n =
      let A = rivals_outs q v k h (omega arith) W (λ p g. n p (g.0, g.1, omega (arith, g.2))) in
      let k' = rivals_out (place_of q) v k in
      let r = pair q.slot v in
      let e : place_of q / row * row + v ≡ place_of r = omega (arith, h.in_row) in
      let B = out_unless (eqb (place_of r) (place_of q) ∨ᵇ get_or k'.negative (place_of r) false) r k' (λ p. (p ≡ r) × (¬ (v ≡ q.value)))
      A.whole (record { in_slots = h.in_slots; in_row = omega arith })
      (λ t p g. ⊎_elim
      (λ (x : T (eqb (place_of r) (place_of q))). absurd (g.1 (omega (arith, h.in_row, eqb→eq (place_of r) (place_of q) x))))
      (λ x. rw (g.0, set_in k'.negative r (omega arith)) x) (or_e _ _ t))
      (λ b. let m : ¬ (v ≡ q.value) = λ z. b (or_l _ _ (from_true _ (eq-eqb (place_of r) (place_of q) (omega arith)))) in
      (λ t. n r (refl, m, omega arith) (rw A.positive_same at t), (refl, m), λ p g. g.0)) in
      rw e (outs_then (Rival q v) (λ p. (p ≡ r) × (¬ (v ≡ q.value))) (Rival q (suc v)) k k' _ A B
      (λ p g. ⊎_elim
      (λ (z : p.value ≡ v). inr (λ i. record { slot = g.0 i; value = z i }, λ x. g.1 (z ∙ x)))
      (λ (z : p.value < v). inl (g.0, g.1, z)) (eq-or-lt_of_le (let z : p.value ≤ v = omega (arith, g.2) in z)))
      (λ p g. (g.0, g.1, omega (arith, g.2)))
      (λ p g. let a = ap (λ (x : Pair). x.slot) g.0 in let b = ap (λ (x : Pair). x.value) g.0 in (a, λ x. g.1 (sym b ∙ x), omega (arith, b))))

  -- A pair becomes positive and the other values of its slot negative, where none of them is positive.
  pub marked_outs : (q : Pair) (count : ℕ) (k : Known) → Placed q.slot q.value → count ≤ value_limit → Whole S k → ((p : Pair) → Rival q (suc count) p → ¬ T (set_of k.positive p))
      → Outs S (Rival q (suc count)) (made_positive (place_of q) k) (marked (place_of q) count k)
  unfolding marked made_positive
  marked_outs q count k h l W n =
      let i : place_of q < length k.positive = omega (arith, W.positive_size, placed_inside q h) in
      rivals_outs q (suc count) (made_positive (place_of q) k) h (omega arith) (positive_whole S k q W h)
      (λ p g t. n p g (rw (set_there k.positive q p h.in_row i (λ e. g.1 (ap (λ (x : Pair). x.value) e))) at t))

  -- The marks are then updated, as far as pairs of the slot have NONE or one of its values.
  pub marked_marks : (q : Pair) (count : ℕ) (k : Known) → Placed q.slot q.value → count ≤ value_limit → Whole S k → ((p : Pair) → Rival q (suc count) p → ¬ T (set_of k.positive p))
      → (p : Pair) → (p.slot ≡ q.slot → p.value ≤ count) → SameAt (marks_of (marked (place_of q) count k)) (update (marks_of k) (q ∷ [])) p
  unfolding update made_positive among
  marked_marks q count k h l W n p m =
      let i : place_of q < length k.positive = omega (arith, W.positive_size, placed_inside q h) in
      let O = marked_outs q count k h l W n in
      record {
        same_positive = ap (λ (bs : List Bool). set_of bs p) O.positive_same ∙ set_more k.positive q p h.in_row i
            ∙ bool_ext _ _ (λ t. ⊎_elim (λ s. or_l _ _ (or_l _ _ s)) (λ s. or_r _ _ s) (or_e _ _ t)) (λ t. ⊎_elim (λ s. or_l _ _ (⊎_elim (λ x. x) (λ x. absurd x) (or_e _ _ s))) (λ s. or_r _ _ s) (or_e _ _ t));
        same_negative = bool_ext _ _
            (λ t. ⊎_elim (λ g. or_l _ _ (rivals_i p q (q ∷ []) (or_l _ _ (same_refl q)) g.0 g.1)) (λ s. or_r _ _ s) (O.from p t))
            (λ t. ⊎_elim (λ s. let w = rivals_one p q s in O.out p (w.0, w.1, omega (arith, m w.0))) (λ s. O.kept p s) (or_e _ _ t));
      }

  -- Those of some pairs that are not positive and have no assignment left are ruled out.
  pub unassigned_outs : (live : List ℕ) (qs : List Pair) (k : Known) → ((q : Pair) → T (among q qs) → Placed q.slot q.value) → Whole S k
      → Outs S (Unassigned live qs k.positive) k (unassigned_out live qs k)
  unfolding unassigned_out unassigned_one among
  unassigned_outs live [] k h W = outs_none k (Unassigned live [] k.positive) W (λ p g. g.0)
  unassigned_outs live (q ∷ qs) k h W =
      let i = h q (or_l _ _ (same_refl q)) in
      let k' = unassigned_one live q k in
      let A : Outs S (λ p. (p ≡ q) × (get_or live (place_of q) 0 ≡ 0) × (¬ T (set_of k.positive q))) k k' = out_unless (notᵇ (eqb (get_or live (place_of q) 0) 0) ∨ᵇ get_or k.positive (place_of q) false ∨ᵇ get_or k.negative (place_of q) false) q k
      (λ p. (p ≡ q) × (get_or live (place_of q) 0 ≡ 0) × (¬ T (set_of k.positive q))) W i
      (λ t p g. ⊎_elim
      (λ x. ⊎_elim
      (λ y. absurd (not_e _ y (from_true _ (eq-eqb (get_or live (place_of q) 0) 0 g.1))))
      (λ y. absurd (g.2 (rw (set_in k.positive q i.in_row) y))) (or_e _ _ x))
      (λ x. rw (g.0, set_in k.negative q i.in_row) x) (or_e _ _ t))
      (λ b. let m : ¬ T (set_of k.positive q) = λ t. b (or_l _ _ (or_r _ _ (rw (set_in k.positive q i.in_row) at t))) in
      let z : get_or live (place_of q) 0 ≡ 0 = eqb→eq (get_or live (place_of q) 0) 0 (stable (eqb (get_or live (place_of q) 0) 0) (λ x. b (or_l _ _ (or_l _ _ (not_i _ x))))) in
      (m, (refl, z, m), λ p g. g.0)) in
      let B = unassigned_outs live qs k' (λ p t. h p (or_r _ _ t)) A.whole in
      outs_then _ (Unassigned live qs k'.positive) (Unassigned live (q ∷ qs) k.positive) k k' _ A B
      (λ p g. ⊎_elim
      (λ s. let e = same_eq p q s in inl (e, rw e at g.1, rw e at g.2))
      (λ s. inr (s, g.1, rw A.positive_same g.2)) (or_e _ _ g.0))
      (λ p g. rw g.0 (or_l _ _ (same_refl q), g.1, g.2))
      (λ p g. (or_r _ _ g.0, g.1, rw A.positive_same at g.2))
