-- What a rule assigns becomes positive in arrays of marks: they stand for the updated marks, or a pair of them is both.
-- Assumes nothing.
use mathlib.Core.Path.{◌≡◌, refl, sym, ap, subst, ◌∙◌}
use mathlib.Core.Bool.{Bool, true, false, cond}
use mathlib.Core.List.{List, [], ◌∷◌}
use mathlib.Core.Logic.{◌⊎◌, ⊎_elim}
use Prim.Native.Nat.{ℕ, suc, ◌≤◌, ◌<◌}
use native.Mathlib.Omega.{arith}
use lib.Dec.{T}
use lib.ListN.{length, get_or}
use Rattle.laws.specs.Truth.{◌∨ᵇ◌}
use Rattle.laws.specs.Limits.{value_limit}
use Rattle.laws.proofs.Truth.{or_l, or_r, or_e}
use Rattle.laws.proofs.Equations.{is_true, from_true}
use Rattle.laws.proofs.Numbers.{is_false}
use Rattle.model.specs.Rules.{Pair, among}
use Rattle.model.proofs.Pairs.{same_refl, same_eq}
use Rattle.table.specs.inner.Flat.{Placed, place_of, set_of}
use Rattle.table.proofs.Flat.{placed_inside, set_in, set_more}
use Rattle.marks.specs.Marks.{Marks, declared_pairs, rivals, update}
use Rattle.marks.proofs.Updates.{SameAt, same_at_trans, update_same, update_more, update_known, rivals_i}
use Rattle.marks.proofs.Loop.{Clear}
use Rattle.judging.specs.declared.truth.Known.{Known}
use Rattle.judging.specs.inner.Known.{marks_of}
use Rattle.marking.specs.inner.Marked.{made_positive, marked, assigned_one, assigned, clashes}
use Rattle.selecting.proofs.MarkLaws.{Whole, Rival, rivals_one, marked_outs, marked_marks}
use Rattle.selecting.proofs.Given.{Given, declared_value, value_declared, declared_placed}

-- The marks are whole; positive pairs are declared, not negative, and the other values of their slots are.
pub record Tidy (ps : List Pair) (S : List ℕ) (k : Known) : Type 0 where
  pub whole : Whole S k
  pub inside : (p : Pair) → T (set_of k.positive p) → T (among p ps)
  pub clear : Clear ps (marks_of k)
  pub rivalled : (p q : Pair) → T (among p ps) → T (among q ps) → T (set_of k.positive p) → q.slot ≡ p.slot → (¬ (q.value ≡ p.value)) → T (set_of k.negative q)

-- They stay so as a pair that is not negative becomes positive and its rivals negative.
tidy_more : (ps : List Pair) (S : List ℕ) (k k' : Known) (q : Pair) → Tidy ps S k → T (among q ps) → (¬ T (set_of k.negative q)) → Whole S k'
    → ((p : Pair) → T (set_of k'.positive p) → T (among p ps)) → ((p : Pair) → T (among p ps) → SameAt (marks_of k') (update (marks_of k) (q ∷ [])) p) → Tidy ps S k'
unfolding Clear update among
tidy_more ps S k k' q X l n W inside e = record {
  whole = W;
  inside = inside;
  clear = λ p m a b. ⊎_elim
      (λ s. let z = one p s in ⊎_elim (λ r. (rivals_one p q r).1 (ap (λ (x : Pair). x.value) z)) (λ r. n (rw z at r)) (negative p m b))
      (λ s. ⊎_elim (λ r. let w = rivals_one p q r in n (X.rivalled p q m l s (sym w.0) (λ z. w.1 (sym z)))) (λ r. X.clear p m s r) (negative p m b))
      (positive p m a);
  rivalled = λ p r m o t s v. rw (e r o).same_negative (⊎_elim
      (λ x. or_l _ _ (rivals_i r p (q ∷ []) x s v))
      (λ x. or_r _ _ (X.rivalled p r m o x s v))
      (positive p m t));
}
  where
    positive : (p : Pair) → T (among p ps) → T (set_of k'.positive p) → T (among p (q ∷ [])) ⊎ T (set_of k.positive p)
    positive p m t = or_e _ _ (rw (e p m).same_positive at t)

    negative : (p : Pair) → T (among p ps) → T (set_of k'.negative p) → T (rivals p (q ∷ [])) ⊎ T (set_of k.negative p)
    negative p m t = or_e _ _ (rw (e p m).same_negative at t)

    one : (p : Pair) → T (among p (q ∷ [])) → p ≡ q
    one p t = ⊎_elim (λ s. same_eq p q s) (λ x. absurd x) (or_e _ _ t)

-- An update by nothing.
update_none : (Z : Marks) (p : Pair) → SameAt Z (update Z []) p
unfolding update among rivals ◌∨ᵇ◌
update_none Z p = record { same_positive = refl; same_negative = refl }

-- An update by one pair and then by others.
update_first : (Z Z' : Marks) (q : Pair) (qs : List Pair) (p : Pair) → SameAt Z' (update Z (q ∷ [])) p → SameAt (update Z' qs) (update Z (q ∷ qs)) p
update_first Z Z' q qs p e = same_at_trans _ (update (update Z (q ∷ [])) qs) _ p (update_same Z' (update Z (q ∷ [])) qs p e) (update_more Z (q ∷ []) qs p)

module _ (rows : List (List ℕ)) (n : ℕ) (ks : List ℕ) (width : ℕ) (counts : List ℕ) (I : List Pair) (G : Given rows n ks width counts I) (S : List ℕ) where
  -- A declared pair that is not negative is assigned.
  assigned_one_right : (q : Pair) (k : Known) → Tidy (declared_pairs ks) S k → T (among q (declared_pairs ks)) → (¬ T (set_of k.negative q))
      → Tidy (declared_pairs ks) S (assigned_one counts q k)
      × ((p : Pair) → T (among p (declared_pairs ks)) → SameAt (marks_of (assigned_one counts q k)) (update (marks_of k) (q ∷ [])) p)
  unfolding assigned_one made_positive
  assigned_one_right q k X l m = go (get_or k.positive (place_of q) false) refl
    where
      ps : List Pair
      ps = declared_pairs ks

      h : Placed q.slot q.value
      h = declared_placed rows n ks width counts I G q l

      c : ℕ
      c = get_or counts q.slot 0

      inner : q.slot < width
      inner = (declared_value rows n ks width counts I G q l).0

      none : (p : Pair) → Rival q (suc c) p → ¬ T (set_of k.positive p)
      none p r t =
          let o : T (among p ps) = value_declared rows n ks width counts I G p (omega (arith, r.0, inner)) (rw r.0 (omega (arith, r.2))) in
          m (X.rivalled p q o l t (sym r.0) (λ z. r.1 (sym z)))

      go : (b : Bool) → get_or k.positive (place_of q) false ≡ b
          → Tidy ps S (cond b k (marked (place_of q) c k)) × ((p : Pair) → T (among p ps) → SameAt (marks_of (cond b k (marked (place_of q) c k))) (update (marks_of k) (q ∷ [])) p)
      go true e =
          let t : T (set_of k.positive q) = rw (set_in k.positive q h.in_row, e) tt in
          (X, λ p o. let s = update_known (marks_of k) q p t (λ a b. X.rivalled q p l o t a b) in record { same_positive = sym s.same_positive; same_negative = sym s.same_negative })
      go false e =
          let u : c ≤ value_limit = G.few_values q.slot inner in
          let O = marked_outs S q c k h u X.whole none in
          let i : place_of q < length k.positive = omega (arith, X.whole.positive_size, placed_inside q h) in
          let s : (p : Pair) → T (among p ps) → SameAt (marks_of (marked (place_of q) c k)) (update (marks_of k) (q ∷ [])) p = λ p o.
          let v = declared_value rows n ks width counts I G p o in marked_marks S q c k h u X.whole none p (λ z. rw z at v.1) in (
            tidy_more ps S k (marked (place_of q) c k) q X l m O.whole
                (λ p t. ⊎_elim (λ x. rw (same_eq p q x) l) (λ x. X.inside p x) (or_e _ _ (rw (O.positive_same, set_more k.positive q p h.in_row i) at t))) s,
            s,
          )

  -- What a rule assigns, none of it negative when its turn comes: the marks are updated.
  pub assigned_right : (qs : List Pair) (k : Known) → Tidy (declared_pairs ks) S k → ((q : Pair) → T (among q qs) → T (among q (declared_pairs ks))) → clashes counts qs k ≡ false
      → Tidy (declared_pairs ks) S (assigned counts qs k)
      × ((p : Pair) → T (among p (declared_pairs ks)) → SameAt (marks_of (assigned counts qs k)) (update (marks_of k) qs) p)
  unfolding assigned clashes among
  assigned_right [] k X d e = (X, λ p o. update_none (marks_of k) p)
  assigned_right (q ∷ qs) k X d e =
      let l = d q (or_l _ _ (same_refl q)) in
      let k' = assigned_one counts q k in
      let A = assigned_one_right q k X l (λ t. subst T e (or_l _ _ (rw (set_in k.negative q (declared_placed rows n ks width counts I G q l).in_row) at t))) in
      let B = assigned_right qs k' A.0 (λ p t. d p (or_r _ _ t)) (is_false (clashes counts qs k') (λ t. subst T e (or_r _ _ t))) in
      (B.0, λ p o. same_at_trans _ (update (marks_of k') qs) _ p (B.1 p o) (update_first (marks_of k) (marks_of k') q qs p (A.1 p o)))

  -- One of it is: by the update a declared pair is both.
  pub clash_both : (qs : List Pair) (k : Known) → Tidy (declared_pairs ks) S k → ((q : Pair) → T (among q qs) → T (among q (declared_pairs ks))) → clashes counts qs k ≡ true
      → (p : Pair) × T (among p (declared_pairs ks)) × T ((update (marks_of k) qs).positive p) × T ((update (marks_of k) qs).negative p)
  unfolding clashes among update
  clash_both [] k X d e = absurd (subst T (sym e) tt)
  clash_both (q ∷ qs) k X d e = go (λ k' Y c. clash_both qs k' Y (λ p t. d p (or_r _ _ t)) c) (get_or k.negative (place_of q) false) refl e
    where
      l : T (among q (declared_pairs ks))
      l = d q (or_l _ _ (same_refl q))

      is : set_of k.negative q ≡ get_or k.negative (place_of q) false
      is = set_in k.negative q (declared_placed rows n ks width counts I G q l).in_row

      go : ((k' : Known) → Tidy (declared_pairs ks) S k' → clashes counts qs k' ≡ true
          → (p : Pair) × T (among p (declared_pairs ks)) × T ((update (marks_of k') qs).positive p) × T ((update (marks_of k') qs).negative p))
          → (b : Bool) → get_or k.negative (place_of q) false ≡ b → (b ∨ᵇ clashes counts qs (assigned_one counts q k)) ≡ true
          → (p : Pair) × T (among p (declared_pairs ks)) × T ((update (marks_of k) (q ∷ qs)).positive p) × T ((update (marks_of k) (q ∷ qs)).negative p)
      go rest true z c = (q, l, or_l _ _ (or_l _ _ (same_refl q)), or_r _ _ (from_true _ (is ∙ z)))
      go rest false z c =
          let A = assigned_one_right q k X l (λ t. subst T (is ∙ z) t) in
          let w = rest (assigned_one counts q k) A.0 (is_true _ (⊎_elim (λ x. absurd x) (λ x. x) (or_e _ _ (from_true _ c)))) in
          let s = update_first (marks_of k) (marks_of (assigned_one counts q k)) q qs w.0 (A.1 w.0 w.1) in
          (w.0, w.1, subst T s.same_positive w.2, subst T s.same_negative w.3)
