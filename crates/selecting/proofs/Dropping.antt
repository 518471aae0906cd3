-- Many pairs are ruled out at once: declared pairs that are not positive and that only False rules assign.
-- Assumes nothing.
use Prim.Native.Nat.{ℕ}
use mathlib.Core.Path.{refl, subst}
use mathlib.Core.Bool.{Bool, true, false}
use mathlib.Core.List.{List, [], ◌∷◌}
use mathlib.Core.Logic.{⊎_elim}
use lib.Dec.{T}
use lib.ListN.{length}
use Rattle.laws.specs.Truth.{◌∧ᵇ◌, ◌∨ᵇ◌, notᵇ}
use Rattle.laws.specs.Numbers.{Numbered}
use Rattle.laws.proofs.Truth.{bool_ext, and_l, and_r, and_i, or_l, or_r, or_e, not_i, not_e, stable}
use Rattle.model.specs.Rules.{Pair, Pairs, Rule, among}
use Rattle.model.specs.Orders.{rule_at}
use Rattle.model.proofs.Pairs.{same_refl, same_eq}
use Rattle.truths.specs.Truths.{is_false}
use Rattle.marks.specs.Marks.{Marks, rule_out, truth_rule}
use Rattle.marks.specs.inner.Declared.{Declared}
use Rattle.marks.proofs.Updates.{SameAt, same_at_trans}
use Rattle.marks.proofs.Loop.{Clear, more_stays, Selecting, drop_one}

-- The pairs of a set have become negative.
unfoldable pub without : Marks → Pairs → Marks
without Z f = record { positive = Z.positive; negative = λ p. f p ∨ᵇ Z.negative p }

-- No pair is then both, where none of the set is positive.
pub without_clear : (ps : List Pair) (Z : Marks) (f : Pairs) → Clear ps Z → ((p : Pair) → T (among p ps) → T (f p) → ¬ T (Z.positive p)) → Clear ps (without Z f)
unfolding without Clear
without_clear ps Z f c n p l a b = ⊎_elim (λ t. n p l t a) (λ t. c p l a t) (or_e _ _ b)

module _ (ps : List Pair) (rs : List Rule) (S : List ℕ) (I : List Pair) where
  -- Marks that are the same at declared pairs are those of the same order.
  selecting_same : (Z Z' : Marks) (F : ℕ → Bool) → Selecting ps rs S I Z F → ((p : Pair) → T (among p ps) → SameAt Z' Z p) → Selecting ps rs S I Z' F
  selecting_same Z Z' F X e = record { moves = X.moves; is_order = X.is_order; marked = λ p l. same_at_trans Z' Z _ p (e p l) (X.marked p l); has_fired = X.has_fired }

  module _ (D : Declared ps rs I) (Z : Marks) (F : ℕ → Bool) (X : Selecting ps rs S I Z F) (c : Clear ps Z) (f : Pairs) (not_positive : (q : Pair) → T (among q ps) → T (f q) → ¬ T (Z.positive q))
      (all_False : (q : Pair) → T (among q ps) → T (f q) → (n : ℕ) → Numbered (length rs) n → T (among q (rule_at rs n).assignments) → T (is_false (truth_rule S Z (rule_at rs n)))) where
    -- Those of a list are ruled out, one after the other.
    drop_listed : (qs : List Pair) → ((q : Pair) → T (among q qs) → T (among q ps)) → Selecting ps rs S I (without Z (λ p. among p qs ∧ᵇ f p)) F
    unfolding without among rule_out
    drop_listed [] d = selecting_same Z _ F X (λ p l. record { same_positive = refl; same_negative = bool_ext _ _ (λ t. ⊎_elim (λ x. absurd (and_l false (f p) x)) (λ x. x) (or_e _ _ t)) (or_r _ _) })
    drop_listed (q ∷ qs) d = go (drop_listed qs (λ p t. d p (or_r _ _ t))) (f q ∧ᵇ notᵇ (before.negative q)) (λ t. t) (λ t. t)
      where
        l : T (among q ps)
        l = d q (or_l _ _ (same_refl q))

        before : Marks
        before = without Z (λ p. among p qs ∧ᵇ f p)

        afterwards : Marks
        afterwards = without Z (λ p. among p (q ∷ qs) ∧ᵇ f p)

        clear : Clear ps before
        clear = without_clear ps Z (λ p. among p qs ∧ᵇ f p) c (λ p m t. not_positive p m (and_r _ _ t))

        later : (p : Pair) → T (before.negative p) → T (afterwards.negative p)
        later p x = ⊎_elim (λ y. or_l _ _ (and_i _ _ (or_r _ _ (and_l _ _ y)) (and_r _ _ y))) (λ y. or_r _ _ y) (or_e _ _ x)

        go : Selecting ps rs S I before F → (b : Bool) → (T b → T (f q ∧ᵇ notᵇ (before.negative q))) → (T (f q ∧ᵇ notᵇ (before.negative q)) → T b) → Selecting ps rs S I afterwards F
        go Y true t u =
            let g = and_l _ _ (t tt) in
            drop_one ps rs S I D before F Y afterwards q clear l (not_positive q l g) (not_e _ (and_r _ _ (t tt)))
            (λ n i a. (more_stays ps rs S I D Z before (λ p m x. x) (λ p m x. or_r _ _ x) clear n i).stays_false (all_False q l g n i a))
            (λ p m. record {
              same_positive = refl;
              same_negative = bool_ext _ _
                  (λ x. ⊎_elim (λ y. ⊎_elim (λ z. or_l _ _ z) (λ z. or_r _ _ (or_l _ _ (and_i _ _ z (and_r _ _ y)))) (or_e _ _ (and_l _ _ y))) (λ y. or_r _ _ (or_r _ _ y)) (or_e _ _ x))
                  (λ x. ⊎_elim (λ y. rw (same_eq p q y) (or_l _ _ (and_i _ _ (or_l _ _ (same_refl q)) g))) (λ y. later p y) (or_e _ _ x));
            })
        go Y false t u = selecting_same before afterwards F Y (λ p m. record {
          same_positive = refl;
          same_negative = bool_ext _ _
              (λ x. ⊎_elim (λ y. ⊎_elim
              (λ z. let e = same_eq p q z in rw e (stable (before.negative q) (λ v. u (and_i _ _ (subst (λ (r : Pair). T (f r)) e (and_r _ _ y)) (not_i _ v)))))
              (λ z. or_l _ _ (and_i _ _ z (and_r _ _ y))) (or_e _ _ (and_l _ _ y))) (λ y. or_r _ _ y) (or_e _ _ x))
              (λ x. later p x);
        })

    -- All the declared pairs of such a set are ruled out.
    pub drop_all : (Z' : Marks) → ((p : Pair) → T (among p ps) → SameAt Z' (without Z f) p) → Selecting ps rs S I Z' F
    unfolding without
    drop_all Z' e = selecting_same _ Z' F (drop_listed ps (λ q t. t)) (λ p l. same_at_trans Z' (without Z f) _ p (e p l) (record {
      same_positive = refl;
      same_negative = bool_ext _ _
          (λ x. ⊎_elim (λ y. or_l _ _ (and_i _ _ l y)) (λ y. or_r _ _ y) (or_e _ _ x))
          (λ x. ⊎_elim (λ y. or_l _ _ (and_r _ _ y)) (λ y. or_r _ _ y) (or_e _ _ x));
    }))
