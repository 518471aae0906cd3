-- Updates of marks: the rivals of some pairs, and marks that are the same at a pair.
-- Assumes nothing.
use Prim.Native.Nat.{ℕ}
use mathlib.Core.Path.{◌≡◌, refl, sym, ap, ap₂, ◌∙◌}
use mathlib.Core.Bool.{Bool}
use mathlib.Core.List.{List, [], ◌∷◌, ◌++◌}
use mathlib.Core.Logic.{⊎_elim}
use lib.Dec.{T, eqb→eq}
use borrow.Author.Tests.{eq-eqb}
use Rattle.laws.specs.Truth.{◌∨ᵇ◌}
use Rattle.laws.proofs.Truth.{bool_ext, and_l, and_r, and_i, or_l, or_r, or_e, not_e, not_i}
use Rattle.laws.proofs.Equations.{from_true, or_swap}
use Rattle.model.specs.Rules.{Pair, Rule, same, among}
use Rattle.model.specs.Strata.{tested}
use Rattle.model.proofs.Pairs.{same_refl, same_eq, append_l, append_r, append_e}
use Rattle.truths.specs.Truths.{NOT₃, ◌AND₃◌}
use Rattle.marks.specs.Marks.{Marks, rivals, update, rule_out, truth_turns, truth_rule}
use Rattle.marks.proofs.Known.{rule_related}

-- A pair whose slot has another value among some pairs.
pub rivals_i : (p q : Pair) (qs : List Pair) → T (among q qs) → p.slot ≡ q.slot → ¬ (p.value ≡ q.value) → T (rivals p qs)
unfolding rivals among
rivals_i p q [] t s v = absurd t
rivals_i p q (r ∷ qs) t s v =
    ⊎_elim
    (λ h. let e = same_eq q r h in or_l _ _ (rw (← e) (and_i _ _ (from_true _ (eq-eqb p.slot q.slot s)) (not_i _ (λ x. v (eqb→eq _ _ x))))))
    (λ h. or_r _ _ (rivals_i p q qs h s v))
    (or_e _ _ t)

-- And back.
pub rivals_e : (p : Pair) (qs : List Pair) → T (rivals p qs) → (q : Pair) × T (among q qs) × (p.slot ≡ q.slot) × (¬ (p.value ≡ q.value))
unfolding rivals among
rivals_e p [] t = absurd t
rivals_e p (q ∷ qs) t =
    ⊎_elim
    (λ h. (q, or_l _ _ (same_refl q), eqb→eq _ _ (and_l _ _ h), λ e. not_e _ (and_r _ _ h) (from_true _ (eq-eqb p.value q.value e))))
    (λ h. let w = rivals_e p qs h in (w.0, or_r _ _ w.1, w.2, w.3))
    (or_e _ _ t)

-- The rivals of two lists, one after the other.
rivals_append : (p : Pair) (qs ts : List Pair) → rivals p (qs ++ ts) ≡ (rivals p qs ∨ᵇ rivals p ts)
rivals_append p qs ts = bool_ext _ _
    (λ t. let w = rivals_e p (qs ++ ts) t in ⊎_elim (λ h. or_l _ _ (rivals_i p w.0 qs h w.2 w.3)) (λ h. or_r _ _ (rivals_i p w.0 ts h w.2 w.3)) (append_e w.0 qs ts w.1))
    (λ t. ⊎_elim
    (λ h. let w = rivals_e p qs h in rivals_i p w.0 (qs ++ ts) (append_l w.0 qs ts w.1) w.2 w.3)
    (λ h. let w = rivals_e p ts h in rivals_i p w.0 (qs ++ ts) (append_r w.0 qs ts w.1) w.2 w.3) (or_e _ _ t))

-- The pairs of two lists, one after the other.
among_append : (p : Pair) (qs ts : List Pair) → among p (qs ++ ts) ≡ (among p qs ∨ᵇ among p ts)
among_append p qs ts = bool_ext _ _
    (λ t. ⊎_elim (λ h. or_l _ _ h) (λ h. or_r _ _ h) (append_e p qs ts t)) (λ t. ⊎_elim (append_l p qs ts) (append_r p qs ts) (or_e _ _ t))

-- Two marks of a pair are the same.
pub record SameAt (Y Z : Marks) (p : Pair) : Type 0 where
  pub same_positive : Y.positive p ≡ Z.positive p
  pub same_negative : Y.negative p ≡ Z.negative p

-- A pair has the same mark in the same marks.
pub same_at_refl : (Z : Marks) (p : Pair) → SameAt Z Z p
same_at_refl Z p = record { same_positive = refl; same_negative = refl }

-- What is the same as the same is the same.
pub same_at_trans : (X Y Z : Marks) (p : Pair) → SameAt X Y p → SameAt Y Z p → SameAt X Z p
same_at_trans X Y Z p a b = record { same_positive = a.same_positive ∙ b.same_positive; same_negative = a.same_negative ∙ b.same_negative }

-- An update of both keeps it.
pub update_same : (Y Z : Marks) (qs : List Pair) (p : Pair) → SameAt Y Z p → SameAt (update Y qs) (update Z qs) p
unfolding update
update_same Y Z qs p e = record {
  same_positive = ap (λ (b : Bool). among p qs ∨ᵇ b) e.same_positive;
  same_negative = ap (λ (b : Bool). rivals p qs ∨ᵇ b) e.same_negative;
}

-- So does ruling a pair out of both.
pub rule_out_same : (Y Z : Marks) (q p : Pair) → SameAt Y Z p → SameAt (rule_out Y q) (rule_out Z q) p
unfolding rule_out
rule_out_same Y Z q p e = record { same_positive = e.same_positive; same_negative = ap (λ (b : Bool). same p q ∨ᵇ b) e.same_negative }

-- Two updates, one after the other, are one by both lists.
pub update_more : (Z : Marks) (qs ts : List Pair) (p : Pair) → SameAt (update (update Z qs) ts) (update Z (qs ++ ts)) p
unfolding update
update_more Z qs ts p = record {
  same_positive = or_swap (among p ts) (among p qs) (Z.positive p) ∙ ap (λ (b : Bool). b ∨ᵇ Z.positive p) (sym (among_append p qs ts));
  same_negative = or_swap (rivals p ts) (rivals p qs) (Z.negative p) ∙ ap (λ (b : Bool). b ∨ᵇ Z.negative p) (sym (rivals_append p qs ts));
}

-- The update by a pair that is positive, and whose rivals are negative, changes nothing.
pub update_known : (Z : Marks) (q p : Pair) → T (Z.positive q) → (p.slot ≡ q.slot → (¬ (p.value ≡ q.value)) → T (Z.negative p)) → SameAt (update Z (q ∷ [])) Z p
unfolding update among
update_known Z q p h out = record {
  same_positive = bool_ext _ _ (λ t. ⊎_elim (λ a. ⊎_elim (λ s. rw (same_eq p q s) h) (λ x. absurd x) (or_e _ _ a)) (λ x. x) (or_e _ _ t)) (or_r _ _);
  same_negative = bool_ext _ _ (λ t. ⊎_elim (λ a. gone (rivals_e p (q ∷ []) a)) (λ x. x) (or_e _ _ t)) (or_r _ _);
}
  where
    gone : (t : Pair) × T (among t (q ∷ [])) × (p.slot ≡ t.slot) × (¬ (p.value ≡ t.value)) → T (Z.negative p)
    gone w = ⊎_elim (λ s. let e = same_eq w.0 q s in out (rw e at w.2) (rw e at w.3)) (λ x. absurd x) (or_e _ _ w.1)

-- A rule looks at the pairs that it tests alone.
pub rule_same : (S : List ℕ) (Y Z : Marks) (r : Rule) → ((p : Pair) → T (among p (tested r)) → SameAt Y Z p) → truth_rule S Y r ≡ truth_rule S Z r
unfolding truth_turns
rule_same S Y Z r e =
    rule_related ◌≡◌ (λ p. refl) (λ p q. ap NOT₃) (λ p p' q q' a b. ap₂ ◌AND₃◌ a b) S Y Z r (λ p t. rw ((e p t).same_positive, (e p t).same_negative))
