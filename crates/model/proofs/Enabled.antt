-- A rule that is enabled at two sets of changes is enabled at a third that has what it needs and lacks what it bars; and what an enabled rule needs has come.
-- Assumes nothing.
use Prim.Native.Nat.{ℕ}
use mathlib.Core.Bool.{Bool, true, false, cond}
use mathlib.Core.List.{List, [], ◌∷◌}
use lib.Dec.{T}
use mathlib.Core.Logic.{⊎_elim}
use Rattle.laws.specs.Truth.{◌∧ᵇ◌, notᵇ}
use Rattle.laws.proofs.Truth.{and_l, and_r, and_i, or_l, or_r, or_e, not_e, not_i}
use Rattle.model.specs.Rules.{Pair, Pairs, Literal, Rule, among, was, became, test, holds, all_hold, enabled}
use Rattle.model.specs.Strata.{pairs_where, is_plain, is_under_not, needed, barred}
use Rattle.model.proofs.Pairs.{same_refl, same_eq, where_here, where_later, where_e}

-- `s *= v` holds at a set that has the pair where the other has it.
pub became_up : (S : List ℕ) (C D : Pairs) (p : Pair) → (T (C p) → T (D p)) → T (became S C p) → T (became S D p)
unfolding became
became_up S C D p f h = and_i _ _ (and_l _ _ h) (f (and_r _ _ h))

literal_up : (S : List ℕ) (C E D : Pairs) (l : Literal) → (T (is_plain l) → T (C l.pair) → T (D l.pair))
    → (T (is_under_not l) → T (D l.pair) → T (E l.pair)) → T (holds S C l) → T (holds S E l) → T (holds S D l)
unfolding holds test is_plain is_under_not ◌∧ᵇ◌ notᵇ
literal_up S C E D l = go l.becomes l.negated l.pair
  where
    go : (b n : Bool) (p : Pair) → (T (b ∧ᵇ notᵇ n) → T (C p) → T (D p)) → (T (b ∧ᵇ n) → T (D p) → T (E p))
        → T (cond n (notᵇ (cond b (became S C p) (was S p))) (cond b (became S C p) (was S p)))
        → T (cond n (notᵇ (cond b (became S E p) (was S p))) (cond b (became S E p) (was S p)))
        → T (cond n (notᵇ (cond b (became S D p) (was S p))) (cond b (became S D p) (was S p)))
    go true true p f g h k = not_i (became S D p) (λ t. not_e (became S E p) k (became_up S D E p (g tt) t))
    go true false p f g h k = became_up S C D p (f tt) h
    go false true p f g h k = h
    go false false p f g h k = h

literals_up : (S : List ℕ) (C E D : Pairs) (ls : List Literal) → ((p : Pair) → T (among p (pairs_where is_plain ls)) → T (C p) → T (D p))
    → ((p : Pair) → T (among p (pairs_where is_under_not ls)) → T (D p) → T (E p)) → T (all_hold S C ls) → T (all_hold S E ls) → T (all_hold S D ls)
unfolding all_hold
literals_up S C E D [] f g h k = tt
literals_up S C E D (l ∷ ls) f g h k =
    and_i _ _
    (literal_up S C E D l (λ t. f l.pair (where_here is_plain l ls t)) (λ t. g l.pair (where_here is_under_not l ls t)) (and_l _ _ h) (and_l _ _ k))
    (literals_up S C E D ls (λ p t. f p (where_later is_plain l ls p t)) (λ p t. g p (where_later is_under_not l ls p t)) (and_r _ _ h) (and_r _ _ k))

-- Enabled at C and at E, a rule is enabled at D: D has of C what the rule needs, and E has of D what it bars.
pub enabled_up : (S : List ℕ) (C E D : Pairs) (r : Rule) → ((p : Pair) → T (among p (needed r)) → T (C p) → T (D p))
    → ((p : Pair) → T (among p (barred r)) → T (D p) → T (E p)) → T (enabled S C r) → T (enabled S E r) → T (enabled S D r)
unfolding enabled needed barred among
enabled_up S C E D r f g h k =
    and_i _ _
    (became_up S C D r.trigger (f r.trigger (or_l _ _ (same_refl r.trigger))) (and_l _ _ h))
    (literals_up S C E D r.literals (λ p t. f p (or_r _ _ t)) g (and_r _ _ h) (and_r _ _ k))

plain_became : (S : List ℕ) (C : Pairs) (l : Literal) → T (is_plain l) → T (holds S C l) → T (became S C l.pair)
unfolding holds test is_plain ◌∧ᵇ◌ notᵇ
plain_became S C l = go l.becomes l.negated l.pair
  where
    go : (b n : Bool) (p : Pair) → T (b ∧ᵇ notᵇ n) → T (cond n (notᵇ (cond b (became S C p) (was S p))) (cond b (became S C p) (was S p))) → T (became S C p)
    go true true p t h = absurd t
    go true false p t h = h
    go false n p t h = absurd t

literals_became : (S : List ℕ) (C : Pairs) (ls : List Literal) (p : Pair) → T (all_hold S C ls) → T (among p (pairs_where is_plain ls)) → T (became S C p)
unfolding all_hold pairs_where among
literals_became S C [] p h t = absurd t
literals_became S C (l ∷ ls) p h t =
    ⊎_elim (λ w. rw w.1 (plain_became S C l w.0 (and_l _ _ h))) (λ s. literals_became S C ls p (and_r _ _ h) s) (where_e is_plain l ls p t)

-- What an enabled rule needs has come: the card lacks it, and it is among the changes.
pub needed_became : (S : List ℕ) (C : Pairs) (r : Rule) (p : Pair) → T (enabled S C r) → T (among p (needed r)) → T (became S C p)
unfolding enabled needed among
needed_became S C r p h t =
    ⊎_elim (λ s. rw (same_eq p r.trigger s) (and_l _ _ h)) (λ s. literals_became S C r.literals p (and_r _ _ h) s) (or_e _ _ t)
