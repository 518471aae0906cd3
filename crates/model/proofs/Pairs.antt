-- Laws of pairs and lists of pairs: equality, the pairs that a rule tests, lists that meet, slots assigned.
-- Assumes nothing.
use Prim.Native.Nat.{ℕ, zero, suc, ◌<◌}
use native.Mathlib.Omega.{arith}
use mathlib.Core.Path.{◌≡◌, refl}
use mathlib.Core.Bool.{Bool, true, false, cond}
use mathlib.Core.List.{List, [], ◌∷◌, ◌++◌}
use mathlib.Core.Logic.{◌⊎◌, inl, inr, ⊎_elim}
use lib.Dec.{T, eqb, eqb→eq, eqb_refl}
use lib.ListN.{length, get_or}
use borrow.Author.Tests.{eq-eqb, ne_eqb}
use Rattle.laws.specs.Truth.{◌∧ᵇ◌, ◌∨ᵇ◌, notᵇ}
use Rattle.laws.proofs.Truth.{and_l, and_r, and_i, or_l, or_r, or_e}
use Rattle.model.specs.Rules.{Pair, Literal, Rule, same, among, assigns}
use Rattle.model.specs.Strata.{pairs_where, is_becomes, is_plain, is_under_not, tested, needed, barred, meet}

-- A pair is the same as itself.
pub same_refl : (p : Pair) → T (same p p)
unfolding same
same_refl p = and_i (eqb p.slot p.slot) _ (eqb_refl p.slot) (eqb_refl p.value)

-- Pairs that are the same are equal.
pub same_eq : (p q : Pair) → T (same p q) → p ≡ q
unfolding same
same_eq p q t =
    let a : p.slot ≡ q.slot = eqb→eq _ _ (and_l _ _ t) in
    let b : p.value ≡ q.value = eqb→eq _ _ (and_r _ _ t) in
    λ i. record { slot = a i; value = b i }

-- A pair among the first of two lists is among both joined.
pub append_l : (p : Pair) (ps qs : List Pair) → T (among p ps) → T (among p (ps ++ qs))
unfolding among
append_l p [] qs t = absurd t
append_l p (q ∷ ps) qs t = ⊎_elim (λ a. or_l _ _ a) (λ a. or_r _ _ (append_l p ps qs a)) (or_e _ _ t)

-- So is a pair among the second.
pub append_r : (p : Pair) (ps qs : List Pair) → T (among p qs) → T (among p (ps ++ qs))
unfolding among
append_r p [] qs t = t
append_r p (q ∷ ps) qs t = or_r _ _ (append_r p ps qs t)

-- A pair among both joined is among one of them.
pub append_e : (p : Pair) (ps qs : List Pair) → T (among p (ps ++ qs)) → T (among p ps) ⊎ T (among p qs)
unfolding among
append_e p [] qs t = inr t
append_e p (q ∷ ps) qs t = ⊎_elim (λ a. inl (or_l _ _ a)) (λ a. ⊎_elim (λ b. inl (or_r _ _ b)) (λ b. inr b) (append_e p ps qs a)) (or_e _ _ t)

-- What stands at a place of a list is among the list.
pub among_at : (ps : List Pair) (i : ℕ) (d : Pair) → i < length ps → T (among (get_or ps i d) ps)
unfolding among
among_at [] i d h = absurd (omega arith)
among_at (p ∷ ps) zero d h = or_l _ _ (same_refl p)
among_at (p ∷ ps) (suc i) d h = or_r _ _ (among_at ps i d (omega arith))

-- The pair of a literal that passes is among those of the literals that pass.
pub where_here : (f : Literal → Bool) (l : Literal) (ls : List Literal) → T (f l) → T (among l.pair (pairs_where f (l ∷ ls)))
unfolding pairs_where among
where_here f l ls t = go (f l) t
  where
    go : (b : Bool) → T b → T (among l.pair (cond b (l.pair ∷ pairs_where f ls) (pairs_where f ls)))
    go true t = or_l _ _ (same_refl l.pair)
    go false t = absurd t

-- So are the pairs of the literals after it.
pub where_later : (f : Literal → Bool) (l : Literal) (ls : List Literal) (p : Pair) → T (among p (pairs_where f ls)) → T (among p (pairs_where f (l ∷ ls)))
unfolding pairs_where among
where_later f l ls p t = go (f l)
  where
    go : (b : Bool) → T (among p (cond b (l.pair ∷ pairs_where f ls) (pairs_where f ls)))
    go true = or_r _ _ t
    go false = t

-- A pair of the literals that pass is that of the first, which passes, or one of the others'.
pub where_e : (f : Literal → Bool) (l : Literal) (ls : List Literal) (p : Pair) → T (among p (pairs_where f (l ∷ ls)))
    → (T (f l) × (p ≡ l.pair)) ⊎ T (among p (pairs_where f ls))
unfolding pairs_where among
where_e f l ls p t = go (f l) (λ x. x) t
  where
    go : (b : Bool) → (T b → T (f l)) → T (among p (cond b (l.pair ∷ pairs_where f ls) (pairs_where f ls))) → (T (f l) × (p ≡ l.pair)) ⊎ T (among p (pairs_where f ls))
    go true x t = ⊎_elim (λ s. inl (x tt, same_eq p l.pair s)) (λ s. inr s) (or_e _ _ t)
    go false x t = inr t

-- Where each literal that passes f passes g or h, a pair of the first is one of the second or of the third.
pub where_cases : (f g h : Literal → Bool) → ((l : Literal) → T (f l) → T (g l) ⊎ T (h l)) → (p : Pair) (ls : List Literal) → T (among p (pairs_where f ls))
    → T (among p (pairs_where g ls)) ⊎ T (among p (pairs_where h ls))
unfolding pairs_where among
where_cases f g h c p [] t = absurd t
where_cases f g h c p (l ∷ ls) t =
    ⊎_elim
    (λ w. ⊎_elim (λ a. inl (rw w.1 (where_here g l ls a))) (λ a. inr (rw w.1 (where_here h l ls a))) (c l w.0))
    (λ s. ⊎_elim (λ a. inl (where_later g l ls p a)) (λ a. inr (where_later h l ls p a)) (where_cases f g h c p ls s))
    (where_e f l ls p t)

-- A `*=` is plain or under NOT by its sign, and a `|=` is neither.
pub when_plain : (l : Literal) → is_becomes l ≡ true → l.negated ≡ false → (is_plain l ≡ true) × (is_under_not l ≡ false)
unfolding is_becomes is_plain is_under_not ◌∧ᵇ◌ notᵇ
when_plain l = go l.becomes l.negated
  where
    go : (b n : Bool) → b ≡ true → n ≡ false → ((b ∧ᵇ notᵇ n) ≡ true) × ((b ∧ᵇ n) ≡ false)
    go b n d e = rw (d, e) (refl, refl)

pub when_under_not : (l : Literal) → is_becomes l ≡ true → l.negated ≡ true → (is_plain l ≡ false) × (is_under_not l ≡ true)
unfolding is_becomes is_plain is_under_not ◌∧ᵇ◌ notᵇ
when_under_not l = go l.becomes l.negated
  where
    go : (b n : Bool) → b ≡ true → n ≡ true → ((b ∧ᵇ notᵇ n) ≡ false) × ((b ∧ᵇ n) ≡ true)
    go b n d e = rw (d, e) (refl, refl)

pub when_neither : (l : Literal) → is_becomes l ≡ false → (is_plain l ≡ false) × (is_under_not l ≡ false)
unfolding is_becomes is_plain is_under_not ◌∧ᵇ◌
when_neither l = go l.becomes l.negated
  where
    go : (b n : Bool) → b ≡ false → ((b ∧ᵇ notᵇ n) ≡ false) × ((b ∧ᵇ n) ≡ false)
    go b n d = rw d (refl, refl)

plain_becomes : (l : Literal) → T (is_plain l) → T (is_becomes l) ⊎ T (is_becomes l)
unfolding is_becomes is_plain
plain_becomes l t = inl (and_l _ _ t)

not_becomes : (l : Literal) → T (is_under_not l) → T (is_becomes l) ⊎ T (is_becomes l)
unfolding is_becomes is_under_not
not_becomes l t = inl (and_l _ _ t)

-- A rule tests what it needs.
pub needed_tested : (r : Rule) (p : Pair) → T (among p (needed r)) → T (among p (tested r))
unfolding tested needed among
needed_tested r p t =
    ⊎_elim (λ a. or_l _ _ a)
    (λ a. or_r _ _ (⊎_elim (λ b. b) (λ b. b) (where_cases is_plain is_becomes is_becomes plain_becomes p r.literals a))) (or_e _ _ t)

-- A rule tests what it bars.
pub barred_tested : (r : Rule) (p : Pair) → T (among p (barred r)) → T (among p (tested r))
unfolding tested barred among
barred_tested r p t = or_r _ _ (⊎_elim (λ b. b) (λ b. b) (where_cases is_under_not is_becomes is_becomes not_becomes p r.literals t))

-- Two lists meet where a pair is among both.
pub meet_i : (p : Pair) (ps qs : List Pair) → T (among p ps) → T (among p qs) → T (meet ps qs)
unfolding meet among
meet_i p [] qs a b = absurd a
meet_i p (q ∷ ps) qs a b = ⊎_elim (λ s. or_l _ _ (rw (same_eq p q s) at b)) (λ s. or_r _ _ (meet_i p ps qs s b)) (or_e _ _ a)

-- And only there.
pub meet_e : (ps qs : List Pair) → T (meet ps qs) → (p : Pair) × T (among p ps) × T (among p qs)
unfolding meet among
meet_e [] qs t = absurd t
meet_e (p ∷ ps) qs t =
    ⊎_elim (λ a. (p, or_l _ _ (same_refl p), a)) (λ a. let w = meet_e ps qs a in (w.0, or_r _ _ w.1, w.2)) (or_e _ _ t)

-- A slot is assigned by the first of some assignments, or by one of the others.
pub assigns_here : (p : Pair) (ps : List Pair) (s : ℕ) → p.slot ≡ s → assigns (p ∷ ps) s ≡ true
unfolding assigns ◌∨ᵇ◌
assigns_here p ps s e = rw (eq-eqb p.slot s e)

pub assigns_later : (p : Pair) (ps : List Pair) (s : ℕ) → (p.slot ≡ s → ⊥) → assigns (p ∷ ps) s ≡ assigns ps s
unfolding assigns ◌∨ᵇ◌
assigns_later p ps s n = rw (ne_eqb p.slot s n)

-- No slot is assigned by none.
pub assigns_none : (s : ℕ) → assigns [] s ≡ false
unfolding assigns
assigns_none s = refl
