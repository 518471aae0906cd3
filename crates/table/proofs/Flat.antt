-- Laws of arrays indexed by pair.
-- Assumes nothing.
use mathlib.Core.Path.{◌≡◌, refl, sym, ◌∙◌, ap}
use mathlib.Core.Bool.{Bool, true, false, cond}
use mathlib.Core.List.{List, [], ◌∷◌}
use mathlib.Core.Logic.{⊎_elim}
use Prim.Native.Nat.{ℕ, zero, suc, ◌+◌, ◌*◌, ◌/◌, ◌%◌, ◌≤◌, ◌<◌}
use native.Mathlib.Omega.{arith}
use native.Mathlib.Nat.{eq-or-lt_of_le}
use lib.Dec.{T, ltb, ltb→lt, lt→ltb}
use lib.ListN.{length, get_or, set, replicate, length-set}
use borrow.Author.Tests.{lt-ltb}
use Rattle.laws.specs.Truth.{◌∧ᵇ◌, ◌∨ᵇ◌}
use Rattle.laws.proofs.Truth.{and_l, and_r, and_i, or_l, or_r, or_e, bool_ext}
use Rattle.laws.proofs.Equations.{and_false, or_swap}
use Rattle.laws.proofs.Flags.{flag_here, flag_inside, flag_kept, flag_from}
use Rattle.laws.proofs.Tabulated.{is_tabulate}
use Rattle.laws.proofs.Filled.{replicate_at}
use Rattle.model.specs.Rules.{Pair, Pairs, same, among}
use Rattle.model.proofs.Pairs.{same_refl, same_eq}
use Rattle.laws.specs.Limits.{row}
use Rattle.table.specs.inner.Flat.{Placed, place_of, pair_at, set_of, flags_of, pairs_below, pairs_of, add_pairs, pair_places}

-- Two pairs that have a place stand at the same one only where they are the same.
pub same_place : (p q : Pair) → p.value < row → q.value < row → place_of p ≡ place_of q → p ≡ q
same_place p q h k e =
    let a : p.slot ≡ q.slot = omega arith in
    let b : p.value ≡ q.value = omega arith in
    λ i. record { slot = a i; value = b i }

pub placed_inside : (p : Pair) → Placed p.slot p.value → place_of p < pair_places
placed_inside p h = omega (arith, h.in_slots, h.in_row)

pub set_in : (bs : List Bool) (p : Pair) → p.value < row → set_of bs p ≡ get_or bs (place_of p) false
unfolding set_of ◌∧ᵇ◌
set_in bs p h = rw (lt-ltb p.value row h)

set_e : (bs : List Bool) (p : Pair) → T (set_of bs p) → (p.value < row) × T (get_or bs (place_of p) false)
unfolding set_of
set_e bs p t = (ltb→lt p.value row (and_l (ltb p.value row) _ t), and_r (ltb p.value row) (get_or bs (place_of p) false) t)

set_i : (bs : List Bool) (p : Pair) → p.value < row → T (get_or bs (place_of p) false) → T (set_of bs p)
unfolding set_of
set_i bs p h t = and_i (ltb p.value row) _ (lt→ltb p.value row h) t

pub set_none : (n : ℕ) (p : Pair) → set_of (replicate n false) p ≡ false
unfolding set_of
set_none n p = rw (replicate_at n false (place_of p)) (and_false (ltb p.value row))

-- One pair more.
pub set_more : (bs : List Bool) (q p : Pair) → q.value < row → place_of q < length bs → set_of (set bs (place_of q) true) p ≡ (same p q ∨ᵇ set_of bs p)
set_more bs q p h k = bool_ext _ _ there back
  where
    there : T (set_of (set bs (place_of q) true) p) → T (same p q ∨ᵇ set_of bs p)
    there t =
        let w = set_e (set bs (place_of q) true) p t in
        ⊎_elim (λ e. or_l (same p q) (set_of bs p) (rw (same_place p q w.0 h e) (same_refl q))) (λ u. or_r _ _ (set_i bs p w.0 u)) (flag_from bs (place_of q) (place_of p) w.1)

    back : T (same p q ∨ᵇ set_of bs p) → T (set_of (set bs (place_of q) true) p)
    back t = ⊎_elim
        (λ e. rw (same_eq p q e) (set_i (set bs (place_of q) true) q h (flag_here bs (place_of q) k)))
        (λ u. let w = set_e bs p u in set_i (set bs (place_of q) true) p w.0 (flag_kept bs (place_of q) (place_of p) w.1))
        (or_e _ _ t)

-- Pairs more.
pub added : (ps : List Pair) (bs : List Bool) (p : Pair) → length bs ≡ pair_places → ((q : Pair) → T (among q ps) → Placed q.slot q.value)
    → set_of (add_pairs ps bs) p ≡ (among p ps ∨ᵇ set_of bs p)
unfolding add_pairs among ◌∨ᵇ◌
added [] bs p l h = refl
added (q ∷ ps) bs p l h =
    let w = h q (or_l (same q q) _ (same_refl q)) in
    added ps (set bs (place_of q) true) p (length-set bs _ true ∙ l) (λ x a. h x (or_r (same x q) _ a))
    ∙ rw (set_more bs q p w.in_row (omega (arith, placed_inside q w))) (or_swap (among p ps) (same p q) (set_of bs p))

pub added_length : (ps : List Pair) (bs : List Bool) → length (add_pairs ps bs) ≡ length bs
unfolding add_pairs
added_length [] bs = refl
added_length (p ∷ ps) bs = added_length ps _ ∙ length-set bs _ true

-- A pair is where its place says.
pub at_place : (p : Pair) → p.value < row → pair_at (place_of p) ≡ p
at_place p h =
    let a : (p.slot * row + p.value) / row ≡ p.slot = omega arith in
    let b : (p.slot * row + p.value) % row ≡ p.value = omega arith in
    λ i. record { slot = a i; value = b i }

place_at : (k : ℕ) → place_of (pair_at k) ≡ k
place_at k = omega arith

-- The list stands for the same set.
listed : (bs : List Bool) (p : Pair) (k : ℕ) → T (among p (pairs_below bs k)) → T (set_of bs p)
unfolding pairs_below among
listed bs p zero t = absurd t
listed bs p (suc k) t = go (listed bs p k) (get_or bs k false) refl t
  where
    here : get_or bs k false ≡ true → T (set_of bs (pair_at k))
    here e = set_i bs (pair_at k) (omega arith) (rw (place_at k, e) tt)

    go : (T (among p (pairs_below bs k)) → T (set_of bs p)) → (b : Bool) → get_or bs k false ≡ b → T (among p (cond b (pair_at k ∷ pairs_below bs k) (pairs_below bs k))) → T (set_of bs p)
    go earlier true e u = ⊎_elim (λ s. rw (same_eq p (pair_at k) s) (here e)) earlier (or_e (same p (pair_at k)) _ u)
    go earlier false e u = earlier u

lists : (bs : List Bool) (p : Pair) (k : ℕ) → place_of p < k → p.value < row → T (get_or bs (place_of p) false) → T (among p (pairs_below bs k))
unfolding pairs_below among
lists bs p zero h l t = absurd (omega arith)
lists bs p (suc k) h l t = go (λ (q : place_of p < k). lists bs p k q l t) (get_or bs k false) refl
  where
    go : (place_of p < k → T (among p (pairs_below bs k))) → (b : Bool) → get_or bs k false ≡ b → T (among p (cond b (pair_at k ∷ pairs_below bs k) (pairs_below bs k)))
    go earlier true e = ⊎_elim
        (λ (q : place_of p ≡ k). or_l _ _ (rw (← q, at_place p l) (same_refl p)))
        (λ (q : place_of p < k). or_r (same p (pair_at k)) _ (earlier q))
        (eq-or-lt_of_le (let z : place_of p ≤ k = omega arith in z))
    go earlier false e = ⊎_elim
        (λ (q : place_of p ≡ k). absurd (rw (q, e) at t))
        (λ (q : place_of p < k). earlier q)
        (eq-or-lt_of_le (let z : place_of p ≤ k = omega arith in z))

pub pairs_of_set : (bs : List Bool) (p : Pair) → length bs ≡ pair_places → among p (pairs_of bs) ≡ set_of bs p
unfolding pairs_of
pairs_of_set bs p l = bool_ext _ _ (listed bs p pair_places)
    (λ t. let w = set_e bs p t in lists bs p pair_places (omega (arith, flag_inside bs (place_of p) w.1)) w.0 w.1)

-- An array is decided by its set.
pub is_flags : (C : Pairs) (bs : List Bool) → length bs ≡ pair_places → set_of bs ≡ C → bs ≡ flags_of C
unfolding flags_of
is_flags C bs l e = is_tabulate (λ k. C (pair_at k)) pair_places false bs l
    (λ k h. sym (ap (λ (D : Pairs). D (pair_at k)) (sym e) ∙ set_in bs (pair_at k) (omega arith) ∙ ap (λ (x : ℕ). get_or bs x false) (place_at k)))
