-- What the tests of where pairs lead say, and back: a pair led to, a flag set, a place connected with a flagged one.
-- Assumes nothing.
use mathlib.Core.Path.{◌≡◌, refl, ◌∙◌}
use mathlib.Core.Bool.{Bool, true, false, cond}
use mathlib.Core.List.{List, [], ◌∷◌}
use mathlib.Core.Logic.{◌⊎◌, inl, inr, ⊎_elim}
use Prim.Native.Nat.{ℕ, zero, suc, ◌≤◌, ◌<◌}
use native.Mathlib.Nat.{eq-or-lt_of_le}
use native.Mathlib.Omega.{arith}
use lib.Dec.{T, eqb, eqb→eq}
use lib.ListN.{length, get_or, set, length-set, length-replicate}
use borrow.Author.Tests.{eq-eqb}
use Rattle.laws.proofs.Truth.{and_l, and_r, and_i, or_l, or_r, or_e}
use Rattle.laws.proofs.Equations.{is_true, from_true}
use Rattle.laws.proofs.Filled.{replicate_at}
use Rattle.laws.proofs.Flags.{flag_here, flag_kept, flag_from}
use Rattle.model.specs.Rules.{Pair, among}
use Rattle.model.proofs.Pairs.{same_refl, same_eq}
use Rattle.table.specs.inner.Flat.{place_of, pair_places}
use Rattle.circles.specs.inner.Links.{linked, leads_to, flag_leading, connected, flag_connected, spread, some_leads}

-- Where a place leads.
pub leads_i : (ws : List ℕ) (p : ℕ) (q : Pair) (qs : List Pair) → T (among q qs) → (p ≡ place_of q) ⊎ T (linked ws p (place_of q)) → T (leads_to ws p qs)
unfolding leads_to among
leads_i ws p q [] t x = absurd t
leads_i ws p q (r ∷ qs) t x = ⊎_elim
    (λ e. ⊎_elim
    (λ (y : p ≡ place_of q). or_l _ _ (or_l (eqb p (place_of r)) _ (from_true (eqb p (place_of r)) (eq-eqb p (place_of r) (rw (same_eq q r e) at y)))))
    (λ y. or_l _ _ (or_r (eqb p (place_of r)) _ (rw (same_eq q r e) at y))) x)
    (λ e. or_r _ _ (leads_i ws p q qs e x)) (or_e _ _ t)

pub leads_e : (ws : List ℕ) (p : ℕ) (qs : List Pair) → T (leads_to ws p qs) → (q : Pair) × T (among q qs) × ((p ≡ place_of q) ⊎ T (linked ws p (place_of q)))
unfolding leads_to among
leads_e ws p [] t = absurd t
leads_e ws p (q ∷ qs) t = ⊎_elim
    (λ x. ⊎_elim (λ y. (q, or_l _ _ (same_refl q), inl (eqb→eq p (place_of q) y))) (λ y. (q, or_l _ _ (same_refl q), inr y)) (or_e (eqb p (place_of q)) _ x))
    (λ x. let w = leads_e ws p qs x in (w.0, or_r _ _ w.1, w.2)) (or_e _ _ t)

pub some_leads_i : (ws : List ℕ) (bs : List Bool) (p : Pair) (ps qs : List Pair) → T (among p ps) → T (get_or bs (place_of p) false) → T (leads_to ws (place_of p) qs) → T (some_leads ws bs ps qs)
unfolding some_leads among
some_leads_i ws bs p [] qs t f x = absurd t
some_leads_i ws bs p (r ∷ ps) qs t f x = ⊎_elim
    (λ e. let z = same_eq p r e in or_l _ _ (and_i (get_or bs (place_of r) false) _ (rw z at f) (rw z at x)))
    (λ e. or_r _ _ (some_leads_i ws bs p ps qs e f x)) (or_e _ _ t)

pub some_leads_e : (ws : List ℕ) (bs : List Bool) (ps qs : List Pair) → T (some_leads ws bs ps qs) → (p : Pair) × T (among p ps) × T (get_or bs (place_of p) false) × T (leads_to ws (place_of p) qs)
unfolding some_leads among
some_leads_e ws bs [] qs t = absurd t
some_leads_e ws bs (p ∷ ps) qs t = ⊎_elim
    (λ x. (p, or_l _ _ (same_refl p), and_l (get_or bs (place_of p) false) _ x, and_r (get_or bs (place_of p) false) _ x))
    (λ x. let w = some_leads_e ws bs ps qs x in (w.0, or_r _ _ w.1, w.2, w.3)) (or_e _ _ t)

-- Flags at the pairs of a list that lead to one of another.
set_if_from : (bs : List Bool) (k j : ℕ) (b : Bool) → T (get_or (cond b (set bs k true) bs) j false) → (T b × (j ≡ k)) ⊎ T (get_or bs j false)
set_if_from bs k j true t = ⊎_elim (λ e. inl (tt, e)) (λ e. inr e) (flag_from bs k j t)
set_if_from bs k j false t = inr t

set_if_kept : (bs : List Bool) (k j : ℕ) (b : Bool) → T (get_or bs j false) → T (get_or (cond b (set bs k true) bs) j false)
set_if_kept bs k j true t = flag_kept bs k j t
set_if_kept bs k j false t = t

set_if_here : (bs : List Bool) (k : ℕ) (b : Bool) → k < length bs → T b → T (get_or (cond b (set bs k true) bs) k false)
set_if_here bs k true h t = flag_here bs k h
set_if_here bs k false h t = absurd t

set_if_length : (bs : List Bool) (k : ℕ) (b : Bool) → length (cond b (set bs k true) bs) ≡ length bs
set_if_length bs k true = length-set bs k true
set_if_length bs k false = refl

pub leading_length : (ws : List ℕ) (ps qs : List Pair) (bs : List Bool) → length (flag_leading ws ps qs bs) ≡ length bs
unfolding flag_leading
leading_length ws [] qs bs = refl
leading_length ws (p ∷ ps) qs bs = leading_length ws ps qs _ ∙ set_if_length bs (place_of p) (leads_to ws (place_of p) qs)

pub leading_kept : (ws : List ℕ) (ps qs : List Pair) (bs : List Bool) (j : ℕ) → T (get_or bs j false) → T (get_or (flag_leading ws ps qs bs) j false)
unfolding flag_leading
leading_kept ws [] qs bs j t = t
leading_kept ws (p ∷ ps) qs bs j t = leading_kept ws ps qs _ j (set_if_kept bs (place_of p) j (leads_to ws (place_of p) qs) t)

pub leading_here : (ws : List ℕ) (ps qs : List Pair) (bs : List Bool) (p : Pair) → place_of p < length bs → T (among p ps) → T (leads_to ws (place_of p) qs) → T (get_or (flag_leading ws ps qs bs) (place_of p) false)
unfolding flag_leading among
leading_here ws [] qs bs p h a t = absurd a
leading_here ws (q ∷ ps) qs bs p h a t = ⊎_elim
    (λ e. let z = same_eq p q e in rw z (leading_kept ws ps qs _ (place_of q) (set_if_here bs (place_of q) (leads_to ws (place_of q) qs) (rw z at h) (rw z at t))))
    (λ e. leading_here ws ps qs _ p (omega (arith, h, set_if_length bs (place_of q) (leads_to ws (place_of q) qs))) e t)
    (or_e _ _ a)

pub leading_from : (ws : List ℕ) (ps qs : List Pair) (bs : List Bool) (j : ℕ) → T (get_or (flag_leading ws ps qs bs) j false)
    → ((p : Pair) × T (among p ps) × (j ≡ place_of p) × T (leads_to ws (place_of p) qs)) ⊎ T (get_or bs j false)
unfolding flag_leading among
leading_from ws [] qs bs j t = inr t
leading_from ws (p ∷ ps) qs bs j t = ⊎_elim
    (λ w. inl (w.0, or_r _ _ w.1, w.2, w.3))
    (λ w. ⊎_elim (λ x. inl (p, or_l _ _ (same_refl p), x.1, x.0)) (λ x. inr x) (set_if_from bs (place_of p) j (leads_to ws (place_of p) qs) w))
    (leading_from ws ps qs _ j t)

-- Flags at the places connected with one.
connect_length : (ws : List ℕ) (k : ℕ) (bs : List Bool) (n : ℕ) → length (flag_connected ws k bs n) ≡ length bs
unfolding flag_connected
connect_length ws k bs zero = refl
connect_length ws k bs (suc n) = set_if_length (flag_connected ws k bs n) n (connected ws n k) ∙ connect_length ws k bs n

connect_kept : (ws : List ℕ) (k : ℕ) (bs : List Bool) (n j : ℕ) → T (get_or bs j false) → T (get_or (flag_connected ws k bs n) j false)
unfolding flag_connected
connect_kept ws k bs zero j t = t
connect_kept ws k bs (suc n) j t = set_if_kept (flag_connected ws k bs n) n j (connected ws n k) (connect_kept ws k bs n j t)

connect_here : (ws : List ℕ) (k : ℕ) (bs : List Bool) (n j : ℕ) → j < n → n ≤ length bs → T (connected ws j k) → T (get_or (flag_connected ws k bs n) j false)
unfolding flag_connected
connect_here ws k bs zero j h l t = absurd (omega arith)
connect_here ws k bs (suc n) j h l t = ⊎_elim
    (λ (e : j ≡ n). rw e (set_if_here (flag_connected ws k bs n) n (connected ws n k) (omega (arith, connect_length ws k bs n)) (rw e at t)))
    (λ (i : j < n). set_if_kept (flag_connected ws k bs n) n j (connected ws n k) (connect_here ws k bs n j i (omega arith) t))
    (eq-or-lt_of_le (let z : j ≤ n = omega arith in z))

connect_from : (ws : List ℕ) (k : ℕ) (bs : List Bool) (n j : ℕ) → T (get_or (flag_connected ws k bs n) j false) → T (connected ws j k) ⊎ T (get_or bs j false)
unfolding flag_connected
connect_from ws k bs zero j t = inr t
connect_from ws k bs (suc n) j t = ⊎_elim
    (λ x. inl (rw x.1 x.0))
    (λ x. connect_from ws k bs n j x)
    (set_if_from (flag_connected ws k bs n) n j (connected ws n k) t)

-- Flags at the places connected with a flagged one.
spread_length : (ws : List ℕ) (bs : List Bool) (n : ℕ) → length (spread ws bs n) ≡ pair_places
unfolding spread
spread_length ws bs zero = length-replicate {A = Bool} pair_places false
spread_length ws bs (suc n) = go (get_or bs n false) ∙ spread_length ws bs n
  where
    go : (b : Bool) → length (cond b (flag_connected ws n (spread ws bs n) pair_places) (spread ws bs n)) ≡ length (spread ws bs n)
    go true = connect_length ws n (spread ws bs n) pair_places
    go false = refl

pub spread_i : (ws : List ℕ) (bs : List Bool) (p k n : ℕ) → p < pair_places → k < n → T (get_or bs k false) → T (connected ws p k) → T (get_or (spread ws bs n) p false)
unfolding spread
spread_i ws bs p k zero l h f c = absurd (omega arith)
spread_i ws bs p k (suc n) l h f c = ⊎_elim
    (λ (e : k ≡ n). rw (is_true (get_or bs n false) (rw e at f)) (connect_here ws n (spread ws bs n) pair_places p l (omega (arith, spread_length ws bs n)) (rw e at c)))
    (λ (i : k < n). go (get_or bs n false) (spread_i ws bs p k n l i f c))
    (eq-or-lt_of_le (let z : k ≤ n = omega arith in z))
  where
    go : (b : Bool) → T (get_or (spread ws bs n) p false) → T (get_or (cond b (flag_connected ws n (spread ws bs n) pair_places) (spread ws bs n)) p false)
    go true t = connect_kept ws n (spread ws bs n) pair_places p t
    go false t = t

pub spread_e : (ws : List ℕ) (bs : List Bool) (p n : ℕ) → T (get_or (spread ws bs n) p false) → (k : ℕ) × (k < n) × T (get_or bs k false) × T (connected ws p k)
unfolding spread
spread_e ws bs p zero t = absurd (rw (replicate_at pair_places false p) at t)
spread_e ws bs p (suc n) t = ⊎_elim (λ w. (n, omega arith, w.0, w.1)) (λ u. let w = spread_e ws bs p n u in (w.0, omega (arith, w.1), w.2, w.3)) (go (get_or bs n false) refl t)
  where
    go : (b : Bool) → get_or bs n false ≡ b → T (get_or (cond b (flag_connected ws n (spread ws bs n) pair_places) (spread ws bs n)) p false) → (T (get_or bs n false) × T (connected ws p n)) ⊎ T (get_or (spread ws bs n) p false)
    go true e u = ⊎_elim (λ c. inl (from_true (get_or bs n false) e, c)) (λ v. inr v) (connect_from ws n (spread ws bs n) pair_places p u)
    go false e u = inr u
