-- The closure of links: it keeps them, it is transitive, and it lies in every transitive relation that has them.
-- Assumes nothing.
use mathlib.Core.Path.{◌≡◌, refl}
use mathlib.Core.Bool.{Bool, true, false}
use mathlib.Core.List.{List}
use mathlib.Core.Logic.{◌⊎◌, inl, inr, ⊎_elim}
use Prim.Native.Nat.{ℕ, zero, suc, ◌≤◌, ◌<◌}
use native.Mathlib.Nat.{eq-or-lt_of_le}
use native.Mathlib.Omega.{arith}
use lib.Dec.{T}
use lib.ListN.{length}
use Rattle.laws.proofs.Equations.{from_true}
use Rattle.table.specs.inner.Flat.{pair_places}
use Rattle.circles.specs.inner.Links.{pair_words, all_words, linked, join_words, join_linked, join_through, close_through}
use Rattle.circles.proofs.Leading.{join_over, join_here}
use Rattle.circles.proofs.Links.{join_length, join_kept, join_gets, join_from}

-- One row joined with row k, if a link leads from it to k.
module _ (ws : List ℕ) (full : length ws ≡ all_words) (p k : ℕ) (hp : p < pair_places) (hk : k < pair_places) where
  by : (R : List ℕ → Type 0) → (linked ws p k ≡ true → R (join_words ws p k pair_words)) → (linked ws p k ≡ false → R ws) → R (join_linked ws p k)
  by R f g = go (linked ws p k) refl
    where
      go : (b : Bool) → linked ws p k ≡ b → R (join_linked ws p k)
      go true e = rw (join_here ws p k e) (f e)
      go false e = rw (join_over ws p k e) (g e)

  row_length : length (join_linked ws p k) ≡ all_words
  row_length = by (λ vs. length vs ≡ all_words) (λ e. join_length ws full p k hp hk pair_words) (λ e. full)

  row_kept : (a b : ℕ) → b < pair_places → T (linked ws a b) → T (linked (join_linked ws p k) a b)
  row_kept a b h t = by (λ vs. T (linked vs a b)) (λ e. join_kept ws full p k hp hk a b h t) (λ e. t)

  row_gets : (b : ℕ) → b < pair_places → T (linked ws p k) → T (linked ws k b) → T (linked (join_linked ws p k) p b)
  row_gets b h u t = by (λ vs. T (linked vs p b)) (λ e. join_gets ws full p k hp hk b h t) (λ e. absurd (rw e at u))

  row_from : (a b : ℕ) → b < pair_places → T (linked (join_linked ws p k) a b) → T (linked ws a b) ⊎ ((a ≡ p) × T (linked ws p k) × T (linked ws k b))
  row_from a b h = by (λ vs. T (linked vs a b) → T (linked ws a b) ⊎ ((a ≡ p) × T (linked ws p k) × T (linked ws k b)))
      (λ e t. ⊎_elim (λ u. inl u) (λ u. inr (u.0, from_true (linked ws p k) e, u.1)) (join_from ws full p k hp hk a b h t)) (λ e t. inl t)

-- All rows before p joined with row k.
module _ (ws : List ℕ) (full : length ws ≡ all_words) (k : ℕ) (hk : k < pair_places) where
  through_length : (p : ℕ) → p ≤ pair_places → length (join_through ws k p) ≡ all_words
  unfolding join_through
  through_length zero h = full
  through_length (suc p) h = row_length (join_through ws k p) (through_length p (omega arith)) p k (omega arith) hk

  through_kept : (p a b : ℕ) → p ≤ pair_places → b < pair_places → T (linked ws a b) → T (linked (join_through ws k p) a b)
  unfolding join_through
  through_kept zero a b h l t = t
  through_kept (suc p) a b h l t =
      row_kept (join_through ws k p) (through_length p (omega arith)) p k (omega arith) hk a b l (through_kept p a b (omega arith) l t)

  through_from : (p a b : ℕ) → p ≤ pair_places → b < pair_places → T (linked (join_through ws k p) a b) → T (linked ws a b) ⊎ (T (linked ws a k) × T (linked ws k b))
  unfolding join_through
  through_from zero a b h l t = inl t
  through_from (suc p) a b h l t = ⊎_elim
      (λ u. through_from p a b (omega arith) l u)
      (λ u. inr (
        ⊎_elim (λ x. rw u.0 x) (λ x. rw u.0 x.0) (through_from p p k (omega arith) hk u.1),
        ⊎_elim (λ x. x) (λ x. x.1) (through_from p k b (omega arith) l u.2),
      ))
      (row_from (join_through ws k p) (through_length p (omega arith)) p k (omega arith) hk a b l t)

  through_gets : (p a b : ℕ) → p ≤ pair_places → b < pair_places → a < p → T (linked ws a k) → T (linked ws k b) → T (linked (join_through ws k p) a b)
  unfolding join_through
  through_gets zero a b h l i t u = absurd (omega arith)
  through_gets (suc p) a b h l i t u = ⊎_elim
      (λ (e : a ≡ p). rw e (row_gets (join_through ws k p) (through_length p (omega arith)) p k (omega arith) hk b l (through_kept p p k (omega arith) hk (rw e at t)) (through_kept p k b (omega arith) l u)))
      (λ (j : a < p). row_kept (join_through ws k p) (through_length p (omega arith)) p k (omega arith) hk a b l (through_gets p a b (omega arith) l j t u))
      (eq-or-lt_of_le (let z : a ≤ p = omega arith in z))

module _ (ws : List ℕ) (full : length ws ≡ all_words) where
  pub close_length : (k : ℕ) → k ≤ pair_places → length (close_through ws k) ≡ all_words
  unfolding close_through
  close_length zero h = full
  close_length (suc k) h = through_length (close_through ws k) (close_length k (omega arith)) k (omega arith) pair_places (omega arith)

  pub close_kept : (k a b : ℕ) → k ≤ pair_places → b < pair_places → T (linked ws a b) → T (linked (close_through ws k) a b)
  unfolding close_through
  close_kept zero a b h l t = t
  close_kept (suc k) a b h l t =
      through_kept (close_through ws k) (close_length k (omega arith)) k (omega arith) pair_places a b (omega arith) l (close_kept k a b (omega arith) l t)

  -- Through the pairs passed links lead on as one link.
  pub close_joins : (k m a b : ℕ) → k ≤ pair_places → m < k → a < pair_places → b < pair_places
      → T (linked (close_through ws k) a m) → T (linked (close_through ws k) m b) → T (linked (close_through ws k) a b)
  unfolding close_through
  close_joins zero m a b h i la lb t u = absurd (omega arith)
  close_joins (suc k) m a b h i la lb t u = ⊎_elim
      (λ (e : m ≡ k). get (⊎_elim (λ x. rw e at x) (λ x. x.0) (back a m (omega arith) t)) (⊎_elim (λ x. rw e at x) (λ x. x.1) (back m b lb u)))
      (λ (l : m < k). ⊎_elim
      (λ x. ⊎_elim
      (λ y. keep (close_joins k m a b (omega arith) l la lb x y))
      (λ y. get (close_joins k m a k (omega arith) l la hk x y.0) y.1)
      (back m b lb u))
      (λ x. ⊎_elim
      (λ y. get x.0 (close_joins k m k b (omega arith) l hk lb x.1 y))
      (λ y. get x.0 y.1)
      (back m b lb u))
      (back a m (omega arith) t))
      (eq-or-lt_of_le (let z : m ≤ k = omega arith in z))
    where
      hk : k < pair_places
      hk = omega arith

      back : (x y : ℕ) → y < pair_places → T (linked (join_through (close_through ws k) k pair_places) x y)
          → T (linked (close_through ws k) x y) ⊎ (T (linked (close_through ws k) x k) × T (linked (close_through ws k) k y))
      back x y ly v = through_from (close_through ws k) (close_length k (omega arith)) k (omega arith) pair_places x y (omega arith) ly v

      get : T (linked (close_through ws k) a k) → T (linked (close_through ws k) k b) → T (linked (join_through (close_through ws k) k pair_places) a b)
      get x y = through_gets (close_through ws k) (close_length k (omega arith)) k (omega arith) pair_places a b (omega arith) lb la x y

      keep : T (linked (close_through ws k) a b) → T (linked (join_through (close_through ws k) k pair_places) a b)
      keep x = through_kept (close_through ws k) (close_length k (omega arith)) k (omega arith) pair_places a b (omega arith) lb x

  -- A transitive relation that has the links has their closure.
  pub close_least : (Q : ℕ → ℕ → Bool) → ((a m b : ℕ) → T (Q a m) → T (Q m b) → T (Q a b)) → ((a b : ℕ) → b < pair_places → T (linked ws a b) → T (Q a b))
      → (k a b : ℕ) → k ≤ pair_places → b < pair_places → T (linked (close_through ws k) a b) → T (Q a b)
  unfolding close_through
  close_least Q trans has zero a b h l t = has a b l t
  close_least Q trans has (suc k) a b h l t = ⊎_elim
      (λ x. close_least Q trans has k a b (omega arith) l x)
      (λ x. trans a k b (close_least Q trans has k a k (omega arith) (omega arith) x.0) (close_least Q trans has k k b (omega arith) l x.1))
      (through_from (close_through ws k) (close_length k (omega arith)) k (omega arith) pair_places a b (omega arith) l t)
