-- What is reached in a graph on the numbers 1 to N: a growing set comes to rest in N rounds, and a walk leads to each number reached.
-- Assumes nothing.
use Prim.Native.Nat.{ℕ, zero, suc, ◌≤◌, ◌<◌}
use native.Mathlib.Omega.{arith}
use mathlib.Core.Bool.{Bool, true}
use mathlib.Core.Logic.{◌⊎◌, inl, inr, ⊎_elim}
use lib.Dec.{T, eqb→eq, eqb_refl}
use Rattle.laws.specs.Numbers.{Numbered, how_many}
use Rattle.laws.proofs.Truth.{and_l, and_r, and_i, or_l, or_r, or_e, not_i, stable, le_or_lt}
use Rattle.laws.proofs.Numbers.{some_i, some_e, how_many_top, how_many_lt}
use Rattle.model.specs.Circles.{within, reach, Walk, here, on}

-- Round k of a growing set X.
module _ (N : ℕ) (X : ℕ → ℕ → Bool) where
  -- The next round adds no number.
  Rests : ℕ → Type 0
  Rests k = (i : ℕ) → Numbered N i → T (X (suc k) i) → T (X k i)

  module _ (grows : (k i : ℕ) → T (X k i) → T (X (suc k) i)) (stays : (k : ℕ) → Rests k → Rests (suc k)) where
    equal_rests : (k : ℕ) → how_many (X (suc k)) N ≤ how_many (X k) N → Rests k
    unfolding Rests
    equal_rests k le i r t =
        stable (X k i) (λ u. omega (arith, how_many_lt (X k) (X (suc k)) N (λ j lo hi. grows k j) i r.first r.last (not_i _ u) t))

    fills : (k : ℕ) → Rests k ⊎ (k ≤ how_many (X k) N)
    fills zero = inr (omega arith)
    fills (suc k) =
        ⊎_elim (λ h. inl (stays k h))
        (λ (h : k ≤ how_many (X k) N). ⊎_elim (λ le. inl (stays k (equal_rests k le))) (λ (lt : how_many (X k) N < how_many (X (suc k)) N). inr (omega arith)) (le_or_lt (how_many (X (suc k)) N) (how_many (X k) N)))
        (fills k)

    rests : Rests N
    unfolding Rests
    rests = ⊎_elim (λ h. h)
        (λ (h : N ≤ how_many (X N) N). λ i r t. stable (X N i) (λ u. omega (arith, how_many_lt (X N) (λ j. true) N (λ j lo hi x. tt) i r.first r.last (not_i _ u) tt, how_many_top (λ j. true) N)))
        (fills N)

module _ (N : ℕ) (e : ℕ → ℕ → Bool) where
  within_grows : (n k i : ℕ) → T (within N e n k i) → T (within N e n (suc k) i)
  unfolding within
  within_grows n k i t = or_l _ _ t

  within_stays : (n k : ℕ) → Rests N (within N e n) k → Rests N (within N e n) (suc k)
  unfolding Rests within
  within_stays n k h i r t =
      ⊎_elim (λ s. s) (λ s. let w = some_e _ N s in or_r _ _ (some_i _ N w.0 w.1 (and_i _ _ (h w.0 w.1 (and_l _ _ w.2)) (and_r _ _ w.2)))) (or_e _ _ t)

  -- A number is reached from itself.
  pub reach_refl : (n : ℕ) → T (reach N e n n)
  unfolding reach within
  reach_refl n = go N
    where
      go : (k : ℕ) → T (within N e n k n)
      go zero = eqb_refl n
      go (suc k) = or_l _ _ (go k)

  -- A step from a number reached leads to a number reached.
  pub reach_step : (n x m : ℕ) → Numbered N x → Numbered N m → T (reach N e n x) → T (e x m) → T (reach N e n m)
  unfolding reach within Rests
  reach_step n x m i j r t = rests N (within N e n) (within_grows n) (within_stays n) m j (or_r _ _ (some_i _ N x i (and_i _ _ r t)))

  within_walk : (n k m : ℕ) → Numbered N m → T (within N e n k m) → Walk N e n m
  unfolding within
  within_walk n zero m i t = rw (eqb→eq n m t) here
  within_walk n (suc k) m i t =
      ⊎_elim (λ h. within_walk n k m i h) (λ h. let w = some_e _ N h in on (within_walk n k w.0 w.1 (and_l _ _ w.2)) w.1 i (and_r _ _ w.2)) (or_e _ _ t)

  -- A walk leads to a number reached.
  pub reach_walk : (n m : ℕ) → Numbered N m → T (reach N e n m) → Walk N e n m
  unfolding reach
  reach_walk n m i t = within_walk n N m i t

  -- A number is reached where a walk leads to it.
  pub walk_reach : {n m : ℕ} → Walk N e n m → T (reach N e n m)
  walk_reach (here {n = n}) = reach_refl n
  walk_reach (on {n = n} {x = x} {m = m} w i j t) = reach_step n x m i j (walk_reach w) t

  -- Two walks make one.
  pub walk_trans : {n x m : ℕ} → Walk N e n x → Walk N e x m → Walk N e n m
  walk_trans v here = v
  walk_trans v (on w i j t) = on (walk_trans v w) i j t

  -- What is reached from a number reached is reached.
  pub reach_trans : (n x m : ℕ) → Numbered N x → Numbered N m → T (reach N e n x) → T (reach N e x m) → T (reach N e n m)
  reach_trans n x m i j r t = walk_reach (walk_trans (reach_walk n x i r) (reach_walk x m j t))

  -- A set that is closed under steps holds all that is reached from a number in it.
  pub walk_closed : (X : ℕ → Bool) → ((x m : ℕ) → Numbered N x → Numbered N m → T (X x) → T (e x m) → T (X m)) → {n m : ℕ} → Walk N e n m → T (X n) → T (X m)
  walk_closed X closed here t = t
  walk_closed X closed (on {x = x} {m = m} w i j s) t = closed x m i j (walk_closed X closed w t) s
