-- Arrays of flags: one flag set, how many are set, all set.
-- Assumes nothing.
use Prim.Native.Nat.{ℕ, zero, suc, ◌+◌, ◌≤◌, ◌<◌}
use native.Mathlib.Nat.{eq-or-lt_of_le}
use native.Mathlib.Omega.{arith}
use mathlib.Core.Path.{◌≡◌, refl}
use mathlib.Core.Bool.{Bool, true, false, cond}
use mathlib.Core.List.{List, [], ◌∷◌}
use mathlib.Core.Logic.{◌⊎◌, inl, inr, ⊎_elim}
use lib.Dec.{T, eqb}
use lib.ListN.{length, get_or, set, get_or-eq_default}
use lib.Seq.{get_or-set_same, get_or-set_other}
use borrow.Author.Tests.{eqb-true, eqb-false}
use Rattle.laws.specs.inner.Flags.{flags_set, all_set}
use Rattle.laws.proofs.Truth.{and_l, and_r, and_i, le_or_lt}

pub flag_here : (bs : List Bool) (i : ℕ) → i < length bs → T (get_or (set bs i true) i false)
flag_here bs i h = rw (get_or-set_same bs i true false h) tt

pub flag_inside : (bs : List Bool) (i : ℕ) → T (get_or bs i false) → i < length bs
flag_inside bs i t = ⊎_elim (λ le. absurd (rw (get_or-eq_default bs false {n = i} le) at t)) (λ lt. lt) (le_or_lt (length bs) i)

pub flag_kept : (bs : List Bool) (i j : ℕ) → T (get_or bs j false) → T (get_or (set bs i true) j false)
flag_kept bs i j t = go (eqb j i) refl
  where
    go : (b : Bool) → eqb j i ≡ b → T (get_or (set bs i true) j false)
    go true e = let z = eqb-true j i e in rw z (flag_here bs i (flag_inside bs i (rw z at t)))
    go false e = rw (get_or-set_other bs i j true false (eqb-false j i e)) t

pub flag_from : (bs : List Bool) (i j : ℕ) → T (get_or (set bs i true) j false) → (j ≡ i) ⊎ T (get_or bs j false)
flag_from bs i j t = go (eqb j i) refl
  where
    go : (b : Bool) → eqb j i ≡ b → (j ≡ i) ⊎ T (get_or bs j false)
    go true e = inl (eqb-true j i e)
    go false e = inr (rw (get_or-set_other bs i j true false (eqb-false j i e)) at t)

pub flags_more : (bs : List Bool) (i : ℕ) → i < length bs → get_or bs i false ≡ false → flags_set (set bs i true) ≡ flags_set bs + 1
unfolding flags_set
flags_more [] i h e = absurd (omega arith)
flags_more (b ∷ bs) zero h e = rw e (omega arith)
flags_more (b ∷ bs) (suc i) h e = omega (arith, flags_more bs i (omega arith) e)

one_top : (b : Bool) → cond b 1 0 ≤ 1
one_top true = omega arith
one_top false = omega arith

pub flags_top : (bs : List Bool) → flags_set bs ≤ length bs
unfolding flags_set
flags_top [] = omega arith
flags_top (b ∷ bs) = omega (arith, one_top b, flags_top bs)

-- The first n flags are set where each of them is.
pub all_set_i : (bs : List Bool) (n : ℕ) → ((k : ℕ) → k < n → T (get_or bs k false)) → T (all_set bs n)
unfolding all_set
all_set_i bs zero h = tt
all_set_i bs (suc n) h = and_i _ _ (all_set_i bs n (λ k l. h k (omega arith))) (h n (omega arith))

-- And only there.
pub all_set_e : (bs : List Bool) (n : ℕ) → T (all_set bs n) → (k : ℕ) → k < n → T (get_or bs k false)
unfolding all_set
all_set_e bs zero t k l = absurd (omega arith)
all_set_e bs (suc n) t k l =
    ⊎_elim (λ (e : k ≡ n). rw e (and_r (all_set bs n) _ t)) (λ m. all_set_e bs n (and_l (all_set bs n) _ t) k m) (eq-or-lt_of_le (let w : k ≤ n = omega arith in w))
