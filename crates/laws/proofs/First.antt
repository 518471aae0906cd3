-- The lowest number that passes, one number after the other.
-- Assumes nothing.
use Prim.Native.Nat.{ℕ, suc}
use mathlib.Core.Path.{◌≡◌, refl}
use mathlib.Core.Bool.{Bool, true, false, cond}
use lib.Dec.{T}
use Rattle.laws.specs.Numbers.{some_of, first_of}
use Rattle.laws.proofs.Numbers.{some_i, some_e, first_none, first_zero, is_false}

-- Where none was found yet none passes, and the other way round.
none_yet : (f : ℕ → Bool) (k : ℕ) → first_of f k ≡ 0 → some_of f k ≡ false
none_yet f k z = is_false (some_of f k) (λ t. let w = some_e f k t in first_none f k z w.0 w.1 w.2)

pub first_new : (f : ℕ → Bool) (k : ℕ) → first_of f k ≡ 0 → f (suc k) ≡ true → first_of f (suc k) ≡ suc k
unfolding first_of
first_new f k z e = rw (none_yet f k z, e)

pub first_found : (f : ℕ → Bool) (k : ℕ) → (first_of f k ≡ 0 → ⊥) → first_of f (suc k) ≡ first_of f k
unfolding first_of
first_found f k n = go (some_of f k) refl
  where
    go : (b : Bool) → some_of f k ≡ b → cond b (first_of f k) (cond (f (suc k)) (suc k) 0) ≡ first_of f k
    go true e = refl
    go false e = absurd (n (first_zero f k (λ i r t. no e (some_i f k i r t))))
      where
        no : some_of f k ≡ false → T (some_of f k) → ⊥
        no e t = rw e at t

pub first_over : (f : ℕ → Bool) (k : ℕ) → f (suc k) ≡ false → first_of f (suc k) ≡ first_of f k
unfolding first_of
first_over f k d = go (some_of f k) refl
  where
    go : (b : Bool) → some_of f k ≡ b → cond b (first_of f k) (cond (f (suc k)) (suc k) 0) ≡ first_of f k
    go true e = refl
    go false e = rw (d, first_zero f k (λ i r t. no e (some_i f k i r t)))
      where
        no : some_of f k ≡ false → T (some_of f k) → ⊥
        no e t = rw e at t

pub first_start : (f : ℕ → Bool) → first_of f 0 ≡ 0
unfolding first_of
first_start f = refl
