-- A list by its rule written over the front of another, one element after the other; and a list filled up.
-- Assumes nothing.
use Prim.Native.Nat.{ℕ, zero, suc, ◌+◌, ◌-◌, ◌≤◌, ◌<◌}
use native.Mathlib.Numerals.{add-one}
use native.Mathlib.Omega.{arith}
use mathlib.Core.Path.{◌≡◌, refl, ap}
use mathlib.Core.List.{List, [], ◌∷◌, ◌++◌, append_assoc}
use lib.ListN.{length, get_or, drop, set, replicate, length-append, length-drop}
use lib.Seq.{drop-cons, set_at}
use Rattle.laws.specs.Tabulated.{tabulate}
use Rattle.laws.specs.Filled.{filled}
use Rattle.laws.proofs.Tabulated.{tabulate_length}
use Rattle.laws.proofs.Filled.{replicate_at}

-- One element more.
pub tabulate_next : {A : Type 0} (f : ℕ → A) (k : ℕ) → tabulate f (suc k) ≡ tabulate f k ++ f k ∷ []
unfolding tabulate
tabulate_next f zero = refl
tabulate_next {A} f (suc k) = ap {B = List A} (λ (xs : List A). f 0 ∷ xs) (tabulate_next (λ i. f (suc i)) k)

pub front_start : {A : Type 0} (f : ℕ → A) (out : List A) → out ≡ tabulate f 0 ++ drop 0 out
unfolding tabulate
front_start f out = refl

pub front_next : {A : Type 0} (f : ℕ → A) (k : ℕ) (out : List A) (d : A) → k < length out → set (tabulate f k ++ drop k out) k (f k) ≡ tabulate f (k + 1) ++ drop (k + 1) out
front_next f k out d h = rw (add-one k, tabulate_next f k, drop-cons out k d h, append_assoc) (set_at (tabulate f k) _ _ (f k) k (tabulate_length f k))

pub front_length : {A : Type 0} (f : ℕ → A) (k : ℕ) (out : List A) → k ≤ length out → length (tabulate f k ++ drop k out) ≡ length out
front_length f k out h = simp (length-append, length-drop) (omega (arith, tabulate_length f k))

-- A list filled up has the same elements, and `unused` beyond them, as reading past the end gives.
pub filled_at : {A : Type 0} (n : ℕ) (unused : A) (xs : List A) (i : ℕ) → get_or (filled n unused xs) i unused ≡ get_or xs i unused
unfolding filled
filled_at n unused xs i = go xs (n - length xs) i
  where
    go : (xs : List _) (m i : ℕ) → get_or (xs ++ replicate m unused) i unused ≡ get_or xs i unused
    go [] m i = replicate_at m unused i
    go (x ∷ xs) m zero = refl
    go (x ∷ xs) m (suc i) = go xs m i
