-- Going through NONE and the values that slots have, slot after slot.
-- Assumes nothing.
use mathlib.Core.Path.{◌≡◌, subst, sym}
use mathlib.Core.List.{List}
use mathlib.Core.Logic.{⊎_elim}
use Prim.Native.Nat.{ℕ, ◌+◌, ◌≤◌, ◌<◌}
use native.Mathlib.Nat.{eq-or-lt_of_le}
use native.Mathlib.Omega.{arith}
use lib.ListN.{get_or}

module _ (counts : List ℕ) where
  -- Something holds of NONE and the values of the slots before s, and of those below v of slot s.
  pub record UpTo (P : ℕ → ℕ → Type 0) (s v : ℕ) : Type 0 where
    pub earlier : (x w : ℕ) → x < s → w ≤ get_or counts x 0 → P x w
    pub here : (w : ℕ) → w < v → P s w

  -- One value more.
  pub up_to_value : (P : ℕ → ℕ → Type 0) (s v : ℕ) → P s v → UpTo P s v → UpTo P s (v + 1)
  up_to_value P s v p u = record {
    earlier = u.earlier;
    here = λ w b. ⊎_elim (λ (e : w ≡ v). subst (P s) (sym e) p) (λ (l : w < v). u.here w l) (eq-or-lt_of_le (let z : w ≤ v = omega arith in z));
  }
