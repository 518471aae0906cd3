-- Laws of lists by their rule.
-- Assumes nothing.
use Prim.Native.Nat.{ℕ, zero, suc, ◌<◌}
use native.Mathlib.Omega.{arith}
use mathlib.Core.Path.{◌≡◌, refl, sym, ap, ◌∙◌}
use mathlib.Core.List.{List}
use lib.ListN.{length, get_or}
use lib.Seq.{ext_get_or}
use Rattle.laws.specs.Tabulated.{tabulate}

pub tabulate_length : {A : Type 0} (f : ℕ → A) (n : ℕ) → length (tabulate f n) ≡ n
unfolding tabulate
tabulate_length f zero = refl
tabulate_length f (suc n) = ap suc (tabulate_length (λ i. f (suc i)) n)

pub tabulate_at : {A : Type 0} (f : ℕ → A) (n i : ℕ) (d : A) → i < n → get_or (tabulate f n) i d ≡ f i
unfolding tabulate
tabulate_at f zero i d h = absurd (omega arith)
tabulate_at f (suc n) zero d h = refl
tabulate_at f (suc n) (suc i) d h = tabulate_at (λ j. f (suc j)) n i d (omega arith)

-- A list is decided by its length and the element at each place.
pub is_tabulate : {A : Type 0} (f : ℕ → A) (n : ℕ) (d : A) (xs : List A) → length xs ≡ n → ((i : ℕ) → i < n → get_or xs i d ≡ f i) → xs ≡ tabulate f n
is_tabulate f n d xs l h = ext_get_or d xs (tabulate f n) (l ∙ sym (tabulate_length f n)) (λ i k. h i (omega arith) ∙ sym (tabulate_at f n i d (omega arith)))
