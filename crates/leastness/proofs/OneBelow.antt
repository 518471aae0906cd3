-- Laws of a number that stands one above that of a pair.
-- Assumes nothing.
use mathlib.Core.Path.{◌≡◌, refl}
use mathlib.Core.Bool.{true, false}
use mathlib.Core.List.{List, [], ◌∷◌}
use mathlib.Core.Logic.{⊎_elim}
use Prim.Native.Nat.{ℕ, ◌+◌}
use lib.Dec.{T, eqb, eqb→eq}
use lib.ListN.{get_or}
use borrow.Author.Tests.{eq-eqb, ne_eqb}
use Rattle.laws.specs.Truth.{◌∨ᵇ◌}
use Rattle.laws.proofs.Truth.{or_l, or_r, or_e}
use Rattle.laws.proofs.Equations.{from_true}
use Rattle.model.specs.Rules.{Pair, among}
use Rattle.model.proofs.Pairs.{same_refl, same_eq}
use Rattle.table.specs.inner.Flat.{place_of}
use Rattle.leastness.specs.inner.OneBelow.{one_below}

pub below_here : (hs : List ℕ) (s : ℕ) (p : Pair) (ps : List Pair) → get_or hs (place_of p) 0 + 1 ≡ s → one_below hs s (p ∷ ps) ≡ true
unfolding one_below ◌∨ᵇ◌
below_here hs s p ps e = rw (eq-eqb (get_or hs (place_of p) 0 + 1) s e)

pub below_over : (hs : List ℕ) (s : ℕ) (p : Pair) (ps : List Pair) → (get_or hs (place_of p) 0 + 1 ≡ s → ⊥) → one_below hs s (p ∷ ps) ≡ one_below hs s ps
unfolding one_below ◌∨ᵇ◌
below_over hs s p ps n = rw (ne_eqb (get_or hs (place_of p) 0 + 1) s n)

pub below_none : (hs : List ℕ) (s : ℕ) → one_below hs s [] ≡ false
unfolding one_below
below_none hs s = refl

pub below_e : (hs : List ℕ) (s : ℕ) (ps : List Pair) → T (one_below hs s ps) → (p : Pair) × T (among p ps) × (get_or hs (place_of p) 0 + 1 ≡ s)
unfolding one_below among
below_e hs s [] t = absurd t
below_e hs s (p ∷ ps) t = ⊎_elim
    (λ a. (p, or_l _ _ (same_refl p), eqb→eq (get_or hs (place_of p) 0 + 1) s a))
    (λ a. let w = below_e hs s ps a in (w.0, or_r _ _ w.1, w.2)) (or_e (eqb (get_or hs (place_of p) 0 + 1) s) _ t)

pub below_i : (hs : List ℕ) (s : ℕ) (p : Pair) (ps : List Pair) → T (among p ps) → get_or hs (place_of p) 0 + 1 ≡ s → T (one_below hs s ps)
unfolding one_below among
below_i hs s p [] t e = absurd t
below_i hs s p (q ∷ ps) t e = ⊎_elim
    (λ a. or_l (eqb (get_or hs (place_of q) 0 + 1) s) _ (from_true (eqb (get_or hs (place_of q) 0 + 1) s) (eq-eqb (get_or hs (place_of q) 0 + 1) s (rw (same_eq p q a) at e))))
    (λ a. or_r (eqb (get_or hs (place_of q) 0 + 1) s) _ (below_i hs s p ps a e)) (or_e _ _ t)
