-- Laws of counting assignments.
-- Assumes nothing.
use mathlib.Core.Path.{◌≡◌, refl, sym}
use mathlib.Core.Bool.{Bool, true, false, cond}
use mathlib.Core.List.{List, [], ◌∷◌}
use Prim.Native.Nat.{ℕ, ◌+◌, ◌-◌, ◌≤◌, ◌<◌}
use native.Mathlib.Omega.{arith}
use lib.Dec.{eqb}
use lib.ListN.{length, get_or, set}
use lib.Seq.{get_or-set_same, get_or-set_other}
use borrow.Author.Tests.{eqb-true, eqb-false, eq-eqb}
use Rattle.testing.proofs.Lists.{set_low}
use Rattle.model.specs.Rules.{Pair}
use Rattle.table.specs.inner.Flat.{place_of}
use Rattle.judging.specs.inner.Times.{times}

-- No pair is among none.
pub times_none : (q : ℕ) → times q [] ≡ 0
unfolding times
times_none q = refl

-- A pair that comes first is among the pairs.
pub times_here : (p : Pair) (ps : List Pair) → 1 ≤ times (place_of p) (p ∷ ps)
unfolding times
times_here p ps = rw (eq-eqb (place_of p) (place_of p) refl) (omega arith)

-- An assignment is counted,
pub counted_next : (live : List ℕ) (p : Pair) (ps : List Pair) (q : ℕ) → place_of p < length live
    → get_or (set live (place_of p) (get_or live (place_of p) 0 + 1)) q 0 + times q ps ≡ get_or live q 0 + times q (p ∷ ps)
unfolding times
counted_next live p ps q h = go (eqb (place_of p) q) refl
  where
    go : (b : Bool) → eqb (place_of p) q ≡ b → get_or (set live (place_of p) (get_or live (place_of p) 0 + 1)) q 0 + times q ps ≡ get_or live q 0 + (cond (eqb (place_of p) q) 1 0 + times q ps)
    go true e = rw (e, ← (eqb-true (place_of p) q e), get_or-set_same live (place_of p) (get_or live (place_of p) 0 + 1) 0 h) (omega arith)
    go false e = rw (e, get_or-set_other live (place_of p) q (get_or live (place_of p) 0 + 1) 0 (λ z. eqb-false (place_of p) q e (sym z))) (omega arith)

-- or taken out.
pub released_next : (live : List ℕ) (p : Pair) (ps : List Pair) (q : ℕ) → place_of p < length live → 1 ≤ get_or live (place_of p) 0
    → get_or (set live (place_of p) (get_or live (place_of p) 0 - 1)) q 0 + times q (p ∷ ps) ≡ get_or live q 0 + times q ps
unfolding times
released_next live p ps q h k = go (eqb (place_of p) q) refl
  where
    go : (b : Bool) → eqb (place_of p) q ≡ b → get_or (set live (place_of p) (get_or live (place_of p) 0 - 1)) q 0 + (cond (eqb (place_of p) q) 1 0 + times q ps) ≡ get_or live q 0 + times q ps
    go true e = rw (e, ← (eqb-true (place_of p) q e), get_or-set_same live (place_of p) (get_or live (place_of p) 0 - 1) 0 h) (omega arith)
    go false e = rw (e, get_or-set_other live (place_of p) q (get_or live (place_of p) 0 - 1) 0 (λ z. eqb-false (place_of p) q e (sym z))) (omega arith)

-- No count rises by more than one.
pub counted_few : (live : List ℕ) (i b q : ℕ) → ((q : ℕ) → get_or live q 0 ≤ b) → get_or (set live i (get_or live i 0 + 1)) q 0 ≤ b + 1
counted_few live i b q h = set_low live i (get_or live i 0 + 1) (λ k. b + 1) (λ k. omega (arith, h k)) (omega (arith, h i)) q
