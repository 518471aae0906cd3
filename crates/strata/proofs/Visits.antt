-- What stays within its bounds while an order is found.
-- Assumes nothing.
use mathlib.Core.Path.{◌≡◌}
use mathlib.Core.List.{List, [], ◌∷◌}
use mathlib.Core.Logic.{⊎_elim}
use Prim.Native.Nat.{ℕ, zero, suc, ◌+◌, ◌*◌, ◌-◌, ◌≤◌, ◌<◌}
use native.Mathlib.Omega.{arith}
use lib.ListN.{length, get_or, set, take, drop, replicate}
use lib.Seq.{get_or-drop, get_or-set_same, get_or-set_other, set_out}
use Rattle.laws.specs.Limits.{assignment_limit}
use Rattle.laws.proofs.Equations.{either}
use Rattle.laws.proofs.Truth.{le_or_lt}
use Rattle.laws.proofs.Filled.{replicate_at}
use Rattle.table.specs.inner.Flat.{pair_places}
use Rattle.strata.specs.inner.Visits.{node_limit, AtMost, Visits}

pub most_none : (n b : ℕ) → AtMost b (replicate n 0)
most_none n b = record { each = λ k. rw (replicate_at {A = ℕ} n 0 k) (omega arith) }

pub most_set : (b i v : ℕ) (xs : List ℕ) → AtMost b xs → v ≤ b → AtMost b (set xs i v)
most_set b i v xs m h = record {
  each = λ k. ⊎_elim
      (λ (e : k ≡ i). ⊎_elim
      (λ (o : length xs ≤ i). rw (set_out xs i v o) (m.each k))
      (λ (l : i < length xs). rw (e, get_or-set_same xs i v 0 l) h)
      (le_or_lt (length xs) i))
      (λ n. rw (get_or-set_other xs i k v 0 n) (m.each k))
      (either k i);
}

-- No number of a stretch is above it either.
most_first : (b n : ℕ) (xs : List ℕ) → ((k : ℕ) → get_or xs k 0 ≤ b) → (k : ℕ) → get_or (take n xs) k 0 ≤ b
most_first b zero xs h k = omega arith
most_first b (suc n) [] h k = h k
most_first b (suc n) (x ∷ xs) h zero = h 0
most_first b (suc n) (x ∷ xs) h (suc k) = most_first b n xs (λ i. h (suc i)) k

pub most_stretch : (b k n : ℕ) (xs : List ℕ) → AtMost b xs → AtMost b (take n (drop k xs))
most_stretch b k n xs m = record { each = most_first b n (drop k xs) (λ i. rw (get_or-drop k xs i 0) (m.each (k + i))) }

visits_start : (n : ℕ) (order : List ℕ) → AtMost (n - 1) order → Visits n 0 order
visits_start n order m = record { few = omega arith; entries = m; some = λ l. omega (arith, l) }

module _ (n t : ℕ) (order : List ℕ) (g : Visits n t order) where
  -- One more visit.
  pub visits_within : (k : ℕ) → k < t → get_or order k 0 < n
  visits_within k h = omega (arith, g.entries.each k, g.some (omega arith))

-- What the search for an order keeps: of the nodes found, `top` are looked at and some of the others are open.
pub record Searching (n : ℕ) (order heads stack opens : List ℕ) (tail opened top found : ℕ) : Type 0 where
  pub visits : Visits n tail order
  pub chained : AtMost (assignment_limit * n) heads
  pub waiting : AtMost (n + pair_places) stack
  pub left_open : AtMost (node_limit - 1) opens
  pub counted : opened + top ≤ found
  pub few : found ≤ node_limit

-- The start is found.
pub search_start : (n : ℕ) (order heads : List ℕ) → AtMost (n - 1) order → AtMost (assignment_limit * n) heads
    → Searching n order heads (set (replicate node_limit 0) 0 n) (replicate node_limit 0) 0 0 1 1
search_start n order heads o h = record {
  visits = visits_start n order o;
  chained = h;
  waiting = most_set (n + pair_places) 0 n (replicate node_limit 0) (most_none node_limit (n + pair_places)) (omega arith);
  left_open = most_none node_limit (node_limit - 1);
  counted = omega arith;
  few = omega arith;
}

module _ (n : ℕ) (order heads stack opens : List ℕ) (tail opened top found : ℕ) (g : Searching n order heads stack opens tail opened top found) where
  -- A node may have led to another.
  pub search_led : (hs : List ℕ) → AtMost (assignment_limit * n) hs → Searching n order hs stack opens tail opened top found
  search_led hs h = record { visits = g.visits; chained = h; waiting = g.waiting; left_open = g.left_open; counted = g.counted; few = g.few }

  -- A node is left.
  pub search_left : (v : ℕ) → v < node_limit → 0 < top → Searching n order heads stack (set opens opened v) tail (opened + 1) (top - 1) found
  search_left v h l = record {
    visits = g.visits;
    chained = g.chained;
    waiting = g.waiting;
    left_open = most_set (node_limit - 1) opened v opens g.left_open (omega arith);
    counted = omega (arith, g.counted);
    few = g.few;
  }
