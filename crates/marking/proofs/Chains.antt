-- Laws of the chains of tests.
-- Assumes nothing.
use mathlib.Core.Path.{◌≡◌}
use mathlib.Core.List.{List}
use Prim.Native.Nat.{ℕ, ◌+◌, ◌≤◌, ◌<◌}
use native.Mathlib.Omega.{arith}
use lib.ListN.{length, get_or, set, replicate, length-set}
use Rattle.laws.proofs.Filled.{replicate_at}
use Rattle.table.specs.inner.Flat.{pair_places}
use Rattle.testing.proofs.Lists.{set_low}
use Rattle.marking.specs.inner.Waking.{Chained}

-- At first nothing is chained.
pub chained_start : (nexts : List ℕ) → ((o : ℕ) → get_or nexts o 0 ≡ 0) → Chained 0 (replicate pair_places 0) nexts
chained_start nexts e = record { room = omega arith; heads_low = λ p. rw (replicate_at {A = ℕ} pair_places 0 p) (omega arith); nexts_fall = λ o. rw (e o) (omega arith) }

-- Chains of the first places are chains of more.
pub chained_past : (m n : ℕ) (heads nexts : List ℕ) → m ≤ n → n ≤ length nexts → Chained m heads nexts → Chained n heads nexts
chained_past m n heads nexts h l c = record { room = l; heads_low = λ p. omega (arith, c.heads_low p); nexts_fall = c.nexts_fall }

-- The next place comes to the head of a chain.
pub chained_more : (o p : ℕ) (heads nexts : List ℕ) → o < length nexts → Chained o heads nexts → Chained (o + 1) (set heads p (o + 1)) (set nexts o (get_or heads p 0))
chained_more o p heads nexts h c = record {
  room = rw (length-set nexts o (get_or heads p 0)) (omega arith);
  heads_low = set_low heads p (o + 1) (λ k. o + 1) (λ k. omega (arith, c.heads_low k)) (omega arith);
  nexts_fall = set_low nexts o (get_or heads p 0) (λ k. k) c.nexts_fall (c.heads_low p);
}
