-- Laws of the rules that wait and of those woken.
-- Assumes nothing.
use mathlib.Core.Path.{◌≡◌, refl}
use mathlib.Core.List.{List, [], ◌∷◌}
use mathlib.Core.Logic.{⊎_elim}
use Prim.Native.Nat.{ℕ, zero, suc, ◌+◌, ◌-◌, ◌≤◌, ◌<◌}
use native.Mathlib.Omega.{arith}
use native.Mathlib.Nat.{eq-or-lt_of_le}
use lib.ListN.{length, get_or, set, replicate, length-set}
use lib.Seq.{get_or-set_same, get_or-set_other}
use Rattle.laws.proofs.Filled.{replicate_at}
use Rattle.table.specs.inner.Flat.{pair_places}
use Rattle.testing.specs.declared.waiting.Turn.{Turn}
use Rattle.testing.specs.inner.Waiting.{Waiting, Woken, turn_or, turn_of}

-- Numbers stay within their bounds where the one put among them does.
pub set_low : (xs : List ℕ) (i x : ℕ) (bound : ℕ → ℕ) → ((k : ℕ) → get_or xs k 0 ≤ bound k) → x ≤ bound i → (k : ℕ) → get_or (set xs i x) k 0 ≤ bound k
set_low [] i x bound h l k = h k
set_low (y ∷ ys) zero x bound h l zero = l
set_low (y ∷ ys) zero x bound h l (suc k) = h (suc k)
set_low (y ∷ ys) (suc i) x bound h l zero = h zero
set_low (y ∷ ys) (suc i) x bound h l (suc k) = set_low ys i x (λ j. bound (suc j)) (λ j. h (suc j)) l k

-- At first no rule waits.
pub waiting_start : (n room : ℕ) → Waiting n (replicate pair_places 0) (replicate room 0)
waiting_start n room = record {
  heads_low = λ p. rw (replicate_at {A = ℕ} pair_places 0 p) (omega arith);
  nexts_low = λ i. rw (replicate_at {A = ℕ} room 0 i) (omega arith);
}

-- A rule comes to the head of a list.
pub waiting_more : (n i p : ℕ) (heads nexts : List ℕ) → i < n → Waiting n heads nexts → Waiting n (set heads p (i + 1)) (set nexts i (get_or heads p 0))
waiting_more n i p heads nexts h w = record {
  heads_low = set_low heads p (i + 1) (λ k. n) w.heads_low (omega arith);
  nexts_low = set_low nexts i (get_or heads p 0) (λ k. n) w.nexts_low (w.heads_low p);
}

-- A list is emptied.
pub waiting_less : (n p : ℕ) (heads nexts : List ℕ) → Waiting n heads nexts → Waiting n (set heads p 0) nexts
waiting_less n p heads nexts w = record { heads_low = set_low heads p 0 (λ k. n) w.heads_low (omega arith); nexts_low = w.nexts_low }

-- At the start of a pass no rule is woken.
pub woken_none : (n : ℕ) (woken : List ℕ) → n ≤ length woken → Woken n 0 woken
woken_none n woken l = record { room = l; few = omega arith; low = λ k h. absurd (let z = h in omega arith) }

-- One rule more is woken.
pub woken_more : (n left i : ℕ) (woken : List ℕ) → left < n → i < n → Woken n left woken → Woken n (left + 1) (set woken left i)
woken_more n left i woken h l w =
    let z = w.room in
    record {
      room = rw (length-set woken left i) z;
      few = omega arith;
      low = λ k b. ⊎_elim
          (λ (e : k ≡ left). rw (e, get_or-set_same woken left i 0 (omega arith)) l)
          (λ (c : k < left). rw (get_or-set_other woken left k i 0 (λ e. omega arith)) (w.low k c))
          (eq-or-lt_of_le (let y : k ≤ left = omega arith in y));
    }

module _ (rule k : ℕ) (woken : List ℕ) where
  -- Where a rule is woken, any may be given.
  pub turn_any : (other left : ℕ) → (left ≡ 0 → ⊥) → turn_or rule k woken left ≡ turn_or other k woken left
  turn_any other zero n = absurd (n refl)
  turn_any other (suc left) n = refl

  -- The rule looked at next is one,
  pub or_rule : (left : ℕ) (u : Turn) → u ≡ turn_or rule k woken left → (n : ℕ) → (left ≡ 0 → rule < n) → Woken n left woken → u.rule < n
  or_rule zero u e n at w = rw e (at refl)
  or_rule (suc left) u e n at w = rw e (w.low left (omega arith))

  -- those woken before it stay,
  pub or_woken : (left : ℕ) (u : Turn) → u ≡ turn_or rule k woken left → (n : ℕ) → Woken n left woken → Woken n u.left woken
  or_woken zero u e n w = rw e w
  or_woken (suc left) u e n w = rw e (record { room = w.room; few = omega (arith, w.few); low = λ j h. w.low j (omega arith) })

  -- the place stays or is the next,
  pub or_place : (left : ℕ) (u : Turn) → u ≡ turn_or rule k woken left → k ≤ u.place
  or_place zero u e = rw e (omega arith)
  or_place (suc left) u e = rw e (omega arith)

  -- and less is left to look at.
  pub or_less : (left : ℕ) (u : Turn) → u ≡ turn_or rule k woken left → (to : ℕ) → k < to + left → u.left + (to - u.place) < left + (to - k)
  or_less zero u e to h = rw e (omega arith)
  or_less (suc left) u e to h = rw e (omega arith)

-- So where the rule given is the one at a place of the sorted rules.
module _ (positions : List ℕ) (k : ℕ) (woken : List ℕ) (left : ℕ) (u : Turn) (e : u ≡ turn_of positions k woken left) where
  pub turn_rule : (n : ℕ) → (left ≡ 0 → get_or positions k 0 < n) → Woken n left woken → u.rule < n
  unfolding turn_of
  turn_rule n at w = or_rule (get_or positions k 0) k woken left u e n at w

  pub turn_woken : (n : ℕ) → Woken n left woken → Woken n u.left woken
  unfolding turn_of
  turn_woken n w = or_woken (get_or positions k 0) k woken left u e n w

  pub turn_place : k ≤ u.place
  unfolding turn_of
  turn_place = or_place (get_or positions k 0) k woken left u e

  pub turn_less : (to : ℕ) → k < to + left → u.left + (to - u.place) < left + (to - k)
  unfolding turn_of
  turn_less to h = or_less (get_or positions k 0) k woken left u e to h
