-- Laws of the assignments to each pair that are left.
-- Assumes nothing.
use mathlib.Core.Path.{◌≡◌, refl, sym}
use mathlib.Core.Bool.{Bool, true, false, cond}
use mathlib.Core.List.{List, [], ◌∷◌}
use mathlib.Core.Logic.{⊎_elim}
use Prim.Native.Nat.{ℕ, zero, suc, ◌+◌, ◌*◌, ◌≤◌, ◌<◌}
use native.Mathlib.Nat.{eq-or-lt_of_le}
use native.Mathlib.Numerals.{add-one}
use native.Mathlib.Omega.{arith}
use lib.Dec.{T, eqb}
use lib.ListN.{length, get_or, set, replicate, length-map, length-take, get_or-eq_default}
use lib.Seq.{get_or-set_same, get_or-set_other}
use borrow.Author.Tests.{eq-eqb, ne_eqb}
use Rattle.laws.specs.Limits.{row, assignment_limit}
use Rattle.laws.proofs.Truth.{or_l, or_r, or_e, le_or_lt}
use Rattle.laws.proofs.Equations.{either}
use Rattle.laws.proofs.Filled.{replicate_at}
use Rattle.model.specs.Rules.{Pair, same, among}
use Rattle.model.proofs.Pairs.{same_refl, same_eq}
use Rattle.table.specs.Link.{assignments_of}
use Rattle.table.specs.inner.Flat.{pair_places, place_of}
use Rattle.table.proofs.Flat.{same_place}
use Rattle.rows.specs.inner.Rows.{rule_in, RowsBounded}
use Rattle.judging.specs.inner.Times.{times}
use Rattle.selecting.specs.inner.Live.{live_below, Live}

-- What the rule in a row assigns, the rows counted from 0.
abbrev pub assigned_at : List (List ℕ) → ℕ → List Pair
assigned_at rows i = assignments_of (rule_in (get_or rows i []))

-- A pair of a list is counted.
pub times_among : (p : Pair) (qs : List Pair) → T (among p qs) → 0 < times (place_of p) qs
unfolding times among
times_among p [] t = absurd t
times_among p (q ∷ qs) t =
    ⊎_elim (λ s. rw (same_eq p q s, eq-eqb (place_of q) (place_of q) refl) (omega arith)) (λ h. omega (arith, times_among p qs h)) (or_e (same p q) _ t)

-- What is counted is of the list.
pub among_times : (p : Pair) (qs : List Pair) → p.value < row → ((q : Pair) → T (among q qs) → q.value < row) → 0 < times (place_of p) qs → T (among p qs)
unfolding times among
among_times p [] h k l = absurd (omega arith)
among_times p (q ∷ qs) h k l = ⊎_elim
    (λ (e : place_of q ≡ place_of p). or_l (same p q) _ (rw (same_place p q h (k q (or_l (same q q) _ (same_refl q))) (sym e)) (same_refl q)))
    (λ (n : place_of q ≡ place_of p → ⊥).
    or_r (same p q) _ (among_times p qs h (λ x a. k x (or_r (same x q) _ a)) (let z = rw (ne_eqb (place_of q) (place_of p) n) at l in omega arith)))
    (either (place_of q) (place_of p))

-- No pair is counted more often than the list is long.
times_top : (q : ℕ) (ps : List Pair) → times q ps ≤ length ps
unfolding times
times_top q [] = omega arith
times_top q (p ∷ ps) = go (eqb (place_of p) q) (times_top q ps)
  where
    go : (b : Bool) → times q ps ≤ length ps → cond b 1 0 + times q ps ≤ suc (length ps)
    go true l = omega arith
    go false l = omega arith

module _ (rows : List (List ℕ)) where
  -- A rule that is not dead has its assignments among those left.
  pub live_has : (dead : List Bool) (q n i : ℕ) → i < n → get_or dead i false ≡ false → times q (assigned_at rows i) ≤ live_below rows dead q n
  unfolding live_below
  live_has dead q zero i h e = absurd (omega arith)
  live_has dead q (suc n) i h e = ⊎_elim
      (λ (z : i ≡ n). rw (← z, e) (omega arith))
      (λ (l : i < n). omega (arith, live_has dead q n i l e))
      (eq-or-lt_of_le (let z : i ≤ n = omega arith in z))

  -- What is left is an assignment of a rule that is not dead.
  pub live_some : (dead : List Bool) (q n : ℕ) → 0 < live_below rows dead q n → (i : ℕ) × (i < n) × (get_or dead i false ≡ false) × (0 < times q (assigned_at rows i))
  unfolding live_below
  live_some dead q zero h = absurd (omega arith)
  live_some dead q (suc n) h = go (live_some dead q n) (get_or dead n false) refl h
    where
      earlier : ((i : ℕ) × (i < n) × (get_or dead i false ≡ false) × (0 < times q (assigned_at rows i)))
          → (i : ℕ) × (i < suc n) × (get_or dead i false ≡ false) × (0 < times q (assigned_at rows i))
      earlier w = (w.0, omega (arith, w.1), w.2, w.3)

      go : (0 < live_below rows dead q n → (i : ℕ) × (i < n) × (get_or dead i false ≡ false) × (0 < times q (assigned_at rows i)))
          → (b : Bool) → get_or dead n false ≡ b → 0 < live_below rows dead q n + cond b 0 (times q (assigned_at rows n))
          → (i : ℕ) × (i < suc n) × (get_or dead i false ≡ false) × (0 < times q (assigned_at rows i))
      go rest true e l = earlier (rest (omega arith))
      go rest false e l = ⊎_elim
          (λ (z : 1 ≤ times q (assigned_at rows n)). (n, omega arith, e, z))
          (λ (z : times q (assigned_at rows n) < 1). earlier (rest (omega arith)))
          (le_or_lt 1 (times q (assigned_at rows n)))

  -- A rule that dies takes nothing from what the rules before it have left.
  live_apart : (dead : List Bool) (q n i : ℕ) → n ≤ i → live_below rows (set dead i true) q n ≡ live_below rows dead q n
  unfolding live_below
  live_apart dead q zero i h = refl
  live_apart dead q (suc n) i h = rw (get_or-set_other dead i n true false (λ (e : n ≡ i). omega arith), live_apart dead q n i (omega arith))

  -- The assignments of a rule that dies are left no more.
  live_less : (dead : List Bool) (q n i : ℕ) → i < n → i < length dead → get_or dead i false ≡ false
      → live_below rows (set dead i true) q n + times q (assigned_at rows i) ≡ live_below rows dead q n
  unfolding live_below
  live_less dead q zero i h l e = absurd (omega arith)
  live_less dead q (suc n) i h l e = ⊎_elim
      (λ (z : i ≡ n). rw (← z, get_or-set_same dead i true false l, e, live_apart dead q i i (omega arith)) (omega arith))
      (λ (k : i < n). rw (get_or-set_other dead i n true false (λ (z : n ≡ i). omega arith)) (omega (arith, live_less dead q n i k l e)))
      (eq-or-lt_of_le (let z : i ≤ n = omega arith in z))

  -- The counts once a rule has died and its assignments are taken out.
  pub live_released : (dead : List Bool) (n i : ℕ) (live live' : List ℕ) → Live rows dead n live → i < n → i < length dead → get_or dead i false ≡ false
      → ((q : ℕ) → q < pair_places → get_or live' q 0 + times q (assigned_at rows i) ≡ get_or live q 0) → Live rows (set dead i true) n live'
  unfolding Live
  live_released dead n i live live' L h l e k q b = omega (arith, L q b, k q b, live_less dead q n i h l e)

  -- The assignments of a rule that is not dead can be taken out.
  pub live_enough : (dead : List Bool) (n i : ℕ) (live : List ℕ) → Live rows dead n live → i < n → get_or dead i false ≡ false
      → (q : ℕ) → q < pair_places → times q (assigned_at rows i) ≤ get_or live q 0
  unfolding Live
  live_enough dead n i live L h e q b = omega (arith, L q b, live_has dead q n i h e)

  -- No rule is counted yet.
  pub live_start : (dead : List Bool) (live : List ℕ) → live ≡ replicate pair_places 0 → Live rows dead 0 live
  unfolding Live live_below
  live_start dead live e q b = rw (e, replicate_at {A = ℕ} pair_places 0 q)

  -- One rule more is counted.
  pub live_next : (dead : List Bool) (n : ℕ) (live live' : List ℕ) → get_or dead n false ≡ false → Live rows dead n live
      → ((q : ℕ) → q < pair_places → get_or live' q 0 ≡ get_or live q 0 + times q (assigned_at rows n)) → Live rows dead (n + 1) live'
  unfolding Live live_below
  live_next dead n live live' e L k q b = rw (add-one n, e) (omega (arith, L q b, k q b))

  -- No pair is assigned more often than rules have assignments.
  live_top : (n : ℕ) → RowsBounded rows n → (dead : List Bool) (q m : ℕ) → m ≤ n → live_below rows dead q m ≤ m * assignment_limit
  unfolding live_below
  live_top n F dead q zero h = omega arith
  live_top n F dead q (suc m) h =
      let few = (F.each_bounded m (omega arith)).few_assignments in
      let l : length (assigned_at rows m) ≤ assignment_limit = simp (length-map, length-take) (omega arith) in
      omega (arith, live_top n F dead q m (omega arith), go (get_or dead m false) (times q (assigned_at rows m)) (omega (arith, l, times_top q (assigned_at rows m))))
    where
      go : (b : Bool) (x : ℕ) → x ≤ assignment_limit → cond b 0 x ≤ assignment_limit
      go true x h = omega arith
      go false x h = h

  -- So the counts stay small.
  pub live_small : (n : ℕ) → RowsBounded rows n → (dead : List Bool) (m : ℕ) (live : List ℕ) → m ≤ n → Live rows dead m live → length live ≡ pair_places → (q : ℕ) → get_or live q 0 < 65000
  unfolding Live
  live_small n F dead m live h L l q = ⊎_elim
      (λ (b : pair_places ≤ q). rw (get_or-eq_default live 0 {n = q} (omega arith)) (omega arith))
      (λ (b : q < pair_places). omega (arith, L q b, live_top n F dead q m h, F.few))
      (le_or_lt pair_places q)
