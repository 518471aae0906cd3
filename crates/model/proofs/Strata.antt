-- Strata exist exactly where there is no circle; the rounds give the least ones, and these are at most the number of rules.
-- Assumes nothing.
use Prim.Native.Nat.{ℕ, zero, suc, ◌*◌, ◌≤◌, ◌<◌}
use native.Mathlib.Omega.{arith}
use native.Mathlib.Nat.{eq-or-lt_of_le}
use mathlib.Core.Path.{◌≡◌, refl}
use mathlib.Core.Bool.{Bool, true, false, cond}
use mathlib.Core.List.{List}
use mathlib.Core.Logic.{◌⊎◌, inl, inr, ⊎_elim, ◌↔◌}
use lib.Dec.{T}
use lib.ListN.{length}
use Rattle.laws.specs.Numbers.{Numbered, how_many}
use Rattle.laws.specs.inner.Total.{total}
use Rattle.laws.proofs.Truth.{or_l, or_r, or_e, not_i, le_or_lt}
use Rattle.laws.proofs.Numbers.{how_many_top, how_many_le, how_many_lt, total_lt, total_top, settles}
use Rattle.model.specs.Rules.{Rule}
use Rattle.model.specs.Strata.{Grading, may_stay_level, must_fall, Strata}
use Rattle.model.specs.Circles.{Walk, here, on, step, behind, on_circle, circle_of}
use Rattle.model.specs.Least.{LeastStrata, least_above, round, strata_of}
use Rattle.model.proofs.Reach.{reach_walk}
use Rattle.model.proofs.Circles.{behind_e, behind_at, behind_before, NoCircle, no_circle_e, no_circle_i}

cond_le : (c : Bool) (a b : ℕ) → a ≤ b → cond c a 0 ≤ cond c b 0
cond_le true a b h = h
cond_le false a b h = omega arith

cond_top : (c : Bool) (a b : ℕ) → (T c → a ≤ b) → cond c a 0 ≤ b
cond_top true a b h = h tt
cond_top false a b h = omega arith

cond_true : (c : Bool) (a : ℕ) → T c → cond c a 0 ≡ a
cond_true true a t = refl
cond_true false a t = absurd t

module _ (G : Grading) (rs : List Rule) where
  -- One more than the number of rules behind a rule: strata where there is no circle.
  depth : ℕ → ℕ
  depth n = suc (how_many (behind G rs n) (length rs))

  depth_strata : NoCircle G rs → Strata G rs depth
  unfolding NoCircle depth step on_circle
  depth_strata c = record {
    from_one = λ n i. omega arith;
    no_higher = λ n m i j t. omega (arith, how_many_le (behind G rs m) (behind G rs n) (length rs) (λ q lo hi. behind_before G rs n m q i j (or_l _ _ t)));
    smaller = λ n m i j t. omega (arith, how_many_lt (behind G rs m) (behind G rs n) (length rs) (λ q lo hi. behind_before G rs n m q i j (or_r _ _ t)) m j.first j.last (not_i _ (c m j)) (behind_at G rs n m i j t));
  }

  depth_top : NoCircle G rs → (n : ℕ) → Numbered (length rs) n → depth n ≤ length rs
  unfolding NoCircle depth on_circle
  depth_top c n i =
      omega (arith, how_many_lt (behind G rs n) (λ q. true) (length rs) (λ q lo hi t. tt) n i.first i.last (not_i _ (c n i)) tt, how_many_top (λ q. true) (length rs))

  -- Strata do not rise along a walk.
  walk_no_higher : (t : ℕ → ℕ) → Strata G rs t → {n m : ℕ} → Walk (length rs) (step G rs) n m → t m ≤ t n
  unfolding step
  walk_no_higher t s here = omega arith
  walk_no_higher t s (on {x = x} {m = m} w i j d) =
      ⊎_elim (λ a. omega (arith, walk_no_higher t s w, s.no_higher x m i j a)) (λ a. omega (arith, walk_no_higher t s w, s.smaller x m i j a)) (or_e _ _ d)

  strata_no_circle : (t : ℕ → ℕ) → Strata G rs t → NoCircle G rs
  unfolding NoCircle on_circle
  strata_no_circle t s n i h =
      let b = behind_e G rs n n h in
      omega (
        arith,
        walk_no_higher t s (reach_walk (length rs) (step G rs) n b.x b.x_rule b.to_x),
        s.smaller b.x b.y b.x_rule b.y_rule b.falls,
        walk_no_higher t s (reach_walk (length rs) (step G rs) b.y n i b.from_y),
      )

  -- Where there are strata there is no circle.
  pub no_circle : (t : ℕ → ℕ) → Strata G rs t → circle_of G rs ≡ 0
  no_circle t s = no_circle_i G rs (strata_no_circle t s)

  -- Where there is a circle, and 18 is given, no strata exist.
  pub no_strata : (¬ (circle_of G rs ≡ 0)) → (t : ℕ → ℕ) → ¬ Strata G rs t
  no_strata c t s = c (no_circle t s)

  -- Laws of what a round asks.
  above_le : (t u : ℕ → ℕ) (n k : ℕ) → ((i : ℕ) → Numbered k i → t i ≤ u i) → least_above G rs t n k ≤ least_above G rs u n k
  unfolding least_above
  above_le t u n zero h = omega arith
  above_le t u n (suc k) h = omega (
    arith,
    cond_le (may_stay_level G rs n (suc k)) (t (suc k)) (u (suc k)) last,
    cond_le (must_fall G rs n (suc k)) (suc (t (suc k))) (suc (u (suc k))) (omega (arith, last)),
    above_le t u n k (λ i r. h i (record { first = r.first; last = omega (arith, r.last) })),
  )
    where
      last : t (suc k) ≤ u (suc k)
      last = h (suc k) (record { first = omega arith; last = omega arith })

  above_top : (t : ℕ → ℕ) → Strata G rs t → (n : ℕ) → Numbered (length rs) n → (k : ℕ) → k ≤ length rs → least_above G rs t n k ≤ t n
  unfolding least_above
  above_top t s n i zero le = s.from_one n i
  above_top t s n i (suc k) le = omega (
    arith,
    cond_top (may_stay_level G rs n (suc k)) (t (suc k)) (t n) (s.no_higher n (suc k) i j),
    cond_top (must_fall G rs n (suc k)) (suc (t (suc k))) (t n) (s.smaller n (suc k) i j),
    above_top t s n i k (omega arith),
  )
    where
      j : Numbered (length rs) (suc k)
      j = record { first = omega arith; last = le }

  above_level : (t : ℕ → ℕ) (n m k : ℕ) → Numbered k m → T (may_stay_level G rs n m) → t m ≤ least_above G rs t n k
  unfolding least_above
  above_level t n m zero j d = absurd (omega arith)
  above_level t n m (suc k) j d =
      ⊎_elim (λ (e : m ≡ suc k). rw e (omega (arith, cond_true (may_stay_level G rs n (suc k)) (t (suc k)) (rw e at d))))
      (λ (l : m < suc k). omega (arith, above_level t n m k (record { first = omega arith; last = omega arith }) d)) (eq-or-lt_of_le j.last)

  above_fall : (t : ℕ → ℕ) (n m k : ℕ) → Numbered k m → T (must_fall G rs n m) → suc (t m) ≤ least_above G rs t n k
  unfolding least_above
  above_fall t n m zero j d = absurd (omega arith)
  above_fall t n m (suc k) j d =
      ⊎_elim (λ (e : m ≡ suc k). rw e (omega (arith, cond_true (must_fall G rs n (suc k)) (suc (t (suc k))) (rw e at d))))
      (λ (l : m < suc k). omega (arith, above_fall t n m k (record { first = omega arith; last = omega arith }) d)) (eq-or-lt_of_le j.last)

  -- Every round stays below any strata.
  round_le : (t : ℕ → ℕ) → Strata G rs t → (k n : ℕ) → Numbered (length rs) n → round G rs k n ≤ t n
  unfolding round
  round_le t s zero n i = s.from_one n i
  round_le t s (suc k) n i =
      omega (arith, round_le t s k n i, above_le (round G rs k) t n (length rs) (λ m j. round_le t s k m j), above_top t s n i (length rs) (omega arith))

  round_one : (k n : ℕ) → 1 ≤ round G rs k n
  unfolding round
  round_one zero n = omega arith
  round_one (suc k) n = omega (arith, round_one k n)

  -- The next round raises no rule.
  AtRest : ℕ → Type 0
  AtRest k = (n : ℕ) → Numbered (length rs) n → round G rs (suc k) n ≤ round G rs k n

  rest_strata : (k : ℕ) → AtRest k → Strata G rs (round G rs k)
  unfolding AtRest round
  rest_strata k r = record {
    from_one = λ n i. round_one k n;
    no_higher = λ n m i j d. omega (arith, above_level (round G rs k) n m (length rs) j d, r n i);
    smaller = λ n m i j d. omega (arith, above_fall (round G rs k) n m (length rs) j d, r n i);
  }

  rest_stays : (k : ℕ) → AtRest k → AtRest (suc k)
  unfolding AtRest round
  rest_stays k r n i = omega (arith, above_le (round G rs (suc k)) (round G rs k) n (length rs) (λ m j. r m j))

  rest_or_more : (k : ℕ) → AtRest k ⊎ (total (round G rs k) (length rs) < total (round G rs (suc k)) (length rs))
  unfolding AtRest round
  rest_or_more k =
      ⊎_elim
      (λ le. inl (λ n i. ⊎_elim (λ a. a) (λ a. absurd (omega (arith, le, total_lt (round G rs k) (round G rs (suc k)) (length rs) (λ m lo hi. omega arith) n i.first i.last a))) (le_or_lt (round G rs (suc k) n) (round G rs k n))))
      (λ lt. inr lt) (le_or_lt (total (round G rs (suc k)) (length rs)) (total (round G rs k) (length rs)))

  -- Where there is no circle the rounds end with strata.
  pub least_strata : circle_of G rs ≡ 0 → Strata G rs (strata_of G rs)
  unfolding strata_of
  least_strata e =
      let c = no_circle_e G rs e in
      rest_strata (suc (length rs * length rs)) (settles AtRest (λ k. total (round G rs k) (length rs)) (length rs * length rs) rest_or_more rest_stays
      (λ k. total_top (round G rs k) (length rs) (length rs) (λ n lo hi. omega (
        arith,
        round_le depth (depth_strata c) k n (record { first = lo; last = hi }),
        depth_top c n (record { first = lo; last = hi }),
      ))))

  -- They are the least: no strata give a rule a smaller number.
  pub least_least : (t : ℕ → ℕ) → Strata G rs t → (n : ℕ) → Numbered (length rs) n → strata_of G rs n ≤ t n
  unfolding strata_of
  least_least t s n i = round_le t s (suc (length rs * length rs)) n i

  -- A least stratum is at most the number of rules.
  pub least_top : circle_of G rs ≡ 0 → (n : ℕ) → Numbered (length rs) n → strata_of G rs n ≤ length rs
  least_top e n i = let c = no_circle_e G rs e in omega (arith, least_least depth (depth_strata c) n i, depth_top c n i)

  -- Strata exist exactly where there is no circle.
  pub strata_exist : ((t : ℕ → ℕ) × Strata G rs t) ↔ (circle_of G rs ≡ 0)
  strata_exist = (λ s. no_circle s.0 s.1, λ e. (strata_of G rs, least_strata e))

  -- Numbers that are those computed, where there is no circle, are the least strata.
  pub least_i : (t : ℕ → ℕ) → circle_of G rs ≡ 0 → ((n : ℕ) → Numbered (length rs) n → t n ≡ strata_of G rs n) → LeastStrata G rs t
  least_i t z e =
      let L = least_strata z in
      record {
        strata = record {
          from_one = λ n i. omega (arith, e n i, L.from_one n i);
          no_higher = λ n m i j d. omega (arith, e n i, e m j, L.no_higher n m i j d);
          smaller = λ n m i j d. omega (arith, e n i, e m j, L.smaller n m i j d);
        };
        least = λ u s n i. omega (arith, e n i, least_least u s n i);
      }

  -- And there are no other.
  pub least_e : (t : ℕ → ℕ) → LeastStrata G rs t → (n : ℕ) → Numbered (length rs) n → t n ≡ strata_of G rs n
  least_e t l n i = omega (arith, least_least t l.strata n i, l.least (strata_of G rs) (least_strata (no_circle t l.strata)) n i)
