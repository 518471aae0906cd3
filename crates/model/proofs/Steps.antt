-- Steps are dependences, whatever the grading; the first step of a walk; circles through a NOT as walks of dependence.
-- Assumes nothing.
use Prim.Native.Nat.{ℕ, ◌≤◌}
use native.Mathlib.Nat.{eq-or-lt_of_le}
use mathlib.Core.Path.{◌≡◌, refl}
use mathlib.Core.Bool.{Bool, true, false}
use mathlib.Core.List.{List}
use mathlib.Core.Logic.{◌⊎◌, inl, inr, ⊎_elim}
use lib.Dec.{T}
use lib.ListN.{length}
use Rattle.laws.specs.Truth.{◌∧ᵇ◌, notᵇ}
use Rattle.laws.specs.Numbers.{Numbered}
use Rattle.laws.proofs.Truth.{or_l, or_r, or_e, le_or_lt}
use Rattle.model.specs.Rules.{Pair, Literal, Rule, among}
use Rattle.model.specs.Orders.{rule_at}
use Rattle.model.specs.Strata.{is_becomes, is_plain, is_under_not, tested, needed, barred, depends, depends_plainly, depends_under_not, Grading, strict, weak, may_stay_level, must_fall}
use Rattle.model.specs.Circles.{Walk, here, on, CircleThroughNot, LowestThroughNot, step, on_circle, circle_of}
use Rattle.model.proofs.Pairs.{where_cases, meet_i, meet_e}
use Rattle.model.proofs.Gradings.{plainly_depends, under_not_depends}
use Rattle.model.proofs.Reach.{reach_walk}
use Rattle.model.proofs.Circles.{behind_e, NoCircle, no_circle_e, circle_lowest, walk_circle}

either_sign : (l : Literal) → T (is_becomes l) → T (is_plain l) ⊎ T (is_under_not l)
unfolding is_becomes is_plain is_under_not ◌∧ᵇ◌ notᵇ
either_sign l t = go l.negated l.becomes t
  where
    go : (b c : Bool) → T c → T (c ∧ᵇ notᵇ b) ⊎ T (c ∧ᵇ b)
    go true true t = inr tt
    go false true t = inl tt
    go b false t = absurd t

-- A rule needs or bars what it tests.
pub tested_cases : (r : Rule) (p : Pair) → T (among p (tested r)) → T (among p (needed r)) ⊎ T (among p (barred r))
unfolding tested needed barred among
tested_cases r p t = ⊎_elim
    (λ a. inl (or_l _ _ a))
    (λ a. ⊎_elim (λ b. inl (or_r _ _ b)) (λ b. inr b) (where_cases is_becomes is_plain is_under_not either_sign p r.literals a))
    (or_e _ _ t)

-- A step is a dependence.
pub step_depends : (G : Grading) (rs : List Rule) (n m : ℕ) → T (step G rs n m) → T (depends rs n m)
unfolding step may_stay_level must_fall
step_depends strict rs n m t = ⊎_elim (λ a. absurd a) (λ a. a) (or_e _ _ t)
step_depends weak rs n m t = ⊎_elim (plainly_depends rs n m) (under_not_depends rs n m) (or_e _ _ t)

-- And a dependence is a step.
pub depends_step : (G : Grading) (rs : List Rule) (n m : ℕ) → T (depends rs n m) → T (step G rs n m)
unfolding step may_stay_level must_fall depends depends_plainly depends_under_not
depends_step strict rs n m t = or_r _ _ t
depends_step weak rs n m t =
    let w = meet_e _ _ t in
    ⊎_elim (λ a. or_l _ _ (meet_i w.0 _ _ a w.2)) (λ a. or_r _ _ (meet_i w.0 _ _ a w.2)) (tested_cases (rule_at rs n) w.0 w.1)

-- A walk is none, or has a first step.
pub walk_head : (N : ℕ) (e : ℕ → ℕ → Bool) {n m : ℕ} → Numbered N n → Walk N e n m → (n ≡ m) ⊎ ((x : ℕ) × Numbered N x × T (e n x) × Walk N e x m)
walk_head N e i here = inl refl
walk_head N e i (on {x = x} {m = m} w j k t) = ⊎_elim
    (λ z. inr (m, k, rw z t, here))
    (λ z. inr (z.0, z.1, z.2, on z.3 j k t))
    (walk_head N e i w)

-- A walk by steps of one kind is one by steps of another that has them all.
walk_as : (N : ℕ) (d e : ℕ → ℕ → Bool) → ((n m : ℕ) → T (d n m) → T (e n m)) → {n m : ℕ} → Walk N d n m → Walk N e n m
walk_as N d e f here = here
walk_as N d e f (on {x = x} {m = m} w i j t) = on (walk_as N d e f w) i j (f x m t)

module _ (rs : List Rule) where
  -- What the test of a circle says of weak strata: the circle passes through a NOT.
  pub through_not_e : (n : ℕ) → Numbered (length rs) n → T (on_circle weak rs n) → CircleThroughNot rs n
  unfolding on_circle must_fall
  through_not_e n i t =
      let b = behind_e weak rs n n t in
      record {
        x = b.x;
        y = b.y;
        x_rule = b.x_rule;
        y_rule = b.y_rule;
        to_x = walk_as (length rs) (step weak rs) (depends rs) (step_depends weak rs) (reach_walk (length rs) (step weak rs) n b.x b.x_rule b.to_x);
        under_not = b.falls;
        back = walk_as (length rs) (step weak rs) (depends rs) (step_depends weak rs) (reach_walk (length rs) (step weak rs) b.y n i b.from_y);
      }

  -- And back.
  pub through_not_i : (n : ℕ) → CircleThroughNot rs n → T (on_circle weak rs n)
  unfolding must_fall
  through_not_i n c =
      walk_circle weak rs n c.x c.y c.x_rule c.y_rule (walk_as (length rs) (depends rs) (step weak rs) (depends_step weak rs) c.to_x) c.under_not
      (walk_as (length rs) (depends rs) (step weak rs) (depends_step weak rs) c.back)

  -- Where there is a circle through a NOT, the number computed is that of the lowest rule on one.
  pub lowest_through_not : (¬ (circle_of weak rs ≡ 0)) → LowestThroughNot rs (circle_of weak rs)
  lowest_through_not h =
      let w = circle_lowest weak rs h in
      record { rule = w.0; circle = through_not_e (circle_of weak rs) w.0 w.1; lowest = λ m i l c. w.2 m i.first l (through_not_i m c) }

  -- No other rule is the lowest.
  pub one_lowest : (n : ℕ) → LowestThroughNot rs n → n ≡ circle_of weak rs
  unfolding NoCircle
  one_lowest n l =
      let some : ¬ (circle_of weak rs ≡ 0) = λ z. no_circle_e weak rs z n l.rule (through_not_i n l.circle) in
      let c = lowest_through_not some in
      ⊎_elim (λ (le : n ≤ circle_of weak rs). ⊎_elim (λ e. e) (λ lt. absurd (c.lowest n l.rule lt l.circle)) (eq-or-lt_of_le le))
      (λ lt. absurd (l.lowest (circle_of weak rs) c.rule lt c.circle))
      (le_or_lt n (circle_of weak rs))
