-- Laws of circles of dependence: what lies behind a rule, the lowest rule on a circle, a circle as a walk.
-- Assumes nothing.
use Prim.Native.Nat.{ℕ, ◌≤◌, ◌<◌}
use mathlib.Core.Path.{◌≡◌}
use mathlib.Core.List.{List}
use lib.Dec.{T}
use lib.ListN.{length}
use Rattle.laws.specs.Numbers.{Numbered, some_of, first_of}
use Rattle.laws.proofs.Truth.{and_l, and_r, and_i, stable}
use Rattle.laws.proofs.Numbers.{some_i, some_e, first_some, first_none, first_zero}
use Rattle.model.specs.Rules.{Rule}
use Rattle.model.specs.Strata.{Grading, must_fall}
use Rattle.model.specs.Circles.{reach, Walk, step, behind, on_circle, circle_of}
use Rattle.model.proofs.Reach.{reach_refl, reach_step, reach_trans, walk_reach}

module _ (G : Grading) (rs : List Rule) where
  -- q lies behind n: by steps from n to x, from x to y where strata must fall, by steps from y to q.
  pub record Behind (n q : ℕ) : Type 0 where
    pub x : ℕ
    pub y : ℕ
    pub x_rule : Numbered (length rs) x
    pub y_rule : Numbered (length rs) y
    pub to_x : T (reach (length rs) (step G rs) n x)
    pub falls : T (must_fall G rs x y)
    pub from_y : T (reach (length rs) (step G rs) y q)

  -- What the test says.
  pub behind_e : (n q : ℕ) → T (behind G rs n q) → Behind n q
  unfolding behind
  behind_e n q t =
      let a = some_e _ (length rs) t in
      let b = some_e _ (length rs) (and_r _ _ a.2) in
      record { x = a.0; y = b.0; x_rule = a.1; y_rule = b.1; to_x = and_l _ _ a.2; falls = and_l _ _ b.2; from_y = and_r _ _ b.2 }

  -- And back.
  pub behind_i : (n q : ℕ) → Behind n q → T (behind G rs n q)
  unfolding behind
  behind_i n q b =
      some_i _ (length rs) b.x b.x_rule (and_i _ _ b.to_x (some_i _ (length rs) b.y b.y_rule (and_i _ _ b.falls b.from_y)))

  -- Behind n lies what n must stand above.
  pub behind_at : (n m : ℕ) → Numbered (length rs) n → Numbered (length rs) m → T (must_fall G rs n m) → T (behind G rs n m)
  behind_at n m i j t =
      behind_i n m (record { x = n; y = m; x_rule = i; y_rule = j; to_x = reach_refl (length rs) (step G rs) n; falls = t; from_y = reach_refl (length rs) (step G rs) m })

  -- Behind n lies what lies behind a rule that n depends on.
  pub behind_before : (n m q : ℕ) → Numbered (length rs) n → Numbered (length rs) m → T (step G rs n m) → T (behind G rs m q) → T (behind G rs n q)
  behind_before n m q i j t h =
      let b = behind_e m q h in
      behind_i n q (record {
        x = b.x;
        y = b.y;
        x_rule = b.x_rule;
        y_rule = b.y_rule;
        falls = b.falls;
        from_y = b.from_y;
        to_x = reach_trans (length rs) (step G rs) n m b.x j b.x_rule (reach_step (length rs) (step G rs) n n m i j (reach_refl (length rs) (step G rs) n) t) b.to_x;
      })

  -- No rule is on a circle.
  unfoldable pub NoCircle : Type 0
  NoCircle = (n : ℕ) → Numbered (length rs) n → ¬ T (on_circle G rs n)

  -- The lowest rule on a circle is 0 exactly where there is no circle.
  pub no_circle_e : circle_of G rs ≡ 0 → NoCircle
  unfolding circle_of NoCircle
  no_circle_e e = first_none (on_circle G rs) (length rs) e

  -- And back.
  pub no_circle_i : NoCircle → circle_of G rs ≡ 0
  unfolding circle_of NoCircle
  no_circle_i c = first_zero (on_circle G rs) (length rs) c

  -- Else it is the number of a rule on a circle, and no rule before it is on one.
  pub circle_lowest : (¬ (circle_of G rs ≡ 0))
      → Numbered (length rs) (circle_of G rs) × T (on_circle G rs (circle_of G rs)) × ((n : ℕ) → 1 ≤ n → n < circle_of G rs → ¬ T (on_circle G rs n))
  unfolding circle_of
  circle_lowest h = first_some (on_circle G rs) (length rs) (some_circle h)
    where
      some_circle : (¬ (first_of (on_circle G rs) (length rs) ≡ 0)) → T (some_of (on_circle G rs) (length rs))
      some_circle h =
          stable (some_of (on_circle G rs) (length rs)) (λ u. h (first_zero (on_circle G rs) (length rs) (λ n i t. u (some_i (on_circle G rs) (length rs) n i t))))

  -- A rule is on a circle where a walk leads from it, past a step where strata must fall, back to it.
  pub walk_circle : (n a b : ℕ) → Numbered (length rs) a → Numbered (length rs) b → Walk (length rs) (step G rs) n a → T (must_fall G rs a b) → Walk (length rs) (step G rs) b n
      → T (on_circle G rs n)
  unfolding on_circle
  walk_circle n a b i j v t w =
      behind_i n n (record { x = a; y = b; x_rule = i; y_rule = j; to_x = walk_reach (length rs) (step G rs) v; falls = t; from_y = walk_reach (length rs) (step G rs) w })
