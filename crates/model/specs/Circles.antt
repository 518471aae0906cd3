-- Circles of dependence: document 01, refusal 18; document 02, section 2, for circles that pass through a NOT.
use Rattle.std.specs.Prelude.{ℕ, zero, suc, ◌<◌, Bool, List, T, eqb, length}
use Rattle.laws.specs.Truth.{◌∧ᵇ◌, ◌∨ᵇ◌}
use Rattle.laws.specs.Numbers.{Numbered, some_of, first_of}
use Rattle.model.specs.Rules.{Rule}
use Rattle.model.specs.Strata.{depends, depends_under_not, Grading, may_stay_level, must_fall}

-- A graph on the numbers 1 to N, in which e x y says that a step leads from x to y.
module _ (N : ℕ) (e : ℕ → ℕ → Bool) where
  -- m is reached from n in at most k steps.
  unfoldable pub within : ℕ → ℕ → ℕ → Bool
  within n zero m = eqb n m
  within n (suc k) m = within n k m ∨ᵇ some_of (λ x. within n k x ∧ᵇ e x m) N

  -- m is reached from n in any number of steps, none too.
  unfoldable pub reach : ℕ → ℕ → Bool
  reach n m = within n N m

  -- A walk from n to m, step by step; it may meet a number more than once.
  pub data Walk : ℕ → ℕ → Type 0 where
    here : {n : ℕ} → Walk n n
    on : {n x m : ℕ} → Walk n x → Numbered N x → Numbered N m → T (e x m) → Walk n m

-- Rule n is on a circle that passes through a NOT: dependences lead from n to a rule x, which depends under NOT on a rule y, and dependences lead from y back to n.
pub record CircleThroughNot (rs : List Rule) (n : ℕ) : Type 0 where
  pub x : ℕ
  pub y : ℕ
  pub x_rule : Numbered (length rs) x
  pub y_rule : Numbered (length rs) y
  pub to_x : Walk (length rs) (depends rs) n x
  pub under_not : T (depends_under_not rs x y)
  pub back : Walk (length rs) (depends rs) y n

-- It is the lowest such rule.
pub record LowestThroughNot (rs : List Rule) (n : ℕ) : Type 0 where
  pub rule : Numbered (length rs) n
  pub circle : CircleThroughNot rs n
  pub lowest : (m : ℕ) → Numbered (length rs) m → m < n → ¬ CircleThroughNot rs m

-- The same as a test, for either grading.
module _ (G : Grading) (rs : List Rule) where
  -- A step leads from rule n to a rule m that it depends on.
  unfoldable pub step : ℕ → ℕ → Bool
  step n m = may_stay_level G rs n m ∨ᵇ must_fall G rs n m

  -- q lies behind n: steps lead from n to a rule x, from x strata must fall to a rule y, and steps lead from y to q.
  unfoldable pub behind : ℕ → ℕ → Bool
  behind n q =
      some_of (λ x. reach (length rs) step n x ∧ᵇ some_of (λ y. must_fall G rs x y ∧ᵇ reach (length rs) step y q) (length rs)) (length rs)

  -- A rule is on a circle. With strict strata every circle of dependence counts, with weak strata those that pass through a NOT.
  unfoldable pub on_circle : ℕ → Bool
  on_circle n = behind n n

  -- The lowest rule on a circle, the second number of 18; 0 where there is no circle.
  unfoldable pub circle_of : ℕ
  circle_of = first_of on_circle (length rs)
