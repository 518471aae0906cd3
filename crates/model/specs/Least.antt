-- The least strata: document 01, 'The table carries the least such numbers'.
use Rattle.std.specs.Prelude.{ℕ, zero, suc, ◌*◌, ◌≤◌, max, cond, List, length}
use Rattle.laws.specs.Numbers.{Numbered}
use Rattle.model.specs.Rules.{Rule}
use Rattle.model.specs.Strata.{Grading, may_stay_level, must_fall, Strata}

-- Numbers t are the least strata of the rules: they are strata, and no strata have a lower number for a rule.
pub record LeastStrata (G : Grading) (rs : List Rule) (t : ℕ → ℕ) : Type 0 where
  pub strata : Strata G rs t
  pub least : (u : ℕ → ℕ) → Strata G rs u → (n : ℕ) → Numbered (length rs) n → t n ≤ u n

-- Their computation.
module _ (G : Grading) (rs : List Rule) where
  -- The least number that rule n can have where the rules 1 to k have the numbers t.
  unfoldable pub least_above : (ℕ → ℕ) → ℕ → ℕ → ℕ
  least_above t n zero = 1
  least_above t n (suc k) =
      max (max (cond (may_stay_level G rs n (suc k)) (t (suc k)) 0) (cond (must_fall G rs n (suc k)) (suc (t (suc k))) 0)) (least_above t n k)

  -- The numbers after k rounds: all are 1 at first, and a round raises each to what the others' numbers ask.
  unfoldable pub round : ℕ → ℕ → ℕ
  round zero n = 1
  round (suc k) n = max (round k n) (least_above (round k) n (length rs))

  -- The least strata, where there is no circle: by then no round raises a number any more.
  unfoldable pub strata_of : ℕ → ℕ
  strata_of n = round (suc (length rs * length rs)) n
