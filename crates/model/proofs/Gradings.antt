-- Laws of the two gradings: strict strata are weak strata too, and dependence looks at the two rules alone.
-- Assumes nothing.
use Prim.Native.Nat.{ℕ, ◌≤◌, ◌<◌}
use native.Mathlib.Omega.{arith}
use mathlib.Core.Path.{◌≡◌, refl}
use mathlib.Core.List.{List}
use lib.Dec.{T}
use lib.ListN.{length}
use Rattle.laws.specs.Numbers.{Numbered}
use Rattle.model.specs.Rules.{Pair, Rule, among}
use Rattle.model.specs.Orders.{rule_at}
use Rattle.model.specs.Strata.{tested, needed, barred, depends, depends_plainly, depends_under_not, Grading, strict, weak, may_stay_level, must_fall, Strata}
use Rattle.model.proofs.Pairs.{needed_tested, barred_tested, meet_i, meet_e}

-- Rule n depends on rule m where m assigns a pair that n tests.
pub depends_i : (rs : List Rule) (n m : ℕ) (p : Pair) → T (among p (tested (rule_at rs n))) → T (among p (rule_at rs m).assignments) → T (depends rs n m)
unfolding depends
depends_i rs n m p a b = meet_i p _ _ a b

-- And only there.
pub depends_e : (rs : List Rule) (n m : ℕ) → T (depends rs n m) → (p : Pair) × T (among p (tested (rule_at rs n))) × T (among p (rule_at rs m).assignments)
unfolding depends
depends_e rs n m t = meet_e _ _ t

-- A plain dependence is one.
pub plainly_depends : (rs : List Rule) (n m : ℕ) → T (depends_plainly rs n m) → T (depends rs n m)
unfolding depends depends_plainly
plainly_depends rs n m t = let w = meet_e _ _ t in meet_i w.0 _ _ (needed_tested (rule_at rs n) w.0 w.1) w.2

-- A dependence under NOT is one.
pub under_not_depends : (rs : List Rule) (n m : ℕ) → T (depends_under_not rs n m) → T (depends rs n m)
unfolding depends depends_under_not
under_not_depends rs n m t = let w = meet_e _ _ t in meet_i w.0 _ _ (barred_tested (rule_at rs n) w.0 w.1) w.2

-- Strata of either kind are weak strata.
pub to_weak : (G : Grading) (rs : List Rule) (t : ℕ → ℕ) → Strata G rs t → Strata weak rs t
unfolding may_stay_level must_fall
to_weak strict rs t s = record {
  from_one = s.from_one;
  no_higher = λ n m i j d. omega (arith, s.smaller n m i j (plainly_depends rs n m d));
  smaller = λ n m i j d. s.smaller n m i j (under_not_depends rs n m d);
}
to_weak weak rs t s = s

-- Strata of either kind do not rise to a rule that assigns a needed pair.
pub plain_no_higher : (G : Grading) (rs : List Rule) (t : ℕ → ℕ) → Strata G rs t → (n m : ℕ) (p : Pair) → Numbered (length rs) n → Numbered (length rs) m
    → T (among p (needed (rule_at rs n))) → T (among p (rule_at rs m).assignments) → t m ≤ t n
unfolding may_stay_level depends_plainly
plain_no_higher G rs t s n m p i j a b = (to_weak G rs t s).no_higher n m i j (meet_i p _ _ a b)

-- Strata of either kind fall to a rule that assigns a barred pair.
pub under_not_smaller : (G : Grading) (rs : List Rule) (t : ℕ → ℕ) → Strata G rs t → (n m : ℕ) (p : Pair) → Numbered (length rs) n → Numbered (length rs) m
    → T (among p (barred (rule_at rs n))) → T (among p (rule_at rs m).assignments) → t m < t n
unfolding must_fall depends_under_not
under_not_smaller G rs t s n m p i j a b = (to_weak G rs t s).smaller n m i j (meet_i p _ _ a b)

-- The same rules at other numbers may stay level in the same way.
pub level_moved : (G : Grading) (rs rs' : List Rule) (n m n' m' : ℕ) → rule_at rs n ≡ rule_at rs' n' → rule_at rs m ≡ rule_at rs' m' → may_stay_level G rs n m ≡ may_stay_level G rs' n' m'
unfolding may_stay_level depends_plainly
level_moved strict rs rs' n m n' m' p q = refl
level_moved weak rs rs' n m n' m' p q = rw (p, q)

-- The same rules at other numbers must fall in the same way.
pub fall_moved : (G : Grading) (rs rs' : List Rule) (n m n' m' : ℕ) → rule_at rs n ≡ rule_at rs' n' → rule_at rs m ≡ rule_at rs' m' → must_fall G rs n m ≡ must_fall G rs' n' m'
unfolding must_fall depends depends_under_not
fall_moved strict rs rs' n m n' m' p q = rw (p, q)
fall_moved weak rs rs' n m n' m' p q = rw (p, q)
