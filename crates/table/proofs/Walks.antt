-- Going through the literals and the assignments that a rule uses, one after the other: what is left from a place on.
-- Assumes nothing.
use mathlib.Core.Path.{◌≡◌, refl}
use mathlib.Core.Bool.{Bool, true, false}
use mathlib.Core.List.{List, [], ◌∷◌}
use Prim.Native.Nat.{ℕ, ◌+◌, ◌≤◌, ◌<◌}
use native.Mathlib.Omega.{arith}
use lib.ListN.{get_or, drop}
use Rattle.laws.proofs.Listed.{used_next, used_end}
use Rattle.model.specs.Rules.{Pair}
use Rattle.model.specs.Rules as model
use Rattle.model.specs.Result.{pair}
use Rattle.model.specs.Strata.{pairs_where, is_becomes, is_plain, is_under_not, tested, needed, barred}
use Rattle.table.specs.declared.Rule.{Rule}
use Rattle.laws.specs.Limits.{literal_limit, assignment_limit}
use Rattle.table.specs.Zero.{zero_literal, zero_assignment}
use Rattle.table.specs.inner.Shape.{RuleShaped}
use Rattle.table.specs.Link.{literal_of, literals_of, assignment_of, assignments_of, rule_of}

module _ (r : Rule) where
  -- The literals used from place j on.
  unfoldable pub literals_from : ℕ → List model.Literal
  literals_from j = drop j (literals_of r)

  -- The pairs of those that pass a test: that are a `*=`, a plain one or one under NOT.
  unfoldable pub picked_from : (model.Literal → Bool) → ℕ → List Pair
  picked_from f j = pairs_where f (literals_from j)

  -- The pairs assigned from place k on.
  unfoldable pub assigned_from : ℕ → List Pair
  assigned_from k = drop k (assignments_of r)

  pub literals_start : literals_from 0 ≡ literals_of r
  unfolding literals_from
  literals_start = refl

  pub tested_start : tested (rule_of r) ≡ pair r.slot r.value ∷ picked_from is_becomes 0
  unfolding tested picked_from literals_from
  tested_start = refl

  pub needed_start : needed (rule_of r) ≡ pair r.slot r.value ∷ picked_from is_plain 0
  unfolding needed picked_from literals_from
  needed_start = refl

  pub barred_start : barred (rule_of r) ≡ picked_from is_under_not 0
  unfolding barred picked_from literals_from
  barred_start = refl

  pub assigned_start : assigned_from 0 ≡ assignments_of r
  unfolding assigned_from
  assigned_start = refl

  -- From place k on is what is left after the first k.
  pub assigned_drop : (k : ℕ) → assigned_from k ≡ drop k (assignments_of r)
  unfolding assigned_from
  assigned_drop k = refl

  pub literals_end : (j : ℕ) → r.tested ≤ j → literals_from j ≡ []
  unfolding literals_from
  literals_end j h = used_end literal_of r.tested r.literals j h

  pub picked_end : (f : model.Literal → Bool) (j : ℕ) → r.tested ≤ j → picked_from f j ≡ []
  unfolding picked_from pairs_where
  picked_end f j h = rw (literals_end j h)

  pub assigned_end : (k : ℕ) → r.assigned ≤ k → assigned_from k ≡ []
  unfolding assigned_from
  assigned_end k h = used_end assignment_of r.assigned r.assignments k h

  module _ (sh : RuleShaped r) where
    pub literals_next : (j : ℕ) → j < r.tested → r.tested ≤ literal_limit → literals_from j ≡ literal_of (get_or r.literals j zero_literal) ∷ literals_from (j + 1)
    unfolding literals_from
    literals_next j h k = used_next literal_of r.tested r.literals j zero_literal h (omega (arith, sh.literal_places))

    -- A literal that passes gives its pair, another none.
    pub picked_next : (f : model.Literal → Bool) (j : ℕ) → j < r.tested → r.tested ≤ literal_limit → f (literal_of (get_or r.literals j zero_literal)) ≡ true
        → picked_from f j ≡ pair (get_or r.literals j zero_literal).slot (get_or r.literals j zero_literal).value ∷ picked_from f (j + 1)
    unfolding picked_from pairs_where
    picked_next f j h k e = rw (literals_next j h k, e)

    pub picked_over : (f : model.Literal → Bool) (j : ℕ) → j < r.tested → r.tested ≤ literal_limit → f (literal_of (get_or r.literals j zero_literal)) ≡ false → picked_from f j ≡ picked_from f (j + 1)
    unfolding picked_from pairs_where
    picked_over f j h k e = rw (literals_next j h k, e)

    pub assigned_next : (k : ℕ) → k < r.assigned → r.assigned ≤ assignment_limit
        → assigned_from k ≡ pair (get_or r.assignments k zero_assignment).slot (get_or r.assignments k zero_assignment).value ∷ assigned_from (k + 1)
    unfolding assigned_from
    assigned_next k h l = used_next assignment_of r.assigned r.assignments k zero_assignment h (omega (arith, sh.assignment_places))
