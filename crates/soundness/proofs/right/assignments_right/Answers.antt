-- `soundness::right::assignments_right` meets its contract.
use mathlib.Core.Path.{◌≡◌, refl, sym, ◌∙◌}
use Prim.Native.Nat.{◌+◌}
use Rattle.table.proofs.Shape.{rule_shaped}
use Rattle.table.specs.Zero.{zero_assignment}
use Rattle.table.specs.inner.Shape.{RuleShaped}
use lib.ListN.{length, get_or}
use mathlib.Core.List.{◌∷◌}
use Rattle.model.specs.Result.{pair}
use borrow.Author.Tests.{not-true, not-false}
use Rattle.laws.specs.Truth.{◌∧ᵇ◌}
use Rattle.laws.specs.Listed.{all_of}
use Rattle.table.specs.Link.{assignments_of}
use Rattle.table.proofs.Walks.{assigned_from, assigned_start, assigned_drop, assigned_end, assigned_next}
use Rattle.soundness.specs.Sound.{has_pair}
use Rattle.model.specs.Rules.{each_once}
use Rattle.soundness.proofs.RuleTests.{both_right, both_lacking, both_twice, both_on, both_none}
use borrow.Author.Rules.{rules}
use Rattle.soundness.proofs.right.assignments_right.Goals.{After-a-1, Start}
use Rattle.soundness.proofs.right.assignments_right.Goals as goal

shape : (c : Start) → RuleShaped c.args.r
shape c = rule_shaped c.args.r _ c.well_formed.0

all : (s : Start) → both_right (has_pair (length s.args.counts.now) s.args.counts.now) (assigned_from s.args.r 0) ≡ (all_of (has_pair (length s.args.counts.now) s.args.counts.now) (assignments_of s.args.r) ∧ᵇ each_once (assignments_of s.args.r))
unfolding both_right
all s = rw (assigned_start s.args.r)

-- The assignment at hand is the next.
first : (c : After-a-1) →
    both_right (has_pair (length c.args.counts.now) c.args.counts.now) (pair (get_or c.args.r.assignments c.loop-k.k zero_assignment).slot (get_or c.args.r.assignments c.loop-k.k zero_assignment).value ∷ assigned_from c.args.r (c.loop-k.k + 1))
    ≡ both_right (has_pair (length c.args.counts.now) c.args.counts.now) (assigned_from c.args.r 0)
first c = rw (assigned_next c.args.r ((let it : RuleShaped c.args.r = rule_shaped c.args.r _ c.well_formed.0 in it)) c.loop-k.k (search rules) c.requires) at c.loop-k.invariant

pub loop-k-init : goal.loop-k-init
loop-k-init c = refl

pub returns-then-not-has_pair : goal.returns-then-not-has_pair
returns-then-not-has_pair c = sym (both_lacking (has_pair (length c.args.counts.now) c.args.counts.now) _ _ (sym c.has_pair.ensures ∙ not-true c.has_pair.result c.if-not-has_pair.true-raw)) ∙ first (goal.at.returns-then-not-has_pair c).After-a-1 ∙ all (goal.at.returns-then-not-has_pair c).Start

pub returns-then-assigned_from : goal.returns-then-assigned_from
returns-then-assigned_from c = sym (both_twice (has_pair (length c.args.counts.now) c.args.counts.now) _ _ (sym c.has_pair.ensures ∙ not-false c.has_pair.result c.if-not-has_pair.false-raw) (rw (assigned_drop c.args.r (c.loop-k.k + 1)) (sym c.assigned_from.ensures ∙ c.if-assigned_from.true))) ∙ first (goal.at.returns-then-assigned_from c).After-a-1 ∙ all (goal.at.returns-then-assigned_from c).Start

pub loop-k-preserved : goal.loop-k-preserved
loop-k-preserved c = sym (both_on (has_pair (length c.args.counts.now) c.args.counts.now) _ _ (sym c.has_pair.ensures ∙ not-false c.has_pair.result c.if-not-has_pair.false-raw) (rw (assigned_drop c.args.r (c.loop-k.k + 1)) (sym c.assigned_from.ensures ∙ c.if-assigned_from.false))) ∙ first (goal.at.loop-k-preserved c).After-a-1

pub returns : goal.returns
returns c =
    sym (both_none (has_pair (length c.args.counts.now) c.args.counts.now)) ∙ (rw (assigned_end c.args.r c.loop-k.k (search rules)) at c.loop-k.invariant) ∙ all (goal.at.returns c).Start
