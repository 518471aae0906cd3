-- `soundness::right::has_pair` meets its contract.
use lib.ListN.{length}
use mathlib.Core.Path.{◌≡◌, sym, ◌∙◌}
use Rattle.model.specs.Result.{pair}
use borrow.Author.Tests.{lt-leb, not-true, not-false}
use Rattle.laws.specs.Limits.{value_limit}
use Rattle.names.specs.Names.{has_slot}
use Rattle.names.proofs.Names.{slot_inside}
use Rattle.soundness.proofs.RuleTests.{pair_lacking, pair_beyond, pair_within}
use mathlib.Core.Bool.{true}
use native.Mathlib.Omega.{arith}
use Rattle.soundness.proofs.right.has_pair.Goals.{Else-not-has_slot}
use Rattle.soundness.proofs.right.has_pair.Goals as goal

there : (c : Else-not-has_slot) → has_slot (length c.args.counts.now) c.args.slot ≡ true
there c = rw (← c.from-s.ensures) (sym c.has_slot.ensures ∙ not-false c.has_slot.result c.if-not-has_slot.false-raw)

pub returns-then-not-has_slot : goal.returns-then-not-has_slot
returns-then-not-has_slot c = sym (pair_lacking (length c.args.counts.now) c.args.counts.now (pair c.args.slot c.args.value) (rw (← c.from-s.ensures) (sym c.has_slot.ensures ∙ not-true c.has_slot.result c.if-not-has_slot.true-raw)))

pub offset_bounds-counts-s : goal.offset_bounds-counts-s
offset_bounds-counts-s c = omega (arith, (slot_inside _ _ (there (goal.at.offset_bounds-counts-s c).Else-not-has_slot)).0, c.from-s.ensures)

pub bounds-counts-s : goal.bounds-counts-s
bounds-counts-s c = omega (arith, (slot_inside _ _ (there (goal.at.bounds-counts-s c).Else-not-has_slot)).1, c.from-s.ensures)

pub returns-then-v-le-VALUES : goal.returns-then-v-le-VALUES
returns-then-v-le-VALUES c =
    rw (c.from-v.ensures, c.from-s.ensures)
    (sym (pair_within (length c.args.counts.now) c.args.counts.now (pair c.args.slot c.args.value) (there (goal.at.returns-then-v-le-VALUES c).Else-not-has_slot) (omega (arith, c.if-v-le-VALUES.true, c.from-v.ensures))))

pub returns-else-v-le-VALUES : goal.returns-else-v-le-VALUES
returns-else-v-le-VALUES c = lt-leb c.from-v.result value_limit (omega (arith, c.if-v-le-VALUES.false)) ∙ sym (pair_beyond (length c.args.counts.now) c.args.counts.now (pair c.args.slot c.args.value) (there (goal.at.returns-else-v-le-VALUES c).Else-not-has_slot) (omega (arith, c.if-v-le-VALUES.false, c.from-v.ensures)))
