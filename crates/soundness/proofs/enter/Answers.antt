-- `soundness::enter` meets its contract.
use mathlib.Core.Path.{◌≡◌, refl, sym, ◌∙◌}
use mathlib.Core.Bool.{true}
use Prim.Native.Nat.{◌≤◌, ◌<◌}
use lib.ListN.{length, get_or, length-set}
use Rattle.std.proofs.lemmas.List.{drop-set-lt}
use borrow.Author.Tests.{not-true, not-false}
use Rattle.laws.proofs.Equations.{from_true}
use Rattle.table.specs.Zero.{zero_rule}
use Rattle.table.specs.inner.Shape.{Shaped}
use Rattle.table.proofs.Shape.{lent_shaped}
use Rattle.rows.proofs.RuleRows.{entered_in_next}
use Rattle.soundness.specs.inner.Right.{rule_right}
use Rattle.soundness.proofs.WellFormed.{Counted, counted_start, counted_step, right_start, right_more, right_fits, right_cut, many_slots, no_values, many_values, many_rules, wrong_rule, all_right}
use Rattle.soundness.proofs.Admitted.{admitted}
use native.Mathlib.Omega.{arith}
use borrow.Author.Rules.{rules}
use Rattle.soundness.proofs.enter.Goals.{After-is_right, then-count-lt1-via-then-count-lt1, then-count-lt1-via-else-count-lt1+then-count-gt-VALUES, After-slots, Else-n-gt-RULES, Else-not-is_right, Start}
use Rattle.soundness.proofs.enter.Given.{Over}
use Rattle.soundness.proofs.enter.Goals as goal

shape : (g : Over) (c : Start g) → Shaped c.args.t.now
shape g c = lent_shaped c.args.t.now c.fits-t

-- All slots are counted.
full : (g : Over) (c : After-slots g) → Counted c.args.t.now c.args.t.now.width c.slots.counts
full g c = let e : c.slots.k ≡ c.args.t.now.width = omega arith in rw e at c.slots.invariant

-- There is a row for each rule.
room : (g : Over) (c : Else-n-gt-RULES g) → c.args.t.now.count ≤ length c.args.rows.now
room g c = c.requires.0 (search rules)

-- The test of the rule at hand is that by all counts and the number of slots.
tested : (g : Over) (c : After-is_right g) → c.is_right.result ≡ rule_right c.args.t.now.width c.slots.counts (get_or c.args.t.now.rules c.rules.i zero_rule)
tested g c = c.is_right.ensures ∙ right_cut c.args.t.now.width c.slots.counts (omega (arith, c.slots.invariant.places, c.if-width-gt-SLOTS.false)) (get_or c.args.t.now.rules c.rules.i zero_rule)

-- The rule at hand is right.
right : (g : Over) (c : Else-not-is_right g) → rule_right c.args.t.now.width c.slots.counts (get_or c.args.t.now.rules c.rules.i zero_rule) ≡ true
right g c = sym (tested g (goal.at.Else-not-is_right g c).After-is_right) ∙ not-false c.is_right.result c.if-not-is_right.false-raw

pub returns-then-width-gt-SLOTS-clause-entered : goal.returns-then-width-gt-SLOTS-clause-entered
returns-then-width-gt-SLOTS-clause-entered g c = many_slots c.args.t.now (shape g (goal.at.returns-then-width-gt-SLOTS-clause-entered g c).Start) c.if-width-gt-SLOTS.true

pub slots-init : goal.slots-init
slots-init g c = counted_start c.args.t.now _ c.requires.1

pub returns-then-count-lt1-clause-entered : goal.returns-then-count-lt1-clause-entered
returns-then-count-lt1-clause-entered g c = elim c.then-count-lt1.branch [
  | then-count-lt1-via-then-count-lt1 w ↦ no_values c.args.t.now (shape g (goal.at.returns-then-count-lt1-clause-entered g c).Start) c.slots.k (search rules) (omega (arith, w.if-count-lt1.true, c.from-count.ensures))
  | then-count-lt1-via-else-count-lt1+then-count-gt-VALUES w ↦ many_values c.args.t.now (shape g (goal.at.returns-then-count-lt1-clause-entered g c).Start) c.slots.k (search rules) (omega (arith, w.if-count-gt-VALUES.true, c.from-count.ensures))
]

pub slots-preserved : goal.slots-preserved
slots-preserved g c =
    let w = c.from-count.ensures in
    rw w (counted_step c.args.t.now c.slots.k c.slots.counts (search rules) (omega (arith, c.if-count-lt1.false, w)) (omega (arith, c.if-count-gt-VALUES.false, w)) c.slots.invariant)

pub returns-then-n-gt-RULES-clause-entered : goal.returns-then-n-gt-RULES-clause-entered
returns-then-n-gt-RULES-clause-entered g c = many_rules c.args.t.now (shape g (goal.at.returns-then-n-gt-RULES-clause-entered g c).Start) c.if-n-gt-RULES.true

pub rules-init : goal.rules-init
rules-init g c = (refl, refl, right_start _ _, λ i l. absurd (let z = l in omega arith))

pub returns-then-not-is_right-clause-entered : goal.returns-then-not-is_right-clause-entered
returns-then-not-is_right-clause-entered g c = wrong_rule c.args.t.now (shape g (goal.at.returns-then-not-is_right-clause-entered g c).Start) c.slots.counts (full g (goal.at.returns-then-not-is_right-clause-entered g c).After-slots) c.rules.i (search rules) (sym (tested g (goal.at.returns-then-not-is_right-clause-entered g c).After-is_right) ∙ not-true c.is_right.result c.if-not-is_right.true-raw)

pub bounds-rows-i : goal.bounds-rows-i
bounds-rows-i g c = omega (arith, room g (goal.at.bounds-rows-i g c).Else-n-gt-RULES, c.rules.invariant.0, c.rules-test.true)

pub of-requires : goal.of-requires
of-requires g c =
    let h : c.rules.i < c.args.t.now.count = search rules in
    right_fits c.args.t.now.width c.slots.counts (get_or c.args.t.now.rules c.rules.i zero_rule) ((shape g (goal.at.of-requires g c).Start).each_rule c.rules.i (omega (arith, h, (shape g (goal.at.of-requires g c).Start).rule_places (search rules)))) (from_true _ (right g (goal.at.of-requires g c).Else-not-is_right))

pub rules-preserved : goal.rules-preserved
rules-preserved g c = (length-set c.rules.rows _ _ ∙ c.rules.invariant.0, drop-set-lt c.args.t.now.count c.rules.rows c.rules.i _ (search rules) ∙ c.rules.invariant.1, right_more c.args.t.now c.slots.counts c.rules.i (right g (goal.at.rules-preserved g c).Else-not-is_right) c.rules.invariant.2, entered_in_next g.P.RowPlace.numbers c.args.t.now.rules c.rules.rows c.rules.i _ (omega (arith, room g (goal.at.rules-preserved g c).Else-n-gt-RULES, c.rules.invariant.0, c.rules-test.true)) (rw c.put.ensures c.of.ensures) c.rules.invariant.3)

pub returns-clause-entered : goal.returns-clause-entered
returns-clause-entered g c =
    let e : c.rules.i ≡ c.args.t.now.count = omega arith in (
      all_right c.args.t.now (shape g (goal.at.returns-clause-entered g c).Start) c.slots.counts (full g (goal.at.returns-clause-entered g c).After-slots) (search rules) (search rules) (rw e at c.rules.invariant.2),
      record {
        width_is = refl;
        count_is = refl;
        shaped = shape g (goal.at.returns-clause-entered g c).Start;
        admitted = admitted g.P.RowPlace.numbers c.args.t.now c.slots.counts c.rules.rows (shape g (goal.at.returns-clause-entered g c).Start) (search rules) (omega (arith, room g (goal.at.returns-clause-entered g c).Else-n-gt-RULES, c.rules.invariant.0)) (full g (goal.at.returns-clause-entered g c).After-slots) (rw e at c.rules.invariant.3);
      },
    )
