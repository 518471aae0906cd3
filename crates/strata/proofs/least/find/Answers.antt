-- `strata::least::find` meets its contract.
use mathlib.Core.Path.{◌≡◌, refl}
use Prim.Native.Nat.{◌-◌, ◌<◌}
use native.Mathlib.Omega.{arith}
use borrow.Author.Rules.{rules}
use lib.ListN.{length}
use Rattle.table.specs.declared.Table.{Table}
use Rattle.table.specs.inner.Fits.{TableFits}
use Rattle.table.specs.inner.Shape.{Shaped}
use Rattle.rows.specs.inner.RuleRows.{rows_table}
use Rattle.rows.proofs.RuleRows.{all_count, all_table_fits, all_shaped}
use Rattle.strata.specs.inner.Visits.{visit_limit}
use Rattle.strata.proofs.Visits.{most_none, visits_within}
use Rattle.strata.proofs.Rising.{rising_start, rising_small, quiet_start, risen_start, visited_risen, visited_quiet, visited_circled, rest_least, pass_falls}
use Rattle.strata.proofs.least.find.Goals.{After-from, Start}
use Rattle.strata.proofs.least.find.Goals as goal

-- The table that the rows stand for.
abbrev table : Start → Table
table s = rows_table s.args.rows.now

fits : (s : Start) → TableFits (table s)
fits s = all_table_fits s.args.rows.now s.requires.0

shape : (s : Start) → Shaped (table s)
shape s = all_shaped s.args.rows.now s.requires.0

-- The rule visited.
visited : (c : After-from) → c.from.result < length c.args.rows.now
visited c = rw c.from.ensures (visits_within _ _ _ c.order_of-tail.ensures c.visits.k (search rules))

pub order_of-tail-requires : goal.order_of-tail-requires
order_of-tail-requires c = (c.requires.0, most_none visit_limit (length c.args.rows.now - 1))

pub rounds-init : goal.rounds-init
rounds-init c = rw c.requires.1 (rising_start (table (goal.at.rounds-init c).Start) (fits (goal.at.rounds-init c).Start) (shape (goal.at.rounds-init c).Start))

pub rounds-smaller : goal.rounds-smaller
rounds-smaller c = rw c.rounds-test.true (pass_falls (table (goal.at.rounds-smaller c).Start) c.rounds.numbers c.visits.numbers c.visits.high c.visits.raised c.visits.invariant)

pub raise_rule-requires : goal.raise_rule-requires
raise_rule-requires c = (visited (goal.at.raise_rule-requires c).After-from, c.requires.0, rising_small (table (goal.at.raise_rule-requires c).Start) (fits (goal.at.raise_rule-requires c).Start) (shape (goal.at.raise_rule-requires c).Start) c.visits.numbers c.visits.high c.visits.invariant.rising)

pub returns-in-None : goal.returns-in-None
returns-in-None c = (
  c.without_circle-in-None.ensures,
  λ z. absurd (visited_circled (table (goal.at.returns-in-None c).Start) (fits (goal.at.returns-in-None c).Start) (shape (goal.at.returns-in-None c).Start) (length c.args.rows.now) c.from.result c.visits.numbers c.visits.high c.visits.numbers c.visits.high (all_count c.args.rows.now)
      (rw (all_count c.args.rows.now) (visited (goal.at.returns-in-None c).After-from)) c.in-None.ensures c.visits.invariant.rising z),
)

pub visits-preserved : goal.visits-preserved
visits-preserved c = visited_risen (table (goal.at.visits-preserved c).Start) (fits (goal.at.visits-preserved c).Start) (shape (goal.at.visits-preserved c).Start) _ (length c.args.rows.now) c.from.result c.visits.numbers c.visits.high _ _ _ _ (all_count c.args.rows.now)
    (rw (all_count c.args.rows.now) (visited (goal.at.visits-preserved c).After-from)) c.in-Some.ensures c.visits.invariant

pub rules-init : goal.rules-init
rules-init c = (risen_start (table (goal.at.rules-init c).Start) (fits (goal.at.rules-init c).Start) (shape (goal.at.rules-init c).Start) _ _ c.passes.invariant.0, λ z. quiet_start (table (goal.at.rules-init c).Start) (fits (goal.at.rules-init c).Start) (shape (goal.at.rules-init c).Start) _ _)

pub passes-smaller : goal.passes-smaller
passes-smaller c = rw c.passes-test.true (pass_falls (table (goal.at.passes-smaller c).Start) c.passes.numbers c.rules.numbers c.rules.high c.rules.moved c.rules.invariant.0)

pub passes-preserved : goal.passes-preserved
passes-preserved c =
    let e : c.rules.i ≡ (table (goal.at.passes-preserved c).Start).count = omega (arith, all_count c.args.rows.now) in
    (c.rules.invariant.0.rising, λ z. rw e at (c.rules.invariant.1 z))

pub raise_rule-requires-in-rules : goal.raise_rule-requires-in-rules
raise_rule-requires-in-rules c = (search rules, c.requires.0, rising_small (table (goal.at.raise_rule-requires-in-rules c).Start) (fits (goal.at.raise_rule-requires-in-rules c).Start) (shape (goal.at.raise_rule-requires-in-rules c).Start) c.rules.numbers c.rules.high c.rules.invariant.0.rising)

pub returns-in-None-raise_rule : goal.returns-in-None-raise_rule
returns-in-None-raise_rule c = (
  c.without_circle-in-None-raise_rule.ensures,
  λ z. absurd (visited_circled (table (goal.at.returns-in-None-raise_rule c).Start) (fits (goal.at.returns-in-None-raise_rule c).Start) (shape (goal.at.returns-in-None-raise_rule c).Start) (length c.args.rows.now) c.rules.i c.rules.numbers c.rules.high c.rules.numbers c.rules.high (all_count c.args.rows.now)
      (omega (arith, all_count c.args.rows.now)) c.in-None-raise_rule.ensures c.rules.invariant.0.rising z),
)

pub rules-preserved : goal.rules-preserved
rules-preserved c =
    let l : c.rules.i < (rows_table c.args.rows.now).count = omega (arith, all_count c.args.rows.now) in (
      visited_risen (table (goal.at.rules-preserved c).Start) (fits (goal.at.rules-preserved c).Start) (shape (goal.at.rules-preserved c).Start) _ (length c.args.rows.now) c.rules.i c.rules.numbers c.rules.high c.raise_rule-in-rules.new.numbers c.raise_rule-in-rules.new.high c.rules.moved c.in-Some-raise_rule.risen (all_count c.args.rows.now) l c.in-Some-raise_rule.ensures c.rules.invariant.0,
      visited_quiet (table (goal.at.rules-preserved c).Start) (fits (goal.at.rules-preserved c).Start) (shape (goal.at.rules-preserved c).Start) (length c.args.rows.now) c.rules.i c.rules.numbers c.rules.high c.raise_rule-in-rules.new.numbers c.raise_rule-in-rules.new.high c.rules.moved c.in-Some-raise_rule.risen (all_count c.args.rows.now) l c.in-Some-raise_rule.ensures c.rules.invariant.1,
    )

pub returns : goal.returns
returns c =
    let w = rest_least (table (goal.at.returns c).Start) (fits (goal.at.returns c).Start) (shape (goal.at.returns c).Start) c.passes.numbers c.passes.high c.passes.invariant.0 (c.passes.invariant.1 c.passes-test.false) in
    (rw w.0 refl, λ z. w.1)
