-- `strata::least::raise_rule` meets its contract.
use mathlib.Core.Path.{◌≡◌, refl}
use native.Mathlib.Omega.{arith}
use lib.ListN.{get_or}
use Rattle.table.specs.Zero.{zero_rule}
use Rattle.table.specs.Link.{rule_of}
use Rattle.rows.specs.inner.RuleRows.{rows_table}
use Rattle.rows.proofs.RuleRows.{item_rule}
use Rattle.strata.specs.inner.Heights.{asked_at}
use Rattle.strata.proofs.least.raise_rule.Goals.{After-asked-s}
use Rattle.strata.proofs.least.raise_rule.Goals as goal

-- What is asked of the rule at the place.
asks : (c : After-asked-s) → c.asked-s.result ≡ asked_at c.args.high.now (rule_of (get_or (rows_table c.args.rows.now).rules c.args.i zero_rule))
asks c = rw (item_rule c.args.rows.now c.args.i c.index-rows-i.result c.requires.0 c.index-rows-i.is) c.asked-s.ensures

pub returns-then-rows-from : goal.returns-then-rows-from
returns-then-rows-from c = omega (arith, asks (goal.at.returns-then-rows-from c).After-asked-s, c.if-rows-from.true, c.from.ensures)

pub returns-then-s-numbers : goal.returns-then-s-numbers
returns-then-s-numbers c =
    let e = asks (goal.at.returns-then-s-numbers c).After-asked-s in
    (omega (arith, e, c.if-rows-from.false, c.from.ensures), omega (arith, e, c.if-s-numbers.true), refl, refl)

pub returns : goal.returns
returns c =
    let e = asks (goal.at.returns c).After-asked-s in
    (omega (arith, e, c.if-rows-from.false, c.from.ensures), omega (arith, e, c.if-s-numbers.false), rw e refl, rw (← e) (rw (item_rule c.args.rows.now c.args.i c.index-rows-i.result c.requires.0 c.index-rows-i.is) c.raise.ensures))
