-- `results::ending::changed_value` meets its contract.
use mathlib.Core.Path.{◌≡◌, refl}
use Rattle.laws.specs.Limits.{row}
use native.Mathlib.Omega.{arith}
use Rattle.results.proofs.Values.{none_start, none_next, value_found, value_none}
use borrow.Author.Rules.{rules}
use Rattle.results.proofs.ending.changed_value.Goals as goal

pub loop-lowest-init : goal.loop-lowest-init
loop-lowest-init c = none_start _ _

pub returns-then-changes-base : goal.returns-then-changes-base
returns-then-changes-base c = (search rules, value_found c.args.changes.now c.args.slot c.loop-lowest.lowest (search rules) c.if-changes-base.true c.loop-lowest.invariant)

pub loop-lowest-preserved : goal.loop-lowest-preserved
loop-lowest-preserved c = none_next c.args.changes.now c.args.slot c.loop-lowest.lowest (search rules) c.if-changes-base.false c.loop-lowest.invariant

pub returns : goal.returns
returns c =
    let e : c.loop-lowest.lowest ≡ row = omega arith in
    value_none c.args.changes.now c.args.slot row refl (rw e at c.loop-lowest.invariant)
