-- `leastness::is_low` meets its contract.
use mathlib.Core.Path.{◌∙◌, sym, ap}
use mathlib.Core.Bool.{true≢false, false≢true}
use mathlib.Core.List.{[]}
use Prim.Native.Nat.{◌≤◌}
use lib.ListN.{get_or, length}
use Rattle.rows.specs.inner.RuleRows.{numbers_of, rows_table}
use Rattle.rows.proofs.Laws.{at_last}
use Rattle.rows.proofs.RuleRows.{all_count, all_table_fits, all_shaped, item_rule, item_numbers}
use Rattle.table.specs.declared.Rule.{Rule}
use Rattle.leastness.proofs.Carried.{not_low}
use native.Mathlib.Omega.{arith}
use Rattle.leastness.proofs.is_low.Goals as goal

pub loop-row-init : goal.loop-row-init
loop-row-init c = λ k h. absurd (let z = h in omega arith)

pub returns-then-rows-from : goal.returns-then-rows-from
returns-then-rows-from c =
    let n = all_count c.args.rows.now in (
      λ z. absurd (false≢true z),
      λ z. not_low (rows_table c.args.rows.now) (all_table_fits c.args.rows.now c.requires) (all_shaped c.args.rows.now c.requires) c.loop-row.row-index c.from.result (omega (arith, n, c.loop-row-test.true))
          (c.from.ensures ∙ c.stratum.ensures ∙ sym (ap (λ (r : Rule). r.stratum) (item_rule c.args.rows.now c.loop-row.row-index c.row-item.result c.loop-row-test.true c.row-item.is))) (omega (arith, n, c.if-rows-from.true)),
    )

pub loop-row-preserved : goal.loop-row-preserved
loop-row-preserved c = at_last (λ k. get_or (get_or (numbers_of c.args.rows.now) k []) 3 0 ≤ length c.args.rows.now) c.loop-row.row-index c.loop-row.invariant
    (rw (item_numbers c.args.rows.now c.loop-row.row-index c.row-item.result c.loop-row-test.true c.row-item.is) (omega (arith, c.from.ensures, c.stratum.ensures, c.if-rows-from.false)))

pub returns : goal.returns
returns c = (λ z. record { each = λ i h. c.loop-row.invariant i (omega (arith, h, c.loop-row-test.false)) }, λ z. absurd (true≢false z))
