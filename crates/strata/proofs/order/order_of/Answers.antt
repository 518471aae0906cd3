-- `strata::order::order_of` meets its contract.
use Prim.Native.Nat.{◌*◌, ◌-◌}
use lib.ListN.{length}
use native.Mathlib.Omega.{arith}
use Rattle.laws.specs.Limits.{rule_limit, assignment_limit}
use Rattle.table.specs.inner.Flat.{pair_places}
use Rattle.strata.proofs.Visits.{most_none, most_set, most_stretch, search_start, search_led, search_left}
use Rattle.strata.proofs.order.order_of.Goals as goal

pub chain_assigned-requires : goal.chain_assigned-requires
chain_assigned-requires c = (c.requires.0, most_none pair_places (assignment_limit * length c.args.rows.now), most_none (rule_limit * assignment_limit) (assignment_limit * length c.args.rows.now))

pub search-init : goal.search-init
search-init c = search_start (length c.args.rows.now) _ _ c.requires.1 c.chain_assigned.ensures.0

pub close-requires : goal.close-requires
close-requires c = most_stretch _ _ _ _ (most_set _ _ _ _ c.search.invariant.left_open (omega (arith, c.from-v.ensures, c.search.invariant.waiting.each (c.search.top - 1), c.requires.0)))

pub search-preserved-then-top-gt0 : goal.search-preserved-then-top-gt0
search-preserved-then-top-gt0 c = search_left _ _ _ _ _ _ _ _ _ (search_led _ _ _ _ _ _ _ _ _ c.search.invariant _ c.led_to.ensures.1) c.from-v.result (omega (arith, c.from-v.ensures, c.search.invariant.waiting.each (c.search.top - 1), c.requires.0)) (omega arith)

pub search-preserved-else-top-gt0 : goal.search-preserved-else-top-gt0
search-preserved-else-top-gt0 c = search_left _ _ _ _ _ _ _ _ _ (search_led _ _ _ _ _ _ _ _ _ c.search.invariant _ c.led_to.ensures.1) c.from-v.result (omega (arith, c.from-v.ensures, c.search.invariant.waiting.each (c.search.top - 1), c.requires.0)) (omega arith)
