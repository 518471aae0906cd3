use lib.ListN.{length}
use Rattle.strata.proofs.Visits.{Searching}
use Rattle.strata.proofs.order.order_of.Given as goal

abbrev pub invariant-search : goal.invariant-search
invariant-search l = Searching (length l.rows) l.order l.heads l.stack l.opens l.tail l.opened l.top l.found

abbrev pub decreases-search : goal.decreases-search
decreases-search l = l.left
