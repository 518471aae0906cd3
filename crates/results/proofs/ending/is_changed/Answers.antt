-- `results::ending::is_changed` meets its contract.
use Rattle.results.proofs.Values.{changed_start, changed_next}
use borrow.Author.Rules.{rules}
use Rattle.results.proofs.ending.is_changed.Goals as goal

pub loop-v-init : goal.loop-v-init
loop-v-init c = changed_start _ _

pub loop-v-preserved : goal.loop-v-preserved
loop-v-preserved c = changed_next c.args.changes.now c.args.slot c.loop-v.v c.loop-v.found (search rules) c.loop-v.invariant
