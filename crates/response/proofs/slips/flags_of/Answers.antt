-- `response::slips::flags_of` meets its contract.
use Rattle.table.specs.inner.Flat.{add_pairs}
use Rattle.response.proofs.SlipLaws.{changes_next, changes_end}
use borrow.Author.Rules.{rules}
use Rattle.response.proofs.slips.flags_of.Goals as goal

pub loop-j-preserved : goal.loop-j-preserved
unfolding add_pairs
loop-j-preserved c = rw c.place-at.ensures.is (rw (changes_next c.args.slip c.loop-j.j (search rules)) at c.loop-j.invariant)

pub returns : goal.returns
unfolding add_pairs
returns c = rw (changes_end c.args.slip c.loop-j.j (search rules)) at c.loop-j.invariant
