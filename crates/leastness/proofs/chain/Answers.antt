-- `leastness::chain` meets its contract.
use Rattle.leastness.proofs.Chains.{at_level, off_level}
use Rattle.leastness.proofs.chain.Goals as goal

pub returns-then-h-s : goal.returns-then-h-s
returns-then-h-s c = at_level c.args.high.now c.args.s c.args.k c.args.o c.args.heads.now c.args.nexts.now c.if-h-s.true

pub returns-else-h-s : goal.returns-else-h-s
returns-else-h-s c = off_level c.args.high.now c.args.s c.args.k c.args.o c.args.heads.now c.args.nexts.now c.if-h-s.false
