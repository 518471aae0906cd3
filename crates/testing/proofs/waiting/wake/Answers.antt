-- `testing::waiting::wake` meets its contract.
use Rattle.testing.proofs.Lists.{waiting_less}
use Rattle.testing.proofs.waiting.wake.Goals.{After-from-i}
use Rattle.testing.proofs.waiting.wake.Goals as goal

pub returns : goal.returns
returns c =
    (waiting_less _ _ _ _ c.requires.3, c.loop-top.invariant.2)
