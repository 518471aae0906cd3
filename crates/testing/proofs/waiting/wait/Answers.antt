-- `testing::waiting::wait` meets its contract.
use Rattle.testing.proofs.Lists.{waiting_more}
use Rattle.testing.proofs.waiting.wait.Goals as goal

pub returns : goal.returns
returns c = λ n h w. waiting_more n _ _ _ _ h w
