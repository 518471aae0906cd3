-- `marking::waking::link` meets its contract.
use Rattle.marking.proofs.Chains.{chained_more}
use Rattle.marking.proofs.waking.link.Goals as goal

pub returns : goal.returns
returns c = λ w. chained_more _ _ _ _ c.requires.2 w
