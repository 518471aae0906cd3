-- `library::rl_read` meets its contract.
use Rattle.rule_file.specs.Whole.{reading}
use Rattle.library.proofs.rl_read.Goals as goal

pub returns : goal.returns
unfolding reading
returns c = c.read_numbered.ensures
