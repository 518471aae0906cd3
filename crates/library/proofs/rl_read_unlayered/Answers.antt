-- `library::rl_read_unlayered` meets its contract.
use Rattle.rule_file.specs.Whole.{reading_without_18}
use Rattle.library.proofs.rl_read_unlayered.Goals as goal

pub returns : goal.returns
unfolding reading_without_18
returns c = c.read_numbered.ensures
