-- `marking::pairs::rule_out` meets its contract.
use mathlib.Core.Path.{refl}
use Rattle.marking.specs.inner.Marked.{ruled_out}
use Rattle.marking.proofs.pairs.rule_out.Goals as goal

pub returns : goal.returns
unfolding ruled_out
returns c = (refl, c.wake.ensures)
