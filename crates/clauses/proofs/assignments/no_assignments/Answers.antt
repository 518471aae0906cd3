-- `clauses::assignments::no_assignments` meets its contract.
use Rattle.laws.specs.Filled.{filled}
use Rattle.clauses.proofs.assignments.no_assignments.Goals as goal

pub returns : goal.returns
unfolding filled
returns c = c.new.ensures
