-- `judging::truth::test_truth` meets its contract.
use Rattle.judging.proofs.Tests.{test_at}
use Rattle.judging.proofs.truth.test_truth.Goals as goal

pub returns : goal.returns
returns c = λ S k t e. rw (c.from-at.ensures, e) (test_at S k c.args.number c.requires t)
