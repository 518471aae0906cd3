-- `sheet::Sheet::put_test` meets its contract.
use Rattle.laws.specs.Quoted.{bytes_from, bytes}
use Rattle.writing.specs.inner.Written.{test_bytes}
use Rattle.writing.proofs.sheet.Sheet.put_test.Goals as goal

pub put_pair-requires : goal.put_pair-requires
unfolding test_bytes bytes bytes_from
put_pair-requires c = (c.requires.0, rw c.if-l.true at c.requires.1)

pub returns-then-l : goal.returns-then-l
unfolding test_bytes bytes bytes_from
returns-then-l c = rw c.if-l.true c.put_pair.ensures

pub put_pair-requires-2 : goal.put_pair-requires-2
unfolding test_bytes bytes bytes_from
put_pair-requires-2 c = (c.requires.0, rw c.if-l.false at c.requires.1)

pub returns : goal.returns
unfolding test_bytes bytes bytes_from
returns c =
    rw c.if-l.false c.put_pair-2.ensures
