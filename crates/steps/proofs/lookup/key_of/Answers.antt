-- `steps::lookup::key_of` meets its contract.
use Prim.Native.Nat.{◌<◌}
use native.Mathlib.Omega.{arith}
use borrow.Author.Rules.{rules}
use Rattle.steps.specs.inner.Spans.{key_of}
use Rattle.steps.proofs.Spans as spans
use Rattle.steps.proofs.lookup.key_of.Goals as goal

pub returns-then-size-eq0 : goal.returns-then-size-eq0
returns-then-size-eq0 c = (spans.key_empty c.args.name.now c.if-size-eq0.true, omega arith)

pub returns : goal.returns
unfolding key_of
returns c =
    let x : c.from-first.result < 256 = search rules in
    let y : c.from-middle.result < 256 = search rules in
    let z : c.from-last.result < 256 = search rules in
    (rw (c.from-first.ensures, c.from-middle.ensures, c.from-last.ensures), omega (arith, x, y, z))
