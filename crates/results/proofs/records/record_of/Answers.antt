-- `results::records::record_of` meets its contract.
use mathlib.Core.Path.{◌≡◌}
use Prim.Native.Nat.{◌<◌}
use lib.ListN.{length}
use Rattle.laws.specs.Packed.{byte_count, byte_at, pack}
use Rattle.laws.proofs.Fronts.{front_start, front_next}
use native.Mathlib.Omega.{arith}
use Rattle.results.proofs.records.record_of.Goals as goal

pub loop-k-init : goal.loop-k-init
loop-k-init c = front_start _ _

pub loop-k-preserved : goal.loop-k-preserved
loop-k-preserved c =
    let h : c.loop-k.k < length c.args.out.now = omega (arith, c.loop-k-test.true, c.requires.1) in
    rw (c.loop-k.invariant, c.byte_at.ensures) (front_next (byte_at c.args.fired.now) c.loop-k.k c.args.out.now 0 h)

pub returns : goal.returns
unfolding pack
returns c =
    let e : c.loop-k.k ≡ byte_count (length c.args.fired.now) = omega arith in
    rw e at c.loop-k.invariant
