-- `results::records::byte_at` meets its contract.
use mathlib.Core.Path.{◌≡◌, ◌∙◌}
use mathlib.Core.Bool.{false}
use Prim.Native.Nat.{◌+◌, ◌*◌, ◌<◌}
use lib.ListN.{get_or}
use Rattle.results.proofs.Bits.{one_top, until_start, until_next, until_half, until_end}
use native.Mathlib.Omega.{arith}
use borrow.Author.Rules.{rules}
use Rattle.results.proofs.records.byte_at.Goals.{After-bit_at}
use Rattle.results.proofs.records.byte_at.Goals as goal

half : (c : After-bit_at) → c.loop-j.x < 128
half c = rw c.loop-j.invariant (until_half c.args.fired.now c.args.k c.loop-j.j (search rules))

pub loop-j-init : goal.loop-j-init
loop-j-init c = until_start _ _

pub overflow_mul-x : goal.overflow_mul-x
overflow_mul-x c = omega (arith, c.loop-j.invariant, until_half c.args.fired.now c.args.k c.loop-j.j (search rules))

pub overflow_add-x : goal.overflow_add-x
overflow_add-x c =
    let h = half (goal.at.overflow_add-x c).After-bit_at in
    let l = one_top (get_or c.args.fired.now (8 * c.args.k + c.loop-j.j) false) in
    let e = c.bit_at.ensures in
    search rules

pub loop-j-preserved : goal.loop-j-preserved
loop-j-preserved c = rw (c.bit_at.ensures, c.loop-j.invariant) (until_next c.args.fired.now c.args.k c.loop-j.j)

pub returns : goal.returns
returns c =
    let e : c.loop-j.j ≡ 8 = omega arith in
    rw e at c.loop-j.invariant ∙ until_end _ _
