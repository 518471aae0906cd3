-- `response::respond_in` meets its contract.
use Prim.Native.Nat.{ℕ}
use native.Mathlib.Omega.{arith}
use mathlib.Core.Path.{sym, ap}
use mathlib.Core.Bool.{false}
use lib.ListN.{replicate, length-replicate}
use Rattle.response.proofs.respond_in.Goals as goal

pub conclude-requires : goal.conclude-requires
conclude-requires g c =
    let l = length-replicate g.row.N false in
    ((c.args.t.now, c.enter-entry.ensures.entered), record { room = omega (arith, l, c.enter-entry.array_long); none = ap (λ (k : ℕ). replicate k false) (sym l) })

pub returns : goal.returns
returns g c = c.conclude.ensures c.args.t.now c.enter-entry.ensures.entered
