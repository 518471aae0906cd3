-- `circles::link` meets its contract.
use Prim.Native.Nat.{◌%◌}
use native.Mathlib.Nat.{one-mul}
use lib.Pow.{shl_exact}
use Rattle.circles.specs.inner.Links.{add_link}
use native.Mathlib.Omega.{arith}
use Rattle.circles.proofs.link.Goals as goal

pub returns : goal.returns
unfolding add_link
returns c = rw (shl_exact {a = 1} 1 (c.args.q % 64) 64 (omega arith) (omega arith), one-mul)
