-- `leastness::all_held` meets its contract.
use mathlib.Core.Path.{◌≡◌}
use mathlib.Core.Bool.{true, false}
use Prim.Native.Nat.{◌<◌}
use native.Mathlib.Omega.{arith}
use lib.ListN.{length, get_or}
use borrow.Author.Rules.{rules}
use Rattle.laws.specs.inner.Flags.{all_set}
use Rattle.laws.proofs.Truth.{bool_ext}
use Rattle.laws.proofs.Flags.{all_set_i, all_set_e}
use Rattle.leastness.proofs.all_held.Goals as goal

pub returns-then-not-is_held : goal.returns-then-not-is_held
returns-then-not-is_held c =
    let e : get_or c.args.held.now c.loop-is_held.is_held-index false ≡ false = search rules in
    bool_ext false (all_set c.args.held.now (length c.args.held.now)) (λ u. absurd u)
    (λ u. rw e at (all_set_e c.args.held.now (length c.args.held.now) u c.loop-is_held.is_held-index c.loop-is_held-test.true))

pub returns : goal.returns
returns c =
    bool_ext true (all_set c.args.held.now (length c.args.held.now)) (λ u. all_set_i c.args.held.now (length c.args.held.now) (λ k l. c.loop-is_held.invariant k (omega (arith, l, c.loop-is_held-test.false)))) (λ u. tt)
