-- `marking::waking::chain` meets its contract.
use mathlib.Core.Path.{refl}
use Prim.Native.Nat.{◌+◌, ◌*◌, ◌≤◌}
use Rattle.marking.proofs.Chains.{chained_past}
use native.Mathlib.Omega.{arith}
use borrow.Author.Rules.{rules}
use Rattle.marking.proofs.waking.chain.Goals.{then-is_becomes, else-is_becomes}
use Rattle.marking.proofs.waking.chain.Goals as goal

pub literals-init : goal.literals-init
literals-init c = (refl, λ w. chained_past (c.args.i * 9 + 1) (c.args.i * 9 + 1 + 0) _ _ (omega arith) (search rules) w)

pub literals-preserved : goal.literals-preserved
literals-preserved c =
    let first = c.args.i * 9 in (
      search rules,
      λ w.
          let past = c.literals.invariant.1 w in
          elim c.if-is_becomes.branch [
            | then-is_becomes v ↦ rw (v.heads-is, v.nexts-is) (chained_past (first + 1 + c.literals.j + 1) (first + 1 + (c.literals.j + 1)) _ _ (omega arith) (search rules) (v.link-then-is_becomes.ensures past))
            | else-is_becomes v ↦ rw (v.heads-is, v.nexts-is) (chained_past (first + 1 + c.literals.j) (first + 1 + (c.literals.j + 1)) _ _ (omega arith) (search rules) past)
          ],
    )

pub returns : goal.returns
returns c =
    let few : c.args.i * 9 + 1 + c.literals.j ≤ (c.args.i + 1) * 9 = omega (arith, c.args.row.now.fits.few_literals, c.tested-j-end.ensures) in
    λ w. chained_past _ _ _ _ few (search rules) (c.literals.invariant.1 (c.link.ensures w))
