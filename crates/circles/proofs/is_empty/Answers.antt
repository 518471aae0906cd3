-- `circles::is_empty` meets its contract.
use mathlib.Core.Path.{◌≡◌, refl, sym, ◌∙◌}
use Prim.Native.Nat.{◌+◌, ◌-◌}
use Rattle.circles.specs.inner.Links.{pair_words, is_empty}
use Rattle.circles.proofs.Leading.{empty_start, empty_over, empty_not}
use native.Mathlib.Omega.{arith}
use Rattle.circles.proofs.is_empty.Goals.{In-loop-w}
use Rattle.circles.proofs.is_empty.Goals as goal

-- The word at hand is the last of those left.
last : (c : In-loop-w) →
    is_empty c.args.links.now c.args.p (c.loop-w.w - 1 + 1) ≡ is_empty c.args.links.now c.args.p pair_words
last c =
    let e : c.loop-w.w - 1 + 1 ≡ c.loop-w.w = omega arith in
    rw e c.loop-w.invariant

pub loop-w-init : goal.loop-w-init
loop-w-init c = refl

pub returns-then-word-ne0 : goal.returns-then-word-ne0
returns-then-word-ne0 c = sym (empty_not c.args.links.now c.args.p (c.loop-w.w - 1) c.if-word-ne0.true) ∙ last (goal.at.returns-then-word-ne0 c).In-loop-w

pub loop-w-preserved : goal.loop-w-preserved
loop-w-preserved c = sym (empty_over c.args.links.now c.args.p (c.loop-w.w - 1) (omega (arith, c.if-word-ne0.false))) ∙ last (goal.at.loop-w-preserved c).In-loop-w

pub returns : goal.returns
returns c =
    let e : c.loop-w.w ≡ 0 = omega arith in
    sym (empty_start c.args.links.now c.args.p) ∙ (rw e at c.loop-w.invariant)
