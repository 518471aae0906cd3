-- `testing::waiting::next_rule` meets its contract.
use mathlib.Core.Path.{◌∙◌, ap}
use Prim.Native.Nat.{ℕ}
use Rattle.testing.specs.inner.Waiting.{turn_or, turn_of}
use Rattle.testing.proofs.Lists.{turn_any}
use Rattle.testing.proofs.waiting.next_rule.Goals.{then-left-eq0, else-left-eq0}
use Rattle.testing.proofs.waiting.next_rule.Goals as goal

pub returns : goal.returns
unfolding turn_of
returns c =
    c.next_or.ensures
    ∙ elim c.if-left-eq0.branch [
      | then-left-eq0 w ↦ ap (λ (rule : ℕ). turn_or rule c.args.k c.args.woken.now c.args.left) (w.placed-is ∙ w.from-placed.ensures)
      | else-left-eq0 w ↦ turn_any _ c.args.k c.args.woken.now _ c.args.left w.if-left-eq0.false
    ]
