-- `steps::lookup::find` meets its contract.
use mathlib.Core.Path.{sym, refl, ◌∙◌}
use mathlib.Core.Bool.{false}
use Rattle.steps.proofs.Spans.{key_other, left_start, left_next}
use Rattle.steps.proofs.lookup.find.Goals.{else-span-key-via-then-span-key+else-is_at, else-span-key-via-else-span-key}
use Rattle.steps.proofs.lookup.find.Goals as goal

pub loop-i-init : goal.loop-i-init
loop-i-init c = λ names n. left_start _ _ _ names n

pub loop-i-preserved : goal.loop-i-preserved
loop-i-preserved c =
    let i = c.loop-i.i in
    λ names n. elim c.else-span-key.branch [
      | else-span-key-via-then-span-key+else-is_at w ↦ left_next _ _ _ names i _ (c.loop-i.invariant names n) c.loop-i-test.true c.if-span-eq0.false w.is_at.ensures w.if-is_at.false
      | else-span-key-via-else-span-key w ↦ left_next _ _ _ names i false (c.loop-i.invariant names n) c.loop-i-test.true c.if-span-eq0.false
          (λ s. sym (key_other _ _ (λ e. w.if-span-key.false (s.key ∙ e ∙ sym c.key_of-key.ensures.0)))) refl
    ]
