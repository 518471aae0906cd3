-- `text::blank_end` meets its contract: sixteen spaces passed over leave what is white.
use Rattle.std.proofs.Common.{◌-◌, ◌≤◌, length, drop, length-drop, arith, refl}
use lib.ListN.{take, length-take}
use Rattle.text.proofs.Steps as steps
use Rattle.text.proofs.blank_end.Goals as goal

pub loop-i-preserved : goal.loop-i-preserved
loop-i-preserved c =
    let i = c.loop-i.i in
    let s = c.args.text.now in
    let w = steps.blank_over s i _ c.starts_with.ensures.value c.loop-i-test.true in
    let b : 16 ≤ length (take (length s - i) (drop i s)) = c.loop-i-test.ensures.bound refl in
    let l = length-drop i s in
    let m = length-take (length s - i) (drop i s) in
    let v = c.loop-i.invariant.1 in
    (omega arith, omega arith)
