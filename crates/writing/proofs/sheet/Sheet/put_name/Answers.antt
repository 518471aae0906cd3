-- `sheet::Sheet::put_name` meets its contract.
use Prim.Native.Nat.{ℕ, ◌+◌, ◌-◌, ◌%◌, ◌≤◌, ◌<◌}
use native.Mathlib.Omega.{arith}
use native.Mathlib.Nat.{add-sub_cancel_left}
use mathlib.Core.Path.{◌≡◌, ap}
use mathlib.Core.List.{List, []}
use lib.ListN.{length, take, drop}
use borrow.Author.Tests.{le-leb, lt-leb}
use Rattle.steps.specs.inner.Spans.{span_start}
use Rattle.writing.specs.inner.Spelled.{spelled}
use Rattle.writing.proofs.Putting.{puts_none, puts_as}
use Rattle.writing.proofs.sheet.Sheet.put_name.Goals.{else-start-text-via-then-start-text+else-size-text, else-start-text-via-else-start-text}
use Rattle.writing.proofs.sheet.Sheet.put_name.Goals as goal

-- The letters at a span that lies in the text, and none at another.
inside : (text : List ℕ) (k : ℕ) → span_start k + k % 32 ≤ length text → take (span_start k + k % 32 - span_start k) (drop (span_start k) text) ≡ spelled text k
unfolding spelled
inside text k h = rw (add-sub_cancel_left, le-leb (span_start k + k % 32) (length text) h)

outside : (text : List ℕ) (k : ℕ) → length text < span_start k + k % 32 → [] ≡ spelled text k
unfolding spelled
outside text k h = rw (lt-leb (span_start k + k % 32) (length text) h)

pub put-requires : goal.put-requires
put-requires c =
    let l = ap length (inside c.args.text.now c.args.span (omega arith)) in
    omega (arith, l, c.requires)

pub returns-then-size-text : goal.returns-then-size-text
returns-then-size-text c = puts_as (inside c.args.text.now c.args.span (omega arith)) c.put.ensures

pub returns-else-start-text : goal.returns-else-start-text
returns-else-start-text c =
    puts_as (outside c.args.text.now c.args.span (elim c.else-start-text.branch [ else-start-text-via-then-start-text+else-size-text w ↦ omega arith | else-start-text-via-else-start-text w ↦ omega arith ]))
    (puts_none _)
