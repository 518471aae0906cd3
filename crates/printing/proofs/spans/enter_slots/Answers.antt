-- `spans::enter_slots` meets its contract.
use native.Mathlib.Omega.{arith}
use Rattle.lines.proofs.Index.{indexed_none}
use Rattle.printing.proofs.Tabled.{slot_small, values_small, entered_next}
use Rattle.printing.proofs.spans.enter_slots.Goals as goal

pub loop-i-init : goal.loop-i-init
loop-i-init c = λ slots T. rw (c.requires.0, c.requires.1) (indexed_none _)

pub spans_of-spans-requires : goal.spans_of-spans-requires
spans_of-spans-requires c =
    let p = c.requires.2 in
    values_small _ p.0 c.args.t p.1 c.loop-i.i (omega (arith, p.1.width_is))

pub span_of-requires : goal.span_of-requires
span_of-requires c =
    let p = c.requires.2 in
    slot_small _ p.0 c.args.t p.1 c.loop-i.i (omega (arith, p.1.width_is))

pub loop-i-preserved : goal.loop-i-preserved
loop-i-preserved c = λ slots T. rw (c.enter.ensures.0, c.enter.ensures.1, c.span_of.ensures, c.spans_of-spans.ensures) (entered_next _ slots c.args.t T c.loop-i.i (omega (arith, T.width_is)) c.loop-i.slotspans c.loop-i.valuespans (c.loop-i.invariant slots T))
