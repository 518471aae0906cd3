-- `text::token_by` meets its contract, arm by arm.
use Prim.Native.Nat.{◌+◌}
use native.Mathlib.Omega.{arith}
use mathlib.Core.Path.{sym}
use mathlib.Core.Bool.{true, false}
use lib.ListN.{drop, length-drop}
use Rattle.text.proofs.Cut.{run_le}
use Rattle.text.proofs.Here as here
use Rattle.text.proofs.token_by.Goals as goal
use Rattle.text.proofs.token_by.Goals.{in_default-via-in-Double+else-starts_with, in_default-via-in_default}

pub returns-then-text-start : goal.returns-then-text-start
returns-then-text-start c = sym (here.next_end c.args.text.now c.args.at _ c.white_end-start.ensures c.if-text-start.true)

pub run_token-requires : goal.run_token-requires
run_token-requires c =
    let p = c.white_end-start.result + 1 in
    let e = c.run_end-end.ensures in
    let r = run_le (drop p c.args.text.now) in
    let l = length-drop p c.args.text.now in
    (omega arith, omega arith)

pub returns-in-Alphanumeric : goal.returns-in-Alphanumeric
returns-in-Alphanumeric c =
    let d = c.white_end-start in
    sym (here.next_run c.args.text.now _ d.result _ _ d.ensures c.if-text-start.false (sym c.in-Alphanumeric.ensures) c.run_end-end.ensures c.run_token.ensures)

pub returns-in-Single : goal.returns-in-Single
returns-in-Single c =
    let d = c.white_end-start in
    sym (here.next_single c.args.text.now _ d.result _ d.ensures c.if-text-start.false (sym c.in-Single.ensures) c.mark_of.ensures)

pub returns-in-Double : goal.returns-in-Double
returns-in-Double c =
    let d = c.white_end-start in
    sym (here.next_double c.args.text.now _ d.result _ d.ensures c.if-text-start.false (sym c.in-Double.ensures)
    (here.equals_tested c.args.text.now (d.result + 1) _ true c.starts_with.ensures.value c.if-starts_with.true) c.mark_of-in-Double.ensures)

pub returns-in_default : goal.returns-in_default
returns-in_default c =
    let d = c.white_end-start in
    elim c.in_default.branch [
      | in_default-via-in-Double+else-starts_with w ↦ sym (here.next_lone c.args.text.now _ d.result d.ensures c.if-text-start.false (sym w.in-Double.ensures)
          (here.equals_tested c.args.text.now (d.result + 1) _ false w.starts_with.ensures.value w.if-starts_with.false))
      | in_default-via-in_default w ↦ let n = w.in_default in sym (here.next_bad c.args.text.now _ d.result _ d.ensures c.if-text-start.false c.class_of.ensures n.not-Alphanumeric n.not-Single n.not-Double)
    ]
