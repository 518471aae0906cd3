-- `sheet::Sheet::put_values` meets its contract.
use Prim.Native.Nat.{◌+◌}
use native.Mathlib.Omega.{arith}
use mathlib.Core.Path.{sym}
use mathlib.Core.List.{◌++◌}
use Rattle.laws.specs.Quoted.{bytes_from, bytes}
use Rattle.writing.proofs.Putting.{Left, puts_on, puts_as, room_first, room_rest, left_start, left_on, left_room, left_as, left_end}
use Rattle.writing.proofs.Lines.{value_at, more_values, values_some, values_on, values_over}
use Rattle.writing.proofs.sheet.Sheet.put_values.Goals.{In-loop-j}
use Rattle.writing.proofs.sheet.Sheet.put_values.Goals as goal

-- In the loop a value after a comma is left, and those behind it.
next : (c : In-loop-j) → let a = c.args in
    Left c.put_name.new.self (more_values a.spelling.text.now a.spelling.valuespans.now a.slot a.count 1) c.loop-j.self (bytes ", " ++ (value_at a.spelling.text.now a.spelling.valuespans.now a.slot a.count c.loop-j.j ++ more_values a.spelling.text.now a.spelling.valuespans.now a.slot a.count (c.loop-j.j + 1)))
next c = left_as (values_on c.args.spelling.text.now c.args.spelling.valuespans.now c.args.slot c.args.count c.loop-j.j (omega arith)) c.loop-j.invariant

pub put_name-requires : goal.put_name-requires
put_name-requires c = room_first _ _ _ (rw (values_some c.args.spelling.text.now c.args.spelling.valuespans.now c.args.slot c.args.count c.requires.1) at c.requires.3)

pub loop-j-init : goal.loop-j-init
loop-j-init c = left_start _ _ (room_rest _ c.put_name.ensures (rw (values_some c.args.spelling.text.now c.args.spelling.valuespans.now c.args.slot c.args.count c.requires.1) at c.requires.3))

pub put-requires : goal.put-requires
unfolding bytes bytes_from
put-requires c = left_room (bytes ", ") _ (next (goal.at.put-requires c).In-loop-j)

pub put_name-requires-in-loop-j : goal.put_name-requires-in-loop-j
unfolding bytes bytes_from
put_name-requires-in-loop-j c = left_room _ _ (left_on _ (next (goal.at.put_name-requires-in-loop-j c).In-loop-j) c.put.ensures)

pub loop-j-preserved : goal.loop-j-preserved
unfolding bytes bytes_from
loop-j-preserved c = left_on _ (left_on _ (next (goal.at.loop-j-preserved c).In-loop-j) c.put.ensures) c.put_name-in-loop-j.ensures

pub returns : goal.returns
returns c =
    let a = c.args in
    puts_as (sym (values_some a.spelling.text.now a.spelling.valuespans.now a.slot a.count c.requires.1))
    (puts_on c.put_name.ensures (left_end (left_as (values_over a.spelling.text.now a.spelling.valuespans.now a.slot a.count c.loop-j.j (omega arith)) c.loop-j.invariant)))
