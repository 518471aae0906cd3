-- `changes::put_changes` meets its contract.
use Prim.Native.Nat.{◌+◌, ◌*◌}
use native.Mathlib.Omega.{arith}
use mathlib.Core.Path.{ap₂}
use mathlib.Core.List.{◌++◌, map}
use Rattle.laws.specs.Packed.{field_at}
use Rattle.cards.specs.Forms.{changes_in}
use Rattle.writing.proofs.Putting.{Left, left_start, left_on, left_room, left_as, left_end}
use Rattle.listing.specs.Listing.{change_line}
use Rattle.listing.specs.Printed.{changes_text}
use Rattle.listing.proofs.ChangeLines.{change_there, changes_from, changes_all, changes_on, changes_over}
use Rattle.listing.proofs.changes.put_changes.Goals.{In-loop-i}
use Rattle.listing.proofs.changes.put_changes.Goals as goal

-- The line of the next change is left, and those behind it.
next : (c : In-loop-i) → let a = c.args in
    Left a.sheet.now (changes_text (map (change_line a.text.now a.t) (changes_in a.changes.now))) c.loop-i.sheet (change_there a.text.now a.t a.changes.now (field_at a.changes.now (6 + 9 * c.loop-i.i) 5) (field_at a.changes.now (11 + 9 * c.loop-i.i) 4) ++ changes_from a.text.now a.t a.changes.now (c.loop-i.i + 1))
next c =
    let e = c.read_field-m.ensures.0 in
    left_as (changes_on c.args.text.now c.args.t c.args.changes.now c.loop-i.i c.requires.0.few (omega arith) (c.requires.0.slots_below c.loop-i.i (omega arith))) c.loop-i.invariant

pub loop-i-init : goal.loop-i-init
loop-i-init c = left_as (changes_all c.args.text.now c.args.t c.args.changes.now) (left_start _ _ c.requires.1)

pub put_change-requires : goal.put_change-requires
put_change-requires c = rw (ap₂ (change_there c.args.text.now c.args.t c.args.changes.now) c.read_field-slot.ensures.0 c.read_field-value.ensures.0) (left_room _ _ (next (goal.at.put_change-requires c).In-loop-i))

pub loop-i-preserved : goal.loop-i-preserved
loop-i-preserved c = left_on _ (next (goal.at.loop-i-preserved c).In-loop-i) (rw (ap₂ (change_there c.args.text.now c.args.t c.args.changes.now) c.read_field-slot.ensures.0 c.read_field-value.ensures.0) at c.put_change.ensures)

pub returns : goal.returns
returns c =
    let e = c.read_field-m.ensures.0 in
    left_end (left_as (changes_over c.args.text.now c.args.t c.args.changes.now c.loop-i.i (omega arith)) c.loop-i.invariant)
