-- `names::slot_name` meets its contract.
use Rattle.std.proofs.Common.{rules}
use Rattle.names.proofs.Names.{slot_inside, slot_shown, slot_lacking}
use native.Mathlib.Omega.{arith}
use Rattle.names.proofs.slot_name.Goals as goal

pub returns-then-not-has_slot : goal.returns-then-not-has_slot
returns-then-not-has_slot c = slot_lacking c.args.text.now c.args.t c.args.slot (search rules)

pub offset_bounds-t-slot : goal.offset_bounds-t-slot
offset_bounds-t-slot c = omega (arith, (slot_inside c.args.t.width c.args.slot (search rules)).0)

pub bounds-t-slot : goal.bounds-t-slot
bounds-t-slot c = (slot_inside c.args.t.width c.args.slot (search rules)).0

pub returns : goal.returns
returns c = rw (slot_shown c.args.text.now c.args.t c.args.slot (search rules)) c.stretch.ensures
