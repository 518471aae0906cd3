-- `library::places::value_place` meets its contract.
use mathlib.Core.Path.{◌≡◌, sym, ap, ◌∙◌}
use mathlib.Core.Bool.{true}
use Prim.Native.Nat.{◌<◌}
use borrow.Author.Tests.{not-true, not-false}
use Rattle.laws.specs.Limits.{slot_limit}
use Rattle.names.specs.Names.{has_slot}
use Rattle.names.proofs.Names.{slot_inside, value_shown, value_lacking}
use Rattle.library.specs.Results.{name_numbers}
use native.Mathlib.Omega.{arith}
use Rattle.library.proofs.places.value_place.Goals.{Else-not-has_slot}
use Rattle.library.proofs.places.value_place.Goals as goal

-- The table has the slot.
there : (c : Else-not-has_slot) → has_slot c.args.t.now.width c.args.slot ≡ true
there c = sym c.has_slot.ensures ∙ not-false c.has_slot.result c.if-not-has_slot.false-raw

inside : (c : Else-not-has_slot) → c.args.slot < slot_limit
inside c = (slot_inside _ _ (there c)).0

pub returns-then-not-has_slot : goal.returns-then-not-has_slot
returns-then-not-has_slot c =
    let a = c.args in
    ap name_numbers (sym (value_lacking a.text.now a.t.now a.slot a.value (sym c.has_slot.ensures ∙ not-true c.has_slot.result c.if-not-has_slot.true-raw)))

pub offset_bounds-t-slot : goal.offset_bounds-t-slot
offset_bounds-t-slot c = omega (arith, inside (goal.at.offset_bounds-t-slot c).Else-not-has_slot)

pub bounds-t-slot : goal.bounds-t-slot
bounds-t-slot c = inside (goal.at.bounds-t-slot c).Else-not-has_slot

pub returns : goal.returns
returns c =
    let a = c.args in
    c.place_of_value.ensures ∙ ap name_numbers (sym (value_shown a.text.now a.t.now a.slot a.value (there (goal.at.returns c).Else-not-has_slot)))
