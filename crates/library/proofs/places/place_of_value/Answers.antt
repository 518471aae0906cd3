-- `library::places::place_of_value` meets its contract.
use mathlib.Core.Path.{◌≡◌, sym, ap, ◌∙◌}
use mathlib.Core.Bool.{true}
use Prim.Native.Nat.{◌≤◌}
use borrow.Author.Tests.{not-true, not-false}
use Rattle.laws.specs.Limits.{value_limit}
use Rattle.names.specs.Names.{has_value}
use Rattle.names.proofs.Names.{value_inside, value_of_shown, value_of_lacking}
use Rattle.library.specs.Results.{name_numbers}
use native.Mathlib.Omega.{arith}
use Rattle.library.proofs.places.place_of_value.Goals.{Else-not-has_value}
use Rattle.library.proofs.places.place_of_value.Goals as goal

-- The slot has the value.
there : (c : Else-not-has_value) → has_value c.args.s.count c.args.value ≡ true
there c = sym c.has_value.ensures ∙ not-false c.has_value.result c.if-not-has_value.false-raw

inside : (c : Else-not-has_value) → let v = c.args.value in (1 ≤ v) × (v ≤ value_limit)
inside c = let h = value_inside _ _ (there c) in (h.0, h.1.0)

pub returns-then-not-has_value : goal.returns-then-not-has_value
returns-then-not-has_value c =
    let a = c.args in
    ap name_numbers (sym (value_of_lacking a.text.now a.s a.value (sym c.has_value.ensures ∙ not-true c.has_value.result c.if-not-has_value.true-raw)))

pub overflow_sub-value : goal.overflow_sub-value
overflow_sub-value c = (inside (goal.at.overflow_sub-value c).Else-not-has_value).0

pub offset_bounds-s-value : goal.offset_bounds-s-value
offset_bounds-s-value c = omega (arith, inside (goal.at.offset_bounds-s-value c).Else-not-has_value)

pub bounds-s-value : goal.bounds-s-value
bounds-s-value c = omega (arith, inside (goal.at.bounds-s-value c).Else-not-has_value)

pub returns : goal.returns
returns c =
    let a = c.args in
    c.name_place.ensures ∙ ap name_numbers (sym (value_of_shown a.text.now a.s a.value (there (goal.at.returns c).Else-not-has_value)))
