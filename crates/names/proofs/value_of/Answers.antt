-- `names::value_of` meets its contract.
use Rattle.std.proofs.Common.{rules}
use Rattle.names.proofs.Names.{value_inside, value_of_shown, value_of_lacking}
use native.Mathlib.Omega.{arith}
use Rattle.names.proofs.value_of.Goals as goal

pub returns-then-not-has_value : goal.returns-then-not-has_value
returns-then-not-has_value c = value_of_lacking c.args.text.now c.args.s c.args.value (search rules)

pub overflow_sub-value : goal.overflow_sub-value
overflow_sub-value c = (value_inside c.args.s.count c.args.value (search rules)).0

pub offset_bounds-s-value : goal.offset_bounds-s-value
offset_bounds-s-value c = omega (arith, value_inside c.args.s.count c.args.value (search rules))

pub bounds-s-value : goal.bounds-s-value
bounds-s-value c = omega (arith, value_inside c.args.s.count c.args.value (search rules))

pub returns : goal.returns
returns c = rw (value_of_shown c.args.text.now c.args.s c.args.value (search rules)) c.stretch.ensures
