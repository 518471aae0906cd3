-- `names::stretch` meets its contract.
use mathlib.Core.Path.{refl}
use native.Mathlib.Nat.{add-sub_cancel_left}
use Rattle.names.proofs.Names.{name_inside, name_outside, begins_at}
use native.Mathlib.Omega.{arith}
use Rattle.std.proofs.lemmas.Grind.{common_steps}
use Rattle.names.proofs.stretch.Goals as goal

pub returns-then-size-length : goal.returns-then-size-length
returns-then-size-length c = rw (name_inside c.args.text.now c.args.name (omega arith), add-sub_cancel_left) (refl, (refl, begins_at c.args.text.ref_ptr c.args.name.start))

pub returns : goal.returns
returns c = name_outside c.args.text.now c.args.name (grind (arith, common_steps))
