-- `rules::is_fired` meets its contract.
use native.Mathlib.Omega.{arith}
use mathlib.Core.Path.{sym}
use Rattle.std.proofs.lemmas.Grind.{common_steps}
use Rattle.listing.proofs.RuleLines.{bit_there, bit_beyond}
use Rattle.listing.proofs.rules.is_fired.Goals as goal

pub returns-then-k-bits : goal.returns-then-k-bits
returns-then-k-bits c = sym (bit_there c.args.bits.now c.args.i c.if-k-bits.true)

pub returns-else-k-bits : goal.returns-else-k-bits
returns-else-k-bits c = grind (arith, common_steps, bit_beyond c.args.bits.now c.args.i c.if-k-bits.false, c.if-k-bits.false)
