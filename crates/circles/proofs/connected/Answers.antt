-- `circles::connected` meets its contract.
use mathlib.Core.Path.{sym, ◌∙◌}
use native.Mathlib.Omega.{arith}
use Rattle.std.proofs.lemmas.Grind.{common_steps}
use Rattle.laws.specs.Truth.{◌∨ᵇ◌}
use Rattle.circles.specs.inner.Links.{connected}
use Rattle.circles.proofs.Leading.{connected_off, connected_on}
use Rattle.circles.proofs.connected.Goals as goal

pub returns-then-p-k : goal.returns-then-p-k
unfolding connected ◌∨ᵇ◌
returns-then-p-k c = grind (arith, common_steps)

pub returns-then-linked : goal.returns-then-linked
returns-then-linked c = c.linked-then-linked.ensures ∙ connected_on c.args.links.now c.args.p c.args.k c.if-p-k.false (sym c.linked.ensures ∙ c.if-linked.true)

pub returns-else-linked : goal.returns-else-linked
returns-else-linked c = c.if-linked.false ∙ connected_off c.args.links.now c.args.p c.args.k c.if-p-k.false (sym c.linked.ensures ∙ c.if-linked.false)
