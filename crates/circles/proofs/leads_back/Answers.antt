-- `circles::leads_back` meets its contract.
use mathlib.Core.Path.{◌∙◌}
use Rattle.circles.proofs.Leading.{back_off, back_on}
use Rattle.circles.proofs.leads_back.Goals as goal

pub returns-then-flags-p : goal.returns-then-flags-p
returns-then-flags-p c = c.leads_to.ensures ∙ back_on _ _ c.if-flags-p.true

pub returns-else-flags-p : goal.returns-else-flags-p
returns-else-flags-p c = c.if-flags-p.false ∙ back_off _ _ c.if-flags-p.false
