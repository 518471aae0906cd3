-- `response::conclude` meets its contract.
use mathlib.Core.Path.{sym, ap, ◌∙◌}
use Rattle.response.specs.Respond.{outcome_said}
use Rattle.response.proofs.RespondLaws.{full_response, counted_answer, counted_refusal}
use Rattle.response.proofs.conclude.Goals as goal

pub returns-then-is_full : goal.returns-then-is_full
returns-then-is_full c t w = full_response _ _ _ _ _ _ _ (sym c.is_full.ensures ∙ c.if-is_full.true)

pub returns-in-Ok : goal.returns-in-Ok
returns-in-Ok c t w = counted_answer _ _ _ _ _ _ _ _ _ _ _ _ (sym c.is_full.ensures ∙ c.if-is_full.false) (c.work-outcome.ensures t w) (ap outcome_said c.in-Ok.is) c.one_answered.ensures

pub returns-in-Err : goal.returns-in-Err
returns-in-Err c t w = counted_refusal _ _ _ _ _ _ _ _ _ _ _ _ (sym c.is_full.ensures ∙ c.if-is_full.false) (c.work-outcome.ensures t w) (ap outcome_said c.in-Err.is) c.one_refused.ensures
