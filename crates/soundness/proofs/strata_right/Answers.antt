-- `soundness::strata_right` meets its contract.
use mathlib.Core.Path.{sym, ◌∙◌}
use mathlib.Core.Logic.{⊎_elim, inl, inr}
use Rattle.soundness.proofs.Taken.{right_by_0, right_by_least}
use Rattle.soundness.proofs.strata_right.Goals as goal

pub returns-then-is_stratum_0 : goal.returns-then-is_stratum_0
returns-then-is_stratum_0 c = right_by_0 c.args.way _ c.in-Marks.is (sym c.is_stratum_0.ensures ∙ c.if-is_stratum_0.true)

pub returns : goal.returns
returns c =
    c.is_least.ensures ∙ sym (right_by_least c.args.way _ (⊎_elim (λ x. inr (sym x.is_stratum_0.ensures ∙ x.if-is_stratum_0.false)) (λ x. inl x.in_default.is) c.match-way.branch-raw))
