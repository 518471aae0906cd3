-- `clauses::assignments::is_assigned` meets its contract.
use mathlib.Core.Path.{◌∙◌}
use borrow.Author.Rules.{rules}
use Rattle.clauses.proofs.AssignmentLaws as assignments
use Rattle.std.proofs.Common.{eqb, tests}
use Rattle.std.proofs.lemmas.Iterator.{YieldsList-from_slice, YieldsList-from_take}
use Rattle.std.proofs.lemmas.Iterator.Search.{any_from_yields_List}
use Rattle.clauses.proofs.assignments.is_assigned.Goals as goal

pub returns : goal.returns
returns c =
    any_from_yields_List (λ a. eqb a.slot c.args.slot) _ _ c.any.result c.any.ensures.ran (YieldsList-from_take c.args.list.now.count (YieldsList-from_slice c.args.list.now.places (cc)) (cc)) (λ x b q k. search (rules, tests))
    ∙ assignments.any_assigns _ c.args.slot
