-- `clauses::assignments::target_of` meets its contract.
use mathlib.Core.Path.{◌≡◌, sym, ◌∙◌}
use borrow.Author.Rules.{rules}
use Rattle.std.specs.Prelude.{Err}
use Rattle.clauses.proofs.AssignmentLaws as assignments
use Rattle.clauses.proofs.assignments.target_of.Goals as goal

pub returns-in_err-slot : goal.returns-in_err-slot
returns-in_err-slot c =
    let z : c.from_residual.result ≡ Err c.in_err-slot.field-0.0 = search rules in
    rw z (λ base ts slots e L. assignments.target_stop slots _ ts _ (c.in_err-slot.ensures.0 base ts slots e L), λ at l. tt)

pub returns-then-is_assigned : goal.returns-then-is_assigned
returns-then-is_assigned c = (λ base ts slots e L. assignments.target_twice slots _ ts _ _ (c.in_ok-slot.ensures.0 base ts slots e L) (sym c.is_assigned.ensures ∙ c.if-is_assigned.true), λ at l. tt)

pub returns : goal.returns
returns c = (λ base ts slots e L. assignments.target_took slots _ ts _ _ (c.in_ok-slot.ensures.0 base ts slots e L) (sym c.is_assigned.ensures ∙ c.if-is_assigned.false), λ at l. c.in_ok-slot.ensures.1 at l)
