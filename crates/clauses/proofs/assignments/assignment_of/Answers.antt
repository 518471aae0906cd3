-- `clauses::assignments::assignment_of` meets its contract.
use native.Mathlib.Omega.{arith}
use mathlib.Core.Path.{◌≡◌, ◌∙◌}
use borrow.Author.Rules.{rules}
use Rattle.std.specs.Prelude.{Err}
use Rattle.clauses.proofs.AssignmentLaws as assignments
use Rattle.clauses.proofs.assignments.assignment_of.Goals as goal

pub assignment_value-requires : goal.assignment_value-requires
assignment_value-requires c = let p = c.requires in let l = c.in_ok-slot.ensures.1 p.0 p.1 in omega (arith, l.0)

pub returns-in_err-slot : goal.returns-in_err-slot
returns-in_err-slot c =
    let z : c.from_residual.result ≡ Err c.in_err-slot.field-0.0 = search rules in
    rw z (λ base ts slots e L. assignments.assignment_stop slots _ ts _ (c.in_err-slot.ensures.0 base ts slots e L.slotspans_listed), λ at l. tt)

pub returns : goal.returns
returns c = (
  λ base ts slots e L. let t = c.in_ok-slot.ensures.0 base ts slots e L.slotspans_listed in
      assignments.assignment_on slots _ ts _ _ t ∙ c.assignment_value.ensures.0 base slots (L.valuespans_listed _ (assignments.target_inside slots _ ts _ _ t)),
  λ at l. let k = (c.in_ok-slot.ensures.1 at l).1 in assignments.lies_earlier _ _ _ c.assignment_value.result (omega arith) c.assignment_value.ensures.1,
)
