-- `clauses::assignments::assignment_value` meets its contract.
use native.Mathlib.Omega.{arith}
use mathlib.Core.Path.{◌≡◌}
use borrow.Author.Rules.{rules}
use Rattle.std.specs.Prelude.{Err}
use Rattle.clauses.proofs.AssignmentLaws as assignments
use Rattle.clauses.proofs.assignments.assignment_value.Goals as goal

pub returns-in_err-after : goal.returns-in_err-after
returns-in_err-after c =
    let z : c.from_residual.result ≡ Err c.in_err-after.field-0.0 = search rules in
    rw z (λ base slots h. assignments.value_mark slots _ _ _ (c.in_err-after.ensures.0 base), tt)

pub returns-in_err-found : goal.returns-in_err-found
returns-in_err-found c =
    let z : c.from_residual-in_err-found.result ≡ Err c.in_err-found.field-0.0 = search rules in
    rw z (λ base slots h. assignments.value_stop slots _ _ _ tt _ (c.in_ok-after.ensures.0 base) (c.in_err-found.ensures.0 base slots h), tt)

pub returns : goal.returns
returns c =
    let m = c.in_ok-after.ensures in
    let v = c.in_ok-found.ensures in
    let k = m.1.0 in
    let j = v.1.1 in
    (λ base slots h. assignments.value_took slots _ _ _ _ tt _ (m.0 base) (v.0 base slots h), (omega arith, v.1.2))
