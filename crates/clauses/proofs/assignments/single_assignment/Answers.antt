-- `clauses::assignments::single_assignment` meets its contract.
use native.Mathlib.Omega.{arith}
use mathlib.Core.Path.{◌≡◌, sym, subst}
use borrow.Author.Rules.{rules}
use Rattle.std.specs.Prelude.{Err}
use Rattle.clauses.specs.inner.Assignments.{UnusedZero}
use Prim.Native.Nat.{◌<◌}
use Rattle.laws.specs.Limits.{assignment_limit}
use Rattle.table.specs.Link.{assignment_of}
use Rattle.table.specs.Zero.{zero_assignment}
use Rattle.clauses.proofs.AssignmentLaws as assignments
use Rattle.clauses.proofs.ListLaws as lists
use Rattle.clauses.proofs.assignments.single_assignment.Goals as goal

pub returns-in_err-read : goal.returns-in_err-read
returns-in_err-read c =
    let z : c.from_residual.result ≡ Err c.in_err-read.field-0.0 = search rules in
    rw z (λ base ts slots e L. assignments.single_stop slots _ ts _ (assignments.none_pairs _ c.no_assignments-list.ensures) (c.in_err-read.ensures.0 base ts slots e L), λ at l. tt)

pub returns : goal.returns
returns c =
    let n = c.no_assignments-list.ensures in
    let none = c.no_assignments-list.result in
    let few : none.count < assignment_limit = rw n (omega arith) in
    let f = lists.longer assignment_of assignment_limit zero_assignment c.in_ok-read.read.value none c.push.new.self c.push.ensures (subst UnusedZero (sym n) assignments.none_zero) few in
    let a = c.in_ok-read.ensures in
    (λ base ts slots e L. assignments.single_took slots _ _ ts _ _ (assignments.none_pairs _ n) f.0 (a.0 base ts slots e L), λ at l. let k = a.1 at l in (k.0, k.1, f.1))
