-- `clauses::assignments::assignments_next` meets its contract.
use Prim.Native.Nat.{◌-◌}
use native.Mathlib.Omega.{arith}
use mathlib.Core.Path.{◌≡◌, sym, ap, subst, ◌∙◌}
use lib.ListN.{length}
use borrow.Author.Rules.{rules}
use Rattle.std.specs.Prelude.{Ok, Err}
use Rattle.laws.specs.Limits.{assignment_limit}
use Rattle.steps.specs.declared.step.Fork.{Fork}
use Rattle.steps.specs.inner.Places.{choice, ForkLies}
use Rattle.clauses.specs.inner.Assignments.{pairs_in, UnusedZero}
use Rattle.table.specs.Link.{assignment_of}
use Rattle.table.specs.Zero.{zero_assignment}
use Rattle.clauses.proofs.AssignmentLaws as assignments
use Rattle.clauses.proofs.ListLaws as lists
use Prim.Native.Nat.{suc}
use Rattle.clauses.proofs.assignments.assignments_next.Goals as goal

pub loop-list-init : goal.loop-list-init
loop-list-init c =
    let e = c.no_assignments-list.ensures in
    (omega arith, subst UnusedZero (sym e) assignments.none_zero, λ base slots h. assignments.list_start slots _ _ e)

pub loop-list-preserved : goal.loop-list-preserved
loop-list-preserved c =
    let l = c.loop-list in
    let h = c.loop-list-test.true in
    let f = lists.longer assignment_of assignment_limit zero_assignment c.in_ok-read.read.value l.list c.push.new.self c.push.ensures l.invariant.1 h in
    let n = f.2 in
    let e : assignment_limit - l.list.count ≡ suc (assignment_limit - c.push.new.self.count) = omega arith in
    let r = c.args.s.tokens.rest.now in
    let a = c.in_ok-read.ensures in
    let k = c.in_ok-next.ensures in
    let d = subst (λ (x : Fork). ForkLies (length r) c.in_ok-read.read.next (Ok x)) c.in-First.is k.1 in
    (omega (arith, l.invariant.0, a.1.0, d.0), f.1, λ base slots L. l.invariant.2 base slots L ∙ assignments.list_on slots _ _ _ _ _ _ _ _ e f.0 (a.0 base slots L) (k.0 base ∙ ap (λ (x : Fork). choice r base (Ok x)) c.in-First.is))

pub returns-in-Second : goal.returns-in-Second
returns-in-Second c =
    let l = c.loop-list in
    let h = c.loop-list-test.true in
    let f = lists.longer assignment_of assignment_limit zero_assignment c.in_ok-read.read.value l.list c.push.new.self c.push.ensures l.invariant.1 h in
    let n = f.2 in
    let e : assignment_limit - l.list.count ≡ suc (assignment_limit - c.push.new.self.count) = omega arith in
    let r = c.args.s.tokens.rest.now in
    let a = c.in_ok-read.ensures in
    let k = c.in_ok-next.ensures in
    let d = subst (λ (x : Fork). ForkLies (length r) c.in_ok-read.read.next (Ok x)) c.in-Second.is k.1 in
    (λ base slots L. l.invariant.2 base slots L ∙ assignments.list_end slots _ _ _ _ _ _ _ _ e f.0 (a.0 base slots L) (k.0 base ∙ ap (λ (x : Fork). choice r base (Ok x)) c.in-Second.is), (omega (arith, l.invariant.0, a.1.0, d.0), d.1, f.1))

pub returns-in_err-next : goal.returns-in_err-next
returns-in_err-next c =
    let l = c.loop-list in
    let h = c.loop-list-test.true in
    let e : assignment_limit - l.list.count ≡ suc (assignment_limit - l.list.count - 1) = omega arith in
    let z : c.from_residual-in_err-next.result ≡ Err c.in_err-next.field-0.0 = search rules in
    rw z (λ base slots L. l.invariant.2 base slots L ∙ assignments.list_fault slots _ _ _ _ _ _ _ e (c.in_ok-read.ensures.0 base slots L) (c.in_err-next.ensures.0 base), tt)

pub returns-in_err-read : goal.returns-in_err-read
returns-in_err-read c =
    let l = c.loop-list in
    let h = c.loop-list-test.true in
    let e : assignment_limit - l.list.count ≡ suc (assignment_limit - l.list.count - 1) = omega arith in
    let z : c.from_residual.result ≡ Err c.in_err-read.field-0.0 = search rules in
    rw z (λ base slots L. l.invariant.2 base slots L ∙ assignments.list_stop slots _ _ _ _ _ e (c.in_err-read.ensures.0 base slots L), tt)

pub returns : goal.returns
returns c =
    let l = c.loop-list in
    let h = c.loop-list-test.false in
    let e : assignment_limit - l.list.count ≡ 0 = omega arith in
    (λ base slots L. l.invariant.2 base slots L ∙ assignments.list_full slots _ _ _ e ∙ c.surplus_fault.ensures base (pairs_in l.list), tt)
