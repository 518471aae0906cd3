-- `clauses::conditions::condition_next` meets its contract.
use native.Mathlib.Omega.{arith}
use mathlib.Core.Path.{◌≡◌, ap, subst, ◌∙◌}
use lib.ListN.{length}
use borrow.Author.Rules.{rules}
use Rattle.std.specs.Prelude.{Ok, Err}
use Rattle.laws.proofs.Filled.{filled_none}
use Rattle.table.specs.Zero.{zero_literal}
use Rattle.steps.specs.declared.step.Fork.{Fork}
use Rattle.steps.specs.inner.Places.{choice, ForkLies}
use Rattle.clauses.proofs.ConditionLaws as conditions
use Rattle.clauses.proofs.conditions.condition_next.Goals as goal

pub returns-in_err-next-in-Ok : goal.returns-in_err-next-in-Ok
returns-in_err-next-in-Ok c =
    let z : c.from_residual.result ≡ Err c.in_err-next-in-Ok.field-0.0 = search rules in
    rw z (λ base slots L. conditions.condition_fault slots _ _ tt _ (c.in-Ok.ensures.0 base) (c.in_err-next-in-Ok.ensures.0 base), tt)

pub returns-in-First : goal.returns-in-First
returns-in-First c =
    let r = c.args.s.tokens.rest.now in
    let f = c.in_ok-next-in-Ok.ensures in
    let l = c.in-Ok.ensures.1 in
    let d = subst (λ (k : Fork). ForkLies (length r) c.in-Ok.after (Ok k)) c.in-First.is f.1 in (
      λ base slots L. conditions.condition_on slots _ _ _ tt (c.in-Ok.ensures.0 base) (f.0 base ∙ ap (λ (k : Fork). choice r base (Ok k)) c.in-First.is) ∙ c.literals_next.ensures.0 base slots L,
      conditions.condition_earlier _ _ _ c.literals_next.result (omega (arith, l.0, d.0)) c.literals_next.ensures.1,
    )

pub returns-in-Second : goal.returns-in-Second
returns-in-Second c =
    let r = c.args.s.tokens.rest.now in
    let f = c.in_ok-next-in-Ok.ensures in
    let l = c.in-Ok.ensures.1 in
    let d = subst (λ (k : Fork). ForkLies (length r) c.in-Ok.after (Ok k)) c.in-Second.is f.1 in
    let e = c.no_literals.ensures in
    (λ base slots L. rw e (conditions.condition_end slots _ _ _ tt (c.in-Ok.ensures.0 base) (f.0 base ∙ ap (λ (k : Fork). choice r base (Ok k)) c.in-Second.is)), (omega (arith, l.0, d.0), d.1, rw e (filled_none 8 zero_literal)))

pub returns-in-Err : goal.returns-in-Err
returns-in-Err c = (λ base slots L. conditions.condition_plain slots _ _ (c.in-Err.ensures.0 base) ∙ c.literals_next-in-Err.ensures.0 base slots L, c.literals_next-in-Err.ensures.1)
