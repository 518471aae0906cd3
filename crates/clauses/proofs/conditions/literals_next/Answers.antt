-- `clauses::conditions::literals_next` meets its contract.
use Prim.Native.Nat.{ℕ, ◌-◌}
use native.Mathlib.Omega.{arith}
use mathlib.Core.Path.{◌≡◌, sym, ap, ap₂, subst, ◌∙◌}
use mathlib.Core.List.{List}
use lib.ListN.{length}
use borrow.Author.Rules.{rules}
use Rattle.std.specs.Prelude.{Ok, Err}
use Rattle.model.specs.Rules as model
use Rattle.table.specs.Zero.{zero_literal}
use Rattle.table.specs.Link.{literal_of}
use Rattle.laws.specs.Limits.{literal_limit}
use Rattle.grammar.specs.Reading.{took, read_literals}
use Rattle.steps.specs.declared.step.Fork.{Fork}
use Rattle.steps.specs.inner.Places.{tokens_past, choice, ForkLies}
use Rattle.clauses.proofs.ConditionLaws as conditions
use Rattle.clauses.proofs.ListLaws as lists
use Rattle.clauses.proofs.conditions.literals_next.Goals as goal

pub returns-in_err-read : goal.returns-in_err-read
returns-in_err-read c =
    let l = c.loop-list in
    let h = c.loop-list-test.true in
    let z : c.from_residual.result ≡ Err c.in_err-read.field-0.0 = search rules in
    rw z (λ base slots L. l.invariant.2 base slots L ∙ conditions.literals_stop slots (literal_limit - l.list.count) _ _ _ (omega arith) (c.in_err-read.ensures.0 base slots L), tt)

pub returns-in_err-next : goal.returns-in_err-next
returns-in_err-next c =
    let l = c.loop-list in
    let h = c.loop-list-test.true in
    let z : c.from_residual-in_err-next.result ≡ Err c.in_err-next.field-0.0 = search rules in
    rw z (λ base slots L. l.invariant.2 base slots L ∙ conditions.literals_fault slots (literal_limit - l.list.count) _ _ _ _ _ (omega arith) (c.in_ok-read.ensures.0 base slots L) (c.in_err-next.ensures.0 base), tt)

pub loop-list-preserved : goal.loop-list-preserved
loop-list-preserved c =
    let l = c.loop-list in
    let h = c.loop-list-test.true in
    let r = c.args.s.tokens.rest.now in
    let at = c.in_ok-read.read.next in
    let n = c.in_ok-read.ensures.1 in
    let f = c.in_ok-next.ensures in
    let d = subst (λ (k : Fork). ForkLies (length r) at (Ok k)) c.in-First.is f.1 in
    let g = lists.longer literal_of literal_limit zero_literal c.in_ok-read.read.value l.list c.push.new.self c.push.ensures l.invariant.1 h in
    let k = g.2 in (
      omega (arith, l.invariant.0, n.0, d.0),
      g.1,
      λ base slots L. l.invariant.2 base slots L ∙ conditions.literals_on slots (literal_limit - l.list.count) _ _ _ _ _ (omega arith) (c.in_ok-read.ensures.0 base slots L) (f.0 base ∙ ap (λ (k : Fork). choice r base (Ok k)) c.in-First.is)
          ∙ ap₂ (λ (k : ℕ) (ls : List model.Literal). read_literals slots k ls (tokens_past r base c.in-First.next)) (omega arith) (sym g.0),
    )

pub returns-in-Second : goal.returns-in-Second
returns-in-Second c =
    let l = c.loop-list in
    let h = c.loop-list-test.true in
    let r = c.args.s.tokens.rest.now in
    let at = c.in_ok-read.read.next in
    let n = c.in_ok-read.ensures.1 in
    let f = c.in_ok-next.ensures in
    let d = subst (λ (k : Fork). ForkLies (length r) at (Ok k)) c.in-Second.is f.1 in
    let g = lists.longer literal_of literal_limit zero_literal c.in_ok-read.read.value l.list c.push.new.self c.push.ensures l.invariant.1 h in (
      λ base slots L. l.invariant.2 base slots L ∙ conditions.literals_end slots (literal_limit - l.list.count) _ _ _ _ _ (omega arith) (c.in_ok-read.ensures.0 base slots L) (f.0 base ∙ ap (λ (k : Fork). choice r base (Ok k)) c.in-Second.is)
          ∙ ap (λ (ls : List model.Literal). took ls (tokens_past r base c.in-Second.next)) (sym g.0),
      (omega (arith, l.invariant.0, n.0, d.0), d.1, g.1),
    )

pub returns : goal.returns
returns c =
    let l = c.loop-list in
    let h = c.loop-list-test.false in
    (λ base slots L. l.invariant.2 base slots L ∙ conditions.literals_full slots (literal_limit - l.list.count) _ _ (omega arith) ∙ c.no_more.ensures base _, tt)
