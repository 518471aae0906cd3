-- `clauses::literal::plain_literal` meets its contract.
use mathlib.Core.Path.{◌≡◌, ap, subst, ◌∙◌}
use lib.ListN.{length}
use Rattle.steps.specs.declared.step.Fork.{Fork}
use Rattle.steps.specs.inner.Places.{choice, ForkLies}
use native.Mathlib.Omega.{arith}
use borrow.Author.Rules.{rules}
use Rattle.std.specs.Prelude.{Ok, Err}
use Rattle.clauses.proofs.LiteralLaws as literals
use Rattle.clauses.proofs.literal.plain_literal.Goals as goal

pub literal_value-requires : goal.literal_value-requires
literal_value-requires c = let p = c.requires in let l = c.in_ok-slot.ensures.1 p.0 p.1 in omega (arith, l.0)

pub literal_value-requires-in-Second : goal.literal_value-requires-in-Second
literal_value-requires-in-Second c = let p = c.requires in let l = c.in_ok-slot.ensures.1 p.0 p.1 in omega (arith, l.0)

pub returns-in_err-slot : goal.returns-in_err-slot
returns-in_err-slot c =
    let z : c.from_residual.result ≡ Err c.in_err-slot.field-0.0 = search rules in
    rw z (λ base ts slots e L. literals.plain_stop slots _ ts _ (c.in_err-slot.ensures.0 base ts slots e L.slotspans_listed), λ at l. tt)

pub returns-in_err-next : goal.returns-in_err-next
returns-in_err-next c =
    let z : c.from_residual-in_err-next.result ≡ Err c.in_err-next.field-0.0 = search rules in
    rw z (λ base ts slots e L. literals.plain_neither slots _ ts _ _ _ (c.in_ok-slot.ensures.0 base ts slots e L.slotspans_listed) (c.in_err-next.ensures.0 base), λ at l. tt)

pub returns-in-First : goal.returns-in-First
returns-in-First c =
    let at = c.in_ok-slot.slot.next in
    let f = c.in_ok-next.ensures in
    let d = subst (λ (k : Fork). ForkLies (length c.args.s.tokens.rest.now) at (Ok k)) c.in-First.is f.1 in (
      λ base ts slots e L. let s = c.in_ok-slot.ensures.0 base ts slots e L.slotspans_listed in
          literals.plain_becomes slots _ ts _ _ _ s (f.0 base ∙ ap (λ (k : Fork). choice c.args.s.tokens.rest.now base (Ok k)) c.in-First.is) ∙ c.literal_value.ensures.0 base slots (L.valuespans_listed _ (literals.slot_inside slots ts _ _ s)),
      λ at l. let k = c.in_ok-slot.ensures.1 at l in literals.lies_earlier _ _ _ c.literal_value.result (omega (arith, k.1, d.0)) c.literal_value.ensures.1,
    )

pub returns-in-Second : goal.returns-in-Second
returns-in-Second c =
    let at = c.in_ok-slot.slot.next in
    let f = c.in_ok-next.ensures in
    let d = subst (λ (k : Fork). ForkLies (length c.args.s.tokens.rest.now) at (Ok k)) c.in-Second.is f.1 in (
      λ base ts slots e L. let s = c.in_ok-slot.ensures.0 base ts slots e L.slotspans_listed in
          literals.plain_has slots _ ts _ _ _ s (f.0 base ∙ ap (λ (k : Fork). choice c.args.s.tokens.rest.now base (Ok k)) c.in-Second.is) ∙ c.literal_value-in-Second.ensures.0 base slots (L.valuespans_listed _ (literals.slot_inside slots ts _ _ s)),
      λ at l. let k = c.in_ok-slot.ensures.1 at l in literals.lies_earlier _ _ _ c.literal_value-in-Second.result (omega (arith, k.1, d.0)) c.literal_value-in-Second.ensures.1,
    )
