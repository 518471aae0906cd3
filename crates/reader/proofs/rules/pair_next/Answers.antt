-- `reader::rules::pair_next` meets its contract.
use native.Mathlib.Omega.{arith}
use mathlib.Core.Path.{◌≡◌}
use borrow.Author.Rules.{rules}
use Rattle.std.specs.Prelude.{Err}
use Rattle.clauses.proofs.LiteralLaws.{slot_inside}
use Rattle.reader.proofs.RuleLaws as rules
use Rattle.reader.proofs.rules.pair_next.Goals as goal

pub value_next-requires : goal.value_next-requires
value_next-requires c = let l = c.in_ok-slot.ensures.1 _ c.name-named.ensures.1 in omega (arith, l.0)

pub returns-in_err-slot : goal.returns-in_err-slot
returns-in_err-slot c =
    let z : c.from_residual.result ≡ Err c.in_err-slot.field-0.0 = search rules in
    rw z (λ base slots L. rules.pair_no_slot slots _ _ (c.in_err-slot.ensures.0 base _ slots (c.name-named.ensures.0 base) L.slotspans_listed), tt)

pub returns-in_err-next : goal.returns-in_err-next
returns-in_err-next c =
    let z : c.from_residual-in_err-next.result ≡ Err c.in_err-next.field-0.0 = search rules in
    rw z (λ base slots L. rules.pair_no_mark slots _ _ _ _ (c.in_ok-slot.ensures.0 base _ slots (c.name-named.ensures.0 base) L.slotspans_listed) (c.in_err-next.ensures.0 base), tt)

pub returns-in_err-found : goal.returns-in_err-found
returns-in_err-found c =
    let z : c.from_residual-in_err-found.result ≡ Err c.in_err-found.field-0.0 = search rules in
    rw z (
      λ base slots L. let s = c.in_ok-slot.ensures.0 base _ slots (c.name-named.ensures.0 base) L.slotspans_listed in
          rules.pair_no_value slots _ _ _ _ _ s (c.in_ok-next.ensures.0 base) (c.in_err-found.ensures.0 base slots (L.valuespans_listed _ (slot_inside slots _ _ _ s))),
      tt,
    )

pub returns : goal.returns
returns c =
    let l = c.in_ok-slot.ensures.1 _ c.name-named.ensures.1 in
    let d = c.in_ok-next.ensures.1 in
    let e = c.in_ok-found.ensures.1 in (
      λ base slots L. let s = c.in_ok-slot.ensures.0 base _ slots (c.name-named.ensures.0 base) L.slotspans_listed in
          rules.pair_took slots _ _ _ _ _ _ s (c.in_ok-next.ensures.0 base) (c.in_ok-found.ensures.0 base slots (L.valuespans_listed _ (slot_inside slots _ _ _ s))),
      (l.0, e.0, omega (arith, l.1, d.0, e.1), e.2),
    )
