-- `steps::source::Source::value_next` meets its contract.
use Prim.Native.Nat.{ℕ, ◌+◌, ◌*◌, ◌-◌, ◌≤◌}
use native.Mathlib.Omega.{arith}
use mathlib.Core.Path.{◌≡◌, refl, sym, ap, ◌∙◌}
use mathlib.Core.List.{List}
use lib.ListN.{length, take, drop, length-take}
use native.Mathlib.Numerals.{add-one}
use native.Mathlib.Nat.{add-sub_cancel_left}
use borrow.Author.Rules.{rules}
use Rattle.std.specs.Prelude.{Err}
use Rattle.grammar.specs.Files.{values_of}
use Rattle.grammar.specs.Reading.{read_place, read_value}
use Rattle.text.specs.declared.Token.TheVariants as v
use Rattle.text.specs.declared.Word.TheVariants as w
use Rattle.steps.proofs.Places as places
use Rattle.steps.proofs.Spans as spans
use Rattle.laws.specs.Limits.{value_limit, row}
use Rattle.steps.proofs.source.Source.value_next.Goals as goal

-- The part handed on is the 15 places of the slot's values.
part-is : (xs : List ℕ) (s : ℕ) → take (s * 16 + 1 + 15 - (s * 16 + 1)) (drop (s * 16 + 1) xs) ≡ take value_limit (drop (s * row + 1) xs)
part-is xs s = rw add-sub_cancel_left

part_length : (xs : List ℕ) (s : ℕ) → length (take (s * 16 + 1 + 15 - (s * 16 + 1)) (drop (s * 16 + 1) xs)) ≤ 15
part_length xs s = rw (add-sub_cancel_left, length-take) (omega arith)

pub returns-then-eq : goal.returns-then-eq
returns-then-eq c =
    let x = c.args in
    let n = c.token-next.ensures in
    let t : c.token-next.result.token ≡ v.Word w.None = search rules in
    let l = places.lies x.self.tokens.rest.now x.at _ _ n t in
    (λ base slots h. ap (read_value slots x.slot) (places.stands x.self.tokens.rest.now base x.at _ _ n t) ∙ spans.none_taken slots x.slot _, (omega arith, l.0, l.1))

pub overflow_add-result : goal.overflow_add-result
overflow_add-result c =
    let x = c.args in
    let d = c.in_ok-found.ensures.1 x.at (c.name_of-named.ensures x.self.tokens.rest.now x.at c.token-next.ensures).1 in
    let q = part_length x.self.valuespans.now x.slot in
    record { fits = omega (arith, d.0) }

pub returns-in_err-found : goal.returns-in_err-found
returns-in_err-found c =
    let x = c.args in
    let n = c.token-next.ensures in
    let t : c.token-next.result.token ≡ v.Word w.None → ⊥ = search rules in
    let z : c.from_residual.result ≡ Err c.in_err-found.field-0.0 = search rules in
    let p = part-is x.self.valuespans.now x.slot in
    rw z (
      λ base slots l. let here = places.stands x.self.tokens.rest.now base x.at _ _ n refl in
          ap (read_value slots x.slot) here ∙ spans.value_by_name slots x.slot x.self.tokens.rest.now base _ _ t
          ∙ ap (read_place (values_of slots x.slot)) (sym here) ∙ c.in_err-found.ensures.0 base _ (values_of slots x.slot) ((c.name_of-named.ensures x.self.tokens.rest.now x.at n).0 base) (rw p l),
      tt,
    )

pub returns : goal.returns
returns c =
    let x = c.args in
    let n = c.token-next.ensures in
    let t : c.token-next.result.token ≡ v.Word w.None → ⊥ = search rules in
    let p = part-is x.self.valuespans.now x.slot in
    let e = c.name_of-named.ensures x.self.tokens.rest.now x.at n in
    let d = c.in_ok-found.ensures.1 x.at e.1 in
    let q = part_length x.self.valuespans.now x.slot in (
      λ base slots l. let here = places.stands x.self.tokens.rest.now base x.at _ _ n refl in
          ap (read_value slots x.slot) here ∙ spans.value_by_name slots x.slot x.self.tokens.rest.now base _ _ t
          ∙ ap (read_place (values_of slots x.slot)) (sym here) ∙ c.in_ok-found.ensures.0 base _ (values_of slots x.slot) (e.0 base) (rw p l) ∙ rw (← add-one),
      (omega (arith, d.0), d.1, d.2),
    )
