-- `steps::step::Tokens::fork` meets its contract.
use mathlib.Core.Path.{◌≡◌, refl, sym, ap, ◌∙◌}
use borrow.Author.Rules.{rules}
use Rattle.text.specs.declared.Token.TheVariants as v
use Rattle.steps.specs.Faults.{fault_number}
use Rattle.steps.specs.declared.step.Fault.{Fault}
use Rattle.steps.specs.inner.Places.{which, neither}
use Rattle.steps.proofs.Places as places
use Rattle.steps.proofs.step.Tokens.fork.Goals as goal

pub returns-then-eq : goal.returns-then-eq
returns-then-eq c =
    let a = c.args in
    let n = c.token-next.ensures in
    let t : c.token-next.result.token ≡ v.Word a.first = search rules in
    (λ base. ap (which _ _) (places.stands a.self.rest.now base a.at _ _ n t) ∙ places.which_one a.first a.second _, places.lies a.self.rest.now a.at _ _ n t)

pub returns-then-eq-2 : goal.returns-then-eq-2
returns-then-eq-2 c =
    let a = c.args in
    let n = c.token-next.ensures in
    let f : c.token-next.result.token ≡ v.Word a.first → ⊥ = search rules in
    let t : c.token-next.result.token ≡ v.Word a.second = search rules in
    (λ base. ap (which _ _) (places.stands a.self.rest.now base a.at _ _ n t) ∙ places.which_second a.first a.second _ (λ e. f (t ∙ e)), places.lies a.self.rest.now a.at _ _ n t)

pub returns-else-eq-2 : goal.returns-else-eq-2
returns-else-eq-2 c =
    let a = c.args in
    let n = c.token-next.ensures in
    let f : c.token-next.result.token ≡ v.Word a.first → ⊥ = search rules in
    let t : c.token-next.result.token ≡ v.Word a.second → ⊥ = search rules in
    (λ base. ap (which _ _) (places.stands a.self.rest.now base a.at _ _ n refl) ∙ places.which_other a.first a.second a.self.rest.now base _ _ f t ∙ ap (λ (k : Fault). neither (fault_number k)) (sym c.fault_of.ensures), tt)
