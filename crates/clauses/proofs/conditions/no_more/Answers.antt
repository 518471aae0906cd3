-- `clauses::conditions::no_more` meets its contract.
use mathlib.Core.Path.{◌≡◌, refl, sym, ap, ◌∙◌}
use borrow.Author.Rules.{rules}
use Rattle.grammar.specs.Reading.{stop}
use Rattle.steps.specs.declared.step.Fault.{Fault}
use Rattle.steps.specs.Faults.{fault_number}
use Rattle.steps.proofs.Places as places
use Rattle.clauses.proofs.ConditionLaws as conditions
use Rattle.text.specs.declared.Token.TheVariants as v
use Rattle.text.specs.declared.Word.TheVariants as w
use Rattle.grammar.specs.Reading.{no_literal}
use Rattle.clauses.proofs.conditions.no_more.Goals as goal

pub returns-then-eq : goal.returns-then-eq
returns-then-eq c =
    let t : c.token-next.result.token ≡ v.Word w.Not = search rules in
    λ base sofar. ap (no_literal sofar) (places.stands c.args.tokens.rest.now base c.args.at _ _ c.token-next.ensures t) ∙ conditions.more_not sofar _

pub returns-in-Name : goal.returns-in-Name
returns-in-Name c = λ base sofar. ap (no_literal sofar) (places.stands c.args.tokens.rest.now base c.args.at _ _ c.token-next.ensures c.in-Name.is) ∙ conditions.more_name c.args.tokens.rest.now base _ sofar _

pub returns-in_default : goal.returns-in_default
returns-in_default c =
    let t : c.token-next.result.token ≡ v.Word w.Not → ⊥ = search rules in
    λ base sofar. ap (no_literal sofar) (places.stands c.args.tokens.rest.now base c.args.at _ _ c.token-next.ensures refl) ∙ conditions.more_other c.args.tokens.rest.now base _ sofar _ t c.in_default.in_default-own.keys2
    ∙ ap (λ (k : Fault). stop (fault_number k)) (sym c.fault_of.ensures)
