-- `steps::step::word_of` meets its contract.
use mathlib.Core.Path.{◌≡◌, refl, sym, ap, ◌∙◌}
use borrow.Author.Rules.{rules}
use Rattle.text.specs.declared.Token.TheVariants as v
use Rattle.text.specs.Words.{word_number}
use Rattle.grammar.specs.Reading.{stop, expects}
use Rattle.steps.specs.Faults.{fault_number}
use Rattle.steps.specs.declared.step.Fault.{Fault}
use Rattle.steps.proofs.Places as places
use Rattle.steps.proofs.step.word_of.Goals as goal

pub returns-then-eq : goal.returns-then-eq
returns-then-eq c =
    let w = c.args.wanted in
    let t : c.args.next.token ≡ v.Word w = search rules in
    λ rest at e. (λ base. ap (expects (word_number w)) (places.stands rest base at _ _ e t) ∙ places.expects_this w _, places.lies rest at _ _ e t)

pub returns-else-eq : goal.returns-else-eq
returns-else-eq c =
    let w = c.args.wanted in
    let t : c.args.next.token ≡ v.Word w → ⊥ = search rules in
    λ rest at e. (λ base. ap (expects (word_number w)) (places.stands rest base at _ _ e refl) ∙ places.expects_other w rest base _ _ t ∙ ap (λ (k : Fault). stop (fault_number k)) (sym c.fault_of.ensures), tt)
