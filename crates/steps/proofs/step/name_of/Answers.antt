-- `steps::step::name_of` meets its contract.
use mathlib.Core.Path.{refl, sym, ap, ◌∙◌}
use native.Mathlib.Omega.{arith}
use Rattle.grammar.specs.Reading.{stop, a_name}
use Rattle.steps.specs.Faults.{fault_number}
use Rattle.steps.specs.declared.step.Fault.{Fault}
use Rattle.steps.proofs.Places as places
use Rattle.steps.proofs.step.name_of.Goals as goal

pub returns-in-Name : goal.returns-in-Name
returns-in-Name c =
    λ rest at e.
    let l = places.lies rest at _ _ e c.in-Name.is in
    (λ base. ap a_name (places.stands rest base at _ _ e c.in-Name.is) ∙ places.name_this _ _, (omega (arith, l.0, l.1, l.3), l.4, l.1, l.2, l.3))

pub returns-in_default : goal.returns-in_default
returns-in_default c =
    λ rest at e. (λ base. ap a_name (places.stands rest base at _ _ e refl) ∙ places.name_other rest base c.args.next.token _ c.in_default.in_default-own.keys2 ∙ ap (λ (k : Fault). stop (fault_number k)) (sym c.fault_of.ensures), tt)
