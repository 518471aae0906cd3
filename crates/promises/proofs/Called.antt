-- Demand 3 as a caller sees it.
-- Assumes nothing.
use Prim.Native.Nat.{ℕ}
use mathlib.Core.List.{List}
use Rattle.table.specs.declared.Way.TheVariants.{Strata}
use Rattle.grammar.specs.Files.{File}
use Rattle.grammar.specs.Meaning.{IsFile}
use Rattle.rule_file.specs.Whole.{reading}
use Rattle.rule_file.proofs.Answers.{reading_no_refusal}
use Rattle.promises.specs.Returned.{IsAccepted}
use Rattle.promises.specs.Agreement.{Demand3}
use Rattle.promises.specs.Called.{Called}
use Rattle.promises.proofs.Returned.{answers, number_0, number_40}
use Rattle.promises.proofs.Demand3.{demand_3_accepted}

-- Every accepted text is a file, and what its callers see of the response is what demand 3 says of it.
pub called : (text : List ℕ) → IsAccepted text → (f : File) × IsFile text f × Demand3 text f × Called text f
called text accepted =
    let d = demand_3_accepted text (reading_no_refusal text accepted) in
    let t = (reading text).table in (
      d.0,
      d.1,
      d.2,
      record {
        where_answered = λ y card slip o e. (let w = number_0 Strata t y card slip o e in record { answer = w.0; returned = answers Strata t y card slip o w.0 w.1; agreed = d.2.where_answered y card slip _ w.0 w.1 });
        where_40 = λ y card slip o e. d.2.where_40 y card slip _ _ (number_40 Strata t y card slip o e);
      },
    )
