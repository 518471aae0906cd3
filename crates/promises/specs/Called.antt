-- Demand 3 as a caller sees it: by the numbers of the answers (document 01, 'for an answer that is an enum, a definition provides this paper's number and values'), and by the bytes that the three outputs hold afterwards.
use Rattle.std.specs.Prelude.{ℕ, ◌≡◌, List}
use Rattle.model.specs.Orders.{changes}
use Rattle.grammar.specs.Files.{File}
use Rattle.rule_file.specs.Whole.{reading}
use Rattle.tally.specs.Editors.{Editors}
use Rattle.response.specs.Ending.{Answer}
use Rattle.response.specs.Respond.{Outputs, response_refusal, response_second}
use Rattle.promises.specs.Returned.{response_told, Answers}
use Rattle.promises.specs.Agreement.{Agreed, Shows, LowestConflict}

-- No refusal: an answer is returned, and every complete and consistent firing order is as that answer shows.
pub record CalledAnswer (text : List ℕ) (f : File) (y : Editors) (card slip : List ℕ) (o : Outputs) : Type 0 where
  pub answer : Answer
  pub returned : Answers (reading text).table y card slip o answer
  pub agreed : Agreed f card slip (λ S I ns. Shows f S I answer ns)

-- For an accepted text: no refusal; and 40 with the lowest slot in conflict.
pub record Called (text : List ℕ) (f : File) : Type 0 where
  pub where_answered : (y : Editors) (card slip : List ℕ) (o : Outputs) → response_refusal (response_told (reading text).table y card slip o).outcome ≡ 0 → CalledAnswer text f y card slip o
  pub where_40 : (y : Editors) (card slip : List ℕ) (o : Outputs) → response_refusal (response_told (reading text).table y card slip o).outcome ≡ 40
      → Agreed f card slip (λ S I ns. LowestConflict (changes f.rules I ns) (response_second (response_told (reading text).table y card slip o).outcome))
