-- What the number of a response tells.
-- Assumes nothing.
use Prim.Native.Nat.{ℕ, ◌<◌}
use native.Mathlib.Omega.{arith}
use mathlib.Core.Path.{◌≡◌, refl, ap}
use mathlib.Core.List.{List}
use Rattle.laws.specs.Answers.{OrRefused, taken, refused}
use Rattle.table.specs.declared.Table.{Table}
use Rattle.table.specs.declared.Way.{Way}
use Rattle.tally.specs.Editors.{Editors}
use Rattle.response.specs.Ending.{Answer}
use Rattle.response.specs.Respond.{Rooms, Outputs, rooms_of, response_refusal, response_second, outcome_of, answer_in, response_in, outputs_after}
use Rattle.promises.specs.Returned.{number_in, second_in, AnswersIn}
use Rattle.promises.proofs.Refusals.{Only, OneOf, of_response, Other, only_more, one_of_other, response_refused}

no_number : (u : OrRefused Answer) → Only (Other 0) u → response_refusal (outcome_of u) ≡ 0 → (a : Answer) × (u ≡ taken a)
unfolding outcome_of
no_number (taken a) h e = (a, refl)
no_number (refused k s) h e = absurd (h e)

with_number : (k : ℕ) → 0 < k → (u : OrRefused Answer) → response_refusal (outcome_of u) ≡ k → u ≡ refused k (response_second (outcome_of u))
unfolding outcome_of
with_number k l (taken a) e = absurd (omega (arith, l, e))
with_number k l (refused j s) e = ap (λ (i : ℕ). refused i s) e

module _ (way : Way) (t : Table) (y : Editors) (card slip : List ℕ) (o : Outputs) where
  abbrev rooms : Rooms
  rooms = rooms_of o.card o.changes o.fired

  -- An answer is told, and its bytes are written.
  pub answers : (a : Answer) → answer_in way t y card slip rooms ≡ taken a → AnswersIn way t y card slip o a
  unfolding response_in outcome_of outputs_after
  answers a e = record { told = ap outcome_of e; holds = ap (λ (u : OrRefused Answer). outputs_after u o) e }

  -- Number 0 is an answer, any other a refusal with both numbers; 40 is a conflict with the slot that the second number names.
  pub number_0 : number_in way t y card slip o ≡ 0 → (a : Answer) × (answer_in way t y card slip rooms ≡ taken a)
  unfolding response_in
  number_0 e = no_number (answer_in way t y card slip rooms) (only_more (OneOf of_response) (Other 0) (one_of_other of_response 0 tt) (answer_in way t y card slip rooms) (response_refused way t y card slip rooms)) e

  pub number_above : (k : ℕ) → 0 < k → number_in way t y card slip o ≡ k → answer_in way t y card slip rooms ≡ refused k (second_in way t y card slip o)
  unfolding response_in
  number_above k l e = with_number k l (answer_in way t y card slip rooms) e

  pub number_40 : number_in way t y card slip o ≡ 40 → answer_in way t y card slip rooms ≡ refused 40 (second_in way t y card slip o)
  number_40 e = number_above 40 (omega arith) e
