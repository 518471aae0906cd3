-- What a response over the lent table says, by the place of the caller's record.
-- Assumes nothing.
use mathlib.Core.Path.{◌≡◌, refl, sym, ap, subst, ◌∙◌}
use mathlib.Core.Bool.{true}
use mathlib.Core.List.{List}
use Prim.Native.Nat.{ℕ, ◌-◌, ◌<◌}
use native.Mathlib.Omega.{arith}
use lib.ListN.{length, get_or, set}
use Rattle.laws.specs.Answers.{OrRefused}
use Rattle.table.specs.declared.Table.{Table}
use Rattle.table.specs.declared.Way.{Way}
use Rattle.tally.specs.declared.Tally.{Tally}
use Rattle.tally.specs.Counting.{fresh}
use Rattle.tally.specs.Editors.{Editors, lent, has_record}
use Rattle.tally.specs.inner.Places.{record_place}
use Rattle.tally.proofs.EditorLaws.{placed_own, placed_none}
use Rattle.response.specs.Ending.{Answer}
use Rattle.response.specs.Respond.{Rooms, Outputs, rooms_of, outputs, outputs_after, outcome_of, records_after, answer_at, response_at, answer_in}
use Rattle.library.specs.declared.RlResponse.{RlResponse}
use Rattle.response.specs.Outcomes.{Response}
use Rattle.library.specs.Results.{response_numbers}

-- 44 by numbers.
abbrev pub answer_44 : RlResponse
answer_44 = record { number = 44; second = 0; length = 0; fired = 0 }

module _ (way : Way) (t : Table) (card slip renewed changes fired : List ℕ) where
  -- The lengths of the three outputs.
  abbrev rooms : Rooms
  rooms = rooms_of renewed changes fired

  -- The answer to a caller.
  abbrev answered : Editors → OrRefused Answer
  answered y = answer_in way t y card slip rooms

  -- What is said of a response at one record: the response with the record after it, and the outputs.
  abbrev pub SaidAt : Tally → Response → Outputs → Type 0
  SaidAt x r o = (r ≡ response_at way t x card slip rooms) × (o ≡ outputs_after (answer_at way t x card slip rooms) (outputs renewed changes fired))

  -- What is said of a response over the table: its numbers, the records after it, and the outputs.
  abbrev pub Said : Editors → RlResponse → List Tally → Outputs → Type 0
  Said y r zs o = (r ≡ response_numbers (outcome_of (answered y))) × (zs ≡ records_after y (answered y)) × (o ≡ outputs_after (answered y) (outputs renewed changes fired))

  module _ (records : List Tally) (editor : ℕ) where
    -- The table and its caller.
    abbrev y : Editors
    y = lent records editor

    -- The caller has a record: what is said at it is said over the table with the record after it in its place.
    own_at : (r : Response) (o : Outputs) → has_record y ≡ true → SaidAt (get_or records (editor - 1) fresh) r o → Said y (response_numbers r.outcome) (set records (editor - 1) r.tally) o
    unfolding answer_in records_after response_at
    own_at r o e s = rw e (ap (λ (x : Response). response_numbers x.outcome) s.0, ap (λ (x : Response). set records (editor - 1) x.tally) s.0, s.1)

    -- So at the place that the code goes by, where that is inside the table.
    pub own_said : (at : ℕ) (r : Response) (o : Outputs) → (at < length records) × (record_place (length records) editor ≡ at) → SaidAt (get_or records at fresh) r o → Said y (response_numbers r.outcome) (set records at r.tally) o
    own_said at r o e =
        let p = placed_own y (subst (λ (i : ℕ). i < length records) (sym e.1) e.0) in
        subst (λ (i : ℕ). SaidAt (get_or records i fresh) r o → Said y (response_numbers r.outcome) (set records i r.tally) o) (sym p.1 ∙ e.1) (own_at r o p.0)

    -- Where there is none it is 44, and nothing changes.
    pub none_said : record_place (length records) editor ≡ length records → Said y answer_44 records (outputs renewed changes fired)
    unfolding answer_in records_after outcome_of outputs_after
    none_said e = rw (placed_none y (omega (arith, e))) (refl, refl, refl)
