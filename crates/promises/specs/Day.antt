-- A day of calls, by strata and by marks and of several editors mixed: document 01, 'The tally holds slips answered and slips refused', 32, and 'Agreement' (each call is answered, not the first alone);
-- document 02, section 4, 'Fifteen editors share one tally and the first to fill it stops everyone.'
use Rattle.std.specs.Prelude.{ℕ, suc, ◌+◌, ◌≤◌, ◌<◌, ◌≡◌, cond, false, List, [], ◌∷◌, ◌++◌, eqb, length}
use Rattle.laws.specs.Limits.{editor_limit, tally_limit}
use Rattle.laws.specs.Numbers.{Numbered}
use Rattle.laws.specs.Answers.{OrRefused, taken, refused}
use Rattle.table.specs.declared.Table.{Table}
use Rattle.table.specs.declared.Way.{Way}
use Rattle.tally.specs.declared.Tally.{Tally}
use Rattle.tally.specs.Counting.{fresh, is_full}
use Rattle.tally.specs.Editors.{lent, fresh_records, record_at}
use Rattle.response.specs.Ending.{Answer}
use Rattle.response.specs.Respond.{Rooms, answer_in, response_in}

-- A call: which response is asked, the editor's number, the table, the card, the slip and the lengths of the outputs. The records are handed on.
pub record Call : Type 0 where
  pub way : Way
  pub editor : ℕ
  pub table : Table
  pub card : List ℕ
  pub slip : List ℕ
  pub rooms : Rooms

-- What comes of a call at a table of records, and the records after it.
abbrev pub call_answer : List Tally → Call → OrRefused Answer
call_answer rs c = answer_in c.way c.table (lent rs c.editor) c.card c.slip c.rooms

abbrev pub next_records : List Tally → Call → List Tally
next_records rs c = (response_in c.way c.table (lent rs c.editor) c.card c.slip c.rooms).records

-- The records after some calls, each at the records that the one before it left.
unfoldable pub records_over : List Tally → List Call → List Tally
records_over rs [] = rs
records_over rs (c ∷ cs) = records_over (next_records rs c) cs

-- What comes of each of them.
unfoldable pub answers_over : List Tally → List Call → List (OrRefused Answer)
answers_over rs [] = []
answers_over rs (c ∷ cs) = call_answer rs c ∷ answers_over (next_records rs c) cs

-- The calls of editor n, in their order.
unfoldable pub own_calls : ℕ → List Call → List Call
own_calls n [] = []
own_calls n (c ∷ cs) = cond (eqb c.editor n) (c ∷ own_calls n cs) (own_calls n cs)

-- What comes of the calls of editor n, out of what comes of each call.
unfoldable pub own_answers : ℕ → List Call → List (OrRefused Answer) → List (OrRefused Answer)
own_answers n (c ∷ cs) (u ∷ us) = cond (eqb c.editor n) (u ∷ own_answers n cs us) (own_answers n cs us)
own_answers n [] us = []
own_answers n (c ∷ cs) [] = []

-- How many are answered.
unfoldable pub answered_in : List (OrRefused Answer) → ℕ
answered_in [] = 0
answered_in (taken a ∷ us) = suc (answered_in us)
answered_in (refused k s ∷ us) = answered_in us

-- How many are refused, those with 44 and 32 aside.
unfoldable pub refused_in : List (OrRefused Answer) → ℕ
refused_in [] = 0
refused_in (taken a ∷ us) = refused_in us
refused_in (refused k s ∷ us) = cond (eqb k 44) (refused_in us) (cond (eqb k 32) (refused_in us) (suc (refused_in us)))

-- There are forty records.
abbrev pub Forty : List Tally → Type 0
Forty rs = length rs ≡ editor_limit

-- What comes of the calls of editor n on a day, and the editor's record after it.
abbrev pub own_day : ℕ → List Tally → List Call → List (OrRefused Answer)
own_day n rs cs = own_answers n cs (answers_over rs cs)

abbrev pub own_left : ℕ → List Tally → List Call → Tally
own_left n rs cs = record_at (records_over rs cs) n

-- From any records, over any calls, of editors with any numbers; in a table of another length than forty every call is 44 and nothing changes.
pub record DayOfCalls : Type 0 where
  -- There are forty records at its end where there were forty, and something comes of each call, in its place.
  pub forty_left : (rs : List Tally) (cs : List Call) → Forty rs → Forty (records_over rs cs)
  pub each_comes : (rs : List Tally) (cs : List Call) → length (answers_over rs cs) ≡ length cs
  pub in_place : (rs : List Tally) (before : List Call) (c : Call) (rest : List Call)
      → answers_over rs (before ++ c ∷ rest) ≡ answers_over rs before ++ call_answer (records_over rs before) c ∷ answers_over (records_over rs (before ++ c ∷ [])) rest
  -- Of any table, of forty records or not: each editor's record counts the editor's answered and refused calls, and no other's; from fresh records it is the number answered and the number refused.
  pub own_count : (rs : List Tally) (cs : List Call) (n : ℕ) → Numbered editor_limit n
      → ((own_left n rs cs).answered ≡ (record_at rs n).answered + answered_in (own_day n rs cs)) × ((own_left n rs cs).refused ≡ (record_at rs n).refused + refused_in (own_day n rs cs))
  pub fresh_count : (cs : List Call) (n : ℕ) → Numbered editor_limit n → own_left n fresh_records cs ≡ record { answered = answered_in (own_day n fresh_records cs); refused = refused_in (own_day n fresh_records cs) }
  -- Of any table too: what comes of an editor's calls, and the editor's record, are what they are without the calls of the others. So they are the same however the editors' calls are mixed, and the same records come of two days on which each editor has the same calls in the same order.
  pub without_others : (rs : List Tally) (cs : List Call) (n : ℕ) → Numbered editor_limit n → (own_day n rs cs ≡ answers_over rs (own_calls n cs)) × (own_left n rs cs ≡ own_left n rs (own_calls n cs))
  pub mixed : (rs : List Tally) (cs ds : List Call) → ((n : ℕ) → Numbered editor_limit n → own_calls n cs ≡ own_calls n ds)
      → (records_over rs cs ≡ records_over rs ds) × ((n : ℕ) → Numbered editor_limit n → own_day n rs cs ≡ own_day n rs ds)
  -- A full record of another's stops nobody: whatever the other records hold, full or not, the editor's calls get the same and the editor's record ends the same.
  pub others_stop_nobody : (rs rs' : List Tally) (cs : List Call) → Forty rs → Forty rs' → (n : ℕ) → Numbered editor_limit n → record_at rs n ≡ record_at rs' n
      → (own_day n rs cs ≡ own_day n rs' cs) × (own_left n rs cs ≡ own_left n rs' cs)
  -- Each call of an editor gets what it would get alone, on fresh records, unless the editor's own record was full; a call with another number gets 44.
  pub each_alone : (rs : List Tally) (before : List Call) (c : Call) → Forty rs → Numbered editor_limit c.editor
      → call_answer (records_over rs before) c ≡ cond (is_full (own_left c.editor rs before)) (refused 32 0) (call_answer fresh_records c)
  pub no_editor : (rs : List Tally) (before : List Call) (c : Call) → ¬ Numbered editor_limit c.editor → call_answer (records_over rs before) c ≡ refused 44 0
  -- No record that was fresh, whatever the others were, is full before its editor's 9,999th call, and records within 0 to 9,999 stay there.
  pub room : (rs : List Tally) (before : List Call) (n : ℕ) → record_at rs n ≡ fresh → Numbered editor_limit n → length (own_calls n before) < tally_limit → is_full (own_left n rs before) ≡ false
  pub within : (rs : List Tally) (cs : List Call) (n : ℕ) → ((record_at rs n).answered ≤ tally_limit) × ((record_at rs n).refused ≤ tally_limit)
      → ((own_left n rs cs).answered ≤ tally_limit) × ((own_left n rs cs).refused ≤ tally_limit)
