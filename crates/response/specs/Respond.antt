-- The response to a slip: document 01, 'Order of a response: 32, 31, 20 to 28, 30, 40. Each of these but 32 adds one to slips refused; an answer adds one to slips answered.'
-- Document 02, section 4: 44 comes ahead of every other refusal and is not counted; the count is the caller's record, and 32 looks at no other.
-- In the response by marks (document 02, section 3) 41 and 42 stand in 40's place.
use Rattle.std.specs.Prelude.{ℕ, cond, List, ltb, length, Result, Ok, Err}
use Rattle.laws.specs.Limits.{slot_limit}
use Rattle.laws.specs.Packed.{byte_count}
use Rattle.model.specs.Rules.{Pair, Rule}
use Rattle.table.specs.declared.Table.{Table}
use Rattle.table.specs.declared.Way.{Way}
use Rattle.table.specs.declared.Way.TheVariants.{Strata, Marks}
use Rattle.table.specs.Link.{rules_of, value_counts}
use Rattle.laws.specs.Answers.{OrRefused, taken, refused, written}
use Rattle.soundness.specs.Sound.{takes}
use Rattle.cards.specs.Forms.{card_bits, slip_bits, read_card, read_slip}
use Rattle.tally.specs.declared.Tally.{Tally}
use Rattle.tally.specs.Counting.{is_full, one_answered, one_refused}
use Rattle.tally.specs.Editors.{Editors, has_record, own_record, with_record}
use Rattle.refusals.specs.declared.Refusal.{Refusal}
use Rattle.refusals.specs.Numbers.{refusal_number, refusal_second}
use Rattle.response.specs.declared.Answered as told
use Rattle.response.specs.declared.Response as whole
use Rattle.response.specs.Outcomes.{Outcome, Answered, Refused, Response}
use Rattle.results.specs.Record.{ones_in}
use Rattle.response.specs.Ending.{Answer, answer_by_firing, answer_by_marks}

-- First one thing is taken, then another by it; a refusal stays.
infixl 20 ◌and_then◌
unfoldable pub ◌and_then◌ : {A B : Type 0} → OrRefused A → (A → OrRefused B) → OrRefused B
taken a and_then f = f a
refused k s and_then f = refused k s

-- The lengths of the three outputs.
pub record Rooms : Type 0 where
  pub for_card : ℕ
  pub for_changes : ℕ
  pub for_fired : ℕ

-- The most that changes take: one for each slot that a file may have.
abbrev pub changes_room : ℕ
changes_room = byte_count (slip_bits slot_limit)

-- 30: an output too short for so many slots and rules, 1 the card, 2 the changes, 3 the fired record; the first short one is named.
unfoldable pub if_room : {A : Type 0} → ℕ → ℕ → Rooms → OrRefused A → OrRefused A
if_room width count rooms u =
    cond (ltb rooms.for_card (byte_count (card_bits width))) (refused 30 1)
    (cond (ltb rooms.for_changes changes_room) (refused 30 2) (cond (ltb rooms.for_fired (byte_count count)) (refused 30 3) u))

-- By rules over slots of so many values each, to a card and a slip that are in order.
unfoldable pub answer_by : Way → List ℕ → List Rule → List ℕ → List Pair → OrRefused Answer
answer_by Strata counts rs S I = answer_by_firing rs (length counts) S I
answer_by Marks counts rs S I = answer_by_marks rs counts S I

-- 20 to 28 and 30 before that.
unfoldable pub answer_by_rules : Way → List ℕ → List Rule → List ℕ → List ℕ → Rooms → OrRefused Answer
answer_by_rules way counts rs card slip rooms =
    read_card counts card and_then λ S.
    read_slip counts slip and_then λ I.
    if_room (length counts) (length rs) rooms (answer_by way counts rs S I)

-- 31 before them.
unfoldable pub answer_by_table : Way → Table → List ℕ → List ℕ → Rooms → OrRefused Answer
answer_by_table way t card slip rooms = cond (takes way t) (answer_by_rules way (value_counts t) (rules_of t) card slip rooms) (refused 31 0)

-- 32 before them, at the record in which the slip is counted.
unfoldable pub answer_at : Way → Table → Tally → List ℕ → List ℕ → Rooms → OrRefused Answer
answer_at way t y card slip rooms = cond (is_full y) (refused 32 0) (answer_by_table way t card slip rooms)

-- 44 before all: the caller has no record.
unfoldable pub answer_in : Way → Table → Editors → List ℕ → List ℕ → Rooms → OrRefused Answer
answer_in way t y card slip rooms = cond (has_record y) (answer_at way t (own_record y) card slip rooms) (refused 44 0)

-- The outcome: an answer says the length of the changes and how many rules fired.
unfoldable pub outcome_of : OrRefused Answer → Outcome
outcome_of (taken a) = Answered (length a.changes) (ones_in a.fired)
outcome_of (refused k s) = Refused k s

-- The code's outcome and response as these: a refusal by its numbers.
abbrev pub outcome_said : Result told.Answered Refusal → Outcome
outcome_said (Ok a) = Answered a.length a.fired
outcome_said (Err r) = Refused (refusal_number r) (refusal_second r)

abbrev pub response_said : whole.Response → Response
response_said r = record { outcome = outcome_said r.outcome; tally = r.tally }

-- A response that is counted.
unfoldable pub counted : Tally → OrRefused Answer → Tally
counted y (taken a) = one_answered y
counted y (refused k s) = one_refused y

-- The record after a response: 32 is not counted.
unfoldable pub tally_after : Tally → OrRefused Answer → Tally
tally_after y u = cond (is_full y) y (counted y u)

-- The records after a response: the caller's is the one that counts; 44 is not counted.
unfoldable pub records_after : Editors → OrRefused Answer → List Tally
records_after y u = cond (has_record y) (with_record y (tally_after (own_record y) u)) y.records

-- The response at one record.
unfoldable pub response_at : Way → Table → Tally → List ℕ → List ℕ → Rooms → Response
response_at way t y card slip rooms = record { outcome = outcome_of (answer_at way t y card slip rooms); tally = tally_after y (answer_at way t y card slip rooms) }

-- The response: its outcome, and the records after it.
pub record Responded : Type 0 where
  pub outcome : Outcome
  pub records : List Tally

unfoldable pub response_in : Way → Table → Editors → List ℕ → List ℕ → Rooms → Responded
response_in way t y card slip rooms = record { outcome = outcome_of (answer_in way t y card slip rooms); records = records_after y (answer_in way t y card slip rooms) }

-- The response by strata.
abbrev pub answer_to : Table → Editors → List ℕ → List ℕ → Rooms → OrRefused Answer
answer_to t y card slip rooms = answer_in Strata t y card slip rooms

abbrev pub response_to : Table → Editors → List ℕ → List ℕ → Rooms → Responded
response_to t y card slip rooms = response_in Strata t y card slip rooms

-- The response by marks.
abbrev pub marks_answer_to : Table → Editors → List ℕ → List ℕ → Rooms → OrRefused Answer
marks_answer_to t y card slip rooms = answer_in Marks t y card slip rooms

abbrev pub marks_response_to : Table → Editors → List ℕ → List ℕ → Rooms → Responded
marks_response_to t y card slip rooms = response_in Marks t y card slip rooms

-- The contents of the three outputs, and their lengths.
pub record Outputs : Type 0 where
  pub card : List ℕ
  pub changes : List ℕ
  pub fired : List ℕ

abbrev pub outputs : List ℕ → List ℕ → List ℕ → Outputs
outputs a b c = record { card = a; changes = b; fired = c }

abbrev pub rooms_of : List ℕ → List ℕ → List ℕ → Rooms
rooms_of a b c = record { for_card = length a; for_changes = length b; for_fired = length c }

-- The outputs after a response: an answer is written, a refusal leaves all.
unfoldable pub outputs_after : OrRefused Answer → Outputs → Outputs
outputs_after (taken a) o = outputs (written a.new_card o.card) (written a.changes o.changes) (written a.fired o.fired)
outputs_after (refused k s) o = o

-- The number of a refusal, 0 for none, and its second number.
abbrev pub response_refusal : Outcome → ℕ
response_refusal (Answered n f) = 0
response_refusal (Refused k s) = k

abbrev pub response_second : Outcome → ℕ
response_second (Answered n f) = 0
response_second (Refused k s) = s
