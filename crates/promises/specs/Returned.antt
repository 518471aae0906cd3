-- What the entry points return, and what they leave in the buffers lent to them, by their contracts; `rl_..` return the same numbers (`library/specs/Results.antt`).
use Rattle.std.specs.Prelude.{ℕ, ◌≡◌, List, length}
use Rattle.laws.specs.Answers.{written, output_of}
use Rattle.table.specs.declared.Table.{Table}
use Rattle.table.specs.declared.Way.{Way}
use Rattle.table.specs.declared.Way.TheVariants.{Strata}
use Rattle.reader.specs.Tables.{reading_refusal}
use Rattle.rule_file.specs.Whole.{reading}
use Rattle.printing.specs.Printing.{Printing, print_into, printing_of}
use Rattle.cards.specs.declared.Card.{Card}
use Rattle.cards.specs.declared.Slip.{Slip}
use Rattle.cards.specs.Outcomes.{CardRead, SlipRead}
use Rattle.cards.specs.Packings.{Packing}
use Rattle.cards.specs.Cards.{unpacked_card, unpacked_slip, packed_card, packed_slip, card_read, slip_read, packing_of}
use Rattle.tally.specs.Editors.{Editors}
use Rattle.results.specs.Record.{ones_in}
use Rattle.response.specs.Outcomes.{Answered}
use Rattle.response.specs.Ending.{Answer}
use Rattle.response.specs.Respond.{Outputs, outputs, rooms_of, Responded, answer_in, response_in, outputs_after, response_refusal, response_second}

-- A file is accepted when its reading gives no refusal.
abbrev pub IsAccepted : List ℕ → Type 0
IsAccepted text = reading_refusal (reading text).outcome ≡ 0

-- `print` of a text into an output, and what that holds afterwards.
abbrev pub print_told : List ℕ → List ℕ → Printing
print_told text out = printing_of (print_into text (length out))

abbrev pub print_left : List ℕ → List ℕ → List ℕ
print_left text out = output_of (print_into text (length out)) out

-- `unpack_card` and `unpack_slip` of bytes.
abbrev pub card_told : Table → List ℕ → CardRead
card_told t ys = card_read (unpacked_card t ys)

abbrev pub slip_told : Table → List ℕ → SlipRead
slip_told t ys = slip_read (unpacked_slip t ys)

-- `pack_card` and `pack_slip` into an output, and what that holds afterwards.
abbrev pub card_packing : Table → Card → List ℕ → Packing
card_packing t c out = packing_of (packed_card t c (length out))

abbrev pub card_left : Table → Card → List ℕ → List ℕ
card_left t c out = output_of (packed_card t c (length out)) out

abbrev pub slip_packing : Table → Slip → List ℕ → Packing
slip_packing t c out = packing_of (packed_slip t c (length out))

abbrev pub slip_left : Table → Slip → List ℕ → List ℕ
slip_left t c out = output_of (packed_slip t c (length out)) out

-- `rl_respond`, by strata, or `rl_respond_by_marks`: what is told and the records afterwards; and what the three outputs hold afterwards.
abbrev pub told_in : Way → Table → Editors → List ℕ → List ℕ → Outputs → Responded
told_in way t y card slip o = response_in way t y card slip (rooms_of o.card o.changes o.fired)

abbrev pub left_in : Way → Table → Editors → List ℕ → List ℕ → Outputs → Outputs
left_in way t y card slip o = outputs_after (answer_in way t y card slip (rooms_of o.card o.changes o.fired)) o

-- The number of a response's refusal, 0 for none, and its second number.
abbrev pub number_in : Way → Table → Editors → List ℕ → List ℕ → Outputs → ℕ
number_in way t y card slip o = response_refusal (told_in way t y card slip o).outcome

abbrev pub second_in : Way → Table → Editors → List ℕ → List ℕ → Outputs → ℕ
second_in way t y card slip o = response_second (told_in way t y card slip o).outcome

-- An answer is returned: its length of changes and its count of fired rules are told, and the outputs hold its bytes at their front and beyond them what they held.
pub record AnswersIn (way : Way) (t : Table) (y : Editors) (card slip : List ℕ) (o : Outputs) (a : Answer) : Type 0 where
  pub told : (told_in way t y card slip o).outcome ≡ Answered (length a.changes) (ones_in a.fired)
  pub holds : left_in way t y card slip o ≡ outputs (written a.new_card o.card) (written a.changes o.changes) (written a.fired o.fired)

-- The same of the response by strata.
abbrev pub response_told : Table → Editors → List ℕ → List ℕ → Outputs → Responded
response_told t y card slip o = told_in Strata t y card slip o

abbrev pub Answers : Table → Editors → List ℕ → List ℕ → Outputs → Answer → Type 0
Answers t y card slip o a = AnswersIn Strata t y card slip o a
