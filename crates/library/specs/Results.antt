-- The results of the boundary: the answers of the entry points, with document 01's numbers in place of their cases.
use Rattle.std.specs.Prelude.{ℕ, length}
use Rattle.reader.specs.Tables.{FileRead, reading_refusal, reading_second}
use Rattle.printing.specs.Printing.{Printing, printing_refusal, printing_second, printing_length}
use Rattle.names.specs.Names.{Showing}
use Rattle.cards.specs.Outcomes.{CardRead, SlipRead}
use Rattle.cards.specs.Packings.{Packing}
use Rattle.cards.specs.Cards.{unpacking_refusal, unpacking_second, packing_refusal, packing_second, packing_length}
use Rattle.response.specs.Outcomes.{Outcome, Answered, Refused}
use Rattle.response.specs.Respond.{response_refusal, response_second}
use Rattle.library.specs.declared.RlRead.{RlRead}
use Rattle.library.specs.declared.RlPrinted.{RlPrinted}
use Rattle.library.specs.declared.RlName.{RlName}
use Rattle.library.specs.declared.RlCard.{RlCard}
use Rattle.library.specs.declared.RlSlip.{RlSlip}
use Rattle.library.specs.declared.RlPacked.{RlPacked}
use Rattle.library.specs.declared.RlResponse.{RlResponse}

-- A reading: 'Refusals by who can cause them', the number, 0 for none, and the second number; the table as it is.
abbrev pub reading_numbers : FileRead → RlRead
reading_numbers r = record { number = reading_refusal r.outcome; second = reading_second r.outcome; table = r.table }

-- A print.
abbrev pub print_numbers : Printing → RlPrinted
print_numbers p = record { number = printing_refusal p; second = printing_second p; length = printing_length p }

-- A name: where it stands in the text, and how long it is.
abbrev pub name_numbers : Showing → RlName
name_numbers s = record { number = s.code; start = s.start; size = length s.part }

-- An unpacked card.
abbrev pub card_numbers : CardRead → RlCard
card_numbers r = record { number = unpacking_refusal r.outcome; second = unpacking_second r.outcome; card = r.card }

-- An unpacked slip.
abbrev pub slip_numbers : SlipRead → RlSlip
slip_numbers r = record { number = unpacking_refusal r.outcome; second = unpacking_second r.outcome; slip = r.slip }

-- A packing.
abbrev pub packing_numbers : Packing → RlPacked
packing_numbers p = record { number = packing_refusal p; second = packing_second p; length = packing_length p }

-- The length of the changes that a response says; a refusal has none.
abbrev pub changes_length : Outcome → ℕ
changes_length (Answered n f) = n
changes_length (Refused k s) = 0

-- How many rules fired; none after a refusal.
abbrev pub fired_count : Outcome → ℕ
fired_count (Answered n f) = f
fired_count (Refused k s) = 0

-- An outcome by numbers.
abbrev pub response_numbers : Outcome → RlResponse
response_numbers o = record { number = response_refusal o; second = response_second o; length = changes_length o; fired = fired_count o }
