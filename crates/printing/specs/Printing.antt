-- Document 02, section 1: what is printed of a rule text. 'After the reading's own refusals it gives 34 when the print would pass 65,535 bytes, then 33 when the output is shorter than the print.'
use Rattle.std.specs.Prelude.{ℕ, cond, List, [], ltb, length, Result, Ok, Err}
use Rattle.laws.specs.Answers.{OrRefused, taken, refused}
use Rattle.laws.specs.Limits.{text_limit}
use Rattle.grammar.specs.Reading as grammar
use Rattle.reader.specs.Tables.{ReadingOutcome}
use Rattle.reader.specs.Tables as outcome
use Rattle.rule_file.specs.Whole.{reading}
use Rattle.style.specs.Printed.{print}
use Rattle.refusals.specs.declared.Refusal.{Refusal}
use Rattle.refusals.specs.Numbers.{refusal_number, refusal_second}

-- The print of what a text was read as; there is none of a text that is no file.
unfoldable pub print_of : grammar.Parsed → List ℕ
print_of (grammar.accepted f) = print f
print_of (grammar.refused k n) = []

-- Bytes for an output of so much room: 34 where they pass the limit of a text, then 33 where the output is shorter.
unfoldable pub fitted : List ℕ → ℕ → OrRefused (List ℕ)
fitted ys room = cond (ltb text_limit (length ys)) (refused 34 0) (cond (ltb room (length ys)) (refused 33 0) (taken ys))

-- The reading's own refusals come first.
unfoldable pub after_reading : {A : Type 0} → ReadingOutcome → OrRefused A → OrRefused A
after_reading outcome.Accepted u = u
after_reading (outcome.Refused k n) u = refused k n

-- What is printed of a text, for an output of so much room; or a refusal with both its numbers.
unfoldable pub print_into : List ℕ → ℕ → OrRefused (List ℕ)
print_into text room = after_reading (reading text).outcome (fitted (print_of (grammar.parse text)) room)

-- A print: how many bytes it takes; or a refusal with its number and its second number.
pub data Printing : Type 0 where
  Printed : ℕ → Printing
  Refused : ℕ → ℕ → Printing

-- What the code answers: how many bytes the print takes.
unfoldable pub printing_of : OrRefused (List ℕ) → Printing
printing_of (taken ys) = Printed (length ys)
printing_of (refused k s) = Refused k s

-- The number of a refusal, 0 for none, its second number, and the length of the print, 0 after a refusal.
abbrev pub printing_refusal : Printing → ℕ
printing_refusal (Printed n) = 0
printing_refusal (Refused k s) = k

abbrev pub printing_second : Printing → ℕ
printing_second (Printed n) = 0
printing_second (Refused k s) = s

abbrev pub printing_length : Printing → ℕ
printing_length (Printed n) = n
printing_length (Refused k s) = 0

-- A result of the code as such an answer: how many bytes are printed, or a refusal with both its numbers.
abbrev pub printing_said : Result ℕ Refusal → Printing
printing_said (Ok n) = Printed n
printing_said (Err r) = Refused (refusal_number r) (refusal_second r)
