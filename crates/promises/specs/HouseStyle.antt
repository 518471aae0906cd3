-- The house style, document 02, section 1: 'We want one printed form .. Reading the print yields the same slots, names, rules and strata. Two accepted files print alike exactly when those agree.
-- After the reading's own refusals it gives 34 when the print would pass 65,535 bytes, then 33 when the output is shorter than the print.' It is said of the reading and of what is printed, which the contracts of `read` and `print` equal; CalledPrint says it by their numbers.
use Rattle.std.specs.Prelude.{ℕ, ◌≤◌, ◌<◌, ◌≡◌, List, ◌↔◌, length}
use Rattle.laws.specs.Answers.{taken, refused}
use Rattle.text.specs.Tokens.{tokens}
use Rattle.laws.specs.Limits.{text_limit}
use Rattle.grammar.specs.Files.{File}
use Rattle.grammar.specs.Grammar.{FileTree, spell}
use Rattle.grammar.specs.Meaning.{Means, IsFile}
use Rattle.grammar.specs.Reading.{parse}
use Rattle.table.specs.Link.{rules_of, carried_strata, value_counts}
use Rattle.names.specs.Names.{unplaced, show_slot, show_value}
use Rattle.style.specs.Layout.{layout, by_letters}
use Rattle.style.specs.Printed.{canonical}
use Rattle.style.specs.Tidy.{Tidy}
use Rattle.reader.specs.Tables.{Accepted, Refused}
use Rattle.rule_file.specs.Whole.{reading}
use Rattle.printing.specs.Printing.{print_of, print_into}
use Rattle.tally.specs.Editors.{Editors}
use Rattle.response.specs.Respond.{Rooms}
use Rattle.promises.specs.Agreement.{responds}

-- Two texts are alike: the tables that they are read to have as many slots and values, show the same names for them, and have the same rules and the same strata.
-- Where in its text a name stands is left aside.
pub record Alike (text text' : List ℕ) : Type 0 where
  pub same_counts : value_counts (reading text).table ≡ value_counts (reading text').table
  pub same_slots : (s : ℕ) → unplaced (show_slot text (reading text).table s) ≡ unplaced (show_slot text' (reading text').table s)
  pub same_values : (s v : ℕ) → unplaced (show_value text (reading text).table s v) ≡ unplaced (show_value text' (reading text').table s v)
  pub same_rules : rules_of (reading text).table ≡ rules_of (reading text').table
  pub same_strata : carried_strata (reading text).table ≡ carried_strata (reading text').table

-- Bytes are in the house style what a text says. The text is a file; the file's canonical tree means it and is tidy (cancelled NOTs gone, TRUE only in an empty condition, braces only for two or more assignments);
-- the bytes are that tree's tokens laid out, and these tokens are what they are read as. There is no other form: any tidy tree that means the file is laid out as these bytes.
pub record InStyle (text bytes : List ℕ) : Type 0 where
  pub file : File
  pub is_file : IsFile text file
  pub means : Means (canonical file) file
  pub tidy : Tidy (canonical file)
  pub laid_out : bytes ≡ layout (spell (canonical file))
  pub tokens_are : by_letters (tokens bytes) ≡ by_letters (spell (canonical file))
  pub no_other : (t : FileTree) → Means t file → Tidy t → layout (spell t) ≡ bytes

pub record HouseStyle : Type 0 where
  -- The print of an accepted text is in the style, also where it is over the limit. What an output is given is this print, where it is within the limit and fits (exactly-printed).
  pub in_style : (text : List ℕ) → (reading text).outcome ≡ Accepted → InStyle text (print_of (parse text))
  -- Reading what is given yields the same slots, names, rules and strata.
  pub read_back : (text : List ℕ) (room : ℕ) (bytes : List ℕ) → print_into text room ≡ taken bytes → ((reading bytes).outcome ≡ Accepted) × Alike text bytes
  -- Printing it changes nothing.
  pub again : (text : List ℕ) (room : ℕ) (bytes : List ℕ) → print_into text room ≡ taken bytes → (room' : ℕ) → length bytes ≤ room' → print_into bytes room' ≡ taken bytes
  -- Two accepted texts print alike exactly when they are alike, also where the prints are over the limit.
  pub print_alike : (text text' : List ℕ) → (reading text).outcome ≡ Accepted → (reading text').outcome ≡ Accepted → (print_of (parse text) ≡ print_of (parse text')) ↔ Alike text text'
  -- So a text that is accepted gets the print of another exactly when they are alike.
  pub same_print : (text text' : List ℕ) (room : ℕ) (bytes : List ℕ) → print_into text room ≡ taken bytes → (reading text').outcome ≡ Accepted → (print_into text' room ≡ taken bytes) ↔ Alike text text'
  -- Texts that are alike get the same bytes or the same refusal for every card and slip. What is told, the records after it and the outputs are functions of these.
  pub same_answers : (text text' : List ℕ) → Alike text text' → (y : Editors) (card slip : List ℕ) (rooms : Rooms) → responds text y card slip rooms ≡ responds text' y card slip rooms
  -- So texts with equal prints do.
  pub print_answers : (text text' : List ℕ) → (reading text).outcome ≡ Accepted → (reading text').outcome ≡ Accepted → print_of (parse text) ≡ print_of (parse text')
      → (y : Editors) (card slip : List ℕ) (rooms : Rooms) → responds text y card slip rooms ≡ responds text' y card slip rooms
  -- The reading's own refusals come first, with both their numbers; then 34, then 33, each exactly where it is due; else the whole print.
  pub own_refusal : (text : List ℕ) (room k n : ℕ) → (reading text).outcome ≡ Refused k n → print_into text room ≡ refused k n
  pub exactly_34 : (text : List ℕ) (room : ℕ) → (print_into text room ≡ refused 34 0) ↔ (((reading text).outcome ≡ Accepted) × (text_limit < length (print_of (parse text))))
  pub exactly_33 : (text : List ℕ) (room : ℕ)
      → (print_into text room ≡ refused 33 0) ↔ (((reading text).outcome ≡ Accepted) × (length (print_of (parse text)) ≤ text_limit) × (room < length (print_of (parse text))))
  pub exactly_printed : (text : List ℕ) (room : ℕ) (bytes : List ℕ)
      → (print_into text room ≡ taken bytes) ↔ (((reading text).outcome ≡ Accepted) × (bytes ≡ print_of (parse text)) × (length bytes ≤ text_limit) × (length bytes ≤ room))
