-- Document 02, section 7: 'The program .. still gives 10 above 65,535 and 15 at a 256th rule.' Its reading is the library's but for these two refusals, and what it refuses is listed.
use Rattle.std.specs.Prelude.{ℕ, ◌≤◌, ◌<◌, ◌≡◌, List, ◌⊎◌, length}
use Rattle.laws.specs.Limits.{program_text_limit, program_rule_limit}
use Rattle.table.specs.Empty.{empty_table}
use Rattle.grammar.specs.Files.{File}
use Rattle.grammar.specs.Reading.{accepted, refused, parse}
use Rattle.reader.specs.Tables.{Refused, FileRead}
use Rattle.rule_file.specs.Whole.{reading, program_reading}
use Rattle.listing.specs.Listing.{refusal, listing}
use Rattle.promises.specs.Program.{OneEditor}

-- A reading that is refused: its table has no slots or rules.
abbrev pub refused_with : ℕ → ℕ → FileRead
refused_with k n = record { outcome = Refused k n; table = empty_table }

-- Of any text. `parse` is the library's reading before test 18, which comes after a full reading: so a file of too many rules is 15 here, with strata or without.
pub record ProgramLimits : Type 0 where
  pub ten : (text : List ℕ) → program_text_limit < length text → program_reading text ≡ refused_with 10 0
  pub fifteen : (text : List ℕ) (f : File) → length text ≤ program_text_limit → parse text ≡ accepted f → program_rule_limit < length f.rules → program_reading text ≡ refused_with 15 program_rule_limit
  pub later : (text : List ℕ) (k n : ℕ) → length text ≤ program_text_limit → parse text ≡ refused k n → program_rule_limit < n → program_reading text ≡ refused_with 15 program_rule_limit
  pub accepts : (text : List ℕ) (f : File) → length text ≤ program_text_limit → parse text ≡ accepted f → length f.rules ≤ program_rule_limit → program_reading text ≡ reading text
  pub earlier : (text : List ℕ) (k n : ℕ) → length text ≤ program_text_limit → parse text ≡ refused k n → n < program_rule_limit → program_reading text ≡ reading text
  -- Refused after as many rules as the program takes: at a WHEN or behind it 15, before it the same.
  pub at_most : (text : List ℕ) (k : ℕ) → length text ≤ program_text_limit → parse text ≡ refused k program_rule_limit → (program_reading text ≡ reading text) ⊎ (program_reading text ≡ refused_with 15 program_rule_limit)
  -- For an editor's number, whatever card and slip there are, a refusal of the reading is what the program lists.
  pub lists : (text card slip editor : List ℕ) (k n : ℕ) → OneEditor editor → program_reading text ≡ refused_with k n → listing text card slip editor ≡ refusal k n
