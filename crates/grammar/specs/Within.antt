-- Document 02, section 7: the library and the program take texts of different lengths with different numbers of rules. Of two readings, the one with the smaller limits is the other with two refusals more.
use Rattle.std.specs.Prelude.{ℕ, ◌≤◌, ◌<◌, List, length}
use Rattle.grammar.specs.Reading.{Parsed, accepted, refused}

-- A reading came to no more than so many rules: the file has no more, or the refusal came after no more.
abbrev pub RulesAtMost : ℕ → Parsed → Type 0
RulesAtMost most (accepted f) = length f.rules ≤ most
RulesAtMost most (refused k n) = n ≤ most

-- It came to a rule more: the file has more, or the refusal came after as many.
abbrev pub Beyond : ℕ → Parsed → Type 0
Beyond most (accepted f) = most < length f.rules
Beyond most (refused k n) = most ≤ n

-- What a reading of so many bytes and rules comes to, by what a reading with larger limits comes to: 10 where the text is too long; 15 where a rule too many begins; else the same.
pub data Smaller (bytes most : ℕ) (text : List ℕ) (larger : Parsed) : Parsed → Type 0 where
  too_long : bytes < length text → Smaller bytes most text larger (refused 10 0)
  too_many : length text ≤ bytes → Beyond most larger → Smaller bytes most text larger (refused 15 most)
  the_same : length text ≤ bytes → RulesAtMost most larger → Smaller bytes most text larger larger
