use Rattle.std.specs.Prelude.{ℕ, Option, Some, None}
use Rattle.text.specs.declared.Word.{Word}
use Rattle.text.specs.Words.{word_number}

-- The number of a reserved word, 0 for none.
abbrev pub found_number : Option Word → ℕ
found_number None = 0
found_number (Some w) = word_number w
