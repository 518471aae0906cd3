-- The printed form of a file line by line, by the names that it declares. Nothing here need be believed: `print_written` makes it the print.
use Rattle.std.specs.Prelude.{ℕ, List, ◌++◌, map}
use Rattle.grammar.specs.Files.{Slot, File, spellings, slot_named, value_written}
use Rattle.grammar.specs.Grammar.{spell_slotval}
use Rattle.style.specs.Layout.{token_bytes}
use Rattle.writing.specs.inner.Written.{Pairing, rule_bytes, line_bytes, lines_joined}

-- The line of a slot of a file.
abbrev pub slot_bytes : Slot → List ℕ
slot_bytes s = line_bytes s.name.letters (spellings s.values)

-- A pair by the names of a file's slots.
unfoldable pub pair_bytes : List Slot → Pairing
pair_bytes slots mark p = (slot_named slots p).letters ++ (mark ++ token_bytes (spell_slotval (value_written slots p)))

-- A file line by line.
unfoldable pub file_bytes : File → List ℕ
file_bytes f = lines_joined (map slot_bytes f.slots) ++ lines_joined (map (rule_bytes (pair_bytes f.slots)) f.rules)
