-- The number of each reserved word and mark, as document 01 counts them.
use Rattle.std.specs.Prelude.{ℕ, [], ◌∷◌, get_or}
use Rattle.text.specs.Tokens.{SLOT, WHEN, IF, THEN, AND, NOT, TRUE, NONE, OPEN, CLOSE, COMMA, SEMICOLON, BECOMES, HAS, GETS}
use Rattle.text.specs.declared.Word.{Word}
use Rattle.text.specs.declared.Word.TheVariants as w

abbrev pub word_number : Word → ℕ
word_number w.Slot = SLOT
word_number w.When = WHEN
word_number w.If = IF
word_number w.Then = THEN
word_number w.And = AND
word_number w.Not = NOT
word_number w.True = TRUE
word_number w.None = NONE
word_number w.Open = OPEN
word_number w.Close = CLOSE
word_number w.Comma = COMMA
word_number w.Semicolon = SEMICOLON
word_number w.Becomes = BECOMES
word_number w.Has = HAS
word_number w.Gets = GETS

-- The word or mark of a number.
abbrev pub word_by_number : ℕ → Word
word_by_number n =
    get_or (w.Slot ∷ w.Slot ∷ w.When ∷ w.If ∷ w.Then ∷ w.And ∷ w.Not ∷ w.True ∷ w.None ∷ w.Open ∷ w.Close ∷ w.Comma ∷ w.Semicolon ∷ w.Becomes ∷ w.Has ∷ []) n w.Gets
