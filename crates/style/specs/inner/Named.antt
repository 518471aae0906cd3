-- Tokens that may be laid out, and names that have the letters of one: what every accepted text has.
use Rattle.std.specs.Prelude.{ℕ, ◌≤◌, ◌≡◌, true, List, [], ◌∷◌, length, get_or}
use Rattle.laws.specs.Limits.{name_limit}
use Rattle.classes.specs.Classes.{one_of, class_of}
use Rattle.text.specs.Tokens.{Token, word, name, long, bad, SLOT, WHEN, IF, THEN, AND, NOT, TRUE, NONE, OPEN, CLOSE, COMMA, SEMICOLON, BECOMES, HAS, GETS, reserved, place, run, Name}
use Rattle.grammar.specs.Files.{Slot}
use Rattle.grammar.specs.Standing.{NamedBy}

-- The letters of a name: 1 to 24 bytes, the first of class 2, all of class 2 or 3, and no reserved word.
pub record IsName (letters : List ℕ) : Type 0 where
  pub begins : class_of (get_or letters 0 0) ≡ 2
  pub goes_on : run letters ≡ length letters
  pub short : length letters ≤ name_limit
  pub unreserved : place letters reserved ≡ 0

-- A token that may be laid out: one of the words and marks, or a name.
abbrev pub Printable : Token → Type 0
Printable (word w) = one_of (SLOT ∷ WHEN ∷ IF ∷ THEN ∷ AND ∷ NOT ∷ TRUE ∷ NONE ∷ OPEN ∷ CLOSE ∷ COMMA ∷ SEMICOLON ∷ BECOMES ∷ HAS ∷ GETS ∷ []) w ≡ true
Printable (name n) = IsName n.letters
Printable long = ⊥
Printable bad = ⊥

-- A name of a file has the letters of one.
abbrev pub Named : Name → Type 0
Named n = IsName n.letters

-- So have the name of a slot and the names of its values.
abbrev pub WellNamed : Slot → Type 0
WellNamed = NamedBy Named
