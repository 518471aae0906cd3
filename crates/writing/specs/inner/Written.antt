-- The lines of the printed form byte by byte, as the code puts them. How a slot, a mark and a value are written is handed in: by the names of a file, or by the spans of its text. Nothing here need be believed: `print_written` (crate `printing`) makes it the print.
use Rattle.std.specs.Prelude.{ℕ, cond, List, [], ◌∷◌, ◌++◌, map}
use Rattle.laws.specs.Quoted.{bytes}
use Rattle.model.specs.Rules.{Pair, Literal, Rule}

-- How a pair is written, with a mark between its slot and its value.
abbrev pub Pairing : Type 0
Pairing = List ℕ → Pair → List ℕ

-- Parts, each after a separator.
unfoldable pub followed : List ℕ → List (List ℕ) → List ℕ
followed sep [] = []
followed sep (x ∷ xs) = sep ++ (x ++ followed sep xs)

-- Parts with a separator between them.
unfoldable pub separated : List ℕ → List (List ℕ) → List ℕ
separated sep [] = []
separated sep (x ∷ xs) = x ++ followed sep xs

-- A literal without its NOT.
unfoldable pub test_bytes : Pairing → Literal → List ℕ
test_bytes paired l = paired (cond l.becomes (bytes " *= ") (bytes " |= ")) l.pair

-- A literal.
unfoldable pub literal_bytes : Pairing → Literal → List ℕ
literal_bytes paired l = cond l.negated (bytes "NOT ") [] ++ test_bytes paired l

-- A condition.
unfoldable pub condition_bytes : Pairing → List Literal → List ℕ
condition_bytes paired [] = bytes "TRUE"
condition_bytes paired (m ∷ ms) = separated (bytes " AND ") (map (literal_bytes paired) (m ∷ ms))

-- Assignments: one alone, or two and more in braces. (No rule of an accepted text has none.)
unfoldable pub assign_bytes : Pairing → List Pair → List ℕ
assign_bytes paired [] = []
assign_bytes paired (p ∷ []) = paired (bytes " := ") p
assign_bytes paired (p ∷ q ∷ qs) = bytes "{ " ++ (separated (bytes ", ") (map (paired (bytes " := ")) (p ∷ q ∷ qs)) ++ bytes " }")

-- A rule's line.
unfoldable pub rule_bytes : Pairing → Rule → List ℕ
rule_bytes paired r =
    bytes "WHEN " ++ (paired (bytes " *= ") r.trigger
    ++ (bytes " IF " ++ (condition_bytes paired r.literals
    ++ (bytes " THEN " ++ (assign_bytes paired r.assignments ++ bytes ";\n")))))

-- The line of a slot, by the letters of its name and of its values' names.
unfoldable pub line_bytes : List ℕ → List (List ℕ) → List ℕ
line_bytes name values = bytes "SLOT " ++ (name ++ (bytes " { " ++ (separated (bytes ", ") values ++ bytes " };\n")))

-- Lines one after the other.
unfoldable pub lines_joined : List (List ℕ) → List ℕ
lines_joined [] = []
lines_joined (x ∷ xs) = x ++ lines_joined xs
