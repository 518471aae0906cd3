-- Document 01, 'Rule text': the classes of bytes.
use Rattle.std.specs.Prelude.{ℕ, ◌<◌, ◌≡◌, Bool, true, false, cond, List, [], ◌∷◌, eqb, leb, get_or}
use Rattle.classes.specs.declared.Class.{Class}
use Rattle.classes.specs.declared.Class.TheVariants.{Other, White, Alphanumeric, Hyphen, Single, Double}

-- A byte is one of those listed.
abbrev pub one_of : List ℕ → ℕ → Bool
one_of [] b = false
one_of (x ∷ xs) b = cond (eqb b x) true (one_of xs b)

-- A byte lies in a range.
abbrev pub between : ℕ → ℕ → ℕ → Bool
between low high b = cond (leb low b) (leb b high) false

-- The class of a byte: 1 for white (9, 10, 13, 32), 2 for digits and letters, 3 for `-`, 4 for `{ } , ;`, 5 for `* | :`, 0 for the rest.
unfoldable pub class_of : ℕ → ℕ
class_of b =
    cond (one_of (9 ∷ 10 ∷ 13 ∷ 32 ∷ []) b) 1
    (cond (between 48 57 b) 2
    (cond (between 65 90 b) 2
    (cond (between 97 122 b) 2
    (cond (eqb b 45) 3
    (cond (one_of (123 ∷ 125 ∷ 44 ∷ 59 ∷ []) b) 4
    (cond (one_of (42 ∷ 124 ∷ 58 ∷ []) b) 5 0))))))

-- The number of each class.
abbrev pub class_number : Class → ℕ
class_number Other = 0
class_number White = 1
class_number Alphanumeric = 2
class_number Hyphen = 3
class_number Single = 4
class_number Double = 5

-- A table of 256 that has the class of each byte at its place.
abbrev pub Classes : List Class → Type 0
Classes xs = (b : ℕ) → b < 256 → class_number (get_or xs b Other) ≡ class_of b
