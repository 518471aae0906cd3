-- What it means that tokens cover a text but for white.
use Rattle.std.specs.Prelude.{ℕ, suc, ◌+◌, ◌<◌, ◌≡◌, List, [], ◌∷◌, ◌++◌, length, get_or}
use Rattle.laws.specs.Limits.{name_limit}
use Rattle.classes.specs.Classes.{class_of}
use Rattle.text.specs.Tokens.{Token, word, name, long, bad, reserved}

-- The marks in the order of their numbers: `{ } , ; *= |= :=`.
abbrev pub marks : List (List ℕ)
marks = (123 ∷ []) ∷ (125 ∷ []) ∷ (44 ∷ []) ∷ (59 ∷ []) ∷ (42 ∷ 61 ∷ []) ∷ (124 ∷ 61 ∷ []) ∷ (58 ∷ 61 ∷ []) ∷ []

-- The bytes of a reserved word or a mark, by its number.
unfoldable pub spelling : ℕ → List ℕ
spelling w = get_or ([] ∷ reserved ++ marks) w []

-- A token stands for the bytes at a place: a word or mark for its spelling, a name for its letters, a long name for more than 24 bytes, a bad byte for itself.
unfoldable pub Spells : ℕ → Token → List ℕ → Type 0
Spells p (word w) bytes = bytes ≡ spelling w
Spells p (name n) bytes = (n.start ≡ p) × (n.letters ≡ bytes)
Spells p long bytes = name_limit < length bytes
Spells p bad bytes = length bytes ≡ 1

-- The text from place `p` on is white bytes and the bytes of these tokens, in their order, and nothing else.
pub data Covers : ℕ → List ℕ → List Token → Type 0 where
  done : {p : ℕ} → Covers p [] []
  over_white : {p x : ℕ} {xs : List ℕ} {ts : List Token} → class_of x ≡ 1 → Covers (suc p) xs ts → Covers p (x ∷ xs) ts
  token : {p : ℕ} {t : Token} {ts : List Token} (bytes rest : List ℕ) → Spells p t bytes → 0 < length bytes → Covers (p + length bytes) rest ts → Covers p (bytes ++ rest) (t ∷ ts)
