-- Document 01, 'Rule text': the tokens of a text, a text being the list of its bytes.
use Rattle.std.specs.Prelude.{ℕ, zero, suc, Bool, true, false, cond, List, [], ◌∷◌, eqb, ltb, length, take}
use Rattle.laws.specs.Limits.{name_limit}
use Rattle.classes.specs.Classes.{one_of, class_of}

-- A name: the place of its first byte in the text, and its bytes.
pub record Name : Type 0 where
  pub start : ℕ
  pub letters : List ℕ

-- A token: a reserved word or a mark, by its number; a name of at most 24 bytes; a longer one; a byte that can begin no token, or a class 5 byte without `=`. (The end of the text is the end of the list.)
pub data Token : Type 0 where
  word : ℕ → Token
  name : Name → Token
  long : Token
  bad : Token

-- The numbers of the reserved words, then of the marks `{ } , ; *= |= :=`.
abbrev pub SLOT : ℕ
SLOT = 1

abbrev pub WHEN : ℕ
WHEN = 2

abbrev pub IF : ℕ
IF = 3

abbrev pub THEN : ℕ
THEN = 4

abbrev pub AND : ℕ
AND = 5

abbrev pub NOT : ℕ
NOT = 6

abbrev pub TRUE : ℕ
TRUE = 7

abbrev pub NONE : ℕ
NONE = 8

abbrev pub OPEN : ℕ
OPEN = 9

abbrev pub CLOSE : ℕ
CLOSE = 10

abbrev pub COMMA : ℕ
COMMA = 11

abbrev pub SEMICOLON : ℕ
SEMICOLON = 12

abbrev pub BECOMES : ℕ
BECOMES = 13

abbrev pub HAS : ℕ
HAS = 14

abbrev pub GETS : ℕ
GETS = 15

-- The reserved words in the order of their numbers, in capitals: SLOT WHEN IF THEN AND NOT TRUE, and NONE of document 02, section 6.
unfoldable pub reserved : List (List ℕ)
reserved =
    (83 ∷ 76 ∷ 79 ∷ 84 ∷ [])
    ∷ (87 ∷ 72 ∷ 69 ∷ 78 ∷ [])
    ∷ (73 ∷ 70 ∷ [])
    ∷ (84 ∷ 72 ∷ 69 ∷ 78 ∷ [])
    ∷ (65 ∷ 78 ∷ 68 ∷ [])
    ∷ (78 ∷ 79 ∷ 84 ∷ [])
    ∷ (84 ∷ 82 ∷ 85 ∷ 69 ∷ [])
    ∷ (78 ∷ 79 ∷ 78 ∷ 69 ∷ []) ∷ []

-- The number of a mark, by its first byte.
unfoldable pub mark_of : ℕ → ℕ
mark_of b =
    cond (eqb b 123) OPEN
    (cond (eqb b 125) CLOSE
    (cond (eqb b 44) COMMA
    (cond (eqb b 59) SEMICOLON
    (cond (eqb b 42) BECOMES
    (cond (eqb b 124) HAS GETS)))))

-- Two names are the same when their bytes are.
abbrev pub same_letters : List ℕ → List ℕ → Bool
same_letters [] [] = true
same_letters [] (y ∷ ys) = false
same_letters (x ∷ xs) [] = false
same_letters (x ∷ xs) (y ∷ ys) = cond (eqb x y) (same_letters xs ys) false

-- One place further, where there is a place.
abbrev pub one_further : ℕ → ℕ
one_further zero = zero
one_further (suc n) = suc (suc n)

-- The place of a name in a list of names, from 1; 0 where it is not there.
abbrev pub place : List ℕ → List (List ℕ) → ℕ
place n [] = 0
place n (m ∷ ms) = cond (same_letters n m) 1 (one_further (place n ms))

-- A reserved word where the number says so, else the name.
abbrev pub word_or_name : Name → ℕ → Token
word_or_name n zero = name n
word_or_name n (suc k) = word (suc k)

-- A run of name bytes at a place: too long, a reserved word, or a name.
unfoldable pub run_token : ℕ → List ℕ → Token
run_token p letters =
    cond (ltb name_limit (length letters)) long (word_or_name (record { start = p; letters = letters }) (place letters reserved))

-- How many bytes of classes 2 and 3 a text begins with.
unfoldable pub run : List ℕ → ℕ
run [] = 0
run (x ∷ xs) = cond (one_of (2 ∷ 3 ∷ []) (class_of x)) (suc (run xs)) 0

-- A text begins with `=`.
abbrev pub equals_first : List ℕ → Bool
equals_first [] = false
equals_first (x ∷ xs) = eqb x 61

-- The token that begins with byte `x`, not white, at place `p`, where `xs` follows.
unfoldable pub token_here : ℕ → ℕ → List ℕ → Token
token_here p x xs =
    cond (eqb (class_of x) 2) (run_token p (x ∷ take (run xs) xs))
    (cond (eqb (class_of x) 4) (word (mark_of x))
    (cond (eqb (class_of x) 5) (cond (equals_first xs) (word (mark_of x)) bad) bad))

-- How many bytes it has after its first.
unfoldable pub more_bytes : ℕ → List ℕ → ℕ
more_bytes x xs =
    cond (eqb (class_of x) 2) (run xs) (cond (eqb (class_of x) 5) (cond (equals_first xs) 1 0) 0)

-- A token before others, unless its first byte is white.
abbrev pub unless_white : ℕ → Token → List Token → List Token
unless_white x t ts = cond (eqb (class_of x) 1) ts (t ∷ ts)

-- The tokens of a text whose first byte has place `p`; its first `k` bytes belong to a token already taken.
unfoldable pub tokens_from : List ℕ → ℕ → ℕ → List Token
tokens_from [] k p = []
tokens_from (x ∷ xs) (suc k) p = tokens_from xs k (suc p)
tokens_from (x ∷ xs) zero p = unless_white x (token_here p x xs) (tokens_from xs (more_bytes x xs) (suc p))

-- The tokens of a text.
unfoldable pub tokens : List ℕ → List Token
tokens text = tokens_from text 0 0
