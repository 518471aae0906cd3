-- One token at a position of a text, as the code answers it.
use Rattle.std.specs.Prelude.{ℕ, suc, ◌+◌, ◌≤◌, ◌<◌, ◌≡◌, cond, List, [], ◌∷◌, eqb, length, take, drop}
use Rattle.laws.specs.Limits.{name_limit}
use Rattle.classes.specs.Classes.{class_of}
use Rattle.text.specs.Tokens.{Name, Token, word, name, long, bad, token_here, more_bytes, tokens_from}
use Rattle.text.specs.Words.{word_number, word_by_number}
use Rattle.text.specs.declared.Next.{Next}
use Rattle.text.specs.declared.Span.{Span}
use Rattle.text.specs.declared.Token as code
use Rattle.text.specs.declared.Token.TheVariants as v

-- A token as the code has it: a name is its place and its length.
abbrev pub coded : Token → code.Token
coded (word w) = v.Word (word_by_number w)
coded (name n) = v.Name (record { start = n.start; size = length n.letters })
coded long = v.Long
coded bad = v.Bad

-- How many white bytes a text begins with.
unfoldable pub white : List ℕ → ℕ
white [] = 0
white (x ∷ xs) = cond (eqb (class_of x) 1) (suc (white xs)) 0

-- What a text without white at its front begins with, its first byte at place `p`, beside the place after it.
unfoldable pub next_from : ℕ → List ℕ → Next
next_from p [] = record { token = v.End; at = p }
next_from p (x ∷ xs) = record { token = coded (token_here p x xs); at = suc p + more_bytes x xs }

-- The token at a position: white is passed over.
unfoldable pub next_at : List ℕ → ℕ → Next
next_at text at = next_from (at + white (drop at text)) (drop (at + white (drop at text)) text)

-- The refusal that a token is wherever it stands: 11 for a byte that can begin no token or a class 5 byte without `=`; 0 for none. (A name over 24 bytes is 13 where a name may stand and 12 elsewhere.)
abbrev pub refusal_of : code.Token → ℕ
refusal_of v.End = 0
refusal_of (v.Word w) = 0
refusal_of (v.Name n) = 0
refusal_of v.Long = 0
refusal_of v.Bad = 11

-- The tokens from a position on.
unfoldable pub tokens_at : List ℕ → ℕ → List Token
tokens_at text at = tokens_from (drop at text) 0 at

-- The name that stands at a stretch of the text.
abbrev pub name_at : List ℕ → Span → Name
name_at text n = record { start = n.start; letters = take n.size (drop n.start text) }

-- A token that the code answered, before the tokens that follow it.
abbrev pub shown : List ℕ → code.Token → List Token → List Token
shown text v.End rest = []
shown text (v.Word w) rest = word (word_number w) ∷ rest
shown text (v.Name n) rest = name (name_at text n) ∷ rest
shown text v.Long rest = long ∷ rest
shown text v.Bad rest = bad ∷ rest

-- Where the token answered at position `from` of a text of `size` bytes lies, `next` being the position after it: a token that is not the end moves the position on and stays in the text.
abbrev pub Lies : ℕ → ℕ → code.Token → ℕ → Type 0
Lies size from v.End next = (from ≤ next) × (size ≤ next)
Lies size from (v.Word w) next = (from < next) × (next ≤ size)
Lies size from (v.Name n) next = (from ≤ n.start) × (0 < n.size) × (n.size ≤ name_limit) × (n.start + n.size ≡ next) × (next ≤ size)
Lies size from v.Long next = (from < next) × (next ≤ size)
Lies size from v.Bad next = (from < next) × (next ≤ size)
