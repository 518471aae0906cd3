-- Document 01, 'Rule text': a reader that borrows the rule text while it walks.
use Rattle.std.specs.Prelude.{ℕ, zero, suc, List, [], ◌∷◌}
use Rattle.std.specs.Borrow.{Bor}
use Rattle.text.specs.Tokens.{Token}
use Rattle.text.specs.Next.{coded, next_at}
use Rattle.text.specs.declared.Next.{Next}
use Rattle.text.specs.declared.Token as code
use Rattle.text.specs.declared.Token.TheVariants as v
use Rattle.cursor.specs.declared.Reader.{Reader}

-- The reader at the start of a text.
abbrev pub at_start : Bor (List ℕ) → Reader
at_start text = record { text = text; at = 0 }

-- The token at a reader's position, and the position after it.
abbrev pub peeked : Reader → Next
peeked r = next_at r.text.now r.at

-- The reader past the token at its position: the same text, and the position after that token.
abbrev pub advanced : Reader → Reader
advanced r = record { text = r.text; at = (peeked r).at }

-- The reader after `n` such steps.
abbrev pub advanced_by : ℕ → Reader → Reader
advanced_by zero r = r
advanced_by (suc n) r = advanced_by n (advanced r)

-- The token with number `n`, from 0, of a list of tokens, as the code answers it; the end where the list is over.
abbrev pub nth_token : List Token → ℕ → code.Token
nth_token [] n = v.End
nth_token (t ∷ ts) zero = coded t
nth_token (t ∷ ts) (suc n) = nth_token ts n
