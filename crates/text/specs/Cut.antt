-- What is said of tokens cut at `;`, of tokens whose text stands elsewhere, and of names in the text: document 01, 'When a name is shown, it is the very stretch of text where it was declared', and 'Agreement', 'Cut its text after each `;`'.
use Rattle.std.specs.Prelude.{ℕ, ◌+◌, ◌≤◌, ◌≡◌, Bool, false, cond, List, [], ◌∷◌, eqb, length, take, drop}
use Rattle.laws.specs.Listed.{Each}
use Rattle.text.specs.Tokens.{Name, Token, word, name, long, bad, SEMICOLON}

-- The same name, its place taken elsewhere.
abbrev pub moved_name : (ℕ → ℕ) → Name → Name
moved_name f n = record { start = f n.start; letters = n.letters }

-- The same token, its place taken elsewhere.
abbrev pub moved : (ℕ → ℕ) → Token → Token
moved f (word w) = word w
moved f (name n) = name (moved_name f n)
moved f long = long
moved f bad = bad

-- No byte of a text is `;`.
abbrev pub NoSemi : List ℕ → Type 0
NoSemi [] = Unit
NoSemi (x ∷ xs) = (eqb x 59 ≡ false) × NoSemi xs

-- A token is `;`.
abbrev pub is_semi : Token → Bool
is_semi (word w) = eqb w SEMICOLON
is_semi (name n) = false
is_semi long = false
is_semi bad = false

-- None of the tokens is `;`.
abbrev pub Free : List Token → Type 0
Free [] = Unit
Free (t ∷ ts) = (is_semi t ≡ false) × Free ts

-- The tokens before the first `;`.
abbrev pub before_semi : List Token → List Token
before_semi [] = []
before_semi (t ∷ ts) = cond (is_semi t) [] (t ∷ before_semi ts)

-- The tokens after the first `;`.
abbrev pub past_semi : List Token → List Token
past_semi [] = []
past_semi (t ∷ ts) = cond (is_semi t) ts (past_semi ts)

-- A name lies inside the text and is the stretch of it at its place.
pub record Stands (s : List ℕ) (n : Name) : Type 0 where
  pub inside : n.start + length n.letters ≤ length s
  pub there : take (length n.letters) (drop n.start s) ≡ n.letters

-- A token, where it is a name, has a property of names.
abbrev pub OfName : (Name → Type 0) → Token → Type 0
OfName P (word w) = Unit
OfName P (name n) = P n
OfName P long = Unit
OfName P bad = Unit

-- A token that is a name stands so in the text.
abbrev pub TokenStands : List ℕ → Token → Type 0
TokenStands s = OfName (Stands s)

-- Every name among the tokens stands so in the text.
abbrev pub AllStand : List ℕ → List Token → Type 0
AllStand s = Each (TokenStands s)
