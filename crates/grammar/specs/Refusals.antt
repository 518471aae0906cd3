-- Where a refusal of 11 to 17 stands, and why (document 01, 'Refusals'): what holds of the tokens before the faulty token, and of that token.
use Rattle.std.specs.Prelude.{ℕ, ◌<◌, ◌≡◌, List, [], ◌∷◌, ◌++◌, length}
use Rattle.laws.specs.Limits.{rule_limit}
use Rattle.text.specs.Tokens.{Name, Token, word, name, long, bad}
use Rattle.text.specs.Cut.{Free}
use Rattle.grammar.specs.Grammar.{RuleTree, LineTree, FileTree, spell, spell_rules, spell_lines}
use Rattle.grammar.specs.Beginnings.{Position, Before, FaultAt}
use Rattle.grammar.specs.Reading.{refused, read_tokens}

-- A derivation goes on from these tokens: the tokens of some tree begin with them. (A tree knows neither limits nor declarations.)
pub record GoesOn (ts : List Token) : Type 0 where
  pub tree : FileTree
  pub more : List Token
  pub derives : spell tree ≡ ts ++ more

-- With this token after those no derivation goes on; of a name over 24 bytes: with no name in its place. A bad token is never said to be out of place, since 11 comes before 12.
abbrev pub OutOfPlace : List Token → Token → Type 0
OutOfPlace before (word w) = ¬ GoesOn (before ++ word w ∷ [])
OutOfPlace before (name n) = ¬ GoesOn (before ++ name n ∷ [])
OutOfPlace before long = (n : Name) → ¬ GoesOn (before ++ name n ∷ [])
OutOfPlace before bad = ⊥

-- These tokens are no whole derivation.
abbrev pub Underived : List Token → Type 0
Underived ts = (tree : FileTree) → ¬ (spell tree ≡ ts)

-- A fault by its number: the tokens before it, then the faulty token with what follows, or nothing where the text ends. A fault of 14 to 17 stands at a token in its place, by what the tokens before have said; one token may have several.
pub data Fault : ℕ → List Token → List Token → Type 0 where
  no_token : {before later : List Token} → Fault 11 before (bad ∷ later)
  no_place : {before later : List Token} {t : Token} → OutOfPlace before t → Fault 12 before (t ∷ later)
  ends_inside : {before : List Token} → Underived before → Fault 12 before []
  too_long : {before later : List Token} → ((n : Name) → GoesOn (before ++ name n ∷ [])) → Fault 13 before (long ∷ later)
  in_place : {k : ℕ} {before later : List Token} {t : Token} {P : Position} → Before before P → FaultAt k P t → Fault k before (t ∷ later)

-- None of these tokens has a fault.
abbrev pub Faultless : List Token → Type 0
Faultless ts = (before : List Token) (t : Token) (later : List Token) → ts ≡ before ++ t ∷ later → (k : ℕ) → ¬ Fault k before (t ∷ later)

-- These tokens are slot lines, `n` rules, and the beginning of one more statement, without its `;`.
pub record Completed (ts : List Token) (n : ℕ) : Type 0 where
  pub lines : List LineTree
  pub rules : List RuleTree
  pub part : List Token
  pub statements : ts ≡ spell_lines lines (spell_rules rules part)
  pub unended : Free part
  pub count : length rules ≡ n

-- The refusal `k` with second number `n` stands at the first of `after`, or at the end where there is none: no token before has a fault, this one has `k` and none of a smaller number, and `n` rules are completed before it. Nothing here goes by the one-pass reading.
pub record StandsAt (ts : List Token) (k n : ℕ) : Type 0 where
  pub before : List Token
  pub after : List Token
  pub whole : ts ≡ before ++ after
  pub faultless : Faultless before
  pub fault : Fault k before after
  pub smallest : (j : ℕ) → j < k → ¬ Fault j before after
  pub completed : Completed before n

-- The refusal is the same whatever follows the faulty token.
abbrev pub Decided : ℕ → ℕ → List Token → List Token → Type 0
Decided k n before [] = Unit
Decided k n before (t ∷ rest) = (later : List Token) → read_tokens rule_limit (before ++ t ∷ later) ≡ refused k n

-- What a search by cutting goes by: cut before the faulty token, and with a bad token behind the cut, the tokens are refused with 11; cut there with nothing behind it, with anything but 11; cut behind the faulty token, whatever follows, as the whole.
pub record FoundByCutting (k n : ℕ) (before after : List Token) : Type 0 where
  pub cut_before : (front rest later : List Token) → before ≡ front ++ rest → (m : ℕ) × (read_tokens rule_limit (front ++ bad ∷ later) ≡ refused 11 m)
  pub cut_alone : (front rest : List Token) (m : ℕ) → before ≡ front ++ rest → ¬ (read_tokens rule_limit front ≡ refused 11 m)
  pub cut_behind : Decided k n before after

-- No derivation goes on with the first of `after`, or, where there is none, none is whole.
abbrev pub Stuck : List Token → List Token → Type 0
Stuck before [] = Underived before
Stuck before (t ∷ later) = OutOfPlace before t

-- The first token with which no derivation goes on, or the end of an unfinished one, no fault before it, and the rules completed before it.
pub record StuckFirst (ts : List Token) (n : ℕ) : Type 0 where
  pub before : List Token
  pub after : List Token
  pub whole : ts ≡ before ++ after
  pub faultless : Faultless before
  pub stuck : Stuck before after
  pub completed : Completed before n
