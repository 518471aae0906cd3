-- What the steps of the reading mean, over the tokens from a position of the remainder on.
use Rattle.std.specs.Prelude.{ℕ, ◌+◌, ◌≤◌, ◌<◌, ◌≡◌, Result, Ok, Err, cond, List, [], ◌∷◌, eqb, take, drop}
use Rattle.laws.specs.Limits.{name_limit}
use Rattle.text.specs.Tokens.{Name, Token, word, name, long, bad, tokens_from}
use Rattle.text.specs.declared.Token as code
use Rattle.text.specs.declared.Token.TheVariants as v
use Rattle.grammar.specs.Reading.{Part, took, stop}
use Rattle.text.specs.Words.{word_number}
use Rattle.text.specs.declared.Span.{Span}
use Rattle.steps.specs.declared.step.Fault.{Fault}
use Rattle.steps.specs.declared.step.Fault.TheVariants as fault
use Rattle.steps.specs.declared.step.Read.{Read}
use Rattle.steps.specs.declared.step.Fork.{Fork}
use Rattle.steps.specs.declared.step.Fork.TheVariants as way
use Rattle.steps.specs.Faults.{fault_number}

-- The tokens from position `at` of a remainder on, where the remainder begins at place `base` of the whole text.
unfoldable pub tokens_past : List ℕ → ℕ → ℕ → List Token
tokens_past rest base at = tokens_from (drop at rest) 0 (base + at)

-- The name at a position of the remainder.
abbrev pub name_past : List ℕ → ℕ → Span → Name
name_past rest base n = record { start = base + n.start; letters = take n.size (drop n.start rest) }

-- A token answered at a position of the remainder, before the tokens that follow it.
abbrev pub shown_past : List ℕ → ℕ → code.Token → List Token → List Token
shown_past rest base v.End ts = []
shown_past rest base (v.Word w) ts = word (word_number w) ∷ ts
shown_past rest base (v.Name n) ts = name (name_past rest base n) ∷ ts
shown_past rest base v.Long ts = long ∷ ts
shown_past rest base v.Bad ts = bad ∷ ts

-- The refusal of a token that must not stand there: 11 for a byte that begins no token, `over` for a name over the limit, 12 for any other.
abbrev pub fault_of : code.Token → Fault → Fault
fault_of v.End over = fault.OutOfPlace
fault_of (v.Word w) over = fault.OutOfPlace
fault_of (v.Name n) over = fault.OutOfPlace
fault_of v.Long over = over
fault_of v.Bad over = fault.BadByte

-- What was read, with the tokens left after it, where this is the outcome; or a refusal.
abbrev pub outcome_part : {A : Type 0} → List ℕ → ℕ → A → Result ℕ Fault → Part A
outcome_part rest base a (Ok next) = took a (tokens_past rest base next)
outcome_part rest base a (Err k) = stop (fault_number k)

-- A step as a part read: nothing but the tokens left.
abbrev pub step_part : List ℕ → ℕ → Result ℕ Fault → Part (Unit {0})
step_part rest base s = outcome_part rest base tt s

-- What was read, as the reading means it.
abbrev pub read_part : {A B : Type 0} → (A → B) → List ℕ → ℕ → Result (Read A) Fault → Part B
read_part f rest base (Ok r) = took (f r.value) (tokens_past rest base r.next)
read_part f rest base (Err k) = stop (fault_number k)

-- The position after it moves on and stays in the remainder.
abbrev pub StepLies : ℕ → ℕ → Result ℕ Fault → Type 0
StepLies size from (Ok next) = (from < next) × (next ≤ size)
StepLies size from (Err k) = Unit

-- Which of two words or marks stands next, with the tokens after it; or a refusal.
pub data Choice : Type 0 where
  one : List Token → Choice
  other : List Token → Choice
  neither : ℕ → Choice

unfoldable pub which : ℕ → ℕ → List Token → Choice
which w v [] = neither 12
which w v (word u ∷ ts) = cond (eqb u w) (one ts) (cond (eqb u v) (other ts) (neither 12))
which w v (name n ∷ ts) = neither 12
which w v (long ∷ ts) = neither 12
which w v (bad ∷ ts) = neither 11

-- A fork as that choice.
abbrev pub choice : List ℕ → ℕ → Result Fork Fault → Choice
choice rest base (Ok (way.First next)) = one (tokens_past rest base next)
choice rest base (Ok (way.Second next)) = other (tokens_past rest base next)
choice rest base (Err k) = neither (fault_number k)

abbrev pub ForkLies : ℕ → ℕ → Result Fork Fault → Type 0
ForkLies size from (Ok (way.First next)) = (from < next) × (next ≤ size)
ForkLies size from (Ok (way.Second next)) = (from < next) × (next ≤ size)
ForkLies size from (Err k) = Unit

-- A name read.
abbrev pub named_part : List ℕ → ℕ → Result (Read Span) Fault → Part Name
named_part rest base r = read_part (name_past rest base) rest base r

abbrev pub NamedLies : ℕ → ℕ → Result (Read Span) Fault → Type 0
NamedLies size from (Ok r) = (from < r.next) × (r.next ≤ size) × (0 < r.value.size) × (r.value.size ≤ name_limit) × (r.value.start + r.value.size ≡ r.next)
NamedLies size from (Err k) = Unit
