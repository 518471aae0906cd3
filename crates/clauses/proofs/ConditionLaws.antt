-- Laws of the reading of conditions.
-- Assumes nothing.
use Prim.Native.Nat.{ℕ, ◌-◌, ◌<◌}
use native.Mathlib.Omega.{arith}
use mathlib.Core.Path.{◌≡◌, refl, ap, ◌∙◌}
use mathlib.Core.Bool.{false}
use mathlib.Core.List.{List, [], ◌∷◌, ◌++◌}
use types.Run.{miss}
use borrow.Enum.Refused.{Among, opened}
use denote.Enum.Declared.{tag_of}
use Rattle.text.specs.Tokens.{Token, word, NOT, AND, THEN, TRUE}
use Rattle.text.specs.declared.Token as code
use Rattle.text.specs.declared.Token.TheVariants as v
use Rattle.text.specs.contracts.Token as kinds
use Rattle.model.specs.Rules as model
use Rattle.grammar.specs.Files.{Slot}
use Rattle.grammar.specs.Reading.{took, stop, expects, fork, read_literal, no_literal, read_literals, read_condition}
use Rattle.laws.specs.Limits.{literal_limit}
use Rattle.steps.specs.inner.Places.{fault_of, shown_past, which, one, other, neither}
use Rattle.steps.proofs.Places.{follow, fork_which, next_is, next_not}
use Rattle.text.specs.declared.Word.TheVariants as w
use Rattle.text.specs.declared.Span.{Span}
use Rattle.steps.specs.Faults.{fault_number}
use Rattle.steps.specs.declared.step.Fault.TheVariants as fault
use Rattle.steps.proofs.Places.{other_number, not_named}
use Rattle.std.specs.Prelude.{◌≤◌, Result, Ok, Err}
use Rattle.steps.specs.declared.step.Fault.{Fault}
use Rattle.steps.specs.declared.step.Read.{Read}
use Rattle.clauses.specs.inner.Conditions.{LiteralPlaces, ConditionLies}
use Rattle.clauses.proofs.ListLaws as lists

-- What stands where no further literal may.
pub more_not : (sofar : List model.Literal) (ts : List Token) → no_literal sofar (word NOT ∷ ts) ≡ stop 15
unfolding no_literal
more_not sofar ts = refl

pub more_other : (rest : List ℕ) (base : ℕ) (t : code.Token) (sofar : List model.Literal) (ts : List Token) → (t ≡ v.Word w.Not → ⊥) → Among not_named (tag_of kinds.the_type t)
    → no_literal sofar (shown_past rest base t ts) ≡ stop (fault_number (fault_of t fault.LongName))
unfolding no_literal
more_other rest base v.End sofar ts h k = refl
more_other rest base (v.Word u) sofar ts h k = rw (other_number u w.Not h)
more_other rest base (v.Name n) sofar ts h k = absurd (miss not_named 2 tt (opened k))
more_other rest base v.Long sofar ts h k = refl
more_other rest base v.Bad sofar ts h k = refl

pub more_name : (rest : List ℕ) (base : ℕ) (n : Span) (sofar : List model.Literal) (ts : List Token) → no_literal sofar (shown_past rest base (v.Name n) ts) ≡ stop 15
unfolding no_literal
more_name rest base n sofar ts = refl

-- Literals, one at a time; `room` more may come.
pub literals_full : (slots : List Slot) (room : ℕ) (sofar : List model.Literal) (ts : List Token) → room ≡ 0 → read_literals slots room sofar ts ≡ no_literal sofar ts
unfolding read_literals
literals_full slots room sofar ts e = lists.list_full _ _ AND THEN room sofar ts e

pub literals_stop : (slots : List Slot) (room : ℕ) (sofar : List model.Literal) (ts : List Token) (k : ℕ) → 0 < room → read_literal ts slots false ≡ stop k → read_literals slots room sofar ts ≡ stop k
unfolding read_literals
literals_stop slots room sofar ts k h e = lists.list_stop _ _ AND THEN room (room - 1) sofar ts k (omega arith) e

pub literals_on : (slots : List Slot) (room : ℕ) (sofar : List model.Literal) (ts left more : List Token) (l : model.Literal) → 0 < room → read_literal ts slots false ≡ took l left → which AND THEN left ≡ one more
    → read_literals slots room sofar ts ≡ read_literals slots (room - 1) (sofar ++ l ∷ []) more
unfolding read_literals
literals_on slots room sofar ts left more l h e f = lists.list_on _ _ AND THEN room (room - 1) sofar ts left more l (omega arith) e f

pub literals_end : (slots : List Slot) (room : ℕ) (sofar : List model.Literal) (ts left more : List Token) (l : model.Literal) → 0 < room → read_literal ts slots false ≡ took l left → which AND THEN left ≡ other more
    → read_literals slots room sofar ts ≡ took (sofar ++ l ∷ []) more
unfolding read_literals
literals_end slots room sofar ts left more l h e f = lists.list_end _ _ AND THEN room (room - 1) sofar ts left more l (omega arith) e f

pub literals_fault : (slots : List Slot) (room : ℕ) (sofar : List model.Literal) (ts left : List Token) (l : model.Literal) (k : ℕ) → 0 < room → read_literal ts slots false ≡ took l left → which AND THEN left ≡ neither k
    → read_literals slots room sofar ts ≡ stop k
unfolding read_literals
literals_fault slots room sofar ts left l k h e f = lists.list_fault _ _ AND THEN room (room - 1) sofar ts left l k (omega arith) e f

-- TRUE opens a condition, and AND or THEN follows it; or literals stand there.
condition_open : (slots : List Slot) (ts left : List Token) (u : Unit {0}) → expects TRUE ts ≡ took u left
    → read_condition slots ts ≡ follow (read_literals slots literal_limit []) (took []) (which AND THEN left)
unfolding read_condition
condition_open slots ts left u e = next_is TRUE (fork AND THEN (read_literals slots literal_limit []) (took [])) _ ts left u e ∙ fork_which AND THEN _ _ left

pub condition_on : (slots : List Slot) (ts left more : List Token) (u : Unit {0}) → expects TRUE ts ≡ took u left → which AND THEN left ≡ one more
    → read_condition slots ts ≡ read_literals slots literal_limit [] more
condition_on slots ts left more u e f = condition_open slots ts left u e ∙ ap (follow (read_literals slots literal_limit []) (took [])) f

pub condition_end : (slots : List Slot) (ts left more : List Token) (u : Unit {0}) → expects TRUE ts ≡ took u left → which AND THEN left ≡ other more
    → read_condition slots ts ≡ took [] more
condition_end slots ts left more u e f = condition_open slots ts left u e ∙ ap (follow (read_literals slots literal_limit []) (took [])) f

pub condition_fault : (slots : List Slot) (ts left : List Token) (u : Unit {0}) (k : ℕ) → expects TRUE ts ≡ took u left → which AND THEN left ≡ neither k
    → read_condition slots ts ≡ stop k
condition_fault slots ts left u k e f = condition_open slots ts left u e ∙ ap (follow (read_literals slots literal_limit []) (took [])) f

pub condition_plain : (slots : List Slot) (ts : List Token) (k : ℕ) → expects TRUE ts ≡ stop k → read_condition slots ts ≡ read_literals slots literal_limit [] ts
unfolding read_condition
condition_plain slots ts k e = next_not TRUE _ _ ts k e

-- What lies behind a later position lies behind an earlier one.
pub condition_earlier : (size from later : ℕ) (r : Result (Read LiteralPlaces) Fault) → from ≤ later → ConditionLies size later r → ConditionLies size from r
condition_earlier size from later (Ok r) h d = (omega (arith, d.0), d.1, d.2)
condition_earlier size from later (Err k) h d = tt
