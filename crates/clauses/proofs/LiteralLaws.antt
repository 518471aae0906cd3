-- Laws of the reading of literals.
-- Assumes nothing.
use Prim.Native.Nat.{ℕ, zero, suc, ◌≤◌, ◌<◌}
use native.Mathlib.Omega.{arith}
use mathlib.Core.Path.{◌≡◌, refl, ap, ◌∙◌}
use mathlib.Core.Bool.{Bool, true, false, not}
use lib.ListN.{length, length-map}
use mathlib.Core.List.{List, ◌∷◌}
use Rattle.text.specs.Tokens.{Name, Token, word, NOT, BECOMES, HAS}
use Rattle.text.specs.declared.Token as code
use Rattle.text.specs.declared.Token.TheVariants as v
use Rattle.text.proofs.Cut.{place_le}
use Rattle.grammar.specs.Files.{Slot, spellings, slot_names, place_in}
use Rattle.grammar.specs.Reading.{Part, took, stop, ◌then◌, a_name, known_slot, read_slot, read_value, read_literal, plain_literal}
use Rattle.model.specs.Result.{pair}
use Rattle.steps.specs.inner.Places.{shown_past, which, one, other, neither}
use Rattle.clauses.specs.inner.Literals.{value_literal, LiteralLies}
use Rattle.std.specs.Prelude.{Result, Ok, Err}
use Rattle.text.specs.declared.Word.TheVariants as w
use Rattle.table.specs.declared.Literal.{Literal as code_literal}
use Rattle.steps.specs.declared.step.Fault.{Fault}
use Rattle.steps.specs.declared.step.Read.{Read}
use Rattle.steps.proofs.Places.{other_number, follow, fork_which}

-- NOT turns a literal round; where none stands, a plain literal must.
pub literal_not : (ts : List Token) (slots : List Slot) (negated : Bool) → read_literal (word NOT ∷ ts) slots negated ≡ read_literal ts slots (not negated)
unfolding read_literal
literal_not ts slots negated = refl

pub literal_plain : (rest : List ℕ) (base : ℕ) (t : code.Token) (ts : List Token) (slots : List Slot) (negated : Bool) → (t ≡ v.Word w.Not → ⊥)
    → read_literal (shown_past rest base t ts) slots negated ≡ plain_literal slots negated (shown_past rest base t ts)
unfolding read_literal plain_literal read_slot a_name ◌then◌
literal_plain rest base v.End ts slots negated h = refl
literal_plain rest base (v.Word u) ts slots negated h = rw (other_number u w.Not h)
literal_plain rest base (v.Name n) ts slots negated h = refl
literal_plain rest base v.Long ts slots negated h = refl
literal_plain rest base v.Bad ts slots negated h = refl

-- The value of a literal.
pub value_took : (slots : List Slot) (s : ℕ) (becomes negated : Bool) (ts left : List Token) (n : ℕ) → read_value slots s ts ≡ took n left
    → value_literal slots s becomes negated ts ≡ took (record { becomes = becomes; negated = negated; pair = pair s n }) left
unfolding value_literal ◌then◌
value_took slots s becomes negated ts left n e = rw e

pub value_stop : (slots : List Slot) (s : ℕ) (becomes negated : Bool) (ts : List Token) (k : ℕ) → read_value slots s ts ≡ stop k → value_literal slots s becomes negated ts ≡ stop k
unfolding value_literal ◌then◌
value_stop slots s becomes negated ts k e = rw e

-- A plain literal: its slot, its mark, its value.
pub plain_unnamed : (slots : List Slot) (negated : Bool) (ts : List Token) (k : ℕ) → a_name ts ≡ stop k → plain_literal slots negated ts ≡ stop k
unfolding plain_literal read_slot ◌then◌
plain_unnamed slots negated ts k e = rw e

pub plain_stop : (slots : List Slot) (negated : Bool) (ts : List Token) (k : ℕ) → read_slot slots ts ≡ stop k → plain_literal slots negated ts ≡ stop k
unfolding plain_literal ◌then◌
plain_stop slots negated ts k e = rw e

plain_fork : (slots : List Slot) (negated : Bool) (ts left : List Token) (s : ℕ) → read_slot slots ts ≡ took s left
    → plain_literal slots negated ts ≡ follow (value_literal slots s true negated) (value_literal slots s false negated) (which BECOMES HAS left)
unfolding plain_literal ◌then◌ value_literal
plain_fork slots negated ts left s e = rw e (fork_which BECOMES HAS _ _ left)

pub plain_becomes : (slots : List Slot) (negated : Bool) (ts left more : List Token) (s : ℕ) → read_slot slots ts ≡ took s left → which BECOMES HAS left ≡ one more
    → plain_literal slots negated ts ≡ value_literal slots s true negated more
plain_becomes slots negated ts left more s e f = plain_fork slots negated ts left s e ∙ ap (follow (value_literal slots s true negated) (value_literal slots s false negated)) f

pub plain_has : (slots : List Slot) (negated : Bool) (ts left more : List Token) (s : ℕ) → read_slot slots ts ≡ took s left → which BECOMES HAS left ≡ other more
    → plain_literal slots negated ts ≡ value_literal slots s false negated more
plain_has slots negated ts left more s e f = plain_fork slots negated ts left s e ∙ ap (follow (value_literal slots s true negated) (value_literal slots s false negated)) f

pub plain_neither : (slots : List Slot) (negated : Bool) (ts left : List Token) (s k : ℕ) → read_slot slots ts ≡ took s left → which BECOMES HAS left ≡ neither k
    → plain_literal slots negated ts ≡ stop k
plain_neither slots negated ts left s k e f = plain_fork slots negated ts left s e ∙ ap (follow (value_literal slots s true negated) (value_literal slots s false negated)) f

-- The slot that was read is one of the slots.
slot_below : (m : Part Name) (slots : List Slot) (s : ℕ) (left : List Token) → (m then λ x rest. known_slot (place_in (slot_names slots) x) rest) ≡ took s left → s < length slots
unfolding ◌then◌ known_slot
slot_below (took x rest) slots s left e = go (place_in (slot_names slots) x) (place_le x.letters (spellings (slot_names slots))) e
  where
    go : (p : ℕ) → p ≤ length (spellings (slot_names slots)) → known_slot p rest ≡ took s left → s < length slots
    go zero h f = absurd (let z : ◌≡◌ {A = ℕ} 0 1 = cc in omega arith)
    go (suc p) h f = let z : p ≡ s = cc in let l : length (spellings (slot_names slots)) ≡ length slots = simp (length-map, length-map) in omega arith
slot_below (stop k) slots s left e = absurd (let z : ◌≡◌ {A = ℕ} 0 1 = cc in omega arith)

pub slot_inside : (slots : List Slot) (ts left : List Token) (s : ℕ) → read_slot slots ts ≡ took s left → s < length slots
unfolding read_slot
slot_inside slots ts left s e = slot_below (a_name ts) slots s left e

-- What lies behind a later position lies behind an earlier one.
pub lies_earlier : (size from later : ℕ) (r : Result (Read code_literal) Fault) → from ≤ later → LiteralLies size later r → LiteralLies size from r
lies_earlier size from later (Ok r) h d = (omega (arith, d.0), d.1)
lies_earlier size from later (Err k) h d = tt
