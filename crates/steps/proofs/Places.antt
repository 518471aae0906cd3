-- The token at a position of the remainder, and what each kind of token means to a step.
-- Assumes nothing.
use Prim.Native.Nat.{ℕ, ◌+◌, ◌≤◌}
use native.Mathlib.Omega.{arith}
use mathlib.Core.Path.{◌≡◌, refl, sym, ap, subst, ◌∙◌}
use mathlib.Core.Bool.{Bool, true, false, cond}
use mathlib.Core.List.{List, [], ◌∷◌, map}
use lib.Dec.{eqb}
use lib.ListN.{length, drop}
use borrow.Author.Tests.{eq-eqb, ne_eqb}
use Rattle.text.specs.Tokens.{Name, Token, word, name, long, bad}
use Rattle.text.specs.Next.{next_at, tokens_at, shown, Lies}
use Rattle.text.specs.declared.Next.{Next}
use Rattle.text.specs.declared.Token as code
use Rattle.text.specs.declared.Token.TheVariants as v
use Rattle.text.specs.contracts.Token as kinds
use types.Run.{miss}
use borrow.Enum.Refused.{Among, opened}
use denote.Enum.Declared.{tag_of}
use Rattle.text.specs.Cut.{moved}
use Rattle.text.proofs.Cut.{tokens_moved}
use Rattle.text.proofs.Position.{tokens_next, next_lies}
use Rattle.grammar.specs.Reading.{Part, took, stop, expects, fork, a_name, begins_with, if_next}
use Rattle.steps.specs.inner.Places.{fault_of, tokens_past, shown_past, Choice, one, other, neither, which, StepLies}
use Rattle.text.specs.Words.{word_number}
use Rattle.text.specs.declared.Word.{Word}
use Rattle.text.proofs.Numbers.{same_word}
use Rattle.steps.specs.Faults.{fault_number}
use Rattle.steps.specs.declared.step.Fault.{Fault}
use Rattle.steps.specs.declared.step.Fault.TheVariants as fault
use Rattle.std.specs.Prelude.{Result, Ok, Err}

-- The tokens of the remainder are the tokens of a text that stands elsewhere.
past_moved : (rest : List ℕ) (base at : ℕ) → tokens_past rest base at ≡ map (moved (λ i. base + i)) (tokens_at rest at)
unfolding tokens_past tokens_at
past_moved rest base at = sym (tokens_moved (drop at rest) 0 at (base + at) (λ i. base + i) (λ j. omega arith))

shown_moved : (rest : List ℕ) (base : ℕ) (t : code.Token) (ts : List Token) → map (moved (λ i. base + i)) (shown rest t ts) ≡ shown_past rest base t (map (moved (λ i. base + i)) ts)
shown_moved rest base v.End ts = refl
shown_moved rest base (v.Word w) ts = refl
shown_moved rest base (v.Name n) ts = refl
shown_moved rest base v.Long ts = refl
shown_moved rest base v.Bad ts = refl

next_past : (rest : List ℕ) (base at : ℕ) → tokens_past rest base at ≡ shown_past rest base (next_at rest at).token (tokens_past rest base (next_at rest at).at)
next_past rest base at =
    past_moved rest base at ∙ ap (map (moved (λ i. base + i))) (tokens_next rest at)
    ∙ shown_moved rest base (next_at rest at).token (tokens_at rest (next_at rest at).at)
    ∙ ap (shown_past rest base (next_at rest at).token) (sym (past_moved rest base (next_at rest at).at))

-- The token that the code was given stands there, before the rest.
pub stands : (rest : List ℕ) (base at : ℕ) (r : Next) (t : code.Token) → r ≡ next_at rest at → r.token ≡ t
    → tokens_past rest base at ≡ shown_past rest base t (tokens_past rest base r.at)
stands rest base at r t e f = next_past rest base at ∙ rw (← e, f)

-- And it lies where it says.
pub lies : (rest : List ℕ) (at : ℕ) (r : Next) (t : code.Token) → r ≡ next_at rest at → r.token ≡ t → Lies (length rest) at t r.at
lies rest at r t e f = subst (λ (u : code.Token). Lies (length rest) at u r.at) f (rw e (next_lies rest at))

-- What a step makes of a token that is not the word or mark that must stand there.
pub expects_this : (w : Word) (ts : List Token) → expects (word_number w) (word (word_number w) ∷ ts) ≡ took tt ts
unfolding expects
expects_this w ts = rw (eq-eqb (word_number w) (word_number w) refl)

-- Another word has another number.
pub other_number : (u w : Word) → (v.Word u ≡ v.Word w → ⊥) → eqb (word_number u) (word_number w) ≡ false
other_number u w h = ne_eqb (word_number u) (word_number w) (λ e. h (ap v.Word (same_word u w e)))

pub expects_other : (w : Word) (rest : List ℕ) (base : ℕ) (t : code.Token) (ts : List Token) → (t ≡ v.Word w → ⊥)
    → expects (word_number w) (shown_past rest base t ts) ≡ stop (fault_number (fault_of t fault.OutOfPlace))
unfolding expects
expects_other w rest base v.End ts h = refl
expects_other w rest base (v.Word u) ts h = rw (other_number u w h)
expects_other w rest base (v.Name n) ts h = refl
expects_other w rest base v.Long ts h = refl
expects_other w rest base v.Bad ts h = refl

pub which_one : (w u : Word) (ts : List Token) → which (word_number w) (word_number u) (word (word_number w) ∷ ts) ≡ one ts
unfolding which
which_one w u ts = rw (eq-eqb (word_number w) (word_number w) refl)

pub which_second : (w u : Word) (ts : List Token) → (v.Word u ≡ v.Word w → ⊥) → which (word_number w) (word_number u) (word (word_number u) ∷ ts) ≡ other ts
unfolding which
which_second w u ts h = rw (other_number u w h, eq-eqb (word_number u) (word_number u) refl)

pub which_other : (w u : Word) (rest : List ℕ) (base : ℕ) (t : code.Token) (ts : List Token) → (t ≡ v.Word w → ⊥) → (t ≡ v.Word u → ⊥)
    → which (word_number w) (word_number u) (shown_past rest base t ts) ≡ neither (fault_number (fault_of t fault.OutOfPlace))
unfolding which
which_other w u rest base v.End ts h k = refl
which_other w u rest base (v.Word x) ts h k = rw (other_number x w h, other_number x u k)
which_other w u rest base (v.Name n) ts h k = refl
which_other w u rest base v.Long ts h k = refl
which_other w u rest base v.Bad ts h k = refl

-- What it makes of a token that is no name.
abbrev pub not_named : List ℕ
not_named = 0 ∷ 1 ∷ 3 ∷ 4 ∷ []

pub name_other : (rest : List ℕ) (base : ℕ) (t : code.Token) (ts : List Token) → Among not_named (tag_of kinds.the_type t)
    → a_name (shown_past rest base t ts) ≡ stop (fault_number (fault_of t fault.LongName))
unfolding a_name
name_other rest base v.End ts h = refl
name_other rest base (v.Word w) ts h = refl
name_other rest base (v.Name n) ts h = absurd (miss not_named 2 tt (opened h))
name_other rest base v.Long ts h = refl
name_other rest base v.Bad ts h = refl

pub name_this : (n : Name) (ts : List Token) → a_name (name n ∷ ts) ≡ took n ts
unfolding a_name
name_this n ts = refl

-- A fork goes the way that is chosen.
abbrev pub follow : {A : Type 0} → (List Token → Part A) → (List Token → Part A) → Choice → Part A
follow f g (one ts) = f ts
follow f g (other ts) = g ts
follow f g (neither k) = stop k

pub fork_which : {A : Type 0} (w u : ℕ) (f g : List Token → Part A) (ts : List Token) → fork w u f g ts ≡ follow f g (which w u ts)
unfolding fork which
fork_which w u f g [] = refl
fork_which w u f g (word x ∷ ts) = go (eqb x w) (eqb x u)
  where
    go : (a b : Bool) → cond a f (cond b g (λ rest. stop 12)) ts ≡ follow f g (cond a (one ts) (cond b (other ts) (neither 12)))
    go true b = refl
    go false true = refl
    go false false = refl
fork_which w u f g (name n ∷ ts) = refl
fork_which w u f g (long ∷ ts) = refl
fork_which w u f g (bad ∷ ts) = refl

-- What a word that stood there, or did not, tells of the tokens.
pub expects_took : (w : ℕ) (ts left : List Token) (u : Unit {0}) → expects w ts ≡ took u left → (begins_with w ts ≡ true) × (drop 1 ts ≡ left)
unfolding expects
expects_took w [] left u e = absurd (let z : ◌≡◌ {A = ℕ} 0 1 = cc in omega arith)
expects_took w (word x ∷ ts) left u e = go (eqb x w) e
  where
    go : (t : Bool) → cond t (took (tt {0}) ts) (stop 12) ≡ took u left → (t ≡ true) × (ts ≡ left)
    go true f = (refl, let z : ts ≡ left = cc in z)
    go false f = absurd (let z : ◌≡◌ {A = ℕ} 0 1 = cc in omega arith)
expects_took w (name n ∷ ts) left u e = absurd (let z : ◌≡◌ {A = ℕ} 0 1 = cc in omega arith)
expects_took w (long ∷ ts) left u e = absurd (let z : ◌≡◌ {A = ℕ} 0 1 = cc in omega arith)
expects_took w (bad ∷ ts) left u e = absurd (let z : ◌≡◌ {A = ℕ} 0 1 = cc in omega arith)

pub expects_stop : (w : ℕ) (ts : List Token) (k : ℕ) → expects w ts ≡ stop k → begins_with w ts ≡ false
unfolding expects
expects_stop w [] k e = refl
expects_stop w (word x ∷ ts) k e = go (eqb x w) e
  where
    go : (t : Bool) → cond t (took (tt {0}) ts) (stop 12) ≡ stop k → t ≡ false
    go true f = absurd (let z : ◌≡◌ {A = ℕ} 0 1 = cc in omega arith)
    go false f = refl
expects_stop w (name n ∷ ts) k e = refl
expects_stop w (long ∷ ts) k e = refl
expects_stop w (bad ∷ ts) k e = refl

-- The way on where a word stands next, and where it does not.
pub next_is : {B : Type 0} (w : ℕ) (f g : List Token → B) (ts left : List Token) (u : Unit {0}) → expects w ts ≡ took u left → if_next w (λ more. f (drop 1 more)) g ts ≡ f left
unfolding if_next
next_is w f g ts left u e = let z = expects_took w ts left u e in rw (z.0, z.1)

pub next_not : {B : Type 0} (w : ℕ) (f g : List Token → B) (ts : List Token) (k : ℕ) → expects w ts ≡ stop k → if_next w f g ts ≡ g ts
unfolding if_next
next_not w f g ts k e = rw (expects_stop w ts k e)
