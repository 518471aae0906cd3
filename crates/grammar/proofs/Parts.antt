-- Where the readings of a statement's parts stop.
-- Assumes nothing.
use Prim.Native.Nat.{ℕ, zero, suc, ◌≤◌}
use native.Mathlib.Omega.{arith}
use mathlib.Core.Path.{◌≡◌, refl, sym, ap, ◌∙◌}
use mathlib.Core.Bool.{Bool, true, false, not, cond}
use mathlib.Core.List.{List, [], ◌∷◌, ◌++◌}
use mathlib.Core.Logic.{◌⊎◌, inl, inr}
use lib.Dec.{eqb}
use borrow.Author.Tests.{eqb-true}
use Rattle.text.specs.Tokens.{Name, Token, word, name, long, bad, THEN, AND, NOT, NONE, BECOMES, HAS}
use Rattle.model.specs.Rules.{Pair, Literal, assigns}
use Rattle.grammar.specs.Files.{Slot, place_in, slot_names, values_of}
use Rattle.grammar.specs.Grammar.{SlotvalTree, slotval_name, slotval_none, LiteralTree, not_literal, becomes_value, holds_value, spell_slotval, spell_literal}
use Rattle.grammar.specs.Reading.{Part, took, stop, ◌then◌, a_name, begins_with, new, new_name, known_slot, known_value, unassigned, read_slot, read_place, read_value, read_target, plain_literal, read_literal, no_literal, read_literals, no_assignment, no_value}
use Rattle.model.specs.Result.{pair}
use Rattle.grammar.proofs.Forward.{literal_read}
use Rattle.grammar.proofs.Backward.{literal_back, no_literal_back}
use Rattle.grammar.proofs.Stopping.{Written, Language, Begins, bad_token, wrong_token, the_end, long_name, later_fault, stop_behind, stop_where, nothing_next, Fits, Reader, nothing, reader_took, both, reader_then, StopsAt, stop_here, follows_same, follows_long, a_single_name, NameReader, reader_name}
use Rattle.grammar.proofs.Choosing.{reader_along, either, reader_fork, perhaps, reader_next, list_of, reader_list}

-- A reading that stops with a number from 14 on, whatever follows.
stopped : {A : Type 0} (R : List Token → Part A) (k : ℕ) → ((ts : List Token) → R ts ≡ stop k) → 14 ≤ k → (k : ℕ) × (14 ≤ k) × ((ts : List Token) → R ts ≡ stop k)
stopped R k e lo = (k, lo, e)

-- The readers of one name.
pub slot_name_read : (slots : List Slot) → NameReader (read_slot slots)
unfolding read_slot a_name ◌then◌ known_slot
slot_name_read slots = record { at_end = refl; at_word = λ w ts. refl; at_long = λ ts. refl; at_bad = λ ts. refl; at_name = λ n. go (place_in (slot_names slots) n) }
  where
    go : (i : ℕ) → ((s : ℕ) × ((ts : List Token) → known_slot i ts ≡ took s ts)) ⊎ ((k : ℕ) × (14 ≤ k) × ((ts : List Token) → known_slot i ts ≡ stop k))
    go zero = inr (stopped (known_slot zero) _ (λ ts. refl) (omega arith))
    go (suc i) = inl (i, λ ts. refl)

place_name_read : (names : List Name) → NameReader (read_place names)
unfolding read_place a_name ◌then◌ known_value
place_name_read names = record { at_end = refl; at_word = λ w ts. refl; at_long = λ ts. refl; at_bad = λ ts. refl; at_name = λ n. go (place_in names n) }
  where
    go : (i : ℕ) → ((v : ℕ) × ((ts : List Token) → known_value i ts ≡ took v ts)) ⊎ ((k : ℕ) × (14 ≤ k) × ((ts : List Token) → known_value i ts ≡ stop k))
    go zero = inr (stopped (known_value zero) _ (λ ts. refl) (omega arith))
    go (suc i) = inl (suc i, λ ts. refl)

pub new_name_read : (ns : List Name) → NameReader (new_name ns)
unfolding new_name a_name ◌then◌ new
new_name_read ns = record { at_end = refl; at_word = λ w ts. refl; at_long = λ ts. refl; at_bad = λ ts. refl; at_name = λ n. go n (place_in ns n) }
  where
    go : (n : Name) (i : ℕ) → ((m : Name) × ((ts : List Token) → new i n ts ≡ took m ts)) ⊎ ((k : ℕ) × (14 ≤ k) × ((ts : List Token) → new i n ts ≡ stop k))
    go n zero = inl (n, λ ts. refl)
    go n (suc i) = inr (stopped (new (suc i) n) _ (λ ts. refl) (omega arith))

pub target_name_read : (slots : List Slot) (ps : List Pair) → NameReader (read_target slots ps)
unfolding read_target read_slot a_name ◌then◌ known_slot unassigned
target_name_read slots ps = record { at_end = refl; at_word = λ w ts. refl; at_long = λ ts. refl; at_bad = λ ts. refl; at_name = λ n. go (place_in (slot_names slots) n) }
  where
    last : (s : ℕ) (t : Bool) → ((u : ℕ) × ((ts : List Token) → unassigned t s ts ≡ took u ts)) ⊎ ((k : ℕ) × (14 ≤ k) × ((ts : List Token) → unassigned t s ts ≡ stop k))
    last s true = inr (stopped (unassigned true s) _ (λ ts. refl) (omega arith))
    last s false = inl (s, λ ts. refl)

    go : (i : ℕ) → ((u : ℕ) × ((ts : List Token) → (known_slot i ts then λ s rest. unassigned (assigns ps s) s rest) ≡ took u ts))
        ⊎ ((k : ℕ) × (14 ≤ k) × ((ts : List Token) → (known_slot i ts then λ s rest. unassigned (assigns ps s) s rest) ≡ stop k))
    go zero = inr (stopped (λ ts. known_slot zero ts then λ s rest. unassigned (assigns ps s) s rest) _ (λ ts. refl) (omega arith))
    go (suc i) = last i (assigns ps i)

pub full_assignment_read : (ps : List Pair) → NameReader (no_assignment ps)
unfolding no_assignment a_name ◌then◌
full_assignment_read ps = record { at_end = refl; at_word = λ w ts. refl; at_long = λ ts. refl; at_bad = λ ts. refl; at_name = λ n. inr (stopped (λ ts. no_assignment ps (name n ∷ ts)) _ (λ ts. refl) (omega arith)) }

pub full_value_read : (ns : List Name) → NameReader (no_value ns)
unfolding no_value new_name a_name ◌then◌ new
full_value_read ns = record { at_end = refl; at_word = λ w ts. refl; at_long = λ ts. refl; at_bad = λ ts. refl; at_name = λ n. go n (place_in ns n) }
  where
    go : (n : Name) (i : ℕ) → ((out : List Name) × ((ts : List Token) → (new i n ts then λ m rest. stop 15) ≡ took out ts)) ⊎ ((k : ℕ) × (14 ≤ k) × ((ts : List Token) → ◌≡◌ {A = Part (List Name)} (new i n ts then λ m rest. stop 15) (stop k)))
    go n zero = inr (15, omega arith, λ ts. refl)
    go n (suc i) = inr (14, omega arith, λ ts. refl)

-- Some name.
abbrev pub x_name : Name
x_name = record { start = 0; letters = 120 ∷ [] }

-- A value: NONE, or a name.
pub value_tokens : (v : SlotvalTree) (rest : List Token) → Written rest → Written (spell_slotval v ∷ rest)
value_tokens (slotval_name n) rest h = h
value_tokens slotval_none rest h = h

abbrev pub a_value : Language
a_value = record { Tree = SlotvalTree; spells = λ v rest. spell_slotval v ∷ rest; append = λ v xs ys. refl; written = value_tokens; some_tree = slotval_name x_name }

abbrev value_parts : Language
value_parts = perhaps NONE nothing a_single_name

value_from : value_parts.Tree → SlotvalTree
value_from (inl u) = slotval_none
value_from (inr n) = slotval_name n

value_from_spelled : (x : value_parts.Tree) (rest : List Token) → value_parts.spells x rest ≡ spell_slotval (value_from x) ∷ rest
unfolding value_from
value_from_spelled (inl u) rest = refl
value_from_spelled (inr n) rest = refl

value_parts_of : SlotvalTree → value_parts.Tree
value_parts_of (slotval_name n) = inr n
value_parts_of slotval_none = inl tt

value_parts_spelled : (v : SlotvalTree) (rest : List Token) → spell_slotval v ∷ rest ≡ value_parts.spells (value_parts_of v) rest
unfolding value_parts_of
value_parts_spelled (slotval_name n) rest = refl
value_parts_spelled slotval_none rest = refl

pub reader_value : (slots : List Slot) (s : ℕ) → Reader a_value (read_value slots s)
unfolding read_value
reader_value slots s =
    reader_along value_parts a_value (read_value slots s)
    (reader_next NONE (took 0) (read_place (values_of slots s)) nothing a_single_name (reader_took 0) (reader_name (read_place (values_of slots s)) (place_name_read (values_of slots s))) (λ n rest. refl))
    value_from value_from_spelled value_parts_of value_parts_spelled

-- Literals.
pub literal_append : (l : LiteralTree) (xs ys : List Token) → spell_literal l (xs ++ ys) ≡ spell_literal l xs ++ ys
literal_append (not_literal l) xs ys = ap (λ (y : List Token). word NOT ∷ y) (literal_append l xs ys)
literal_append (becomes_value s v) xs ys = refl
literal_append (holds_value s v) xs ys = refl

pub literal_written : (l : LiteralTree) (rest : List Token) → Written rest → Written (spell_literal l rest)
literal_written (not_literal l) rest h = literal_written l rest h
literal_written (becomes_value s v) rest h = value_tokens v rest h
literal_written (holds_value s v) rest h = value_tokens v rest h

abbrev pub a_literal : Language
a_literal = record { Tree = LiteralTree; spells = spell_literal; append = literal_append; written = literal_written; some_tree = holds_value x_name (slotval_name x_name) }

-- A literal without NOT.
abbrev a_plain_literal : Language
a_plain_literal = both a_single_name (either BECOMES HAS (both a_value nothing) (both a_value nothing))

abbrev literal_from : a_plain_literal.Tree → LiteralTree
literal_from x = elim x.1 as (λ y. LiteralTree) [ inl y ↦ becomes_value x.0 y.0 | inr y ↦ holds_value x.0 y.0 ]

literal_from_spelled : (n : Name) (y : (SlotvalTree × Unit {0}) ⊎ (SlotvalTree × Unit {0})) (rest : List Token) → a_plain_literal.spells (n, y) rest ≡ spell_literal (literal_from (n, y)) rest
literal_from_spelled n (inl y) rest = refl
literal_from_spelled n (inr y) rest = refl

reader_plain : (slots : List Slot) (neg : Bool) → Reader a_plain_literal (plain_literal slots neg)
unfolding plain_literal
reader_plain slots neg =
    reader_then a_single_name (either BECOMES HAS (both a_value nothing) (both a_value nothing)) (read_slot slots) _ (reader_name (read_slot slots) (slot_name_read slots))
    (λ s. reader_fork BECOMES HAS _ _ (both a_value nothing) (both a_value nothing) (value_end s true) (value_end s false) (λ z. omega arith))
  where
    value_end : (s : ℕ) (b : Bool) → Reader {A = Literal} (both a_value nothing) (λ more. read_value slots s more then λ v left. took (record { becomes = b; negated = neg; pair = pair s v }) left)
    value_end s b =
        reader_then a_value nothing (read_value slots s) (λ v left. took (record { becomes = b; negated = neg; pair = pair s v }) left) (reader_value slots s) (λ v. reader_took (record { becomes = b; negated = neg; pair = pair s v }))

-- Where NOT does not stand next, a literal is read as a plain one.
literal_plain : (slots : List Slot) (neg : Bool) (ts : List Token) → begins_with NOT ts ≡ false → read_literal ts slots neg ≡ plain_literal slots neg ts
unfolding read_literal plain_literal read_slot a_name ◌then◌
literal_plain slots neg [] e = refl
literal_plain slots neg (word w ∷ ts) e = rw e
literal_plain slots neg (name n ∷ ts) e = refl
literal_plain slots neg (long ∷ ts) e = refl
literal_plain slots neg (bad ∷ ts) e = refl

-- Some literal begins with a plain one's tokens.
plain_begins : (ts : List Token) → Begins a_plain_literal ts → Begins a_literal ts
plain_begins ts b rest = let x = b rest in (literal_from x.0, x.1, sym (literal_from_spelled x.0.0 x.0.1 rest) ∙ x.2)

literal_stops : (ts : List Token) (slots : List Slot) (neg : Bool) (k : ℕ) → read_literal ts slots neg ≡ stop k → StopsAt a_literal (λ us. read_literal us slots neg) ts k
unfolding read_literal
literal_stops [] slots neg k e = stop_here a_literal (λ us. read_literal us slots neg) [] 12 k refl refl the_end tt e
literal_stops (word w ∷ ts) slots neg k e = go (eqb w NOT) refl (literal_stops ts slots (not neg) k)
  where
    at_word : (t : Bool) → eqb w NOT ≡ t → (us : List Token) → read_literal (word w ∷ us) slots neg ≡ cond t (read_literal us slots (not neg)) (stop 12)
    at_word t q us = ap (λ (s : Bool). cond s (read_literal us slots (not neg)) (stop 12)) q

    go : (t : Bool) → eqb w NOT ≡ t → (read_literal ts slots (not neg) ≡ stop k → StopsAt a_literal (λ us. read_literal us slots (not neg)) ts k) → StopsAt a_literal (λ us. read_literal us slots neg) (word w ∷ ts) k
    go true q h =
        stop_behind (Begins a_literal) (λ us. read_literal us slots (not neg) ≡ stop 12) (λ us. read_literal us slots (not neg) ≡ stop k)
        (Begins a_literal) (λ us. read_literal us slots neg ≡ stop 12) (λ us. read_literal us slots neg ≡ stop k)
        (λ us. word NOT ∷ us) (λ xs ys. refl) (λ us b rest. let x = b rest in (not_literal x.0, x.1, ap (λ (l : List Token). word NOT ∷ l) x.2))
        (λ us z. z) (λ us z. z) ts (word w ∷ ts) k (ap (λ (i : ℕ). word i ∷ ts) (eqb-true w NOT q)) (h (sym (at_word true q ts) ∙ e))
    go false q h =
        stop_here a_literal (λ us. read_literal us slots neg) (word w ∷ ts) 12 k refl (at_word false q ts) (wrong_token refl)
        (follows_same (λ us. read_literal us slots neg ≡ stop 12) 12 (word w) ts refl (at_word false q)) e
literal_stops (name n ∷ ts) slots neg k e =
    stop_where (Begins a_plain_literal) (λ us. plain_literal slots neg us ≡ stop 12) (λ us. plain_literal slots neg us ≡ stop k)
    (Begins a_literal) (λ us. read_literal us slots neg ≡ stop 12) (λ us. read_literal us slots neg ≡ stop k) NOT false plain_begins
    (λ us off z. literal_plain slots neg us (nothing_next NOT us off) ∙ z) (λ t us off z. literal_plain slots neg (t ∷ us) off ∙ z) (name n ∷ ts) k refl ((reader_plain slots neg).stops (name n ∷ ts) k e)
literal_stops (long ∷ ts) slots neg k e =
    stop_here a_literal (λ us. read_literal us slots neg) (long ∷ ts) 13 k refl refl (long_name (λ n rest. (holds_value n (slotval_name x_name), word HAS ∷ name x_name ∷ rest, refl)))
    (follows_long (λ us. read_literal us slots neg ≡ stop 13) 13 ts (λ later. refl) (λ z n later. absurd (omega arith))) e
literal_stops (bad ∷ ts) slots neg k e =
    stop_here a_literal (λ us. read_literal us slots neg) (bad ∷ ts) 11 k refl refl bad_token (follows_same (λ us. read_literal us slots neg ≡ stop 11) 11 bad ts refl (λ later. refl)) e

literal_fits : (slots : List Slot) (neg : Bool) (l : LiteralTree) (rest : List Token) → Fits (read_literal (spell_literal l rest) slots neg) rest
unfolding read_literal
literal_fits slots neg (not_literal l) rest = literal_fits slots (not neg) l rest
literal_fits slots neg (becomes_value s v) rest = (reader_plain slots neg).fits (s, inl (v, tt)) rest
literal_fits slots neg (holds_value s v) rest = (reader_plain slots neg).fits (s, inr (v, tt)) rest

reader_literal : (slots : List Slot) → Reader a_literal (λ ts. read_literal ts slots false)
reader_literal slots = record {
  reads = λ ts m rest e. let a = literal_back ts slots false m rest e in
      (a.tree, a.spelled, λ later. literal_read slots a.tree m.pair false later a.names ∙ ap (λ (l : Literal). took l later) (λ i. record { becomes = sym a.mark i; negated = sym a.sign i; pair = m.pair }));
  stops = λ ts k e. literal_stops ts slots false k e;
  fits = literal_fits slots false;
}

-- Literals with AND between and THEN at the end.
abbrev pub literals : Language
literals = list_of a_literal AND THEN

no_literal_fits : (sofar : List Literal) (l : LiteralTree) (more rest : List Token) → Fits (no_literal sofar (spell_literal l more)) rest
unfolding no_literal
no_literal_fits sofar (not_literal l) more rest = omega arith
no_literal_fits sofar (becomes_value s v) more rest = omega arith
no_literal_fits sofar (holds_value s v) more rest = omega arith

name_begins_literals : (n : Name) → Begins literals (name n ∷ [])
name_begins_literals n rest = ((holds_value n (slotval_name x_name), []), word HAS ∷ name x_name ∷ word THEN ∷ rest, refl)

no_literal_stops : (sofar : List Literal) (ts : List Token) (k : ℕ) → no_literal sofar ts ≡ stop k → StopsAt literals (no_literal sofar) ts k
unfolding no_literal
no_literal_stops sofar [] k e = stop_here literals (no_literal sofar) [] 12 k refl refl the_end tt e
no_literal_stops sofar (word w ∷ ts) k e = go (eqb w NOT) refl
  where
    at_word : (t : Bool) → eqb w NOT ≡ t → (us : List Token) → no_literal sofar (word w ∷ us) ≡ cond t (stop 15) (stop 12)
    at_word t q us = ap (λ (s : Bool). cond s (stop 15) (stop 12)) q

    go : (t : Bool) → eqb w NOT ≡ t → StopsAt literals (no_literal sofar) (word w ∷ ts) k
    go true q =
        stop_here literals (no_literal sofar) (word w ∷ ts) 15 k refl (at_word true q ts)
        (later_fault (omega arith) (λ rest. ((not_literal (holds_value x_name (slotval_name x_name)), []), name x_name ∷ word HAS ∷ name x_name ∷ word THEN ∷ rest, ap (λ (i : ℕ). word i ∷ name x_name ∷ word HAS ∷ name x_name ∷ word THEN ∷ rest) (sym (eqb-true w NOT q)))))
        (follows_same (λ us. no_literal sofar us ≡ stop 15) 15 (word w) ts refl (at_word true q)) e
    go false q =
        stop_here literals (no_literal sofar) (word w ∷ ts) 12 k refl (at_word false q ts) (wrong_token refl)
        (follows_same (λ us. no_literal sofar us ≡ stop 12) 12 (word w) ts refl (at_word false q)) e
no_literal_stops sofar (name n ∷ ts) k e =
    stop_here literals (no_literal sofar) (name n ∷ ts) 15 k refl refl (later_fault (omega arith) (name_begins_literals n))
    (follows_same (λ us. no_literal sofar us ≡ stop 15) 15 (name n) ts refl (λ later. refl)) e
no_literal_stops sofar (long ∷ ts) k e =
    stop_here literals (no_literal sofar) (long ∷ ts) 13 k refl refl (long_name name_begins_literals)
    (follows_long (λ us. no_literal sofar us ≡ stop 13) 13 ts (λ later. refl) (λ z n later. absurd (omega arith))) e
no_literal_stops sofar (bad ∷ ts) k e =
    stop_here literals (no_literal sofar) (bad ∷ ts) 11 k refl refl bad_token (follows_same (λ us. no_literal sofar us ≡ stop 11) 11 bad ts refl (λ later. refl)) e

pub reader_literals : (slots : List Slot) (room : ℕ) (sofar : List Literal) → Reader literals (read_literals slots room sofar)
unfolding read_literals
reader_literals slots room sofar =
    reader_list a_literal AND THEN (λ ms ts. read_literal ts slots false) no_literal (λ ms. reader_literal slots)
    (λ ms. record { reads = λ ts a rest e. absurd (no_literal_back ms ts a rest e); stops = no_literal_stops ms; fits = λ x rest. no_literal_fits ms x.0 _ rest }) (λ z. omega arith) room sofar
