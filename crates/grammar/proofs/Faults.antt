-- Which faults a token can have, and what they tell of the derivations that go on with it.
-- Assumes nothing.
use Prim.Native.Nat.{ℕ, zero, suc, ◌≤◌, ◌<◌}
use native.Mathlib.Omega.{arith}
use mathlib.Core.Path.{◌≡◌, refl, sym, subst, ◌∙◌}
use mathlib.Core.Bool.{true, false, true≢false}
use mathlib.Core.List.{List, [], ◌∷◌, ◌++◌, append_assoc}
use Rattle.text.specs.Tokens.{Token, word, name, long, bad, NONE}
use Rattle.grammar.specs.Grammar.{RuleTree, LineTree, spell_rules, spell_lines}
use Rattle.grammar.specs.Beginnings.{Position, FaultAt, slot_twice, value_twice, too_many_slots, too_many_values, too_many_rules, too_many_literals, too_many_nots, too_many_assignments, no_trigger_slot, no_tested_slot, no_assigned_slot, no_such_value, slot_assigned_twice}
use Rattle.grammar.specs.Refusals.{GoesOn, OutOfPlace, Fault, no_token, no_place, ends_inside, too_long, in_place, Stuck}
use Rattle.grammar.specs.Reading.{begins_with}
use Rattle.grammar.proofs.Stopping.{Written}
use Rattle.grammar.proofs.Parts.{x_name}
use Rattle.grammar.proofs.Stops.{rule_written, line_written}

-- What begins a derivation begins one after fewer tokens too.
pub goes_front : (ts us : List Token) → GoesOn (ts ++ us) → GoesOn ts
goes_front ts us g = record { tree = g.tree; more = us ++ g.more; derives = g.derives ∙ rw append_assoc }

pub goes_first : (before : List Token) (t : Token) (mid : List Token) → GoesOn (before ++ t ∷ mid) → GoesOn (before ++ t ∷ [])
goes_first before t mid g = goes_front (before ++ t ∷ []) mid (subst GoesOn (sym (append_assoc before (t ∷ []) mid)) g)

rules_written : (us : List RuleTree) → Written (spell_rules us [])
rules_written [] = tt
rules_written (u ∷ us) = rule_written u (spell_rules us []) (rules_written us)

lines_written : (ls : List LineTree) (us : List RuleTree) → Written (spell_lines ls (spell_rules us []))
lines_written [] us = rules_written us
lines_written (l ∷ ls) us = line_written l (spell_lines ls (spell_rules us [])) (lines_written ls us)

-- A token is a word, a mark or a name of at most 24 bytes.
abbrev IsWritten : Token → Type 0
IsWritten (word w) = Unit
IsWritten (name n) = Unit
IsWritten long = ⊥
IsWritten bad = ⊥

written_there : (before : List Token) (t : Token) (more : List Token) → Written (before ++ t ∷ more) → IsWritten t
written_there [] (word w) more h = tt
written_there [] (name n) more h = tt
written_there [] long more h = h
written_there [] bad more h = h
written_there (word w ∷ ts) t more h = written_there ts t more h
written_there (name n ∷ ts) t more h = written_there ts t more h
written_there (long ∷ ts) t more h = absurd h
written_there (bad ∷ ts) t more h = absurd h

-- A token with which a derivation goes on is written.
pub goes_written : (before : List Token) (t : Token) → GoesOn (before ++ t ∷ []) → IsWritten t
goes_written before t g = written_there before t g.more (subst Written (g.derives ∙ append_assoc before (t ∷ []) g.more) (lines_written g.tree.lines g.tree.rules))

-- With a token out of place no derivation goes on.
pub out_never : (before : List Token) (t : Token) → OutOfPlace before t → GoesOn (before ++ t ∷ []) → ⊥
out_never before (word w) o g = o g
out_never before (name n) o g = o g
out_never before long o g = goes_written before long g
out_never before bad o g = o

-- The faults of a position are 14 to 17.
pub from_fourteen : (k : ℕ) (P : Position) (t : Token) → FaultAt k P t → (14 ≤ k) × (k ≤ 17)
from_fourteen k P t (slot_twice e) = (omega arith, omega arith)
from_fourteen k P t (value_twice e) = (omega arith, omega arith)
from_fourteen k P t (too_many_slots e) = (omega arith, omega arith)
from_fourteen k P t (too_many_values e) = (omega arith, omega arith)
from_fourteen k P t (too_many_rules e) = (omega arith, omega arith)
from_fourteen k P t (too_many_literals e) = (omega arith, omega arith)
from_fourteen k P t (too_many_nots e) = (omega arith, omega arith)
from_fourteen k P t (too_many_assignments e) = (omega arith, omega arith)
from_fourteen k P t (no_trigger_slot e) = (omega arith, omega arith)
from_fourteen k P t (no_tested_slot e) = (omega arith, omega arith)
from_fourteen k P t (no_assigned_slot e) = (omega arith, omega arith)
from_fourteen k P t (no_such_value e) = (omega arith, omega arith)
from_fourteen k P t (slot_assigned_twice e d) = (omega arith, omega arith)

-- None of them is a fault of NONE.
not_of_none : (k : ℕ) (P : Position) (t : Token) (later : List Token) → FaultAt k P t → begins_with NONE (t ∷ later) ≡ false
not_of_none k P t later (slot_twice e) = refl
not_of_none k P t later (value_twice e) = refl
not_of_none k P t later (too_many_slots e) = refl
not_of_none k P t later (too_many_values e) = refl
not_of_none k P t later (too_many_rules e) = refl
not_of_none k P t later (too_many_literals e) = refl
not_of_none k P t later (too_many_nots e) = refl
not_of_none k P t later (too_many_assignments e) = refl
not_of_none k P t later (no_trigger_slot e) = refl
not_of_none k P t later (no_tested_slot e) = refl
not_of_none k P t later (no_assigned_slot e) = refl
not_of_none k P t later (no_such_value e) = refl
not_of_none k P t later (slot_assigned_twice e d) = refl

-- A fault at NONE is 12.
pub twelve_at_none : (k : ℕ) (before after : List Token) → Fault k before after → begins_with NONE after ≡ true → k ≡ 12
twelve_at_none k before after no_token e = absurd (true≢false (sym e))
twelve_at_none k before after (no_place o) e = refl
twelve_at_none k before after (ends_inside u) e = refl
twelve_at_none k before after (too_long g) e = absurd (true≢false (sym e))
twelve_at_none k before after (in_place {later = later} {t = t} {P = P} b f) e = absurd (true≢false (sym e ∙ not_of_none k P t later f))

-- They are faults of a token that is written.
pub position_written : (k : ℕ) (P : Position) (t : Token) → FaultAt k P t → IsWritten t
position_written k P t (slot_twice e) = tt
position_written k P t (value_twice e) = tt
position_written k P t (too_many_slots e) = tt
position_written k P t (too_many_values e) = tt
position_written k P t (too_many_rules e) = tt
position_written k P t (too_many_literals e) = tt
position_written k P t (too_many_nots e) = tt
position_written k P t (too_many_assignments e) = tt
position_written k P t (no_trigger_slot e) = tt
position_written k P t (no_tested_slot e) = tt
position_written k P t (no_assigned_slot e) = tt
position_written k P t (no_such_value e) = tt
position_written k P t (slot_assigned_twice e d) = tt

-- The faults of a text's tokens are 11 to 17.
pub fault_range : (k : ℕ) (before after : List Token) → Fault k before after → (11 ≤ k) × (k ≤ 17)
fault_range k before after no_token = (omega arith, omega arith)
fault_range k before after (no_place o) = (omega arith, omega arith)
fault_range k before after (ends_inside u) = (omega arith, omega arith)
fault_range k before after (too_long g) = (omega arith, omega arith)
fault_range k before after (in_place {t = t} {P = P} b f) = let r = from_fourteen k P t f in (omega (arith, r.0), r.1)

-- What follows a token changes nothing of its faults.
pub fault_later : (k : ℕ) (before : List Token) (t : Token) (later others : List Token) → Fault k before (t ∷ later) → Fault k before (t ∷ others)
fault_later k before t later others no_token = no_token
fault_later k before t later others (no_place o) = no_place o
fault_later k before t later others (too_long g) = too_long g
fault_later k before t later others (in_place b f) = in_place b f

-- A fault of 12 is that no derivation goes on.
pub stuck_of : (k : ℕ) (before after : List Token) → k ≡ 12 → Fault k before after → Stuck before after
stuck_of k before after e no_token = absurd (omega arith)
stuck_of k before after e (no_place o) = o
stuck_of k before after e (ends_inside u) = u
stuck_of k before after e (too_long g) = absurd (omega arith)
stuck_of k before after e (in_place {t = t} {P = P} b f) = absurd (omega (arith, (from_fourteen k P t f).0))

pub stuck_fault : (before after : List Token) → Stuck before after → Fault 12 before after
stuck_fault before [] u = ends_inside u
stuck_fault before (t ∷ later) o = no_place o

-- Where no derivation goes on there is no smaller fault.
pub stuck_first : (before after : List Token) → Stuck before after → (j : ℕ) → j < 12 → ¬ Fault j before after
stuck_first before after o j l no_token = o
stuck_first before after o j l (no_place p) = absurd (omega arith)
stuck_first before after o j l (ends_inside u) = absurd (omega arith)
stuck_first before after o j l (too_long g) = absurd (omega arith)
stuck_first before after o j l (in_place {t = t} {P = P} b f) = absurd (omega (arith, l, (from_fourteen j P t f).0))

-- At a bad token the fault is 11, at the end 12, at a long name in its place 13.
pub eleven_of : (k : ℕ) (before later : List Token) → Fault k before (bad ∷ later) → k ≡ 11
eleven_of k before later no_token = refl
eleven_of k before later (no_place o) = absurd o
eleven_of k before later (in_place {P = P} b f) = absurd (position_written k P bad f)

pub end_of : (k : ℕ) (before : List Token) → Fault k before [] → k ≡ 12
end_of k before (ends_inside u) = refl

pub thirteen_of : (k : ℕ) (before later : List Token) → GoesOn (before ++ name x_name ∷ []) → Fault k before (long ∷ later) → k ≡ 13
thirteen_of k before later g (no_place o) = absurd (o x_name g)
thirteen_of k before later g (too_long h) = refl
thirteen_of k before later g (in_place {P = P} b f) = absurd (position_written k P long f)

-- Where the least fault of a kind cannot be, none can.
pub by_least : (F : ℕ → Type 0) → ((k : ℕ) → F k → ((j : ℕ) → j < k → ¬ F j) → ⊥) → (k : ℕ) → ¬ F k
by_least F h k = below (suc k) k (omega arith)
  where
    below : (b j : ℕ) → j < b → ¬ F j
    below zero j l f = absurd (omega arith)
    below (suc b) j l f = h j f (λ i m. below b i (omega arith))
