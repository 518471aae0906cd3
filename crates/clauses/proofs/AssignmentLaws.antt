-- Laws of the reading of assignments.
-- Assumes nothing.
use Prim.Native.Nat.{ℕ, suc, ◌-◌, ◌≤◌, ◌<◌}
use native.Mathlib.Omega.{arith}
use mathlib.Core.Path.{◌≡◌, refl, ap, ◌∙◌}
use mathlib.Core.Bool.{Bool, true, false}
use mathlib.Core.List.{List, [], ◌∷◌, ◌++◌, map}
use lib.ListN.{length}
use Rattle.laws.specs.Filled.{filled}
use Rattle.laws.proofs.Filled.{filled_none}
use Rattle.text.specs.Tokens.{Name, Token, GETS, OPEN, CLOSE, COMMA}
use Rattle.model.specs.Rules.{Pair, assigns}
use Rattle.laws.specs.Limits.{assignment_limit}
use Rattle.table.specs.Zero.{zero_assignment}
use Rattle.table.specs.Link.{assignment_of}
use Rattle.table.specs.declared.Assignment.{Assignment}
use Rattle.grammar.specs.Files.{Slot}
use Rattle.grammar.specs.Reading.{Part, took, stop, ◌then◌, expects, a_name, unassigned, read_slot, read_value, read_target, read_assignment, read_assignments, read_assign, no_assignment}
use Rattle.model.specs.Result.{pair}
use Rattle.steps.specs.inner.Places.{which, one, other, neither}
use Rattle.clauses.specs.inner.Assignments.{AssignmentPlaces, assignment_list, UnusedZero, pairs_in, value_assignment, single_assignment, AssignmentLies, AssignmentsLies}
use Rattle.std.specs.Prelude.{Result, Ok, Err, ◌||◌}
use Rattle.std.specs.List.{list_any}
use lib.Dec.{eqb}
use Rattle.laws.specs.Truth.{◌∨ᵇ◌}
use Rattle.steps.specs.declared.step.Fault.{Fault}
use Rattle.steps.specs.declared.step.Read.{Read}
use Rattle.clauses.proofs.ListLaws as lists
use Rattle.steps.proofs.Places.{next_is, next_not}
use Rattle.clauses.proofs.LiteralLaws.{slot_inside}

-- No assignments.
pub none_zero : UnusedZero (assignment_list [])
unfolding filled
none_zero = filled_none assignment_limit zero_assignment

pub none_pairs : (list : AssignmentPlaces) → list ≡ assignment_list [] → pairs_in list ≡ []
none_pairs list e = ap pairs_in e

-- Some assignment assigns the slot.
pub any_assigns : (xs : List Assignment) (s : ℕ) → list_any (λ a. eqb a.slot s) xs ≡ assigns (map assignment_of xs) s
unfolding assigns ◌∨ᵇ◌
any_assigns [] s = refl
any_assigns (x ∷ xs) s = go (eqb x.slot s) (any_assigns xs s)
  where
    go : (t : Bool) → list_any (λ a. eqb a.slot s) xs ≡ assigns (map assignment_of xs) s → t || list_any (λ a. eqb a.slot s) xs ≡ t ∨ᵇ assigns (map assignment_of xs) s
    go true e = refl
    go false e = e

-- The slot of an assignment: not read, assigned already, not assigned.
pub target_stop : (slots : List Slot) (sofar : List Pair) (ts : List Token) (k : ℕ) → read_slot slots ts ≡ stop k → read_target slots sofar ts ≡ stop k
unfolding read_target ◌then◌
target_stop slots sofar ts k e = rw e

pub target_twice : (slots : List Slot) (sofar : List Pair) (ts left : List Token) (s : ℕ) → read_slot slots ts ≡ took s left → assigns sofar s ≡ true → read_target slots sofar ts ≡ stop 17
unfolding read_target ◌then◌ unassigned
target_twice slots sofar ts left s e f = rw (e, f)

pub target_took : (slots : List Slot) (sofar : List Pair) (ts left : List Token) (s : ℕ) → read_slot slots ts ≡ took s left → assigns sofar s ≡ false → read_target slots sofar ts ≡ took s left
unfolding read_target ◌then◌ unassigned
target_took slots sofar ts left s e f = rw (e, f)

-- It is one of the slots.
target_slot : (m : Part ℕ) (sofar : List Pair) (s : ℕ) (left : List Token) → (m then λ x rest. unassigned (assigns sofar x) x rest) ≡ took s left → m ≡ took s left
unfolding ◌then◌ unassigned
target_slot (took x rest) sofar s left e = go (assigns sofar x) e
  where
    go : (b : Bool) → unassigned b x rest ≡ took s left → took x rest ≡ took s left
    go true f = absurd (let z : ◌≡◌ {A = ℕ} 0 1 = cc in omega arith)
    go false f = f
target_slot (stop k) sofar s left e = absurd (let z : ◌≡◌ {A = ℕ} 0 1 = cc in omega arith)

pub target_inside : (slots : List Slot) (sofar : List Pair) (ts left : List Token) (s : ℕ) → read_target slots sofar ts ≡ took s left → s < length slots
unfolding read_target
target_inside slots sofar ts left s e = slot_inside slots ts left s (target_slot (read_slot slots ts) sofar s left e)

-- Its `:=` and its value.
pub value_mark : (slots : List Slot) (s : ℕ) (ts : List Token) (k : ℕ) → expects GETS ts ≡ stop k → value_assignment slots s ts ≡ stop k
unfolding value_assignment ◌then◌
value_mark slots s ts k e = rw e

pub value_stop : (slots : List Slot) (s : ℕ) (ts left : List Token) (u : Unit {0}) (k : ℕ) → expects GETS ts ≡ took u left → read_value slots s left ≡ stop k → value_assignment slots s ts ≡ stop k
unfolding value_assignment ◌then◌
value_stop slots s ts left u k e f = rw (e, f)

pub value_took : (slots : List Slot) (s : ℕ) (ts left more : List Token) (u : Unit {0}) (n : ℕ) → expects GETS ts ≡ took u left → read_value slots s left ≡ took n more
    → value_assignment slots s ts ≡ took (pair s n) more
unfolding value_assignment ◌then◌
value_took slots s ts left more u n e f = rw (e, f)

-- An assignment: its slot, then the rest.
pub assignment_stop : (slots : List Slot) (sofar : List Pair) (ts : List Token) (k : ℕ) → read_target slots sofar ts ≡ stop k → read_assignment slots sofar ts ≡ stop k
unfolding read_assignment ◌then◌
assignment_stop slots sofar ts k e = rw e

pub assignment_on : (slots : List Slot) (sofar : List Pair) (ts left : List Token) (s : ℕ) → read_target slots sofar ts ≡ took s left → read_assignment slots sofar ts ≡ value_assignment slots s left
unfolding read_assignment value_assignment ◌then◌
assignment_on slots sofar ts left s e = rw e

-- No assignment may follow.
pub surplus_stop : (sofar : List Pair) (ts : List Token) (k : ℕ) → a_name ts ≡ stop k → no_assignment sofar ts ≡ stop k
unfolding no_assignment ◌then◌
surplus_stop sofar ts k e = rw e

pub surplus_named : (sofar : List Pair) (ts left : List Token) (n : Name) → a_name ts ≡ took n left → no_assignment sofar ts ≡ stop 15
unfolding no_assignment ◌then◌
surplus_named sofar ts left n e = rw e

-- What lies behind a later position lies behind an earlier one.
pub lies_earlier : (size from later : ℕ) (r : Result (Read Assignment) Fault) → from ≤ later → AssignmentLies size later r → AssignmentLies size from r
lies_earlier size from later (Ok r) h d = (omega (arith, d.0), d.1)
lies_earlier size from later (Err k) h d = tt

pub list_earlier : (size from later : ℕ) (r : Result (Read AssignmentPlaces) Fault) → from ≤ later → AssignmentsLies size later r → AssignmentsLies size from r
list_earlier size from later (Ok r) h d = (omega (arith, d.0), d.1, d.2)
list_earlier size from later (Err k) h d = tt

-- The list of assignments, where `room` more may come: none may; the next is refused; it is read, and the list goes on, ends, or is refused.
pub list_start : (slots : List Slot) (list : AssignmentPlaces) (ts : List Token) → list ≡ assignment_list []
    → read_assignments slots assignment_limit [] ts ≡ read_assignments slots (assignment_limit - list.count) (pairs_in list) ts
list_start slots list ts e = rw e

pub list_full : (slots : List Slot) (room : ℕ) (sofar : List Pair) (ts : List Token) → room ≡ 0 → read_assignments slots room sofar ts ≡ no_assignment sofar ts
unfolding read_assignments
list_full slots = lists.list_full (read_assignment slots) no_assignment COMMA CLOSE

pub list_stop : (slots : List Slot) (room r : ℕ) (sofar : List Pair) (ts : List Token) (k : ℕ) → room ≡ suc r → read_assignment slots sofar ts ≡ stop k → read_assignments slots room sofar ts ≡ stop k
unfolding read_assignments
list_stop slots = lists.list_stop (read_assignment slots) no_assignment COMMA CLOSE

pub list_on : (slots : List Slot) (room r : ℕ) (sofar longer : List Pair) (ts left more : List Token) (p : Pair) → room ≡ suc r → longer ≡ sofar ++ p ∷ []
    → read_assignment slots sofar ts ≡ took p left → which COMMA CLOSE left ≡ one more → read_assignments slots room sofar ts ≡ read_assignments slots r longer more
unfolding read_assignments
list_on slots room r sofar longer ts left more p e l f g = rw l (lists.list_on (read_assignment slots) no_assignment COMMA CLOSE room r sofar ts left more p e f g)

pub list_end : (slots : List Slot) (room r : ℕ) (sofar longer : List Pair) (ts left more : List Token) (p : Pair) → room ≡ suc r → longer ≡ sofar ++ p ∷ []
    → read_assignment slots sofar ts ≡ took p left → which COMMA CLOSE left ≡ other more → read_assignments slots room sofar ts ≡ took longer more
unfolding read_assignments
list_end slots room r sofar longer ts left more p e l f g = rw l (lists.list_end (read_assignment slots) no_assignment COMMA CLOSE room r sofar ts left more p e f g)

pub list_fault : (slots : List Slot) (room r : ℕ) (sofar : List Pair) (ts left : List Token) (p : Pair) (k : ℕ) → room ≡ suc r
    → read_assignment slots sofar ts ≡ took p left → which COMMA CLOSE left ≡ neither k → read_assignments slots room sofar ts ≡ stop k
unfolding read_assignments
list_fault slots = lists.list_fault (read_assignment slots) no_assignment COMMA CLOSE

-- One assignment alone.
pub single_stop : (slots : List Slot) (sofar : List Pair) (ts : List Token) (k : ℕ) → sofar ≡ [] → read_assignment slots sofar ts ≡ stop k → single_assignment slots ts ≡ stop k
unfolding single_assignment ◌then◌
single_stop slots sofar ts k z e = let f = rw z at e in rw f

pub single_took : (slots : List Slot) (sofar longer : List Pair) (ts left : List Token) (p : Pair) → sofar ≡ [] → longer ≡ sofar ++ p ∷ []
    → read_assignment slots sofar ts ≡ took p left → single_assignment slots ts ≡ took longer left
unfolding single_assignment ◌then◌
single_took slots sofar longer ts left p z l e = let f = rw z at e in rw (f, l, z)

-- What follows THEN: a list where `{` stands, else one assignment.
pub assign_list : (slots : List Slot) (ts left : List Token) (u : Unit {0}) → expects OPEN ts ≡ took u left → read_assign slots ts ≡ read_assignments slots assignment_limit [] left
unfolding read_assign
assign_list slots ts left u e = next_is OPEN (read_assignments slots assignment_limit []) _ ts left u e

pub assign_one : (slots : List Slot) (ts : List Token) (k : ℕ) → expects OPEN ts ≡ stop k → read_assign slots ts ≡ single_assignment slots ts
unfolding read_assign single_assignment
assign_one slots ts k e = next_not OPEN _ _ ts k e

-- Where no name stands, nothing is assigned, and the refusal is that of the name.
pub assign_unnamed : (slots : List Slot) (ts : List Token) (j k : ℕ) → expects OPEN ts ≡ stop j → a_name ts ≡ stop k → read_assign slots ts ≡ stop k
unfolding single_assignment read_assignment read_target read_slot ◌then◌
assign_unnamed slots ts j k e f = assign_one slots ts j e ∙ rw f

pub assignment_unnamed : (slots : List Slot) (sofar : List Pair) (ts : List Token) (k : ℕ) → a_name ts ≡ stop k → read_assignment slots sofar ts ≡ stop k
unfolding read_assignment read_target read_slot ◌then◌
assignment_unnamed slots sofar ts k e = rw e
