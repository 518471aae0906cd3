-- Which refusals each definition can give.
-- Assumes nothing.
use Prim.Native.Nat.{ℕ, zero, suc}
use native.Mathlib.Omega.{arith}
use mathlib.Core.Path.{◌≡◌, refl, subst}
use mathlib.Core.Bool.{Bool, true, false, cond}
use mathlib.Core.List.{List, [], ◌∷◌}
use mathlib.Core.Logic.{◌⊎◌, inl, inr}
use lib.Dec.{T, eqb, leb, ltb}
use lib.ListN.{length, get_or}
use borrow.Author.Tests.{eqb-true, eq-eqb, ne_eqb}
use Rattle.laws.specs.Packed.{byte_count}
use Rattle.model.specs.Rules.{Pair, Pairs, Rule}
use Rattle.model.specs.Result.{conflict_slot}
use Rattle.table.specs.declared.Table.{Table}
use Rattle.table.specs.declared.Way.{Way}
use Rattle.table.specs.declared.Way.TheVariants.{Strata, Marks}
use Rattle.laws.specs.Limits.{row}
use Rattle.table.specs.Link.{rules_of, value_counts}
use Rattle.soundness.specs.Sound.{takes}
use Rattle.marks.specs.Marks.{declared_pairs}
use Rattle.marks.specs.Selection.{no_clash, all_known, selection_refusal, selection}
use Rattle.laws.specs.Answers.{Verdict, passed, fault, OrRefused, taken, refused, after}
use Rattle.cards.specs.Forms.{count_in, card_bits, slip_bits, padding, values_in, changes_in, values_test, card_test, change_fault, changes_test, slip_test, read_card, read_slip}
use Rattle.response.specs.Ending.{Answer, answer_of, unless_conflict, answer_by_firing, unless_refused, answer_by_marks}
use Rattle.tally.specs.Counting.{is_full}
use Rattle.tally.specs.Editors.{Editors, has_record, own_record}
use Rattle.response.specs.Respond.{◌and_then◌, Rooms, changes_room, if_room, answer_by, answer_by_rules, answer_by_table, answer_in}
use Rattle.promises.proofs.Callers.{by_record, answer_by_record}

-- One of these numbers.
abbrev pub OneOf : List ℕ → ℕ → Type 0
OneOf [] k = ⊥
OneOf (n ∷ ns) k = (k ≡ n) ⊎ OneOf ns k

-- A refusal, where it is one, has a number that P holds of.
abbrev pub Only : {A : Type 0} → (ℕ → Type 0) → OrRefused A → Type 0
Only P (taken a) = Unit
Only P (refused k s) = P k

-- The refusals of a card's bytes, and of a slip's.
abbrev pub of_card : List ℕ
of_card = 20 ∷ 21 ∷ 22 ∷ 23 ∷ []

abbrev pub of_slip : List ℕ
of_slip = 24 ∷ 25 ∷ 26 ∷ 27 ∷ 28 ∷ []

-- Those of a response by a table and a record that are in order, and of any.
abbrev pub of_rules : List ℕ
of_rules = 20 ∷ 21 ∷ 22 ∷ 23 ∷ 24 ∷ 25 ∷ 26 ∷ 27 ∷ 28 ∷ 30 ∷ 40 ∷ 41 ∷ 42 ∷ []

abbrev pub of_response : List ℕ
of_response = 44 ∷ 32 ∷ 31 ∷ of_rules

-- The same of a test.
abbrev OnlyFault : (ℕ → Type 0) → Verdict → Type 0
OnlyFault P passed = Unit
OnlyFault P (fault k s) = P k

pub only_e : {A : Type 0} (P : ℕ → Type 0) (u : OrRefused A) (k s : ℕ) → Only P u → u ≡ refused k s → P k
only_e P u k s h e = subst (Only P) e h

pub only_cond : {A : Type 0} (P : ℕ → Type 0) (b : Bool) (u v : OrRefused A) → Only P u → Only P v → Only P (cond b u v)
only_cond P true u v g h = g
only_cond P false u v g h = h

fault_cond : (P : ℕ → Type 0) (b : Bool) (u v : Verdict) → OnlyFault P u → OnlyFault P v → OnlyFault P (cond b u v)
fault_cond P true u v g h = g
fault_cond P false u v g h = h

only_after : {A : Type 0} (P : ℕ → Type 0) (v : Verdict) (u : OrRefused A) → OnlyFault P v → Only P u → Only P (after v u)
unfolding after
only_after P passed u g h = h
only_after P (fault k s) u g h = g

only_then : {A B : Type 0} (P : ℕ → Type 0) (u : OrRefused A) (f : A → OrRefused B) → Only P u → ((a : A) → Only P (f a)) → Only P (u and_then f)
unfolding ◌and_then◌
only_then P (taken a) f g h = h a
only_then P (refused k s) f g h = g

-- A number is among some, as a test.
abbrev has : List ℕ → ℕ → Bool
has [] k = false
has (n ∷ ns) k = cond (eqb k n) true (has ns k)

here_or_later : (n k : ℕ) (ns : List ℕ) (b : Bool) → eqb k n ≡ b → (T (has ns k) → OneOf ns k) → T (cond b true (has ns k)) → OneOf (n ∷ ns) k
here_or_later n k ns true e f h = inl (eqb-true k n e)
here_or_later n k ns false e f h = inr (f h)

pub one_of : (ns : List ℕ) (k : ℕ) → T (has ns k) → OneOf ns k
one_of [] k h = absurd h
one_of (n ∷ ns) k h = here_or_later n k ns (eqb k n) refl (one_of ns k) h

has_it : (ns : List ℕ) (k : ℕ) → OneOf ns k → T (has ns k)
has_it [] k h = absurd h
has_it (n ∷ ns) k (inl e) = rw (eq-eqb k n e) tt
has_it (n ∷ ns) k (inr h) = or_true (eqb k n) (has ns k) (has_it ns k h)
  where
    or_true : (a b : Bool) → T b → T (cond a true b)
    or_true true b h = tt
    or_true false b h = h

-- All of some numbers are among others.
abbrev within : List ℕ → List ℕ → Bool
within [] ms = true
within (n ∷ ns) ms = cond (has ms n) (within ns ms) false

both : (a b : Bool) → T (cond a b false) → T a × T b
both true b h = (tt, h)
both false b h = absurd h

one_of_more : (ns ms : List ℕ) → T (within ns ms) → (k : ℕ) → OneOf ns k → OneOf ms k
one_of_more [] ms t k h = absurd h
one_of_more (n ∷ ns) ms t k (inl e) = rw e (one_of ms n (both (has ms n) (within ns ms) t).0)
one_of_more (n ∷ ns) ms t k (inr h) = one_of_more ns ms (both (has ms n) (within ns ms) t).1 k h

-- Another number than j.
abbrev pub Other : ℕ → ℕ → Type 0
Other j k = k ≡ j → ⊥

pub one_of_other : (ns : List ℕ) (j : ℕ) → T (cond (has ns j) false true) → (k : ℕ) → OneOf ns k → Other j k
one_of_other ns j t k h e = go (has ns j) t (rw e at (has_it ns k h))
  where
    go : (b : Bool) → T (cond b false true) → T b → ⊥
    go true u v = u
    go false u v = v

pub only_more : {A : Type 0} (P Q : ℕ → Type 0) → ((k : ℕ) → P k → Q k) → (u : OrRefused A) → Only P u → Only Q u
only_more P Q f (taken a) h = tt
only_more P Q f (refused k s) h = f k h

fault_more : (P Q : ℕ → Type 0) → ((k : ℕ) → P k → Q k) → (v : Verdict) → OnlyFault P v → OnlyFault Q v
fault_more P Q f passed h = tt
fault_more P Q f (fault k s) h = f k h

-- The tests of a card's values: 21, 22.
abbrev of_values : List ℕ
of_values = 21 ∷ 22 ∷ []

values_22 : (at : ℕ) (ns vs : List ℕ) → OnlyFault (OneOf of_values) (values_test at ns vs)
unfolding values_test
values_22 at [] vs = tt
values_22 at (n ∷ ns) [] = tt
values_22 at (n ∷ ns) (v ∷ vs) = fault_cond (OneOf of_values) (ltb n v) (fault 22 at) (values_test (suc at) ns vs) (one_of of_values 22 tt) (values_22 (suc at) ns vs)

card_tests : (counts vs : List ℕ) → OnlyFault (OneOf of_values) (card_test counts vs)
unfolding card_test
card_tests counts vs = fault_cond (OneOf of_values) (eqb (length vs) (length counts)) (values_test 0 counts vs) (fault 21 0) (values_22 0 counts vs) (one_of of_values 21 tt)

-- The tests of a slip's changes: 25 to 27.
abbrev of_changes : List ℕ
of_changes = 25 ∷ 26 ∷ 27 ∷ []

change_number : (counts : List ℕ) (low : ℕ) (p : Pair) → OneOf (0 ∷ of_changes) (change_fault counts low p)
unfolding change_fault
change_number counts low p = go (leb (length counts) p.slot) (ltb p.slot low) (ltb (get_or counts p.slot 0) p.value)
  where
    go : (x y z : Bool) → OneOf (0 ∷ of_changes) (cond x 25 (cond y 26 (cond z 27 0)))
    go true y z = one_of (0 ∷ of_changes) 25 tt
    go false true z = one_of (0 ∷ of_changes) 26 tt
    go false false true = one_of (0 ∷ of_changes) 27 tt
    go false false false = one_of (0 ∷ of_changes) 0 tt

slip_tests : (counts : List ℕ) (low at : ℕ) (ps : List Pair) → OnlyFault (OneOf of_changes) (changes_test counts low at ps)
unfolding changes_test
slip_tests counts low at [] = tt
slip_tests counts low at (p ∷ ps) = go (change_fault counts low p) (change_number counts low p) (slip_tests counts (suc p.slot) (suc at) ps)
  where
    go : (k : ℕ) → OneOf (0 ∷ of_changes) k → OnlyFault (OneOf of_changes) (changes_test counts (suc p.slot) (suc at) ps)
        → OnlyFault (OneOf of_changes) (cond (eqb k 0) (changes_test counts (suc p.slot) (suc at) ps) (fault k at))
    go zero h rest = rest
    go (suc k) (inl e) rest = absurd (omega (arith, e))
    go (suc k) (inr h) rest = rw (ne_eqb (suc k) 0 (λ e. omega (arith, e))) h

-- A card's bytes,
pub card_refused : (counts ys : List ℕ) → Only (OneOf of_card) (read_card counts ys)
unfolding read_card
card_refused counts ys =
    only_cond (OneOf of_card) (eqb (length ys) (byte_count (card_bits (count_in ys)))) _ (refused 20 0)
    (only_after (OneOf of_card) (card_test counts (values_in ys)) _
    (fault_more (OneOf of_values) (OneOf of_card) (one_of_more of_values of_card tt) (card_test counts (values_in ys)) (card_tests counts (values_in ys)))
    (only_cond (OneOf of_card) (eqb (padding ys (card_bits (count_in ys))) 0) (taken (values_in ys)) (refused 23 0) tt (one_of of_card 23 tt)))
    (one_of of_card 20 tt)

-- and a slip's.
pub slip_refused : (counts ys : List ℕ) → Only (OneOf of_slip) (read_slip counts ys)
unfolding read_slip
slip_refused counts ys =
    only_cond (OneOf of_slip) (eqb (length ys) (byte_count (slip_bits (count_in ys)))) _ (refused 24 0)
    (only_after (OneOf of_slip) (slip_test counts (changes_in ys)) _
    (fault_more (OneOf of_changes) (OneOf of_slip) (one_of_more of_changes of_slip tt) (slip_test counts (changes_in ys)) (slip_tests counts 0 0 (changes_in ys)))
    (only_cond (OneOf of_slip) (eqb (padding ys (slip_bits (count_in ys))) 0) (taken (changes_in ys)) (refused 28 0) tt (one_of of_slip 28 tt)))
    (one_of of_slip 24 tt)

room_refused : {A : Type 0} (width count : ℕ) (rooms : Rooms) (u : OrRefused A) → Only (OneOf of_rules) u → Only (OneOf of_rules) (if_room width count rooms u)
unfolding if_room
room_refused width count rooms u h =
    only_cond (OneOf of_rules) (ltb rooms.for_card (byte_count (card_bits width))) (refused 30 1) _ (one_of of_rules 30 tt)
    (only_cond (OneOf of_rules) (ltb rooms.for_changes changes_room) (refused 30 2) _ (one_of of_rules 30 tt)
    (only_cond (OneOf of_rules) (ltb rooms.for_fired (byte_count count)) (refused 30 3) u (one_of of_rules 30 tt) h))

conflict_refused : (width count : ℕ) (S : List ℕ) (C : Pairs) (ns : List ℕ) → Only (OneOf of_rules) (unless_conflict width count S C ns)
unfolding unless_conflict
conflict_refused width count S C ns =
    only_cond (OneOf of_rules) (ltb (conflict_slot width row C) width) (refused 40 (conflict_slot width row C)) (taken (answer_of width count S C ns)) (one_of of_rules 40 tt) tt

marks_refused : (counts : List ℕ) (rs : List Rule) (S : List ℕ) (I : List Pair) → Only (OneOf of_rules) (answer_by_marks rs counts S I)
unfolding answer_by_marks unless_refused selection_refusal
marks_refused counts rs S I = go (no_clash (declared_pairs counts) rs S I (selection (declared_pairs counts) rs S I)) (all_known (declared_pairs counts) rs S I (selection (declared_pairs counts) rs S I)) _
  where
    go : (clear known : Bool) (a : Answer) → Only (OneOf of_rules) (unless_refused (cond clear (cond known 0 42) 41) a)
    go true true a = tt
    go true false a = one_of of_rules 42 tt
    go false known a = one_of of_rules 41 tt

-- What a response comes to,
end_refused : (way : Way) (counts : List ℕ) (rs : List Rule) (S : List ℕ) (I : List Pair) → Only (OneOf of_rules) (answer_by way counts rs S I)
unfolding answer_by answer_by_firing
end_refused Strata counts rs S I = conflict_refused (length counts) (length rs) S _ _
end_refused Marks counts rs S I = marks_refused counts rs S I

-- a response where table and record are in order,
pub rules_refused : (way : Way) (counts : List ℕ) (rs : List Rule) (card slip : List ℕ) (rooms : Rooms) → Only (OneOf of_rules) (answer_by_rules way counts rs card slip rooms)
unfolding answer_by_rules
rules_refused way counts rs card slip rooms =
    only_then (OneOf of_rules) (read_card counts card) _ (only_more (OneOf of_card) (OneOf of_rules) (one_of_more of_card of_rules tt) (read_card counts card) (card_refused counts card))
    (λ S. only_then (OneOf of_rules) (read_slip counts slip) _ (only_more (OneOf of_slip) (OneOf of_rules) (one_of_more of_slip of_rules tt) (read_slip counts slip) (slip_refused counts slip))
    (λ I. room_refused (length counts) (length rs) rooms (answer_by way counts rs S I) (end_refused way counts rs S I)))

-- where the record is,
abbrev of_table : List ℕ
of_table = 31 ∷ of_rules

table_refused : (way : Way) (t : Table) (card slip : List ℕ) (rooms : Rooms) → Only (OneOf of_table) (answer_by_table way t card slip rooms)
unfolding answer_by_table
table_refused way t card slip rooms =
    only_cond (OneOf of_table) (takes way t) (answer_by_rules way (value_counts t) (rules_of t) card slip rooms) (refused 31 0)
    (only_more (OneOf of_rules) (OneOf of_table) (one_of_more of_rules of_table tt) (answer_by_rules way (value_counts t) (rules_of t) card slip rooms) (rules_refused way (value_counts t) (rules_of t) card slip rooms))
    (one_of of_table 31 tt)

-- and any: 44 and 32 come before.
pub only_by_record : (P : ℕ → Type 0) (y : Editors) (u : OrRefused Answer) → P 44 → P 32 → Only P u → Only P (by_record y u)
only_by_record P y u a b h = only_cond P (has_record y) _ (refused 44 0) (only_cond P (is_full (own_record y)) (refused 32 0) u b h) a

pub response_refused : (way : Way) (t : Table) (y : Editors) (card slip : List ℕ) (rooms : Rooms) → Only (OneOf of_response) (answer_in way t y card slip rooms)
response_refused way t y card slip rooms =
    rw (answer_by_record way t y card slip rooms)
    (only_by_record (OneOf of_response) y (answer_by_table way t card slip rooms) (one_of of_response 44 tt) (one_of of_response 32 tt)
    (only_more (OneOf of_table) (OneOf of_response) (one_of_more of_table of_response tt) (answer_by_table way t card slip rooms) (table_refused way t card slip rooms)))

-- What follows the tests of the record gives neither 44 nor 32.
pub by_table_other : (way : Way) (t : Table) (card slip : List ℕ) (rooms : Rooms) (j : ℕ) → T (cond (has of_table j) false true) → Only (Other j) (answer_by_table way t card slip rooms)
by_table_other way t card slip rooms j h = only_more (OneOf of_table) (Other j) (one_of_other of_table j h) (answer_by_table way t card slip rooms) (table_refused way t card slip rooms)
