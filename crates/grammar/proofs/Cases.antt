-- Texts read by evaluation: cases I and J of document 01, and texts on which fault counts.
-- Assumes nothing.
use Prim.Native.Nat.{ℕ}
use Prim.Native.String.{String}
use mathlib.Core.Path.{◌≡◌, refl}
use mathlib.Core.Bool.{true, false}
use mathlib.Core.List.{List, [], ◌∷◌, ◌++◌}
use Rattle.laws.specs.Quoted.{bytes_from, bytes}
use Rattle.classes.specs.Classes.{class_of}
use Rattle.text.specs.Tokens.{Name, reserved, mark_of, run_token, run, token_here, more_bytes, tokens_from, tokens}
use Rattle.grammar.specs.Files.{Slot}
use Rattle.laws.specs.Truth.{◌∨ᵇ◌}
use Rattle.model.specs.Rules.{assigns}
use Rattle.grammar.specs.Reading.{accepted, refused, ◌then◌, expects, fork, a_name, if_next, new, new_name, known_slot, known_value, unassigned, read_slot, read_place, read_value, read_target, read_list, plain_literal, read_literal, no_literal, read_literals, read_condition, read_assignment, no_assignment, read_assignments, read_assign, read_rule, no_value, read_values, read_line, go_on, read_rules, read_lines, read_tokens, parse, parse_within}
use Rattle.model.specs.Result.{pair}

-- `unfolding reads` opens all that a reading runs.
unfoldable pub reads : Unit {0}
unfolding bytes_from bytes class_of reserved mark_of run_token run token_here more_bytes tokens_from tokens ◌∨ᵇ◌ assigns ◌then◌ expects fork a_name if_next new new_name known_slot known_value unassigned read_slot read_place read_value read_target read_list plain_literal read_literal no_literal read_literals read_condition read_assignment no_assignment read_assignments read_assign read_rule no_value read_values read_line go_on read_rules read_lines read_tokens parse_within
reads = tt

-- The slots of document 01's cases.
abbrev pub slots_text : String
slots_text = "SLOT x {0,1}; SLOT y {0,1}; SLOT z {0,1};"

-- A name at its place.
abbrev at : ℕ → String → Name
at p s = record { start = p; letters = bytes s }

-- Those slots as read.
abbrev slots_read : List Slot
slots_read =
    record { name = at 5 "x"; values = at 8 "0" ∷ at 10 "1" ∷ [] }
    ∷ record { name = at 19 "y"; values = at 22 "0" ∷ at 24 "1" ∷ [] }
    ∷ record { name = at 33 "z"; values = at 36 "0" ∷ at 38 "1" ∷ [] } ∷ []

-- A text after those slots.
abbrev pub after_slots : String → List ℕ
after_slots s = bytes slots_text ++ bytes s

-- Case I: TRUE may open a condition and be followed by AND.
pub case_I : parse (after_slots "WHEN x *= 1 IF TRUE AND y |= 0 THEN z := 1;")
    ≡ accepted (record {
      slots = slots_read;
      rules = record { trigger = pair 0 2; literals = record { becomes = false; negated = false; pair = pair 1 1 } ∷ []; assignments = pair 2 2 ∷ [] } ∷ [];
    })
unfolding reads
case_I = refl

-- Case J: it may stand nowhere else.
pub case_J : parse (after_slots "WHEN x *= 1 IF y |= 0 AND TRUE THEN z := 1;") ≡ refused 12 0
unfolding reads
case_J = refl

-- Nor after TRUE AND, nor after NOT; and a condition is not empty.
pub case_true : (parse (after_slots "WHEN x *= 1 IF TRUE AND TRUE THEN z := 1;") ≡ refused 12 0) × (parse (after_slots "WHEN x *= 1 IF NOT TRUE THEN z := 1;") ≡ refused 12 0)
    × (parse (after_slots "WHEN x *= 1 IF THEN z := 1;") ≡ refused 12 0)
unfolding reads
case_true = (refl, refl, refl)

-- An empty file, and one of white only.
pub case_empty : (parse (bytes "") ≡ accepted (record { slots = []; rules = [] })) × (parse (bytes " \t\r\n") ≡ accepted (record { slots = []; rules = [] }))
unfolding reads
case_empty = (refl, refl)

-- An even number of NOTs cancels, an odd one does not.
pub case_nots : parse (after_slots "WHEN x *= 1 IF NOT NOT y *= 0 AND NOT NOT NOT x |= 1 THEN {z := 1, x := 0};")
    ≡ accepted (record {
      slots = slots_read;
      rules = record {
        trigger = pair 0 2;
        literals = record { becomes = true; negated = false; pair = pair 1 1 } ∷ record { becomes = false; negated = true; pair = pair 0 2 } ∷ [];
        assignments = pair 2 2 ∷ pair 0 1 ∷ [];
      } ∷ [];
    })
unfolding reads
case_nots = refl

-- 11 before 12 at one token: a class 5 byte without `=` where even its mark would be out of place, and at the end of the text.
pub case_bad : (parse (bytes "WHEN *") ≡ refused 11 0) × (parse (bytes "*=") ≡ refused 12 0) × (parse (after_slots "WHEN x *") ≡ refused 11 0)
unfolding reads
case_bad = (refl, refl, refl)

-- The earliest token counts: an undeclared slot before a bad byte.
pub case_earliest : parse (after_slots "WHEN q(") ≡ refused 16 0
unfolding reads
case_earliest = refl

-- A name over 24 bytes is 13 where a name may stand and 12 elsewhere.
pub case_long : (parse (bytes "SLOT nnnnnnnnnnnnnnnnnnnnnnnnn (") ≡ refused 13 0) × (parse (bytes "nnnnnnnnnnnnnnnnnnnnnnnnn") ≡ refused 12 0)
unfolding reads
case_long = (refl, refl)

-- The sixteenth value: 14 where it repeats one, else 15.
pub case_values : (parse (bytes "SLOT x {a,b,c,d,e,f,g,h,i,j,k,l,m,n,o,c};") ≡ refused 14 0) × (parse (bytes "SLOT x {a,b,c,d,e,f,g,h,i,j,k,l,m,n,o,p};") ≡ refused 15 0)
unfolding reads
case_values = (refl, refl)

-- The ninth literal: 15 at its NOT or its slot's name, declared or not; 12 at TRUE, 13 at a long name; TRUE before the eight is not counted.
pub case_literals : (parse (after_slots "WHEN x *= 1 IF TRUE THEN y := 1;WHEN x *= 1 IF TRUE AND y |= 0 AND y |= 0 AND y |= 0 AND y |= 0 AND y |= 0 AND y |= 0 AND y |= 0 AND y |= 0 AND q(") ≡ refused 15 1)
    × (parse (after_slots "WHEN x *= 1 IF TRUE THEN y := 1;WHEN x *= 1 IF y |= 0 AND y |= 0 AND y |= 0 AND y |= 0 AND y |= 0 AND y |= 0 AND y |= 0 AND y |= 0 AND NOT(") ≡ refused 15 1)
    × (parse (after_slots "WHEN x *= 1 IF TRUE THEN y := 1;WHEN x *= 1 IF y |= 0 AND y |= 0 AND y |= 0 AND y |= 0 AND y |= 0 AND y |= 0 AND y |= 0 AND y |= 0 AND TRUE") ≡ refused 12 1)
    × (parse (after_slots "WHEN x *= 1 IF TRUE THEN y := 1;WHEN x *= 1 IF y |= 0 AND y |= 0 AND y |= 0 AND y |= 0 AND y |= 0 AND y |= 0 AND y |= 0 AND y |= 0 AND nnnnnnnnnnnnnnnnnnnnnnnnn") ≡ refused 13 1)
unfolding reads
case_literals = (refl, refl, refl, refl)

-- The fifth assignment: 15 at its slot's name, whether undeclared or assigned before; 12 at `}`.
pub case_assignments : (parse (bytes "SLOT p{a};SLOT q{a};SLOT r{a};SLOT s{a};WHEN p*=a IF TRUE THEN{p:=a,q:=a,r:=a,s:=a,p") ≡ refused 15 0)
    × (parse (bytes "SLOT p{a};SLOT q{a};SLOT r{a};SLOT s{a};WHEN p*=a IF TRUE THEN{p:=a,q:=a,r:=a,s:=a,u") ≡ refused 15 0)
    × (parse (bytes "SLOT p{a};SLOT q{a};SLOT r{a};SLOT s{a};WHEN p*=a IF TRUE THEN{p:=a,q:=a,r:=a,s:=a,}") ≡ refused 12 0)
unfolding reads
case_assignments = (refl, refl, refl)

-- A slot assigned twice is 17 at its second name, whatever follows.
pub case_twice : parse (after_slots "WHEN x *= 1 IF TRUE THEN {y := 1, y (") ≡ refused 17 0
unfolding reads
case_twice = refl

-- A slot declared twice is 14 at its second name; a slot may have a value of its own name.
pub case_declared : (parse (bytes "SLOT x {0}; SLOT x (") ≡ refused 14 0) × (parse (bytes "SLOT x {x}; SLOT y {x}; SLOT z (") ≡ refused 11 0)
unfolding reads
case_declared = (refl, refl)

-- Lists end at once or after a part, never after a comma; SLOT after a rule is out of place.
pub case_places : (parse (bytes "SLOT x {};") ≡ refused 12 0) × (parse (bytes "SLOT x {0,};") ≡ refused 12 0) × (parse (after_slots "WHEN x *= 1 IF TRUE THEN y := 1; SLOT u {0};") ≡ refused 12 1)
unfolding reads
case_places = (refl, refl, refl)

-- The second number counts completed rules: the end of the text inside the second rule, and a bad byte after it.
pub case_completed : (parse (after_slots "WHEN x *= 1 IF TRUE THEN z := 1;WHEN x *= 1 IF TRUE THEN z := 1") ≡ refused 12 1)
    × (parse (after_slots "WHEN x *= 1 IF TRUE THEN z := 1;WHEN x *= 1 IF TRUE THEN z := 1;(") ≡ refused 11 2)
unfolding reads
case_completed = (refl, refl)

-- Rules without slots are 16 at the first trigger.
pub case_rules_only : parse (bytes "WHEN x *= 1 IF TRUE THEN x := 1;") ≡ refused 16 0
unfolding reads
case_rules_only = refl

-- Document 02, section 6: NONE for a value in a trigger, a literal and an assignment, each value 0.
pub case_none : parse (after_slots "WHEN x *= NONE IF NOT y |= NONE AND z *= NONE THEN {y := NONE, z := 1};")
    ≡ accepted (record {
      slots = slots_read;
      rules = record {
        trigger = pair 0 0;
        literals = record { becomes = false; negated = true; pair = pair 1 0 } ∷ record { becomes = true; negated = false; pair = pair 2 0 } ∷ [];
        assignments = pair 1 0 ∷ pair 2 2 ∷ [];
      } ∷ [];
    })
unfolding reads
case_none = refl

-- NONE is no slot's name and no declared value: 12 in a slot line, as its name or as a value, and in a rule for the slot of a trigger, a literal or an assignment; 12 too for another word in the place of a value.
pub case_none_misplaced : (parse (bytes "SLOT NONE {0};") ≡ refused 12 0) × (parse (bytes "SLOT x {NONE};") ≡ refused 12 0) × (parse (bytes "SLOT x {0,NONE};") ≡ refused 12 0)
    × (parse (after_slots "WHEN NONE *= 1 IF TRUE THEN y := 1;") ≡ refused 12 0) × (parse (after_slots "WHEN x *= 1 IF NOT NONE |= 0 THEN y := 1;") ≡ refused 12 0)
    × (parse (after_slots "WHEN x *= 1 IF TRUE THEN NONE := 1;") ≡ refused 12 0) × (parse (after_slots "WHEN x *= TRUE IF TRUE THEN y := 1;") ≡ refused 12 0)
unfolding reads
case_none_misplaced = (refl, refl, refl, refl, refl, refl, refl)

-- It is reserved in capitals only: `none` is a plain name, of a slot or of a value, and 16 where it is not declared.
pub case_none_plain : (parse (bytes "SLOT none {None}; WHEN none *= None IF TRUE THEN none := NONE;")
    ≡ accepted (record {
      slots = record { name = at 5 "none"; values = at 11 "None" ∷ [] } ∷ [];
      rules = record { trigger = pair 0 1; literals = []; assignments = pair 0 0 ∷ [] } ∷ [];
    })) × (parse (after_slots "WHEN x *= none IF TRUE THEN y := 1;") ≡ refused 16 0)
unfolding reads
case_none_plain = (refl, refl)
