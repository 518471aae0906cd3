-- Texts printed by evaluation: the lettered cases of document 01, and the order of refusals: 18 and 12 before 33, 33 at its edge, and nothing printed into no room.
-- Assumes nothing.
use Prim.Native.Nat.{ℕ}
use Prim.Native.String.{String}
use mathlib.Core.Path.{◌≡◌, refl}
use mathlib.Core.List.{List, [], ◌∷◌}
use Rattle.laws.specs.Quoted.{bytes}
use Rattle.laws.specs.Answers.{OrRefused, taken, refused}
use Rattle.laws.specs.Limits.{text_limit}
use Rattle.grammar.proofs.Cases.{after_slots}
use Rattle.style.proofs.Cases.{prints, lines}
use Rattle.rule_file.proofs.Cases.{runs}
use Rattle.printing.specs.Printing.{print_of, fitted, after_reading, print_into}

-- `unfolding runs_print` opens all that a print runs.
unfoldable runs_print : Unit {0}
unfolding runs prints print_of fitted after_reading print_into
runs_print = tt

-- The print of rules after the slots of document 01's cases, into an output as long as a text may be.
abbrev case_printed : String → OrRefused (List ℕ)
case_printed s = print_into (after_slots s) text_limit

-- What it comes to: these slots and the lines of rules.
abbrev as_lines : List String → OrRefused (List ℕ)
as_lines ss = taken (lines ("SLOT x { 0, 1 };" ∷ "SLOT y { 0, 1 };" ∷ "SLOT z { 0, 1 };" ∷ ss))

-- Cases A (G), B, C (F, K, L), D, E, H, I, which prints as A does, and J, which is refused with 12.
pub case_A : case_printed "WHEN x *= 1 IF y |= 0 THEN z := 1;" ≡ as_lines ("WHEN x *= 1 IF y |= 0 THEN z := 1;" ∷ [])
unfolding runs_print
case_A = refl

pub case_B : case_printed "WHEN z *= 1 IF y |= 0 THEN y := 1;" ≡ as_lines ("WHEN z *= 1 IF y |= 0 THEN y := 1;" ∷ [])
unfolding runs_print
case_B = refl

pub case_C : case_printed "WHEN x *= 1 IF y |= 0 THEN z := 1;WHEN z *= 1 IF y |= 0 THEN y := 1;" ≡ as_lines ("WHEN x *= 1 IF y |= 0 THEN z := 1;" ∷ "WHEN z *= 1 IF y |= 0 THEN y := 1;" ∷ [])
unfolding runs_print
case_C = refl

pub case_D : case_printed "WHEN x *= 1 IF y |= 0 THEN z := 1;WHEN z *= 1 IF y |= 0 THEN x := 1;" ≡ as_lines ("WHEN x *= 1 IF y |= 0 THEN z := 1;" ∷ "WHEN z *= 1 IF y |= 0 THEN x := 1;" ∷ [])
unfolding runs_print
case_D = refl

pub case_E : case_printed "WHEN y *= 1 IF NOT x *= 1 THEN z := 1;WHEN y *= 1 IF x |= 0 THEN x := 1;" ≡ as_lines ("WHEN y *= 1 IF NOT x *= 1 THEN z := 1;" ∷ "WHEN y *= 1 IF x |= 0 THEN x := 1;" ∷ [])
unfolding runs_print
case_E = refl

pub case_H : case_printed "WHEN x *= 1 IF TRUE THEN x := 0;" ≡ as_lines ("WHEN x *= 1 IF TRUE THEN x := 0;" ∷ [])
unfolding runs_print
case_H = refl

pub case_I : case_printed "WHEN x *= 1 IF TRUE AND y |= 0 THEN z := 1;" ≡ as_lines ("WHEN x *= 1 IF y |= 0 THEN z := 1;" ∷ [])
unfolding runs_print
case_I = refl

pub case_J : case_printed "WHEN x *= 1 IF y |= 0 AND TRUE THEN z := 1;" ≡ refused 12 0
unfolding runs_print
case_J = refl

-- One slot, whose print takes 17 bytes.
abbrev one_slot : List ℕ
one_slot = bytes "SLOT x{0,1};"

pub case_edge : (print_into one_slot 16 ≡ refused 33 0) × (print_into one_slot 17 ≡ taken (lines ("SLOT x { 0, 1 };" ∷ []))) × (print_into one_slot 99 ≡ print_into one_slot 17)
unfolding runs_print
case_edge = (refl, refl, refl)

-- Into no room: a circle through a NOT is 18 with rule 1; and a text refused with 12.
pub case_18_first : print_into (after_slots "WHEN x *= 1 IF NOT z *= 1 THEN y := 1; WHEN y *= 1 IF TRUE THEN z := 1;") 0 ≡ refused 18 1
unfolding runs_print
case_18_first = refl

pub case_12_first : print_into (bytes "SLOT x {0,1}; SLOT") 0 ≡ refused 12 0
unfolding runs_print
case_12_first = refl

-- The empty text, and white alone, into no room.
pub case_nothing : (print_into [] 0 ≡ taken []) × (print_into (bytes "  ") 0 ≡ taken [])
unfolding runs_print
case_nothing = (refl, refl)
