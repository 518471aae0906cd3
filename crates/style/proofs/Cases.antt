-- Texts printed by evaluation: every form that the print leaves out, the print of that, the empty file and the example.
-- Assumes nothing.
use Prim.Native.Nat.{ℕ}
use Prim.Native.String.{String}
use mathlib.Core.Path.{◌≡◌, refl}
use mathlib.Core.List.{List, [], ◌∷◌, ◌++◌}
use Rattle.laws.specs.Quoted.{bytes}
use Rattle.text.specs.Covering.{spelling}
use Rattle.grammar.specs.Reading.{Parsed, accepted, refused, parse}
use Rattle.grammar.proofs.Cases.{reads}
use Rattle.style.specs.Layout.{token_bytes, tight, gap, layout}
use Rattle.style.specs.Printed.{print}

-- `unfolding prints` opens all that a print runs.
unfoldable pub prints : Unit {0}
unfolding reads spelling token_bytes tight gap layout print
prints = tt

-- What was read is a file, and these bytes are its print.
abbrev PrintedAs : Parsed → List ℕ → Type 0
PrintedAs (accepted f) ys = print f ≡ ys
PrintedAs (refused k n) ys = ⊥

-- Lines, byte 10 after each.
abbrev pub lines : List String → List ℕ
lines [] = []
lines (s ∷ ss) = bytes s ++ 10 ∷ lines ss

-- A text in other manners: no spaces or too many, NOTs that cancel, TRUE before literals, braces round one assignment, a literal twice.
abbrev untidy : List ℕ
untidy = bytes "SLOT x{0,1}\t;SLOT y {0 , 1-a};WHEN x*=1 IF TRUE THEN{y:=0};WHEN x *= 1 IF TRUE AND NOT NOT y|=0 AND NOT NOT NOT x *=0 THEN{y:=1-a ,x:=0} ; WHEN y*=0   IF NOT y|=0 AND NOT y|=0 THEN x:=1; "

-- Its print.
abbrev tidied : List ℕ
tidied =
    lines ("SLOT x { 0, 1 };"
    ∷ "SLOT y { 0, 1-a };"
    ∷ "WHEN x *= 1 IF TRUE THEN y := 0;"
    ∷ "WHEN x *= 1 IF y |= 0 AND NOT x *= 0 THEN { y := 1-a, x := 0 };"
    ∷ "WHEN y *= 0 IF NOT y |= 0 AND NOT y |= 0 THEN x := 1;" ∷ [])

pub case_untidy : PrintedAs (parse untidy) tidied
unfolding prints
case_untidy = refl

-- The print of the print.
pub case_again : PrintedAs (parse tidied) tidied
unfolding prints
case_again = refl

-- Nothing but white prints as no bytes.
pub case_empty : PrintedAs (parse []) [] × PrintedAs (parse (bytes "  ")) []
unfolding prints
case_empty = (refl, refl)

-- The rules of the example, examples/dialect/rules.txt, and their print.
abbrev dialect : List ℕ
dialect =
    lines ("SLOT class {noun, verb, adjective};"
    ∷ "SLOT first-attested {before-1600, 1600s, 1700s, 1800s, 1900s};"
    ∷ "SLOT last-attested {before-1800, 1800s, 1900s, in-use};"
    ∷ "SLOT status {current, rare, obsolete};"
    ∷ "SLOT region {north, west, east, isles};"
    ∷ "SLOT spread {one-county, several, wide};"
    ∷ "SLOT spelling {modern, old, phonetic};"
    ∷ "SLOT origin {norse, french, gaelic, unknown};"
    ∷ "SLOT register {plain, slang, trade};"
    ∷ "SLOT source {book, letter, tape};"
    ∷ "SLOT label {no-label, dated, local};"
    ∷ "SLOT page {draft, proof, set};"
    ∷ ""
    ∷ "WHEN last-attested *= before-1800 IF NOT source |= tape THEN status := obsolete;"
    ∷ "WHEN last-attested *= 1800s IF NOT source |= tape THEN status := rare;"
    ∷ "WHEN status *= obsolete IF NOT label |= local THEN {label := dated, spelling := old};"
    ∷ "WHEN status *= rare IF spelling |= modern THEN spelling := old;"
    ∷ "WHEN region *= isles IF TRUE THEN {origin := norse, spread := one-county};"
    ∷ "WHEN spread *= one-county IF NOT status *= obsolete THEN label := local;"
    ∷ "WHEN label *= local IF page |= set THEN page := proof;"
    ∷ "WHEN label *= dated IF page |= set THEN page := proof;"
    ∷ "WHEN spelling *= old IF class |= noun AND NOT page *= proof THEN register := plain;" ∷ [])

pub case_dialect : PrintedAs (parse dialect)
    (lines ("SLOT class { noun, verb, adjective };"
    ∷ "SLOT first-attested { before-1600, 1600s, 1700s, 1800s, 1900s };"
    ∷ "SLOT last-attested { before-1800, 1800s, 1900s, in-use };"
    ∷ "SLOT status { current, rare, obsolete };"
    ∷ "SLOT region { north, west, east, isles };"
    ∷ "SLOT spread { one-county, several, wide };"
    ∷ "SLOT spelling { modern, old, phonetic };"
    ∷ "SLOT origin { norse, french, gaelic, unknown };"
    ∷ "SLOT register { plain, slang, trade };"
    ∷ "SLOT source { book, letter, tape };"
    ∷ "SLOT label { no-label, dated, local };"
    ∷ "SLOT page { draft, proof, set };"
    ∷ "WHEN last-attested *= before-1800 IF NOT source |= tape THEN status := obsolete;"
    ∷ "WHEN last-attested *= 1800s IF NOT source |= tape THEN status := rare;"
    ∷ "WHEN status *= obsolete IF NOT label |= local THEN { label := dated, spelling := old };"
    ∷ "WHEN status *= rare IF spelling |= modern THEN spelling := old;"
    ∷ "WHEN region *= isles IF TRUE THEN { origin := norse, spread := one-county };"
    ∷ "WHEN spread *= one-county IF NOT status *= obsolete THEN label := local;"
    ∷ "WHEN label *= local IF page |= set THEN page := proof;"
    ∷ "WHEN label *= dated IF page |= set THEN page := proof;"
    ∷ "WHEN spelling *= old IF class |= noun AND NOT page *= proof THEN register := plain;" ∷ []))
unfolding prints
case_dialect = refl

-- NONE is printed where a rule names it.
pub case_none_printed : PrintedAs (parse (bytes "SLOT x{0,none};WHEN x*=NONE IF NOT NOT NOT x|=NONE AND x *= none THEN{x:=NONE};"))
    (lines ("SLOT x { 0, none };" ∷ "WHEN x *= NONE IF NOT x |= NONE AND x *= none THEN x := NONE;" ∷ []))
unfolding prints
case_none_printed = refl
