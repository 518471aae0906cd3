-- Cases D and E of document 01 from their texts, circles of document 02, section 2, and readings without test 18, by evaluation.
-- Assumes nothing.
use Prim.Native.Nat.{ℕ}
use mathlib.Core.Path.{◌≡◌, refl}
use mathlib.Core.List.{List, [], ◌∷◌}
use Rattle.laws.specs.Filled.{filled}
use Rattle.model.proofs.CaseRules.{computes}
use Rattle.table.specs.Empty.{empty_table}
use Rattle.table.specs.Link.{rules_of, carried_strata}
use Rattle.strata.specs.Layered.{rule_with_stratum, with_strata}
use Rattle.grammar.proofs.Cases.{reads, after_slots}
use Rattle.grammar.specs.TableFor.{table_for}
use Rattle.reader.specs.Tables.{Accepted, Refused}
use Rattle.rule_file.specs.Whole.{layered, answered_whole, reading, unlayered, answered_without_18, reading_without_18}

-- `unfolding runs` opens what a whole reading runs.
unfoldable pub runs : Unit {0}
unfolding reads computes filled rules_of carried_strata rule_with_stratum with_strata table_for layered answered_whole reading unlayered answered_without_18 reading_without_18
runs = tt

-- Case D: the rules a and c.
abbrev text_D : List ℕ
text_D = after_slots "WHEN x *= 1 IF y |= 0 THEN z := 1; WHEN z *= 1 IF y |= 0 THEN x := 1;"

pub case_D : (reading text_D).outcome ≡ Accepted
unfolding runs
case_D = refl

pub case_D_strata : carried_strata (reading text_D).table ≡ 1 ∷ 1 ∷ []
unfolding runs
case_D_strata = refl

-- Case E: the rules d and e.
abbrev text_E : List ℕ
text_E = after_slots "WHEN y *= 1 IF NOT x *= 1 THEN z := 1; WHEN y *= 1 IF x |= 0 THEN x := 1;"

pub case_E : (reading text_E).outcome ≡ Accepted
unfolding runs
case_E = refl

pub case_E_strata : carried_strata (reading text_E).table ≡ 2 ∷ 1 ∷ []
unfolding runs
case_E_strata = refl

-- A rule that tests plainly what it assigns itself is in stratum 1; so are two that test by two NOTs, which cancel, what the other assigns.
abbrev text_plain : List ℕ
text_plain = after_slots "WHEN x *= 1 IF TRUE THEN x := 1; WHEN x *= 0 IF NOT NOT y *= 1 THEN z := 1; WHEN x *= 0 IF NOT NOT z *= 1 THEN y := 1;"

pub plain_circles : (reading text_plain).outcome ≡ Accepted
unfolding runs
plain_circles = refl

pub plain_strata : carried_strata (reading text_plain).table ≡ 1 ∷ 1 ∷ 1 ∷ []
unfolding runs
plain_strata = refl

-- 1 waits for 2, 2 for 1 and under NOT for 3, 3 for 2: 18 names rule 1, which no circle through the NOT meets without meeting rule 2 twice.
abbrev text_twice : List ℕ
text_twice = after_slots "WHEN y *= 1 IF TRUE THEN x := 1; WHEN x *= 1 IF NOT z *= 1 THEN y := 1; WHEN y *= 1 IF TRUE THEN z := 1;"

pub circle_met_twice : reading text_twice ≡ record { outcome = Refused 18 1; table = empty_table }
unfolding runs
circle_met_twice = refl

-- A rule beside the circle is not named: rule 1 waits for it only.
pub beside_circle : reading (after_slots "WHEN y *= 1 IF TRUE THEN z := 0; WHEN x *= 1 IF NOT y *= 1 THEN y := 1;") ≡ record { outcome = Refused 18 2; table = empty_table }
unfolding runs
beside_circle = refl

-- Nor is a plain circle that only waits for one through a NOT: rules 1 and 2 wake each other, and rule 3 bars what it assigns itself.
pub plain_beside : reading (after_slots "WHEN x *= 1 IF z *= 1 THEN y := 1; WHEN y *= 1 IF TRUE THEN x := 1; WHEN x *= 0 IF NOT z *= 1 THEN z := 1;")
    ≡ record { outcome = Refused 18 3; table = empty_table }
unfolding runs
plain_beside = refl

-- The least strata of a plain circle that waits under NOT for another rule: 2, 2, 1.
pub above_strata : carried_strata (reading (after_slots "WHEN x *= 1 IF NOT z *= 1 THEN y := 1; WHEN y *= 1 IF TRUE THEN x := 1; WHEN x *= 0 IF TRUE THEN z := 1;")).table ≡ 2 ∷ 2 ∷ 1 ∷ []
unfolding runs
above_strata = refl

-- Without test 18 a text with a circle through a NOT is accepted, and stratum 0 stands throughout; so it does in case E, which has strata. The other refusals stay.
pub circle_unlayered : (reading_without_18 text_twice).outcome ≡ Accepted
unfolding runs
circle_unlayered = refl

pub circle_unlayered_strata : carried_strata (reading_without_18 text_twice).table ≡ 0 ∷ 0 ∷ 0 ∷ []
unfolding runs
circle_unlayered_strata = refl

pub case_E_unlayered : carried_strata (reading_without_18 text_E).table ≡ 0 ∷ 0 ∷ []
unfolding runs
case_E_unlayered = refl

pub refused_unlayered : reading_without_18 (after_slots "WHEN y *= 1 IF TRUE THEN q := 1;") ≡ record { outcome = Refused 16 0; table = empty_table }
unfolding runs
refused_unlayered = refl
