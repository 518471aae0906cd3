-- Cases of document 02, section 3, by evaluation: from the bytes of the text, the card and the slip, of editor 15 with forty fresh records, to the numbers of both readings, to what the response by marks tells, to every record and to every byte of the outputs.
-- Assumes nothing.
use Prim.Native.Nat.{ℕ}
use Prim.Native.String.{String}
use native.Mathlib.Omega.{arith}
use mathlib.Core.Path.{◌≡◌, refl}
use mathlib.Core.Bool.{true}
use mathlib.Core.List.{List, [], ◌∷◌, ◌++◌, map}
use lib.ListN.{replicate}
use Rattle.laws.specs.Quoted.{bytes}
use Rattle.laws.specs.Answers.{taken}
use Rattle.model.specs.Rules.{Pair, Rule}
use Rattle.model.specs.Orders.{changes, whole_order}
use Rattle.model.specs.Result.{pair}
use Rattle.marks.specs.Marks.{declared_pairs, is_unknown}
use Rattle.marks.specs.Selection.{marks_after, selection}
use Rattle.marks.proofs.AfterMoves.{selects_all}
use Rattle.table.specs.declared.Way.TheVariants.{Marks}
use Rattle.table.specs.Link.{rules_of, value_counts}
use Rattle.soundness.specs.Sound.{stratum_0}
use Rattle.grammar.proofs.Cases.{after_slots}
use Rattle.reader.specs.Tables.{reading_refusal, reading_second}
use Rattle.rule_file.specs.Whole.{reading, reading_without_18}
use Rattle.cards.specs.Forms.{read_card, read_slip}
use Rattle.tally.specs.declared.Tally.{Tally}
use Rattle.tally.specs.Counting.{fresh}
use Rattle.tally.specs.Editors.{Editors, lent, fresh_records}
use Rattle.response.specs.Outcomes.{Outcome, Answered, Refused}
use Rattle.response.specs.Ending.{unless_refused, answer_by_marks}
use Rattle.response.specs.Respond.{Outputs, outputs, outcome_of, response_in, outputs_after}
use Rattle.promises.specs.Returned.{told_in, left_in}
use Rattle.promises.specs.Agreement.{InConflict}
use Rattle.promises.proofs.Cases.{lists, all_0, no_values, x_to_1, y_to_1, rule_a, rule_c}

-- `unfolding runs_marks` opens all that a response by marks runs.
unfoldable pub runs_marks : Unit {0}
unfolding lists selects_all stratum_0 unless_refused answer_by_marks outcome_of response_in outputs_after
runs_marks = tt

-- Editor 15 calls, and the records lent are fresh.
abbrev pub editor_15 : Editors
editor_15 = lent fresh_records 15

-- The outputs lent: each is one byte longer than it must be, and all its bytes are 255.
abbrev pub lent_outputs : Outputs
lent_outputs = outputs (replicate 4 255) (replicate 38 255) (replicate 2 255)

-- What a case comes to: the numbers of the reading with test 18 and of that without it, the outcome of the response by marks and the records after it, and the outputs.
pub record Came : Type 0 where
  pub with_18 : List ℕ
  pub without_18 : List ℕ
  pub outcome : Outcome
  pub records : List Tally
  pub left : Outputs

-- It is computed by the entry points' definitions.
abbrev pub came : List ℕ → List ℕ → List ℕ → Came
came text card slip = record {
  with_18 = reading_refusal (reading text).outcome ∷ reading_second (reading text).outcome ∷ [];
  without_18 = reading_refusal (reading_without_18 text).outcome ∷ reading_second (reading_without_18 text).outcome ∷ [];
  outcome = (told_in Marks (reading_without_18 text).table editor_15 card slip lent_outputs).outcome;
  records = (told_in Marks (reading_without_18 text).table editor_15 card slip lent_outputs).records;
  left = left_in Marks (reading_without_18 text).table editor_15 card slip lent_outputs;
}

-- The records once the fifteenth holds these counts.
abbrev pub fifteenth : ℕ → ℕ → List Tally
fifteenth a r = replicate 14 fresh ++ record { answered = a; refused = r } ∷ replicate 25 fresh

-- An answer of so many bytes of changes and so many rules fired, where the reading with test 18 gives these numbers; and a refusal, which leaves the outputs. Each is counted in the fifteenth record alone.
abbrev pub answers : List ℕ → ℕ → ℕ → Outputs → Came
answers numbers n k left = record { with_18 = numbers; without_18 = 0 ∷ 0 ∷ []; outcome = Answered n k; records = fifteenth 1 0; left = left }

abbrev pub refuses : List ℕ → ℕ → Came
refuses numbers k = record { with_18 = numbers; without_18 = 0 ∷ 0 ∷ []; outcome = Refused k 0; records = fifteenth 0 1; left = lent_outputs }

-- A case: a text, a card and a slip, and what it comes to.
pub record MarkCase : Type 0 where
  pub text : List ℕ
  pub card : List ℕ
  pub slip : List ℕ
  pub comes_to : Came

abbrev pub case : List ℕ → List ℕ → List ℕ → Came → MarkCase
case text card slip u = record { text = text; card = card; slip = slip; comes_to = u }

-- The slip that sets x to 1 and y to 1, and the card that has 1 in z alone.
abbrev xy_to_1 : List ℕ
xy_to_1 = 0x08 ∷ 0x04 ∷ 0x12 ∷ []

abbrev z_has_1 : List ℕ
z_has_1 = 0x0C ∷ 0x00 ∷ 0x80 ∷ []

-- Each of two rules bars what the other assigns: the slip's y 1 makes y 0 negative from the start.
abbrev pub text_barred : List ℕ
text_barred = after_slots "WHEN x *= 1 IF NOT z *= 1 THEN y := 0; WHEN x *= 1 IF NOT y *= 0 THEN z := 1;"

-- A circle through NOT that nothing in the text decides.
abbrev circle_rules : String
circle_rules = "WHEN x *= 1 IF NOT y *= 1 THEN z := 1; WHEN x *= 1 IF NOT z *= 1 THEN y := 1;"

abbrev pub text_circle : List ℕ
text_circle = after_slots circle_rules

-- Case D of document 01, and case H.
abbrev text_D : List ℕ
text_D = after_slots rule_a ++ bytes rule_c

abbrev rule_H : String
rule_H = "WHEN x *= 1 IF TRUE THEN x := 0;"

-- The rule of case H before that circle.
abbrev pub text_H_circle : List ℕ
text_H_circle = after_slots rule_H ++ bytes circle_rules

-- Refused with 18, answered here: x 1, y 1, z 1, rule 2 fired. Case D: 42 with y to 1, answered with x to 1, both rules fired. The circle: 42 on a card without values, answered where the card has z 1, rule 2 fired.
-- Case H: 41. 41 also where pairs stay unknown, and in a file that 18 refuses.
abbrev mark_list : List MarkCase
mark_list =
    case text_barred no_values xy_to_1 (answers (18 ∷ 1 ∷ []) 5 1 (outputs (0x0C ∷ 0x88 ∷ 0x80 ∷ 255 ∷ []) (0x0C ∷ 0x04 ∷ 0x12 ∷ 0x11 ∷ 0x00 ∷ replicate 33 255) (0x40 ∷ 255 ∷ [])))
    ∷ case text_D all_0 y_to_1 (refuses (0 ∷ 0 ∷ []) 42)
    ∷ case text_D all_0 x_to_1 (answers (0 ∷ 0 ∷ []) 3 2 (outputs (0x0C ∷ 0x84 ∷ 0x80 ∷ 255 ∷ []) (0x08 ∷ 0x04 ∷ 0x22 ∷ replicate 35 255) (0xC0 ∷ 255 ∷ [])))
    ∷ case text_circle no_values x_to_1 (refuses (18 ∷ 1 ∷ []) 42)
    ∷ case text_circle z_has_1 x_to_1 (answers (18 ∷ 1 ∷ []) 3 1 (outputs (0x0C ∷ 0x88 ∷ 0x80 ∷ 255 ∷ []) (0x08 ∷ 0x04 ∷ 0x12 ∷ replicate 35 255) (0x40 ∷ 255 ∷ [])))
    ∷ case (after_slots rule_H) all_0 x_to_1 (refuses (0 ∷ 0 ∷ []) 41)
    ∷ case text_H_circle no_values x_to_1 (refuses (18 ∷ 2 ∷ []) 41)
    ∷ []

-- All of them.
pub mark_cases : map (λ (q : MarkCase). came q.text q.card q.slip) mark_list ≡ map (λ (q : MarkCase). q.comes_to) mark_list
unfolding runs_marks
mark_cases = refl

-- The rules of the first, and what its card and slip unpack to.
abbrev barred_rules : List Rule
barred_rules = rules_of (reading_without_18 text_barred).table

abbrev slip_xy : List Pair
slip_xy = pair 0 2 ∷ pair 1 2 ∷ []

pub barred_unpacked : (read_card (value_counts (reading_without_18 text_barred).table) no_values ≡ taken (0 ∷ 0 ∷ 0 ∷ []))
    × (read_slip (value_counts (reading_without_18 text_barred).table) xy_to_1 ≡ taken slip_xy)
unfolding runs_marks
barred_unpacked = (refl, refl)

-- The firing orders `1` and `2` are complete and consistent, and the first ends with slot y in conflict: for a file that 18 refuses, an order of firing may run into a conflict where this response answers.
pub barred_orders : map (whole_order barred_rules (0 ∷ 0 ∷ 0 ∷ []) slip_xy) ((1 ∷ []) ∷ (2 ∷ []) ∷ []) ≡ true ∷ true ∷ []
unfolding runs_marks
barred_orders = refl

pub barred_conflict : InConflict (changes barred_rules slip_xy (1 ∷ [])) 1
unfolding runs_marks InConflict
barred_conflict = (1, 2, omega arith, tt, tt)

-- In the last, y to 1 and z to 1 stay unknown.
pub clash_unknown : map (is_unknown (marks_after (rules_of (reading_without_18 text_H_circle).table) (pair 0 2 ∷ []) (selection (declared_pairs (2 ∷ 2 ∷ 2 ∷ [])) (rules_of (reading_without_18 text_H_circle).table) (0 ∷ 0 ∷ 0 ∷ []) (pair 0 2 ∷ []))))
    (pair 1 2 ∷ pair 2 2 ∷ []) ≡ true ∷ true ∷ []
unfolding runs_marks
clash_unknown = refl
