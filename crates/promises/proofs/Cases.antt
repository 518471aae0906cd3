-- The lettered cases A to L of document 01 as one checked list, by evaluation: from the bytes of the text, the card, the slip and the editor file to what is listed and to the bytes that the program prints.
-- Assumes nothing.
use Prim.Native.Nat.{ℕ}
use Prim.Native.String.{String}
use mathlib.Core.Path.{◌≡◌, refl}
use mathlib.Core.Bool.{true, false}
use mathlib.Core.List.{List, [], ◌∷◌, ◌++◌, map}
use lib.Count.{ones}
use lib.ListN.{replicate}
use Rattle.laws.specs.Quoted.{bytes_from, bytes}
use Rattle.laws.specs.Listed.{all_of}
use Rattle.laws.specs.Words.{bit}
use Rattle.laws.specs.Packed.{bits, number_of, field_bits, byte_bits, byte_at, pack, pack_fields, field_at}
use Rattle.table.specs.Link.{stratum_at, value_counts}
use Rattle.names.specs.Names.{show_name, has_slot, has_value, show_slot, show_value_of, show_value}
use Rattle.soundness.specs.Sound.{within_limits, slots_have_values, has_pair, named, names_its_own, assigns_once, well_formed, strata_right, takes}
use Rattle.leastness.specs.CarriesLeast.{carries_least}
use Rattle.model.specs.Rules.{assigns, each_once}
use Rattle.rule_file.specs.Whole.{reading}
use Rattle.grammar.proofs.Cases.{after_slots}
use Rattle.rule_file.proofs.Cases.{runs}
use Rattle.laws.specs.Answers.{taken, after}
use Rattle.cards.specs.Forms.{card_fields, change_fields, slip_fields, card_bytes, slip_bytes, values_in, changes_in, values_test, card_test, change_fault, changes_test, read_card, read_slip}
use Rattle.results.specs.Record.{bit_of, ones_in}
use Rattle.response.specs.Ending.{Answer, fired_record, answer_of, unless_conflict, answer_by_firing}
use Rattle.tally.specs.Counting.{is_full}
use Rattle.tally.specs.Editors.{is_editor, has_record}
use Rattle.response.specs.Respond.{◌and_then◌, if_room, answer_by, answer_by_rules, answer_by_table, answer_at, answer_to, answer_in, counted, tally_after, records_after}
use Rattle.listing.specs.Listing.{RuleLine, ChangeLine, Listing, listed, refusal, program_rooms, editor_number, program_editors, list_response, list_reading, listing_in, listing}
use Rattle.listing.specs.Printed.{digits, decimal, hexadecimal, fired_word, rule_text, rules_text, change_text, changes_text, card_text, tally_text, refusal_text, printed}

-- What 31 runs.
unfoldable runs_sound : Unit {0}
unfolding all_of within_limits slots_have_values has_slot has_value has_pair named names_its_own assigns each_once assigns_once carries_least well_formed strata_right takes stratum_at value_counts
runs_sound = tt

-- What cards and slips run.
unfoldable runs_cards : Unit {0}
unfolding bit bits number_of field_bits byte_bits byte_at pack pack_fields field_at card_fields change_fields slip_fields card_bytes slip_bytes values_in changes_in values_test card_test change_fault changes_test after read_card read_slip
runs_cards = tt

-- What a response and its listing run.
unfoldable runs_response : Unit {0}
unfolding fired_record ones ones_in answer_of unless_conflict answer_by_firing ◌and_then◌ if_room answer_by answer_by_rules answer_by_table is_full answer_at is_editor has_record answer_in counted tally_after records_after show_name show_slot show_value_of show_value bit_of editor_number list_response list_reading listing_in listing
runs_response = tt

-- `unfolding lists` opens all that a listing runs.
unfoldable pub lists : Unit {0}
unfolding runs runs_sound runs_cards runs_response
lists = tt

-- Rule a.
abbrev pub rule_a : String
rule_a = "WHEN x *= 1 IF y |= 0 THEN z := 1;"

-- Rule b.
abbrev rule_b : String
rule_b = "WHEN z *= 1 IF y |= 0 THEN y := 1;"

-- Rule c.
abbrev pub rule_c : String
rule_c = "WHEN z *= 1 IF y |= 0 THEN x := 1;"

-- Rule d.
abbrev rule_d : String
rule_d = "WHEN y *= 1 IF NOT x *= 1 THEN z := 1;"

-- Rule e.
abbrev rule_e : String
rule_e = "WHEN y *= 1 IF x |= 0 THEN x := 1;"

-- The card with all slots 0, and the one without values.
abbrev pub all_0 : List ℕ
all_0 = 0x0C ∷ 0x44 ∷ 0x40 ∷ []

abbrev pub no_values : List ℕ
no_values = 0x0C ∷ 0x00 ∷ 0x00 ∷ []

-- The slips: x to 1, y to 1, x to 0.
abbrev pub x_to_1 : List ℕ
x_to_1 = 0x04 ∷ 0x04 ∷ []

abbrev pub y_to_1 : List ℕ
y_to_1 = 0x04 ∷ 0x24 ∷ []

abbrev pub x_to_0 : List ℕ
x_to_0 = 0x04 ∷ 0x02 ∷ []

-- The text of case C: the rules a and b; and that of case J, with TRUE in a place where it may not stand.
abbrev pub text_C : List ℕ
text_C = after_slots rule_a ++ bytes rule_b

abbrev text_J : List ℕ
text_J = after_slots "WHEN x *= 1 IF y |= 0 AND TRUE THEN z := 1;"

-- The bytes of editor 7's file.
abbrev pub editor_7 : List ℕ
editor_7 = 7 ∷ []

-- The lines of a rule, and of a change.
abbrev pub fired : ℕ → RuleLine
fired n = record { stratum = n; fired = true }

abbrev pub idle : ℕ → RuleLine
idle n = record { stratum = n; fired = false }

abbrev pub change : String → String → ChangeLine
change s v = record { slot = bytes s; value = bytes v }

-- What is listed of an answer to editor 7 on fresh records, which leaves that editor 1 and 0.
abbrev pub shows_answer : List RuleLine → List ChangeLine → List ℕ → Listing
shows_answer rs cs card = listed rs cs card 7 (record { answered = 1; refused = 0 })

-- A case: a text, a card and a slip, which editor 7 hands in, what is listed of them, and what the program prints.
pub record Case : Type 0 where
  pub text : List ℕ
  pub card : List ℕ
  pub slip : List ℕ
  pub comes_to : Listing
  pub prints : String

abbrev pub case : List ℕ → List ℕ → List ℕ → Listing → String → Case
case text card slip u s = record { text = text; card = card; slip = slip; comes_to = u; prints = s }

-- A: a alone, x to 1: changes x, z. B: b alone: change x only. C: a, b: as the program lists it. D: a, c, y to 1: strata 1, 1; neither fires. E: d, e, y to 1: strata 2, 1; changes x, y; only rule 2 fired.
-- F: a, b, card 0C 00 00: only x changes. G: a, slip x to 0: no rule fires. H: 40, slot 0. I: TRUE AND y |= 0 reads. J: y |= 0 AND TRUE is 12. K: card 0C 44 C0 is 22, slot 2. L: 0C 44 41 is 23.
abbrev pub lettered : List Case
lettered =
    case (after_slots rule_a) all_0 x_to_1 (shows_answer (fired 1 ∷ []) (change "x" "1" ∷ change "z" "1" ∷ []) (0x0C ∷ 0x84 ∷ 0x80 ∷ [])) "rule 1 stratum 1 fired\nchange x 1\nchange z 1\ncard 0C8480\ntally 7 1 0\n"
    ∷ case (after_slots rule_b) all_0 x_to_1 (shows_answer (idle 1 ∷ []) (change "x" "1" ∷ []) (0x0C ∷ 0x84 ∷ 0x40 ∷ [])) "rule 1 stratum 1 idle\nchange x 1\ncard 0C8440\ntally 7 1 0\n"
    ∷ case text_C all_0 x_to_1 (shows_answer (fired 1 ∷ fired 1 ∷ []) (change "x" "1" ∷ change "y" "1" ∷ change "z" "1" ∷ []) (0x0C ∷ 0x88 ∷ 0x80 ∷ [])) "rule 1 stratum 1 fired\nrule 2 stratum 1 fired\nchange x 1\nchange y 1\nchange z 1\ncard 0C8880\ntally 7 1 0\n"
    ∷ case (after_slots rule_a ++ bytes rule_c) all_0 y_to_1 (shows_answer (idle 1 ∷ idle 1 ∷ []) (change "y" "1" ∷ []) (0x0C ∷ 0x48 ∷ 0x40 ∷ [])) "rule 1 stratum 1 idle\nrule 2 stratum 1 idle\nchange y 1\ncard 0C4840\ntally 7 1 0\n"
    ∷ case (after_slots rule_d ++ bytes rule_e) all_0 y_to_1 (shows_answer (idle 2 ∷ fired 1 ∷ []) (change "x" "1" ∷ change "y" "1" ∷ []) (0x0C ∷ 0x88 ∷ 0x40 ∷ [])) "rule 1 stratum 2 idle\nrule 2 stratum 1 fired\nchange x 1\nchange y 1\ncard 0C8840\ntally 7 1 0\n"
    ∷ case text_C no_values x_to_1 (shows_answer (idle 1 ∷ idle 1 ∷ []) (change "x" "1" ∷ []) (0x0C ∷ 0x80 ∷ 0x00 ∷ [])) "rule 1 stratum 1 idle\nrule 2 stratum 1 idle\nchange x 1\ncard 0C8000\ntally 7 1 0\n"
    ∷ case (after_slots rule_a) all_0 x_to_0 (shows_answer (idle 1 ∷ []) (change "x" "0" ∷ []) all_0) "rule 1 stratum 1 idle\nchange x 0\ncard 0C4440\ntally 7 1 0\n"
    ∷ case (after_slots "WHEN x *= 1 IF TRUE THEN x := 0;") all_0 x_to_1 (refusal 40 0) "refused 40 0\n"
    ∷ case (after_slots "WHEN x *= 1 IF TRUE AND y |= 0 THEN z := 1;") all_0 x_to_1 (shows_answer (fired 1 ∷ []) (change "x" "1" ∷ change "z" "1" ∷ []) (0x0C ∷ 0x84 ∷ 0x80 ∷ [])) "rule 1 stratum 1 fired\nchange x 1\nchange z 1\ncard 0C8480\ntally 7 1 0\n"
    ∷ case text_J all_0 x_to_1 (refusal 12 0) "refused 12 0\n"
    ∷ case text_C (0x0C ∷ 0x44 ∷ 0xC0 ∷ []) x_to_1 (refusal 22 2) "refused 22 2\n"
    ∷ case text_C (0x0C ∷ 0x44 ∷ 0x41 ∷ []) x_to_1 (refusal 23 0) "refused 23 0\n"
    ∷ []

-- The lettered cases, A to L.
pub cases : map (λ (q : Case). listing q.text q.card q.slip editor_7) lettered ≡ map (λ (q : Case). q.comes_to) lettered
unfolding lists
cases = refl

-- `unfolding runs_prints` opens all that a listing's bytes run.
unfoldable pub runs_prints : Unit {0}
unfolding lists digits decimal hexadecimal fired_word rule_text rules_text change_text changes_text card_text tally_text refusal_text printed bytes bytes_from
runs_prints = tt

-- What the program prints of each of them, byte for byte.
pub cases_printed : map (λ (q : Case). printed (listing q.text q.card q.slip editor_7)) lettered ≡ map (λ (q : Case). bytes q.prints) lettered
unfolding runs_prints
cases_printed = refl

-- Editor files that are not one number from 1 to 40: a byte 0, a byte 41, two bytes, and none.
abbrev no_editors : List (List ℕ)
no_editors = (0 ∷ []) ∷ (41 ∷ []) ∷ (7 ∷ 7 ∷ []) ∷ [] ∷ []

-- With these the text of J, which is 12 otherwise, is refused with 44, and so is that of C, which is answered otherwise.
pub cases_44 : map (λ (editor : List ℕ). printed (listing text_J all_0 x_to_1 editor)) no_editors ++ map (λ (editor : List ℕ). printed (listing text_C all_0 x_to_1 editor)) no_editors
    ≡ replicate 8 (bytes "refused 44 0\n")
unfolding runs_prints
cases_44 = refl

-- The bytes of case C: the new card, the changes and the fired record; two rules fired.
abbrev pub answer_C : Answer
answer_C = record { new_card = 0x0C ∷ 0x88 ∷ 0x80 ∷ []; changes = 0x0C ∷ 0x04 ∷ 0x12 ∷ 0x11 ∷ 0x00 ∷ []; fired = 0xC0 ∷ [] }

pub case_C_bytes : answer_to (reading text_C).table (program_editors 7) all_0 x_to_1 program_rooms ≡ taken answer_C
unfolding lists
case_C_bytes = refl
