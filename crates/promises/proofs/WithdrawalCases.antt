-- Cases of document 02, section 6, by evaluation: from the bytes of the text, the card and the slip to what is listed and printed, as the lettered cases are (Cases), and to what the response by marks leaves (MarkCases).
-- Assumes nothing.
use Prim.Native.Nat.{ℕ}
use mathlib.Core.Path.{◌≡◌, refl}
use mathlib.Core.List.{List, [], ◌∷◌, map}
use lib.ListN.{replicate}
use Rattle.laws.specs.Truth.{◌∨ᵇ◌}
use Rattle.laws.specs.Quoted.{bytes}
use Rattle.grammar.proofs.Cases.{after_slots}
use Rattle.response.specs.Respond.{outputs}
use Rattle.listing.specs.Listing.{refusal, listing}
use Rattle.listing.specs.Printed.{printed}
use Rattle.promises.proofs.Cases.{lists, runs_prints, all_0, no_values, x_to_1, editor_7, fired, idle, change, shows_answer, Case}
use Rattle.promises.proofs.Cases as program
use Rattle.promises.proofs.MarkCases.{runs_marks, came, answers, refuses, MarkCase}
use Rattle.promises.proofs.MarkCases as by_marks

-- The slip that withdraws x.
abbrev x_withdrawn : List ℕ
x_withdrawn = 0x04 ∷ 0x00 ∷ []

-- Texts: a rule that a withdrawal wakes, one that withdraws what the slip sets, and one that asks under NOT for the withdrawal that it makes.
abbrev text_woken : List ℕ
text_woken = after_slots "WHEN x *= NONE IF TRUE THEN y := 1;"

abbrev text_both : List ℕ
text_both = after_slots "WHEN x *= 1 IF TRUE THEN x := NONE;"

abbrev text_own_bar : List ℕ
text_own_bar = after_slots "WHEN x *= 1 IF NOT y *= NONE THEN y := NONE;"

-- The cases, each after its own sentence.
abbrev withdrawal_list : List Case
withdrawal_list =
    -- A withdrawal wakes a rule.
    program.case text_woken all_0 x_withdrawn (shows_answer (fired 1 ∷ []) (change "x" "NONE" ∷ change "y" "1" ∷ []) (0x0C ∷ 0x08 ∷ 0x40 ∷ [])) "rule 1 stratum 1 fired\nchange x NONE\nchange y 1\ncard 0C0840\ntally 7 1 0\n"
    -- It wakes none where the card has nothing there, and is a change all the same.
    ∷ program.case text_woken no_values x_withdrawn (shows_answer (idle 1 ∷ []) (change "x" "NONE" ∷ []) no_values) "rule 1 stratum 1 idle\nchange x NONE\ncard 0C0000\ntally 7 1 0\n"
    -- NOT y |= NONE holds where the card has a value in y,
    ∷ program.case (after_slots "WHEN x *= 1 IF NOT y |= NONE THEN z := 1;") all_0 x_to_1 (shows_answer (fired 1 ∷ []) (change "x" "1" ∷ change "z" "1" ∷ []) (0x0C ∷ 0x84 ∷ 0x80 ∷ [])) "rule 1 stratum 1 fired\nchange x 1\nchange z 1\ncard 0C8480\ntally 7 1 0\n"
    -- and not where it has none.
    ∷ program.case (after_slots "WHEN x *= 1 IF NOT y |= NONE THEN z := 1;") no_values x_to_1 (shows_answer (idle 1 ∷ []) (change "x" "1" ∷ []) (0x0C ∷ 0x80 ∷ 0x00 ∷ [])) "rule 1 stratum 1 idle\nchange x 1\ncard 0C8000\ntally 7 1 0\n"
    -- y |= NONE holds where the card has none.
    ∷ program.case (after_slots "WHEN x *= 1 IF y |= NONE THEN y := 0;") no_values x_to_1 (shows_answer (fired 1 ∷ []) (change "x" "1" ∷ change "y" "0" ∷ []) (0x0C ∷ 0x84 ∷ 0x00 ∷ [])) "rule 1 stratum 1 fired\nchange x 1\nchange y 0\ncard 0C8400\ntally 7 1 0\n"
    -- A rule withdraws a value.
    ∷ program.case (after_slots "WHEN x *= 1 IF TRUE THEN y := NONE;") all_0 x_to_1 (shows_answer (fired 1 ∷ []) (change "x" "1" ∷ change "y" "NONE" ∷ []) (0x0C ∷ 0x80 ∷ 0x40 ∷ [])) "rule 1 stratum 1 fired\nchange x 1\nchange y NONE\ncard 0C8040\ntally 7 1 0\n"
    -- A rule withdraws what the slip sets: 40.
    ∷ program.case text_both all_0 x_to_1 (refusal 40 0) "refused 40 0\n"
    -- A rule that asks under NOT for a withdrawal stands above the rule that makes it, and does not fire after it.
    ∷ program.case (after_slots "WHEN x *= NONE IF NOT y *= NONE THEN z := 1; WHEN x *= NONE IF TRUE THEN y := NONE;") all_0 x_withdrawn (shows_answer (idle 2 ∷ fired 1 ∷ []) (change "x" "NONE" ∷ change "y" "NONE" ∷ []) (0x0C ∷ 0x00 ∷ 0x40 ∷ []))
    "rule 1 stratum 2 idle\nrule 2 stratum 1 fired\nchange x NONE\nchange y NONE\ncard 0C0040\ntally 7 1 0\n"
    -- A rule that asks under NOT for the withdrawal that it makes: 18.
    ∷ program.case text_own_bar all_0 x_to_1 (refusal 18 1) "refused 18 1\n"
    -- NONE among the values of a slot line: 12.
    ∷ program.case (bytes "SLOT x {0,NONE};") all_0 x_to_1 (refusal 12 0) "refused 12 0\n"
    -- NONE as a slot's name: 12.
    ∷ program.case (bytes "SLOT NONE {0};") all_0 x_to_1 (refusal 12 0) "refused 12 0\n"
    -- In small letters it is a plain name.
    ∷ program.case (bytes "SLOT none {none};") (0x04 ∷ 0x40 ∷ []) x_withdrawn (shows_answer [] (change "none" "NONE" ∷ []) (0x04 ∷ 0x00 ∷ [])) "change none NONE\ncard 0400\ntally 7 1 0\n"
    ∷ []

-- What is listed of them, and what the program prints.
pub withdrawal_cases : map (λ (q : Case). listing q.text q.card q.slip editor_7) withdrawal_list ≡ map (λ (q : Case). q.comes_to) withdrawal_list
unfolding lists ◌∨ᵇ◌
withdrawal_cases = refl

pub withdrawals_printed : map (λ (q : Case). printed (listing q.text q.card q.slip editor_7)) withdrawal_list ≡ map (λ (q : Case). bytes q.prints) withdrawal_list
unfolding runs_prints ◌∨ᵇ◌
withdrawals_printed = refl

-- By marks: the withdrawal wakes the rule; a value and its withdrawal clash, 41; a withdrawal that a rule makes and asks for under NOT stays unknown, 42, but where the card has nothing there its test is false, and the rule fires.
abbrev marked_withdrawals : List MarkCase
marked_withdrawals =
    by_marks.case text_woken all_0 x_withdrawn (answers (0 ∷ 0 ∷ []) 3 1 (outputs (0x0C ∷ 0x08 ∷ 0x40 ∷ 255 ∷ []) (0x08 ∷ 0x00 ∷ 0x12 ∷ replicate 35 255) (0x80 ∷ 255 ∷ [])))
    ∷ by_marks.case text_both all_0 x_to_1 (refuses (0 ∷ 0 ∷ []) 41)
    ∷ by_marks.case text_own_bar all_0 x_to_1 (refuses (18 ∷ 1 ∷ []) 42)
    ∷ by_marks.case text_own_bar no_values x_to_1 (answers (18 ∷ 1 ∷ []) 3 1 (outputs (0x0C ∷ 0x80 ∷ 0x00 ∷ 255 ∷ []) (0x08 ∷ 0x04 ∷ 0x10 ∷ replicate 35 255) (0x80 ∷ 255 ∷ [])))
    ∷ []

pub marked_withdrawal_cases : map (λ (q : MarkCase). came q.text q.card q.slip) marked_withdrawals ≡ map (λ (q : MarkCase). q.comes_to) marked_withdrawals
unfolding runs_marks ◌∨ᵇ◌
marked_withdrawal_cases = refl
