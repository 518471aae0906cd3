-- Cases of document 02, section 5, by evaluation, as those of section 3 (MarkCases): a false test beside an unknown one, and a true one, in either order.
-- Assumes nothing.
use Prim.Native.String.{String}
use mathlib.Core.Path.{◌≡◌, refl}
use mathlib.Core.List.{List, [], ◌∷◌, map}
use lib.ListN.{replicate}
use Rattle.grammar.proofs.Cases.{after_slots}
use Rattle.response.specs.Respond.{outputs}
use Rattle.promises.proofs.Cases.{all_0, x_to_1}
use Rattle.promises.proofs.MarkCases.{runs_marks, Came, came, answers, refuses, MarkCase, case}

-- Only x changes, and no rule fires.
abbrev x_alone : Came
x_alone = answers (18 ∷ 1 ∷ []) 2 0 (outputs (0x0C ∷ 0x84 ∷ 0x40 ∷ 255 ∷ []) (0x04 ∷ 0x04 ∷ replicate 36 255) (0x00 ∷ 255 ∷ []))

-- A rule by which only x changes, on a card with 0 in every slot and a slip that sets x to 1.
abbrev answered : String → MarkCase
answered rule = case (after_slots rule) all_0 x_to_1 x_alone

-- A rule that leaves a pair unknown there.
abbrev left_unknown : String → MarkCase
left_unknown rule = case (after_slots rule) all_0 x_to_1 (refuses (18 ∷ 1 ∷ []) 42)

-- The rule asks under NOT for what it assigns, which is unknown at first, and of the card. Unknown AND False, False AND Unknown: the rule is False, and what it assigns is ruled out. Unknown AND True, True AND Unknown: 42.
abbrev truth_list : List MarkCase
truth_list =
    answered "WHEN x *= 1 IF NOT z *= 1 AND y |= 1 THEN z := 1;"
    ∷ answered "WHEN x *= 1 IF y |= 1 AND NOT z *= 1 THEN z := 1;"
    ∷ left_unknown "WHEN x *= 1 IF NOT z *= 1 AND y |= 0 THEN z := 1;"
    ∷ left_unknown "WHEN x *= 1 IF y |= 0 AND NOT z *= 1 THEN z := 1;"
    ∷ []

-- All of them.
pub truth_cases : map (λ (q : MarkCase). came q.text q.card q.slip) truth_list ≡ map (λ (q : MarkCase). q.comes_to) truth_list
unfolding runs_marks
truth_cases = refl
