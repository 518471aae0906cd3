-- Marks after moves, at examples: what the selection comes to, accepted, 41 and 42, and which lists of moves are orders of selection.
-- Assumes nothing.
use Prim.Native.Nat.{ℕ}
use mathlib.Core.Path.{◌≡◌, refl}
use mathlib.Core.Bool.{Bool, true, false, cond}
use mathlib.Core.List.{List, [], ◌∷◌, map}
use Rattle.laws.specs.Listed.{all_of}
use Rattle.model.specs.Rules.{Pair, Rule}
use Rattle.model.specs.Orders.{changes, whole_order}
use Rattle.model.specs.Strata.{strict, weak}
use Rattle.model.specs.Circles.{circle_of}
use Rattle.model.specs.Result.{pair, conflict_slot}
use Rattle.model.proofs.CaseRules.{computes, x, y, z, v0, v1, had, not_turns, rule, rule_a, rule_c, rule_d, rule_e, rule_h, all_0, no_values}
use Rattle.truths.specs.Truths.{NOT₃, ◌AND₃◌, is_true, is_false}
use Rattle.marks.specs.Marks.{slot_pairs, declared_from, declared_pairs, is_unknown, is_both, rivals, no_marks, update, rule_out, truth_had, truth_turns, truth_test, truth_literal, truth_condition, truth_rule}
use Rattle.marks.specs.Selection.{fires, drops, fired, order_fired, marks_after, no_clash, all_known, never, applies, selects, ends, whole_selection, selection_refusal, try, try_pairs, try_rules, sweeps, selection}

-- What marks and truth values run.
unfoldable runs_marks : Unit {0}
unfolding NOT₃ ◌AND₃◌ is_true is_false slot_pairs declared_from declared_pairs is_unknown is_both rivals no_marks update rule_out truth_had truth_turns truth_test truth_literal truth_condition truth_rule
runs_marks = tt

-- What selection runs.
unfoldable runs_selection : Unit {0}
unfolding all_of fired order_fired marks_after no_clash all_known never applies selects ends whole_selection selection_refusal try try_pairs try_rules sweeps selection
runs_selection = tt

-- `unfolding selects_all` opens every definition that an example runs.
unfoldable pub selects_all : Unit {0}
unfolding computes runs_marks runs_selection
selects_all = tt

-- Every pair of the slots x, y, z with NONE and the values 0 and 1.
unfoldable pub pairs : List Pair
unfolding selects_all
pairs = declared_pairs (2 ∷ 2 ∷ 2 ∷ [])

-- Those of some pairs that pass.
unfoldable pub those : (Pair → Bool) → List Pair → List Pair
those f [] = []
those f (p ∷ ps) = cond (f p) (p ∷ those f ps) (those f ps)

-- How a selection ends: 0, 41 or 42, the rules fired in their order, the positive pairs, the unknown pairs.
pub record End : Type 0 where
  pub refused : ℕ
  pub order : List ℕ
  pub positives : List Pair
  pub unknowns : List Pair

-- The end of the selection.
unfoldable pub end : List Rule → List ℕ → List Pair → End
end rs S I = record {
  refused = selection_refusal pairs rs S I (selection pairs rs S I);
  order = order_fired (selection pairs rs S I);
  positives = those (marks_after rs I (selection pairs rs S I)).positive pairs;
  unknowns = those (is_unknown (marks_after rs I (selection pairs rs S I))) pairs;
}

-- The declared pairs, slot by slot.
pub all_pairs : pairs ≡ pair x 0 ∷ pair x v0 ∷ pair x v1 ∷ pair y 0 ∷ pair y v0 ∷ pair y v1 ∷ pair z 0 ∷ pair z v0 ∷ pair z v1 ∷ []
unfolding selects_all pairs
all_pairs = refl

-- `WHEN x *= 1 IF NOT z *= 1 THEN y := 0; WHEN x *= 1 IF NOT y *= 0 THEN z := 1;`
unfoldable pub two_nots : List Rule
two_nots = rule (pair x v1) (not_turns z v1 ∷ []) (pair y v0 ∷ []) ∷ rule (pair x v1) (not_turns y v0 ∷ []) (pair z v1 ∷ []) ∷ []

-- The slip sets x to 1 and y to 1.
unfoldable pub slip_xy : List Pair
slip_xy = pair x v1 ∷ pair y v1 ∷ []

-- It is refused with 18, by strict and by weak strata.
pub two_nots_18 : circle_of strict two_nots ∷ circle_of weak two_nots ∷ [] ≡ 1 ∷ 1 ∷ []
unfolding selects_all two_nots
two_nots_18 = refl

-- It answers here: y is 1 from the slip, so y to 0 is negative from the start, and rule 2 fires.
pub two_nots_answers : end two_nots no_values slip_xy ≡ record { refused = 0; order = 2 ∷ []; positives = pair x v1 ∷ pair y v1 ∷ pair z v1 ∷ []; unknowns = [] }
unfolding selects_all pairs those end two_nots slip_xy
two_nots_answers = refl

-- The firing orders `1` and `2` are both complete and consistent; the one ends with slot 1 in conflict, and the other is the answer (3: no conflict).
pub two_nots_orders : map (whole_order two_nots no_values slip_xy) ((1 ∷ []) ∷ (2 ∷ []) ∷ []) ≡ true ∷ true ∷ []
unfolding selects_all two_nots slip_xy
two_nots_orders = refl

pub two_nots_conflict : map (λ ns. conflict_slot 3 3 (changes two_nots slip_xy ns)) ((1 ∷ []) ∷ (2 ∷ []) ∷ []) ≡ 1 ∷ 3 ∷ []
unfolding selects_all two_nots slip_xy
two_nots_conflict = refl

-- Case D, y to 1: neither rule has an outside cause, and x to 1 and z to 1 stay unknown (42); the response by weak strata answers there.
pub case_D_42 : end (rule_a ∷ rule_c ∷ []) all_0 (pair y v1 ∷ []) ≡ record { refused = 42; order = []; positives = pair y v1 ∷ []; unknowns = pair x v1 ∷ pair z v1 ∷ [] }
unfolding selects_all pairs those end
case_D_42 = refl

-- Case D, x to 1: refused with 18 by strict strata, answered here.
pub case_D_answers : end (rule_a ∷ rule_c ∷ []) all_0 (pair x v1 ∷ []) ≡ record { refused = 0; order = 1 ∷ 2 ∷ []; positives = pair x v1 ∷ pair z v1 ∷ []; unknowns = [] }
unfolding selects_all pairs those end
case_D_answers = refl

-- Case H: the rule gives x the value 0 where the slip gives 1 (41).
pub case_H_41 : (end (rule_h ∷ []) all_0 (pair x v1 ∷ [])).refused ≡ 41
unfolding selects_all pairs those end
case_H_41 = refl

-- `WHEN x *= 1 IF NOT y *= 1 THEN z := 1; WHEN x *= 1 IF NOT z *= 1 THEN y := 1;`
unfoldable pub not_circle : List Rule
not_circle = rule (pair x v1) (not_turns y v1 ∷ []) (pair z v1 ∷ []) ∷ rule (pair x v1) (not_turns z v1 ∷ []) (pair y v1 ∷ []) ∷ []

-- A circle through NOT that nothing decides stays unknown (42).
pub not_circle_42 : end not_circle no_values (pair x v1 ∷ []) ≡ record { refused = 42; order = []; positives = pair x v1 ∷ []; unknowns = pair y v1 ∷ pair z v1 ∷ [] }
unfolding selects_all pairs those end not_circle
not_circle_42 = refl

-- It answers where the card decides it: z has 1 already, so `z *= 1` is False, and rule 2 fires.
pub not_circle_answers : end not_circle (0 ∷ 0 ∷ v1 ∷ []) (pair x v1 ∷ []) ≡ record { refused = 0; order = 2 ∷ []; positives = pair x v1 ∷ pair y v1 ∷ []; unknowns = [] }
unfolding selects_all pairs those end not_circle
not_circle_answers = refl

-- A rule that bars what it assigns, `WHEN x *= 1 IF NOT z *= 1 THEN z := 1;`: z to 1 stays unknown (42); no firing order is complete and consistent.
pub own_bar_42 : (end (rule (pair x v1) (not_turns z v1 ∷ []) (pair z v1 ∷ []) ∷ []) no_values (pair x v1 ∷ [])).unknowns ≡ pair z v1 ∷ []
unfolding selects_all pairs those end
own_bar_42 = refl

-- A value that the slip gives rules out NONE: with x to 1 `WHEN x *= 1 IF NOT x *= NONE THEN z := 1;` fires.
pub none_ruled_out : end (rule (pair x v1) (not_turns x 0 ∷ []) (pair z v1 ∷ []) ∷ []) all_0 (pair x v1 ∷ []) ≡ record { refused = 0; order = 1 ∷ []; positives = pair x v1 ∷ pair z v1 ∷ []; unknowns = [] }
unfolding selects_all pairs those end
none_ruled_out = refl

-- A withdrawal rules out the values: with x to NONE `WHEN x *= NONE IF NOT x *= 1 THEN z := NONE;` fires.
pub values_ruled_out : end (rule (pair x 0) (not_turns x v1 ∷ []) (pair z 0 ∷ []) ∷ []) all_0 (pair x 0 ∷ []) ≡ record { refused = 0; order = 1 ∷ []; positives = pair x 0 ∷ pair z 0 ∷ []; unknowns = [] }
unfolding selects_all pairs those end
values_ruled_out = refl

-- A value and a withdrawal together are a clash: `WHEN x *= 1 IF TRUE THEN x := NONE;` (41).
pub withdrawn_41 : (end (rule (pair x v1) [] (pair x 0 ∷ []) ∷ []) all_0 (pair x v1 ∷ [])).refused ≡ 41
unfolding selects_all pairs those end
withdrawn_41 = refl

-- NONE stays unknown where a rule bars the withdrawal that it makes (42); on a card without values `z *= NONE` is False, and the rule fires.
pub none_42 : end (rule (pair x v1) (not_turns z 0 ∷ []) (pair z 0 ∷ []) ∷ []) all_0 (pair x v1 ∷ []) ≡ record { refused = 42; order = []; positives = pair x v1 ∷ []; unknowns = pair z 0 ∷ [] }
unfolding selects_all pairs those end
none_42 = refl

pub none_answers : end (rule (pair x v1) (not_turns z 0 ∷ []) (pair z 0 ∷ []) ∷ []) no_values (pair x v1 ∷ []) ≡ record { refused = 0; order = 1 ∷ []; positives = pair x v1 ∷ pair z 0 ∷ []; unknowns = [] }
unfolding selects_all pairs those end
none_answers = refl

-- Case E: as by strata, rule 2 alone fires.
pub case_E_answers : end (rule_d ∷ rule_e ∷ []) all_0 (pair y v1 ∷ []) ≡ record { refused = 0; order = 2 ∷ []; positives = pair x v1 ∷ pair y v1 ∷ []; unknowns = [] }
unfolding selects_all pairs those end
case_E_answers = refl

-- Lists of moves, the last one first: each next move must be one that can be made, and at the end none can be.
pub some_orders : map (selects pairs two_nots no_values slip_xy)
    ([] ∷ (fires 2 ∷ []) ∷ (fires 1 ∷ []) ∷ (fires 2 ∷ fires 2 ∷ []) ∷ (drops (pair z v0) ∷ []) ∷ (drops (pair z v1) ∷ []) ∷ (drops (pair z v0) ∷ fires 2 ∷ []) ∷ [])
    ≡ true ∷ true ∷ false ∷ false ∷ true ∷ false ∷ false ∷ []
unfolding selects_all pairs two_nots slip_xy
some_orders = refl

pub some_ends : map (ends pairs two_nots no_values slip_xy) ([] ∷ (drops (pair z v0) ∷ []) ∷ (fires 2 ∷ []) ∷ (fires 2 ∷ drops (pair z v0) ∷ []) ∷ []) ≡ false ∷ false ∷ true ∷ true ∷ []
unfolding selects_all pairs two_nots slip_xy
some_ends = refl

-- One false literal is enough, whatever is unknown: `WHEN x *= 1 IF y |= 1 AND NOT z *= 1 THEN z := 1;` on a card with y 0 rules z to 1 out.
pub False_and_Unknown : (end (rule (pair x v1) (had y v1 ∷ not_turns z v1 ∷ []) (pair z v1 ∷ []) ∷ []) all_0 (pair x v1 ∷ [])).refused ≡ 0
unfolding selects_all pairs those end
False_and_Unknown = refl

-- Without rules the slip is the answer.
pub no_rules : end [] all_0 (pair x v1 ∷ []) ≡ record { refused = 0; order = []; positives = pair x v1 ∷ []; unknowns = [] }
unfolding selects_all pairs those end
no_rules = refl

-- 41 stands before 42: y to 1 and z to 1 are unknown too.
pub clash_first : (end (rule_h ∷ not_circle) no_values (pair x v1 ∷ [])).refused ≡ 41
unfolding selects_all pairs those end not_circle
clash_first = refl

pub clash_unknowns : (end (rule_h ∷ not_circle) no_values (pair x v1 ∷ [])).unknowns ≡ pair y v1 ∷ pair z v1 ∷ []
unfolding selects_all pairs those end not_circle
clash_unknowns = refl

-- No move is made after a clash: rule 2 is True, before rule 1 has fired and after.
pub after_clash : map (selects pairs (rule_h ∷ rule (pair x v1) [] (pair y v1 ∷ []) ∷ []) no_values (pair x v1 ∷ [])) ((fires 2 ∷ []) ∷ (fires 1 ∷ []) ∷ (fires 1 ∷ fires 2 ∷ []) ∷ (fires 2 ∷ fires 1 ∷ []) ∷ [])
    ≡ true ∷ true ∷ true ∷ false ∷ []
unfolding selects_all pairs
after_clash = refl
