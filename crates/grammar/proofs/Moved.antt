-- A rule whose names stand elsewhere derives the moved tokens and means the same.
-- Assumes nothing.
use Prim.Native.Nat.{ℕ, suc}
use mathlib.Core.Path.{◌≡◌, refl, ap, ◌∙◌}
use mathlib.Core.List.{List, ◌∷◌, map}
use mathlib.Core.Bool.{false}
use Rattle.text.specs.Tokens.{Name, Token, word, name, WHEN, IF, THEN, AND, NOT, OPEN, CLOSE, COMMA, SEMICOLON, BECOMES, HAS, GETS}
use Rattle.text.specs.Cut.{moved_name, moved}
use Rattle.model.specs.Rules.{Pair, Literal, Rule}
use Rattle.grammar.specs.Files.{Slot}
use Rattle.grammar.specs.Grammar.{RuleTree, rule, TriggerTree, trigger, SlotvalTree, slotval_name, slotval_none, ConditionTree, and_literal, one_literal, true_alone, LiteralTree, not_literal, becomes_value, holds_value, AssignTree, one_alone, braces, AssignmentListTree, one_assignment, comma_assignment, AssignmentTree, gets_value, spell_slotval, spell_literal, spell_condition, spell_assignment, spell_assignments, spell_assign, spell_trigger, spell_rule}
use Rattle.grammar.specs.Meaning.{MeansSlotval, means_name, means_none, Names, turned, nots, tests_change, tested_slot, tested_value, MeansLiteral, MeansCondition, means_and, means_one, means_true, MeansAssignment, means_assignment, MeansAssignments, means_first, means_comma, MeansAssign, means_alone, means_braces, MeansTrigger, means_trigger, MeansRule, means_rule}

module _ (f : ℕ → ℕ) where
  abbrev moved_value : SlotvalTree → SlotvalTree
  moved_value (slotval_name n) = slotval_name (moved_name f n)
  moved_value slotval_none = slotval_none

  abbrev moved_literal : LiteralTree → LiteralTree
  moved_literal (not_literal l) = not_literal (moved_literal l)
  moved_literal (becomes_value s v) = becomes_value (moved_name f s) (moved_value v)
  moved_literal (holds_value s v) = holds_value (moved_name f s) (moved_value v)

  abbrev moved_condition : ConditionTree → ConditionTree
  moved_condition (and_literal c l) = and_literal (moved_condition c) (moved_literal l)
  moved_condition (one_literal l) = one_literal (moved_literal l)
  moved_condition true_alone = true_alone

  abbrev moved_assignment : AssignmentTree → AssignmentTree
  moved_assignment (gets_value s v) = gets_value (moved_name f s) (moved_value v)

  abbrev moved_assignments : AssignmentListTree → AssignmentListTree
  moved_assignments (one_assignment a) = one_assignment (moved_assignment a)
  moved_assignments (comma_assignment l a) = comma_assignment (moved_assignments l) (moved_assignment a)

  abbrev moved_assign : AssignTree → AssignTree
  moved_assign (one_alone a) = one_alone (moved_assignment a)
  moved_assign (braces l) = braces (moved_assignments l)

  abbrev moved_trigger : TriggerTree → TriggerTree
  moved_trigger (trigger s v) = trigger (moved_name f s) (moved_value v)

  -- A rule with its names elsewhere.
  abbrev pub moved_rule : RuleTree → RuleTree
  moved_rule (rule t c a) = rule (moved_trigger t) (moved_condition c) (moved_assign a)

  abbrev all_moved : List Token → List Token
  all_moved ts = map (moved f) ts

  value_moved : (v : SlotvalTree) → moved f (spell_slotval v) ≡ spell_slotval (moved_value v)
  value_moved (slotval_name n) = refl
  value_moved slotval_none = refl

  -- A slot's name, a mark and a value.
  test_moved : (s : Name) (w : ℕ) (v : SlotvalTree) (rest : List Token) → all_moved (name s ∷ word w ∷ spell_slotval v ∷ rest) ≡ name (moved_name f s) ∷ word w ∷ spell_slotval (moved_value v) ∷ all_moved rest
  test_moved s w v rest = ap (λ (t : Token). name (moved_name f s) ∷ word w ∷ t ∷ all_moved rest) (value_moved v)

  literal_moved : (l : LiteralTree) (rest : List Token) → all_moved (spell_literal l rest) ≡ spell_literal (moved_literal l) (all_moved rest)
  literal_moved (not_literal l) rest = ap (λ (y : List Token). word NOT ∷ y) (literal_moved l rest)
  literal_moved (becomes_value s v) rest = test_moved s BECOMES v rest
  literal_moved (holds_value s v) rest = test_moved s HAS v rest

  condition_moved : (c : ConditionTree) (rest : List Token) → all_moved (spell_condition c rest) ≡ spell_condition (moved_condition c) (all_moved rest)
  condition_moved (and_literal c l) rest =
      condition_moved c (word AND ∷ spell_literal l rest) ∙ ap (λ (y : List Token). spell_condition (moved_condition c) (word AND ∷ y)) (literal_moved l rest)
  condition_moved (one_literal l) rest = literal_moved l rest
  condition_moved true_alone rest = refl

  assignment_moved : (a : AssignmentTree) (rest : List Token) → all_moved (spell_assignment a rest) ≡ spell_assignment (moved_assignment a) (all_moved rest)
  assignment_moved (gets_value s v) rest = test_moved s GETS v rest

  assignments_moved : (l : AssignmentListTree) (rest : List Token) → all_moved (spell_assignments l rest) ≡ spell_assignments (moved_assignments l) (all_moved rest)
  assignments_moved (one_assignment a) rest = assignment_moved a rest
  assignments_moved (comma_assignment l a) rest =
      assignments_moved l (word COMMA ∷ spell_assignment a rest) ∙ ap (λ (y : List Token). spell_assignments (moved_assignments l) (word COMMA ∷ y)) (assignment_moved a rest)

  assign_moved : (a : AssignTree) (rest : List Token) → all_moved (spell_assign a rest) ≡ spell_assign (moved_assign a) (all_moved rest)
  assign_moved (one_alone a) rest = assignment_moved a rest
  assign_moved (braces l) rest = ap (λ (y : List Token). word OPEN ∷ y) (assignments_moved l (word CLOSE ∷ rest))

  trigger_moved : (t : TriggerTree) (rest : List Token) → all_moved (spell_trigger t rest) ≡ spell_trigger (moved_trigger t) (all_moved rest)
  trigger_moved (trigger s v) rest = test_moved s BECOMES v rest

  -- It derives the moved tokens.
  pub rule_moved : (t : RuleTree) (rest : List Token) → all_moved (spell_rule t rest) ≡ spell_rule (moved_rule t) (all_moved rest)
  rule_moved (rule t c a) rest =
      ap (λ (y : List Token). word WHEN ∷ y)
      (trigger_moved t (word IF ∷ spell_condition c (word THEN ∷ spell_assign a (word SEMICOLON ∷ rest)))
      ∙ ap (λ (y : List Token). spell_trigger (moved_trigger t) (word IF ∷ y))
      (condition_moved c (word THEN ∷ spell_assign a (word SEMICOLON ∷ rest))
      ∙ ap (λ (y : List Token). spell_condition (moved_condition c) (word THEN ∷ y)) (assign_moved a (word SEMICOLON ∷ rest))))

  slotval_moved : {names : List Name} {v : SlotvalTree} {k : ℕ} → MeansSlotval names v k → MeansSlotval names (moved_value v) k
  slotval_moved (means_name e) = means_name e
  slotval_moved means_none = means_none

  names_moved : {slots : List Slot} {s : Name} {v : SlotvalTree} {p : Pair} → Names slots s v p → Names slots (moved_name f s) (moved_value v) p
  names_moved n = record { slot_is = n.slot_is; value_is = slotval_moved n.value_is }

  literal_names : (slots : List Slot) (l : LiteralTree) (p : Pair) → Names slots (tested_slot l) (tested_value l) p → Names slots (tested_slot (moved_literal l)) (tested_value (moved_literal l)) p
  literal_names slots (not_literal l) p n = literal_names slots l p n
  literal_names slots (becomes_value s v) p n = names_moved n
  literal_names slots (holds_value s v) p n = names_moved n

  nots_moved : (l : LiteralTree) → nots l ≡ nots (moved_literal l)
  nots_moved (not_literal l) = ap suc (nots_moved l)
  nots_moved (becomes_value s v) = refl
  nots_moved (holds_value s v) = refl

  mark_moved : (l : LiteralTree) → tests_change l ≡ tests_change (moved_literal l)
  mark_moved (not_literal l) = mark_moved l
  mark_moved (becomes_value s v) = refl
  mark_moved (holds_value s v) = refl

  literal_means : (slots : List Slot) (l : LiteralTree) (m : Literal) → MeansLiteral slots l m → MeansLiteral slots (moved_literal l) m
  literal_means slots l m h = record {
    mark = h.mark ∙ mark_moved l;
    sign = h.sign ∙ ap (λ (k : ℕ). turned k false) (nots_moved l);
    names = literal_names slots l m.pair h.names;
  }

  condition_means : (slots : List Slot) (c : ConditionTree) (ms : List Literal) → MeansCondition slots c ms → MeansCondition slots (moved_condition c) ms
  condition_means slots c ms (means_and {c = d} {ms = ls} {l = l} {m = m} g h) = means_and (condition_means slots d ls g) (literal_means slots l m h)
  condition_means slots c ms (means_one {l = l} {m = m} h) = means_one (literal_means slots l m h)
  condition_means slots c ms means_true = means_true

  assignment_means : (slots : List Slot) (a : AssignmentTree) (p : Pair) → MeansAssignment slots a p → MeansAssignment slots (moved_assignment a) p
  assignment_means slots a p (means_assignment n) = means_assignment (names_moved n)

  assignments_mean : (slots : List Slot) (l : AssignmentListTree) (ps : List Pair) → MeansAssignments slots l ps → MeansAssignments slots (moved_assignments l) ps
  assignments_mean slots l ps (means_first {a = a} {p = p} n) = means_first (assignment_means slots a p n)
  assignments_mean slots l ps (means_comma {l = k} {ps = qs} {a = a} {p = p} g n d) = means_comma (assignments_mean slots k qs g) (assignment_means slots a p n) d

  assign_means : (slots : List Slot) (a : AssignTree) (ps : List Pair) → MeansAssign slots a ps → MeansAssign slots (moved_assign a) ps
  assign_means slots a ps (means_alone {a = b} {p = p} n) = means_alone (assignment_means slots b p n)
  assign_means slots a ps (means_braces {l = l} g) = means_braces (assignments_mean slots l ps g)

  trigger_means : (slots : List Slot) (t : TriggerTree) (p : Pair) → MeansTrigger slots t p → MeansTrigger slots (moved_trigger t) p
  trigger_means slots t p (means_trigger n) = means_trigger (names_moved n)

  -- It means the same.
  pub rule_means : (slots : List Slot) (t : RuleTree) (r : Rule) → MeansRule slots t r → MeansRule slots (moved_rule t) r
  rule_means slots t r (means_rule {t = u} {c = c} {a = a} n m few g most) =
      means_rule (trigger_means slots u r.trigger n) (condition_means slots c r.literals m) few (assign_means slots a r.assignments g) most
