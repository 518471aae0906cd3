-- What a tree means: every name declared once and before it is used, no slot assigned twice in a rule, all within the limits (document 01, 'Rule text'). Nothing here reads from left to right.
use Rattle.std.specs.Prelude.{ℕ, zero, suc, ◌≤◌, ◌≡◌, Bool, true, false, not, List, [], ◌∷◌, ◌++◌, length}
use Rattle.text.specs.Tokens.{Name, tokens}
use Rattle.model.specs.Rules.{Pair, Literal, Rule, assigns}
use Rattle.laws.specs.Limits.{text_limit, slot_limit, value_limit, rule_limit, literal_limit, assignment_limit}
use Rattle.grammar.specs.Files.{Slot, File, place_in, slot_names, values_of}
use Rattle.grammar.specs.Grammar.{RuleTree, rule, TriggerTree, trigger, SlotvalTree, slotval_name, slotval_none, ConditionTree, and_literal, one_literal, true_alone, LiteralTree, not_literal, becomes_value, holds_value, AssignTree, one_alone, braces, AssignmentListTree, one_assignment, comma_assignment, AssignmentTree, gets_value, ValueListTree, one_value, comma_value, LineTree, line, FileTree, spell}

-- A value means a number, among the declared names of a slot's values: a name its place there, from 1; NONE 0.
pub data MeansSlotval (names : List Name) : SlotvalTree → ℕ → Type 0 where
  means_name : {n : Name} {k : ℕ} → place_in names n ≡ suc k → MeansSlotval names (slotval_name n) (suc k)
  means_none : MeansSlotval names slotval_none 0

-- A slot's name and a value mean a pair: the slot is declared, and the value is declared in it or NONE.
pub record Names (slots : List Slot) (s : Name) (v : SlotvalTree) (p : Pair) : Type 0 where
  pub slot_is : place_in (slot_names slots) s ≡ suc p.slot
  pub value_is : MeansSlotval (values_of slots p.slot) v p.value

-- How many NOTs a literal has.
abbrev pub nots : LiteralTree → ℕ
nots (not_literal l) = suc (nots l)
nots (becomes_value s v) = 0
nots (holds_value s v) = 0

-- Turned round n times: an even number cancels.
abbrev pub turned : ℕ → Bool → Bool
turned zero b = b
turned (suc n) b = turned n (not b)

-- A literal tests `*=`.
abbrev pub tests_change : LiteralTree → Bool
tests_change (not_literal l) = tests_change l
tests_change (becomes_value s v) = true
tests_change (holds_value s v) = false

-- The slot's name in a literal.
abbrev pub tested_slot : LiteralTree → Name
tested_slot (not_literal l) = tested_slot l
tested_slot (becomes_value s v) = s
tested_slot (holds_value s v) = s

-- The value in a literal.
abbrev pub tested_value : LiteralTree → SlotvalTree
tested_value (not_literal l) = tested_value l
tested_value (becomes_value s v) = v
tested_value (holds_value s v) = v

-- A literal: `*=` or `|=`, negated where its NOTs do not cancel, over a declared slot and a value of it or NONE.
pub record MeansLiteral (slots : List Slot) (l : LiteralTree) (m : Literal) : Type 0 where
  pub mark : m.becomes ≡ tests_change l
  pub sign : m.negated ≡ turned (nots l) false
  pub names : Names slots (tested_slot l) (tested_value l) m.pair

-- A condition: its literals in order; TRUE leaves no trace.
pub data MeansCondition (slots : List Slot) : ConditionTree → List Literal → Type 0 where
  means_and : {c : ConditionTree} {ms : List Literal} {l : LiteralTree} {m : Literal}
      → MeansCondition slots c ms → MeansLiteral slots l m → MeansCondition slots (and_literal c l) (ms ++ m ∷ [])
  means_one : {l : LiteralTree} {m : Literal} → MeansLiteral slots l m → MeansCondition slots (one_literal l) (m ∷ [])
  means_true : MeansCondition slots true_alone []

-- An assignment: a declared slot, and a value of it or NONE.
pub data MeansAssignment (slots : List Slot) : AssignmentTree → Pair → Type 0 where
  means_assignment : {s : Name} {v : SlotvalTree} {p : Pair} → Names slots s v p → MeansAssignment slots (gets_value s v) p

-- Assignments in order: none of a slot that one before it assigns.
pub data MeansAssignments (slots : List Slot) : AssignmentListTree → List Pair → Type 0 where
  means_first : {a : AssignmentTree} {p : Pair} → MeansAssignment slots a p → MeansAssignments slots (one_assignment a) (p ∷ [])
  means_comma : {l : AssignmentListTree} {ps : List Pair} {a : AssignmentTree} {p : Pair}
      → MeansAssignments slots l ps → MeansAssignment slots a p → assigns ps p.slot ≡ false → MeansAssignments slots (comma_assignment l a) (ps ++ p ∷ [])

-- What follows THEN: one assignment, or a list in braces.
pub data MeansAssign (slots : List Slot) : AssignTree → List Pair → Type 0 where
  means_alone : {a : AssignmentTree} {p : Pair} → MeansAssignment slots a p → MeansAssign slots (one_alone a) (p ∷ [])
  means_braces : {l : AssignmentListTree} {ps : List Pair} → MeansAssignments slots l ps → MeansAssign slots (braces l) ps

-- A trigger: a declared slot, and a value of it or NONE.
pub data MeansTrigger (slots : List Slot) : TriggerTree → Pair → Type 0 where
  means_trigger : {s : Name} {v : SlotvalTree} {p : Pair} → Names slots s v p → MeansTrigger slots (trigger s v) p

-- A rule, with its literals and assignments within the limits.
pub data MeansRule (slots : List Slot) : RuleTree → Rule → Type 0 where
  means_rule : {t : TriggerTree} {c : ConditionTree} {a : AssignTree} {r : Rule}
      → MeansTrigger slots t r.trigger
      → MeansCondition slots c r.literals → length r.literals ≤ literal_limit
      → MeansAssign slots a r.assignments → length r.assignments ≤ assignment_limit
      → MeansRule slots (rule t c a) r

-- Rules in order.
pub data MeansRules (slots : List Slot) : List RuleTree → List Rule → Type 0 where
  no_rules : MeansRules slots [] []
  more_rules : {t : RuleTree} {r : Rule} {ts : List RuleTree} {rs : List Rule}
      → MeansRule slots t r → MeansRules slots ts rs → MeansRules slots (t ∷ ts) (r ∷ rs)

-- The names of a slot's values in order: none is one of those before it.
pub data MeansValues : ValueListTree → List Name → Type 0 where
  means_value : {n : Name} → MeansValues (one_value n) (n ∷ [])
  means_values : {vs : ValueListTree} {ns : List Name} {n : Name} → MeansValues vs ns → place_in ns n ≡ 0 → MeansValues (comma_value vs n) (ns ++ n ∷ [])

-- A slot line after the slots `before`: its name is none of theirs, and its values are within the limit.
pub data MeansLine (before : List Slot) : LineTree → Slot → Type 0 where
  means_line : {s : Slot} {vs : ValueListTree}
      → place_in (slot_names before) s.name ≡ 0 → MeansValues vs s.values → length s.values ≤ value_limit
      → MeansLine before (line s.name vs) s

-- Slot lines after the slots `before`; `all` are the slots in the end.
pub data MeansLines : List Slot → List LineTree → List Slot → Type 0 where
  no_lines : {before : List Slot} → MeansLines before [] before
  more_lines : {before : List Slot} {t : LineTree} {s : Slot} {ts : List LineTree} {all : List Slot}
      → MeansLine before t s → MeansLines (before ++ s ∷ []) ts all → MeansLines before (t ∷ ts) all

-- A file: its slots and its rules over all of them, within the limits.
pub record Means (t : FileTree) (f : File) : Type 0 where
  pub lines_are : MeansLines [] t.lines f.slots
  pub few_slots : length f.slots ≤ slot_limit
  pub rules_are : MeansRules f.slots t.rules f.rules
  pub few_rules : length f.rules ≤ rule_limit

-- A text is a file: it is short enough, and its tokens derive a tree that means the file.
pub record IsFile (text : List ℕ) (f : File) : Type 0 where
  pub short : length text ≤ text_limit
  pub tree : FileTree
  pub derives : spell tree ≡ tokens text
  pub means : Means tree f
