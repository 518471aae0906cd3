-- The grammar: the productions of the RL paper's appendix in its order, every rule ending in `;`, NONE for a value by document 02, section 6; then the slot lines of document 01, 'Rule text'. A constructor is a production, a tree a derivation, and `spell-..` gives the tokens that a tree derives.
use Rattle.std.specs.Prelude.{List, [], ◌∷◌}
use Rattle.text.specs.Tokens.{Name, Token, word, name, SLOT, WHEN, IF, THEN, AND, NOT, TRUE, NONE, OPEN, CLOSE, COMMA, SEMICOLON, BECOMES, HAS, GETS}

mutual
  -- rule ::= WHEN r_trig IF r_cond THEN r_assign ;
  pub data RuleTree : Type 0 where
    rule : TriggerTree → ConditionTree → AssignTree → RuleTree

  -- r_trig ::= slot-name *= slotval
  pub data TriggerTree : Type 0 where
    trigger : Name → SlotvalTree → TriggerTree

  -- slotval ::= name | NONE
  pub data SlotvalTree : Type 0 where
    slotval_name : Name → SlotvalTree
    slotval_none : SlotvalTree

  -- r_cond ::= r_cond AND r_literal | r_literal | TRUE
  pub data ConditionTree : Type 0 where
    and_literal : ConditionTree → LiteralTree → ConditionTree
    one_literal : LiteralTree → ConditionTree
    true_alone : ConditionTree

  -- r_literal ::= NOT r_literal | slot-name *= slotval | slot-name |= slotval
  pub data LiteralTree : Type 0 where
    not_literal : LiteralTree → LiteralTree
    becomes_value : Name → SlotvalTree → LiteralTree
    holds_value : Name → SlotvalTree → LiteralTree

  -- r_assign ::= assignment | { assignment-list }
  pub data AssignTree : Type 0 where
    one_alone : AssignmentTree → AssignTree
    braces : AssignmentListTree → AssignTree

  -- assignment-list ::= assignment | assignment-list , assignment
  pub data AssignmentListTree : Type 0 where
    one_assignment : AssignmentTree → AssignmentListTree
    comma_assignment : AssignmentListTree → AssignmentTree → AssignmentListTree

  -- assignment ::= slot-name := slotval
  pub data AssignmentTree : Type 0 where
    gets_value : Name → SlotvalTree → AssignmentTree

-- value-list ::= name | value-list , name
pub data ValueListTree : Type 0 where
  one_value : Name → ValueListTree
  comma_value : ValueListTree → Name → ValueListTree

-- slot-line ::= SLOT name { value-list } ;
pub data LineTree : Type 0 where
  line : Name → ValueListTree → LineTree

-- file ::= slot lines, then rules
pub record FileTree : Type 0 where
  pub lines : List LineTree
  pub rules : List RuleTree

-- A tree of a list that is derived from its right end, as r_cond, assignment-list and value-list are, grown there by more parts.
abbrev pub grown : {A T : Type 0} → (T → A → T) → T → List A → T
grown grow t [] = t
grown grow t (a ∷ xs) = grown grow (grow t a) xs

-- The token that a value derives.
abbrev pub spell_slotval : SlotvalTree → Token
spell_slotval (slotval_name n) = name n
spell_slotval slotval_none = word NONE

-- The tokens that a literal derives, followed by `rest`.
abbrev pub spell_literal : LiteralTree → List Token → List Token
spell_literal (not_literal l) rest = word NOT ∷ spell_literal l rest
spell_literal (becomes_value s v) rest = name s ∷ word BECOMES ∷ spell_slotval v ∷ rest
spell_literal (holds_value s v) rest = name s ∷ word HAS ∷ spell_slotval v ∷ rest

-- Those of a condition.
abbrev pub spell_condition : ConditionTree → List Token → List Token
spell_condition (and_literal c l) rest = spell_condition c (word AND ∷ spell_literal l rest)
spell_condition (one_literal l) rest = spell_literal l rest
spell_condition true_alone rest = word TRUE ∷ rest

-- Those of an assignment.
abbrev pub spell_assignment : AssignmentTree → List Token → List Token
spell_assignment (gets_value s v) rest = name s ∷ word GETS ∷ spell_slotval v ∷ rest

-- Those of a list of assignments.
abbrev pub spell_assignments : AssignmentListTree → List Token → List Token
spell_assignments (one_assignment a) rest = spell_assignment a rest
spell_assignments (comma_assignment l a) rest = spell_assignments l (word COMMA ∷ spell_assignment a rest)

-- Those of what follows THEN.
abbrev pub spell_assign : AssignTree → List Token → List Token
spell_assign (one_alone a) rest = spell_assignment a rest
spell_assign (braces l) rest = word OPEN ∷ spell_assignments l (word CLOSE ∷ rest)

-- Those of a trigger.
abbrev pub spell_trigger : TriggerTree → List Token → List Token
spell_trigger (trigger s v) rest = name s ∷ word BECOMES ∷ spell_slotval v ∷ rest

-- Those of a rule.
abbrev pub spell_rule : RuleTree → List Token → List Token
spell_rule (rule t c a) rest =
    word WHEN ∷ spell_trigger t (word IF ∷ spell_condition c (word THEN ∷ spell_assign a (word SEMICOLON ∷ rest)))

-- Those of a list of values.
abbrev pub spell_values : ValueListTree → List Token → List Token
spell_values (one_value n) rest = name n ∷ rest
spell_values (comma_value l n) rest = spell_values l (word COMMA ∷ name n ∷ rest)

-- Those of a slot line.
abbrev pub spell_line : LineTree → List Token → List Token
spell_line (line n vs) rest = word SLOT ∷ name n ∷ word OPEN ∷ spell_values vs (word CLOSE ∷ word SEMICOLON ∷ rest)

-- Those of rules.
abbrev pub spell_rules : List RuleTree → List Token → List Token
spell_rules [] rest = rest
spell_rules (r ∷ rs) rest = spell_rule r (spell_rules rs rest)

-- Those of slot lines.
abbrev pub spell_lines : List LineTree → List Token → List Token
spell_lines [] rest = rest
spell_lines (l ∷ ls) rest = spell_line l (spell_lines ls rest)

-- The tokens that a file derives.
abbrev pub spell : FileTree → List Token
spell f = spell_lines f.lines (spell_rules f.rules [])
