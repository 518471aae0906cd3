-- Document 02, section 1: 'cancelled NOTs gone, TRUE only in an empty condition, braces only for two or more assignments', said of any tree of the grammar.
use Rattle.std.specs.Prelude.{◌≤◌}
use Rattle.laws.specs.Listed.{Each}
use Rattle.grammar.specs.Grammar.{RuleTree, rule, ConditionTree, and_literal, one_literal, true_alone, AssignTree, one_alone, braces, one_assignment, comma_assignment, FileTree}
use Rattle.grammar.specs.Meaning.{nots}

-- Literals without TRUE before them, each with one NOT at the most.
abbrev pub TidyLiterals : ConditionTree → Type 0
TidyLiterals (and_literal c l) = TidyLiterals c × (nots l ≤ 1)
TidyLiterals (one_literal l) = nots l ≤ 1
TidyLiterals true_alone = ⊥

-- A condition: such literals, or TRUE where there are none.
abbrev pub TidyCondition : ConditionTree → Type 0
TidyCondition (and_literal c l) = TidyLiterals (and_literal c l)
TidyCondition (one_literal l) = TidyLiterals (one_literal l)
TidyCondition true_alone = Unit

-- What follows THEN: one assignment without braces, or braces round two or more.
abbrev pub TidyAssign : AssignTree → Type 0
TidyAssign (one_alone a) = Unit
TidyAssign (braces (one_assignment a)) = ⊥
TidyAssign (braces (comma_assignment l a)) = Unit

-- A rule.
abbrev pub TidyRule : RuleTree → Type 0
TidyRule (rule t c a) = TidyCondition c × TidyAssign a

-- A file, each of its rules. (Slot lines have one form only.)
abbrev pub Tidy : FileTree → Type 0
Tidy t = Each TidyRule t.rules
