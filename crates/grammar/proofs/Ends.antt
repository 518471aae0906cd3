-- What a statement derives has one `;`, its last token.
-- Assumes nothing.
use Prim.Native.Nat.{ℕ}
use native.Mathlib.Omega.{arith}
use mathlib.Core.Path.{◌≡◌, refl, sym, ap, subst, ◌∙◌}
use mathlib.Core.List.{List, [], ◌∷◌, ◌++◌}
use Rattle.text.specs.Tokens.{Token, word, name, SLOT, WHEN, IF, THEN, AND, NOT, OPEN, CLOSE, COMMA, SEMICOLON, BECOMES, HAS, GETS, tokens_from}
use Rattle.text.specs.Cut.{NoSemi, Free, before_semi, past_semi}
use Rattle.text.proofs.Cut.{tokens_free, before_free, past_free}
use Rattle.grammar.specs.Grammar.{RuleTree, rule, trigger, SlotvalTree, slotval_name, slotval_none, ConditionTree, and_literal, one_literal, true_alone, LiteralTree, not_literal, becomes_value, holds_value, AssignTree, one_alone, braces, AssignmentListTree, one_assignment, comma_assignment, AssignmentTree, gets_value, ValueListTree, one_value, comma_value, LineTree, line, spell_slotval, spell_literal, spell_condition, spell_assignment, spell_assignments, spell_assign, spell_trigger, spell_rule, spell_values, spell_line}

-- The tokens before the first `;`, followed by `;` and others.
abbrev pub refit : List Token → List Token → List Token
refit ts us = before_semi ts ++ word SEMICOLON ∷ us

-- A value is no `;`.
value_past : (v : SlotvalTree) (rest : List Token) → past_semi (spell_slotval v ∷ rest) ≡ past_semi rest
value_past (slotval_name n) rest = refl
value_past slotval_none rest = refl

value_refit : (v : SlotvalTree) (rest us : List Token) → refit (spell_slotval v ∷ rest) us ≡ spell_slotval v ∷ refit rest us
value_refit (slotval_name n) rest us = refl
value_refit slotval_none rest us = refl

-- What a statement derives has one `;`, its last token: what follows it is `rest`, and may be anything else.
literal_past : (l : LiteralTree) (rest : List Token) → past_semi (spell_literal l rest) ≡ past_semi rest
literal_past (not_literal l) rest = literal_past l rest
literal_past (becomes_value s v) rest = value_past v rest
literal_past (holds_value s v) rest = value_past v rest

condition_past : (c : ConditionTree) (rest : List Token) → past_semi (spell_condition c rest) ≡ past_semi rest
condition_past (and_literal c l) rest = condition_past c (word AND ∷ spell_literal l rest) ∙ literal_past l rest
condition_past (one_literal l) rest = literal_past l rest
condition_past true_alone rest = refl

assignment_past : (a : AssignmentTree) (rest : List Token) → past_semi (spell_assignment a rest) ≡ past_semi rest
assignment_past (gets_value s v) rest = value_past v rest

assignments_past : (l : AssignmentListTree) (rest : List Token) → past_semi (spell_assignments l rest) ≡ past_semi rest
assignments_past (one_assignment a) rest = assignment_past a rest
assignments_past (comma_assignment l a) rest = assignments_past l (word COMMA ∷ spell_assignment a rest) ∙ assignment_past a rest

assign_past : (a : AssignTree) (rest : List Token) → past_semi (spell_assign a rest) ≡ past_semi rest
assign_past (one_alone a) rest = assignment_past a rest
assign_past (braces l) rest = assignments_past l (word CLOSE ∷ rest)

pub rule_past : (t : RuleTree) (rest : List Token) → past_semi (spell_rule t rest) ≡ rest
rule_past (rule (trigger s v) c a) rest =
    value_past v (word IF ∷ spell_condition c (word THEN ∷ spell_assign a (word SEMICOLON ∷ rest))) ∙ condition_past c (word THEN ∷ spell_assign a (word SEMICOLON ∷ rest)) ∙ assign_past a (word SEMICOLON ∷ rest)

values_past : (l : ValueListTree) (rest : List Token) → past_semi (spell_values l rest) ≡ past_semi rest
values_past (one_value n) rest = refl
values_past (comma_value l n) rest = values_past l (word COMMA ∷ name n ∷ rest)

pub line_past : (t : LineTree) (rest : List Token) → past_semi (spell_line t rest) ≡ rest
line_past (line n vs) rest = values_past vs (word CLOSE ∷ word SEMICOLON ∷ rest)

literal_refit : (l : LiteralTree) (rest us : List Token) → refit (spell_literal l rest) us ≡ spell_literal l (refit rest us)
literal_refit (not_literal l) rest us = ap (λ (y : List Token). word NOT ∷ y) (literal_refit l rest us)
literal_refit (becomes_value s v) rest us = ap (λ (y : List Token). name s ∷ word BECOMES ∷ y) (value_refit v rest us)
literal_refit (holds_value s v) rest us = ap (λ (y : List Token). name s ∷ word HAS ∷ y) (value_refit v rest us)

condition_refit : (c : ConditionTree) (rest us : List Token) → refit (spell_condition c rest) us ≡ spell_condition c (refit rest us)
condition_refit (and_literal c l) rest us =
    condition_refit c (word AND ∷ spell_literal l rest) us ∙ ap (λ (y : List Token). spell_condition c (word AND ∷ y)) (literal_refit l rest us)
condition_refit (one_literal l) rest us = literal_refit l rest us
condition_refit true_alone rest us = refl

assignment_refit : (a : AssignmentTree) (rest us : List Token) → refit (spell_assignment a rest) us ≡ spell_assignment a (refit rest us)
assignment_refit (gets_value s v) rest us = ap (λ (y : List Token). name s ∷ word GETS ∷ y) (value_refit v rest us)

assignments_refit : (l : AssignmentListTree) (rest us : List Token) → refit (spell_assignments l rest) us ≡ spell_assignments l (refit rest us)
assignments_refit (one_assignment a) rest us = assignment_refit a rest us
assignments_refit (comma_assignment l a) rest us =
    assignments_refit l (word COMMA ∷ spell_assignment a rest) us ∙ ap (λ (y : List Token). spell_assignments l (word COMMA ∷ y)) (assignment_refit a rest us)

assign_refit : (a : AssignTree) (rest us : List Token) → refit (spell_assign a rest) us ≡ spell_assign a (refit rest us)
assign_refit (one_alone a) rest us = assignment_refit a rest us
assign_refit (braces l) rest us = ap (λ (y : List Token). word OPEN ∷ y) (assignments_refit l (word CLOSE ∷ rest) us)

pub rule_refit : (t : RuleTree) (rest us : List Token) → refit (spell_rule t rest) us ≡ spell_rule t us
rule_refit (rule (trigger s v) c a) rest us =
    ap (λ (y : List Token). word WHEN ∷ name s ∷ word BECOMES ∷ y) (value_refit v (word IF ∷ spell_condition c (word THEN ∷ spell_assign a (word SEMICOLON ∷ rest))) us)
    ∙ ap (λ (y : List Token). word WHEN ∷ spell_trigger (trigger s v) (word IF ∷ y))
    (condition_refit c (word THEN ∷ spell_assign a (word SEMICOLON ∷ rest)) us
    ∙ ap (λ (y : List Token). spell_condition c (word THEN ∷ y)) (assign_refit a (word SEMICOLON ∷ rest) us))

values_refit : (l : ValueListTree) (rest us : List Token) → refit (spell_values l rest) us ≡ spell_values l (refit rest us)
values_refit (one_value n) rest us = refl
values_refit (comma_value l n) rest us = values_refit l (word COMMA ∷ name n ∷ rest) us

pub line_refit : (t : LineTree) (rest us : List Token) → refit (spell_line t rest) us ≡ spell_line t us
line_refit (line n vs) rest us = ap (λ (y : List Token). word SLOT ∷ name n ∷ word OPEN ∷ y) (values_refit vs (word CLOSE ∷ word SEMICOLON ∷ rest) us)

-- A statement that stands in front of a piece's `;` and others is that piece, before whatever follows.
module _ {T : Type 0} (spells : T → List Token → List Token) (past : (t : T) (rest : List Token) → past_semi (spells t rest) ≡ rest) (refits : (t : T) (rest us : List Token) → refit (spells t rest) us ≡ spells t us) where
  pub rest_same : (b : List ℕ) (p : ℕ) (t : T) (rest us : List Token) → NoSemi b → tokens_from b 0 p ++ word SEMICOLON ∷ us ≡ spells t rest → rest ≡ us
  rest_same b p t rest us n e = sym (past t rest) ∙ sym (ap past_semi e) ∙ past_free (tokens_from b 0 p) us (tokens_free b 0 p n)

  pub piece_spelled : (b : List ℕ) (p : ℕ) (t : T) (rest us : List Token) → NoSemi b → tokens_from b 0 p ++ word SEMICOLON ∷ us ≡ spells t rest
      → (more : List Token) → spells t more ≡ tokens_from b 0 p ++ word SEMICOLON ∷ more
  piece_spelled b p t rest us n e more =
      sym (refits t rest more) ∙ ap (λ (y : List Token). y ++ word SEMICOLON ∷ more) (sym (ap before_semi e) ∙ before_free (tokens_from b 0 p) us (tokens_free b 0 p n))

  -- Tokens without `;` hold no statement.
  pub not_free : (t : T) (rest : List Token) → Free (spells t rest) → ⊥
  not_free t rest h = go (before_semi (spells t rest)) (subst Free (sym (refits t rest rest)) h)
    where
      go : (ts : List Token) → Free (ts ++ word SEMICOLON ∷ rest) → ⊥
      go [] x = let y = x.0 in let z : ◌≡◌ {A = ℕ} 0 1 = cc in absurd (omega arith)
      go (u ∷ ts) x = go ts x.1

  -- A text without `;` holds no statement.
  pub no_statement : (w : List ℕ) (p : ℕ) (t : T) (rest : List Token) → NoSemi w → tokens_from w 0 p ≡ spells t rest → ⊥
  no_statement w p t rest n e = not_free t rest (subst Free e (tokens_free w 0 p n))
