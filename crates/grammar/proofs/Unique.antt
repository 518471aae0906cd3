-- A list of tokens has at most one derivation.
-- Assumes nothing.
use Prim.Native.Nat.{ℕ}
use native.Mathlib.Omega.{arith}
use mathlib.Core.Path.{◌≡◌, refl, sym, ap, ap₂, ◌∙◌}
use mathlib.Core.List.{List, [], ◌∷◌}
use lib.ListN.{drop}
use Rattle.text.specs.Tokens.{Name, Token, word, name, SLOT, WHEN, IF, THEN, AND, NOT, TRUE, NONE, OPEN, CLOSE, COMMA, SEMICOLON, BECOMES, HAS, GETS}
use Rattle.grammar.specs.Grammar.{RuleTree, rule, TriggerTree, trigger, SlotvalTree, slotval_name, slotval_none, ConditionTree, and_literal, LiteralTree, not_literal, becomes_value, holds_value, AssignTree, one_alone, braces, AssignmentListTree, one_assignment, comma_assignment, AssignmentTree, gets_value, ValueListTree, one_value, comma_value, LineTree, line, FileTree, spell, spell_slotval, spell_literal, spell_condition, spell_assignment, spell_assignments, spell_assign, spell_trigger, spell_rule, spell_rules, spell_values, spell_line, spell_lines, grown}
use Rattle.grammar.proofs.Leftmost.{spell_more, Opening, with_literal, with_true, opened, condition_leftmost, spells_condition, assignments_leftmost, spells_assignments, spell_name, values_leftmost, spells_values}

pub other_word : {C : Type 0} (v w : ℕ) (xs ys : List Token) → word v ∷ xs ≡ word w ∷ ys → (v ≡ w → ⊥) → C
other_word v w xs ys e h = let z : v ≡ w = cc in absurd (h z)

pub word_name : {C : Type 0} (v : ℕ) (n : Name) (xs ys : List Token) → word v ∷ xs ≡ name n ∷ ys → C
word_name v n xs ys e = absurd (let z : ◌≡◌ {A = ℕ} 0 1 = cc in omega arith)

-- Two lists of parts with the same tokens are the same, where that holds of one part.
more_same : {A : Type 0} (spell_one : A → List Token → List Token) (sep end : ℕ)
    → ((a b : A) (r s : List Token) → spell_one a r ≡ spell_one b s → (a ≡ b) × (r ≡ s)) → (sep ≡ end → ⊥)
    → (xs ys : List A) (r s : List Token) → spell_more spell_one sep xs (word end ∷ r) ≡ spell_more spell_one sep ys (word end ∷ s) → (xs ≡ ys) × (r ≡ s)
more_same spell_one sep end inj d [] [] r s e = (refl, ap (drop 1) e)
more_same spell_one sep end inj d [] (b ∷ ys) r s e = other_word end sep _ _ e (λ z. d (sym z))
more_same spell_one sep end inj d (a ∷ xs) [] r s e = other_word sep end _ _ e d
more_same {A} spell_one sep end inj d (a ∷ xs) (b ∷ ys) r s e =
    let h = inj a b (spell_more spell_one sep xs (word end ∷ r)) (spell_more spell_one sep ys (word end ∷ s)) (ap (drop 1) e) in
    let g = more_same spell_one sep end inj d xs ys r s h.1 in
    (ap₂ (λ (x : A) (y : List A). x ∷ y) h.0 g.0, g.1)

one_value_tree : (v w : SlotvalTree) → spell_slotval v ≡ spell_slotval w → v ≡ w
one_value_tree (slotval_name m) (slotval_name n) e = let z : m ≡ n = cc in ap slotval_name z
one_value_tree (slotval_name n) slotval_none e = word_name NONE n [] [] (ap (λ (t : Token). t ∷ []) (sym e))
one_value_tree slotval_none (slotval_name n) e = word_name NONE n [] [] (ap (λ (t : Token). t ∷ []) e)
one_value_tree slotval_none slotval_none e = refl

-- A slot's name, a mark and a value with the same tokens are the same.
one_test : {T : Type 0} (test : Name → SlotvalTree → T) (w : ℕ) (a c : Name) (b d : SlotvalTree) (r s : List Token) → name a ∷ word w ∷ spell_slotval b ∷ r ≡ name c ∷ word w ∷ spell_slotval d ∷ s
    → (test a b ≡ test c d) × (r ≡ s)
one_test test w a c b d r s e =
    let x : a ≡ c = cc in
    let y : spell_slotval b ≡ spell_slotval d = cc in
    (ap₂ test x (one_value_tree b d y), ap (drop 3) e)

one_literal_tree : (l m : LiteralTree) (r s : List Token) → spell_literal l r ≡ spell_literal m s → (l ≡ m) × (r ≡ s)
one_literal_tree (not_literal l) (not_literal m) r s e = let h = one_literal_tree l m r s (ap (drop 1) e) in (ap not_literal h.0, h.1)
one_literal_tree (not_literal l) (becomes_value a b) r s e = word_name NOT a _ _ e
one_literal_tree (not_literal l) (holds_value a b) r s e = word_name NOT a _ _ e
one_literal_tree (becomes_value a b) (not_literal m) r s e = word_name NOT a _ _ (sym e)
one_literal_tree (becomes_value a b) (becomes_value c d) r s e = one_test becomes_value BECOMES a c b d r s e
one_literal_tree (becomes_value a b) (holds_value c d) r s e = other_word BECOMES HAS _ _ (ap (drop 1) e) (λ z. omega arith)
one_literal_tree (holds_value a b) (not_literal m) r s e = word_name NOT a _ _ (sym e)
one_literal_tree (holds_value a b) (becomes_value c d) r s e = other_word HAS BECOMES _ _ (ap (drop 1) e) (λ z. omega arith)
one_literal_tree (holds_value a b) (holds_value c d) r s e = one_test holds_value HAS a c b d r s e

not-true : {C : Type 0} (l : LiteralTree) (r s : List Token) → spell_literal l r ≡ word TRUE ∷ s → C
not-true (not_literal l) r s e = other_word NOT TRUE _ _ e (λ z. omega arith)
not-true (becomes_value a b) r s e = word_name TRUE a _ _ (sym e)
not-true (holds_value a b) r s e = word_name TRUE a _ _ (sym e)

opening_same : (a b : Opening) (r s : List Token) → spell_condition (opened a) r ≡ spell_condition (opened b) s → (a ≡ b) × (r ≡ s)
opening_same (with_literal l) (with_literal m) r s e = let h = one_literal_tree l m r s e in (ap with_literal h.0, h.1)
opening_same (with_literal l) with_true r s e = not-true l r s e
opening_same with_true (with_literal m) r s e = not-true m s r (sym e)
opening_same with_true with_true r s e = (refl, ap (drop 1) e)

one_condition_tree : (c d : ConditionTree) (r s : List Token) → spell_condition c (word THEN ∷ r) ≡ spell_condition d (word THEN ∷ s) → (c ≡ d) × (r ≡ s)
one_condition_tree c d r s e =
    let x = condition_leftmost c in
    let y = condition_leftmost d in
    let h = opening_same x.0 y.0 (spell_more spell_literal AND x.1 (word THEN ∷ r)) (spell_more spell_literal AND y.1 (word THEN ∷ s))
    (sym (ap (λ (z : ConditionTree). spell_condition z (word THEN ∷ r)) x.2 ∙ spells_condition (opened x.0) x.1 (word THEN ∷ r))
    ∙ e ∙ ap (λ (z : ConditionTree). spell_condition z (word THEN ∷ s)) y.2 ∙ spells_condition (opened y.0) y.1 (word THEN ∷ s)) in
    let g = more_same spell_literal AND THEN one_literal_tree (λ z. omega arith) x.1 y.1 r s h.1 in
    (x.2 ∙ ap₂ (λ (o : Opening) (ls : List LiteralTree). grown and_literal (opened o) ls) h.0 g.0 ∙ sym y.2, g.1)

one_assignment_tree : (a b : AssignmentTree) (r s : List Token) → spell_assignment a r ≡ spell_assignment b s → (a ≡ b) × (r ≡ s)
one_assignment_tree (gets_value n v) (gets_value m w) r s e = one_test gets_value GETS n m v w r s e

one_assignments_tree : (l m : AssignmentListTree) (r s : List Token) → spell_assignments l (word CLOSE ∷ r) ≡ spell_assignments m (word CLOSE ∷ s) → (l ≡ m) × (r ≡ s)
one_assignments_tree l m r s e =
    let x = assignments_leftmost l in
    let y = assignments_leftmost m in
    let h = one_assignment_tree x.0 y.0 (spell_more spell_assignment COMMA x.1 (word CLOSE ∷ r)) (spell_more spell_assignment COMMA y.1 (word CLOSE ∷ s))
    (sym (ap (λ (z : AssignmentListTree). spell_assignments z (word CLOSE ∷ r)) x.2 ∙ spells_assignments (one_assignment x.0) x.1 (word CLOSE ∷ r))
    ∙ e ∙ ap (λ (z : AssignmentListTree). spell_assignments z (word CLOSE ∷ s)) y.2 ∙ spells_assignments (one_assignment y.0) y.1 (word CLOSE ∷ s)) in
    let g = more_same spell_assignment COMMA CLOSE one_assignment_tree (λ z. omega arith) x.1 y.1 r s h.1 in
    (x.2 ∙ ap₂ (λ (a : AssignmentTree) (xs : List AssignmentTree). grown comma_assignment (one_assignment a) xs) h.0 g.0 ∙ sym y.2, g.1)

one_assign_tree : (a b : AssignTree) (r s : List Token) → spell_assign a r ≡ spell_assign b s → (a ≡ b) × (r ≡ s)
one_assign_tree (one_alone a) (one_alone b) r s e = let h = one_assignment_tree a b r s e in (ap one_alone h.0, h.1)
one_assign_tree (one_alone (gets_value n v)) (braces m) r s e = word_name OPEN n _ _ (sym e)
one_assign_tree (braces l) (one_alone (gets_value n v)) r s e = word_name OPEN n _ _ e
one_assign_tree (braces l) (braces m) r s e = let h = one_assignments_tree l m r s (ap (drop 1) e) in (ap braces h.0, h.1)

one_trigger_tree : (t u : TriggerTree) (r s : List Token) → spell_trigger t r ≡ spell_trigger u s → (t ≡ u) × (r ≡ s)
one_trigger_tree (trigger n v) (trigger m w) r s e = one_test trigger BECOMES n m v w r s e

one_rule_tree : (t u : RuleTree) (r s : List Token) → spell_rule t r ≡ spell_rule u s → (t ≡ u) × (r ≡ s)
one_rule_tree (rule t c a) (rule u d b) r s e =
    let x = one_trigger_tree t u (word IF ∷ spell_condition c (word THEN ∷ spell_assign a (word SEMICOLON ∷ r))) (word IF ∷ spell_condition d (word THEN ∷ spell_assign b (word SEMICOLON ∷ s))) (ap (drop 1) e) in
    let g = one_condition_tree c d (spell_assign a (word SEMICOLON ∷ r)) (spell_assign b (word SEMICOLON ∷ s)) (ap (drop 1) x.1) in
    let h = one_assign_tree a b (word SEMICOLON ∷ r) (word SEMICOLON ∷ s) g.1 in
    (λ i. rule (x.0 i) (g.0 i) (h.0 i), ap (drop 1) h.1)

name_same : (m n : Name) (r s : List Token) → spell_name m r ≡ spell_name n s → (m ≡ n) × (r ≡ s)
name_same m n r s e = (cc, cc)

one_values_tree : (l m : ValueListTree) (r s : List Token) → spell_values l (word CLOSE ∷ r) ≡ spell_values m (word CLOSE ∷ s) → (l ≡ m) × (r ≡ s)
one_values_tree l m r s e =
    let x = values_leftmost l in
    let y = values_leftmost m in
    let h = name_same x.0 y.0 (spell_more spell_name COMMA x.1 (word CLOSE ∷ r)) (spell_more spell_name COMMA y.1 (word CLOSE ∷ s))
    (sym (ap (λ (z : ValueListTree). spell_values z (word CLOSE ∷ r)) x.2 ∙ spells_values (one_value x.0) x.1 (word CLOSE ∷ r))
    ∙ e ∙ ap (λ (z : ValueListTree). spell_values z (word CLOSE ∷ s)) y.2 ∙ spells_values (one_value y.0) y.1 (word CLOSE ∷ s)) in
    let g = more_same spell_name COMMA CLOSE name_same (λ z. omega arith) x.1 y.1 r s h.1 in
    (x.2 ∙ ap₂ (λ (n : Name) (xs : List Name). grown comma_value (one_value n) xs) h.0 g.0 ∙ sym y.2, g.1)

one_line_tree : (t u : LineTree) (r s : List Token) → spell_line t r ≡ spell_line u s → (t ≡ u) × (r ≡ s)
one_line_tree (line n vs) (line m ws) r s e =
    let x : n ≡ m = cc in
    let g = one_values_tree vs ws (word SEMICOLON ∷ r) (word SEMICOLON ∷ s) (ap (drop 3) e) in
    (λ i. line (x i) (g.0 i), ap (drop 1) g.1)

pub empty_never : {C : Type 0} (t : Token) (ts : List Token) → [] ≡ t ∷ ts → C
empty_never t ts e = absurd (let z : ◌≡◌ {A = ℕ} 0 1 = cc in omega arith)

one_rules_tree : (ts us : List RuleTree) → spell_rules ts [] ≡ spell_rules us [] → ts ≡ us
one_rules_tree [] [] e = refl
one_rules_tree [] (rule t c a ∷ us) e = empty_never _ _ e
one_rules_tree (rule t c a ∷ ts) [] e = empty_never _ _ (sym e)
one_rules_tree (t ∷ ts) (u ∷ us) e =
    let h = one_rule_tree t u (spell_rules ts []) (spell_rules us []) e in ap₂ (λ (x : RuleTree) (y : List RuleTree). x ∷ y) h.0 (one_rules_tree ts us h.1)

no_line : {C : Type 0} (us : List RuleTree) (ts : List Token) → spell_rules us [] ≡ word SLOT ∷ ts → C
no_line [] ts e = empty_never _ _ e
no_line (rule t c a ∷ us) ts e = other_word WHEN SLOT _ _ e (λ z. omega arith)

one_lines_tree : (ls ms : List LineTree) (ts us : List RuleTree) → spell_lines ls (spell_rules ts []) ≡ spell_lines ms (spell_rules us []) → (ls ≡ ms) × (ts ≡ us)
one_lines_tree [] [] ts us e = (refl, one_rules_tree ts us e)
one_lines_tree [] (line n vs ∷ ms) ts us e = no_line ts _ e
one_lines_tree (line n vs ∷ ls) [] ts us e = no_line us _ (sym e)
one_lines_tree (l ∷ ls) (m ∷ ms) ts us e =
    let h = one_line_tree l m (spell_lines ls (spell_rules ts [])) (spell_lines ms (spell_rules us [])) e in
    let g = one_lines_tree ls ms ts us h.1 in
    (ap₂ (λ (x : LineTree) (y : List LineTree). x ∷ y) h.0 g.0, g.1)

-- The grammar is unambiguous: two trees with the same tokens are the same tree.
pub one_derivation : (t u : FileTree) → spell t ≡ spell u → t ≡ u
one_derivation t u e = let h = one_lines_tree t.lines u.lines t.rules u.rules e in λ i. record { lines = h.0 i; rules = h.1 i }
