-- Where the readings of statements stop.
-- Assumes nothing.
use Prim.Native.Nat.{ℕ}
use native.Mathlib.Omega.{arith}
use mathlib.Core.Path.{◌≡◌, refl, sym, ap, subst, ◌∙◌}
use mathlib.Core.List.{List, [], ◌∷◌, ◌++◌}
use mathlib.Core.Logic.{inl, inr}
use Rattle.text.specs.Tokens.{Name, Token, word, name, SLOT, WHEN, IF, THEN, AND, TRUE, OPEN, CLOSE, COMMA, SEMICOLON, BECOMES, GETS}
use Rattle.model.specs.Rules.{Pair}
use Rattle.laws.specs.Limits.{value_limit, literal_limit, assignment_limit}
use Rattle.grammar.specs.Files.{Slot, slot_names}
use Rattle.grammar.specs.Grammar.{RuleTree, rule, trigger, slotval_name, ConditionTree, and_literal, one_literal, true_alone, LiteralTree, AssignTree, one_alone, braces, AssignmentListTree, one_assignment, comma_assignment, AssignmentTree, gets_value, ValueListTree, one_value, comma_value, LineTree, line, spell_slotval, spell_literal, spell_condition, spell_assignment, spell_assignments, spell_assign, spell_rule, spell_values, spell_line, grown}
use Rattle.grammar.specs.Reading.{took, ◌then◌, expects, fork, new_name, read_slot, read_value, read_target, read_literals, read_condition, read_assignment, no_assignment, read_assignments, read_assign, read_rule, no_value, read_values, read_line}
use Rattle.model.specs.Result.{pair}
use Rattle.grammar.proofs.Forward.{no_true, no_open}
use Rattle.grammar.proofs.Backward.{no_assignment_back, no_value_back}
use Rattle.grammar.proofs.Leftmost.{Opening, with_literal, with_true, opened, condition_leftmost, spells_condition, assignments_leftmost, spells_assignments, values_leftmost, spells_values}
use Rattle.grammar.proofs.Stopping.{Written, Language, Reader, nothing, reader_took, both, reader_then, the_word, reader_expects, a_single_name, reader_name, reader_full}
use Rattle.grammar.proofs.Choosing.{reader_along, either, reader_fork, perhaps, reader_next, list_of, reader_list}
use Rattle.grammar.proofs.Parts.{slot_name_read, new_name_read, target_name_read, full_assignment_read, full_value_read, x_name, a_value, reader_value, literal_append, literal_written, literals, reader_literals}

-- Conditions with their THEN.
pub condition_append : (c : ConditionTree) (xs ys : List Token) → spell_condition c (xs ++ ys) ≡ spell_condition c xs ++ ys
condition_append (and_literal c l) xs ys = ap (λ (y : List Token). spell_condition c (word AND ∷ y)) (literal_append l xs ys) ∙ condition_append c (word AND ∷ spell_literal l xs) ys
condition_append (one_literal l) xs ys = literal_append l xs ys
condition_append true_alone xs ys = refl

condition_written : (c : ConditionTree) (rest : List Token) → Written rest → Written (spell_condition c rest)
condition_written (and_literal c l) rest h = condition_written c (word AND ∷ spell_literal l rest) (literal_written l rest h)
condition_written (one_literal l) rest h = literal_written l rest h
condition_written true_alone rest h = h

abbrev a_condition : Language
a_condition = record {
  Tree = ConditionTree;
  spells = λ c rest. spell_condition c (word THEN ∷ rest);
  append = λ c xs ys. condition_append c (word THEN ∷ xs) ys;
  written = λ c rest h. condition_written c (word THEN ∷ rest) h;
  some_tree = true_alone;
}

-- A condition as it is read: TRUE with more literals or alone, or literals.
abbrev condition_parts : Language
condition_parts = perhaps TRUE (either AND THEN literals nothing) literals

condition_to : condition_parts.Tree → ConditionTree
condition_to (inl (inl x)) = grown and_literal true_alone (x.0 ∷ x.1)
condition_to (inl (inr u)) = true_alone
condition_to (inr x) = grown and_literal (one_literal x.0) x.1

condition_to_spelled : (x : condition_parts.Tree) (rest : List Token) → condition_parts.spells x rest ≡ a_condition.spells (condition_to x) rest
unfolding condition_to
condition_to_spelled (inl (inl x)) rest = sym (spells_condition true_alone (x.0 ∷ x.1) (word THEN ∷ rest))
condition_to_spelled (inl (inr u)) rest = refl
condition_to_spelled (inr x) rest = sym (spells_condition (one_literal x.0) x.1 (word THEN ∷ rest))

condition_parts_of : Opening → List LiteralTree → condition_parts.Tree
condition_parts_of (with_literal l) ls = inr (l, ls)
condition_parts_of with_true [] = inl (inr tt)
condition_parts_of with_true (l ∷ ls) = inl (inl (l, ls))

parts_spelled : (o : Opening) (ls : List LiteralTree) (rest : List Token) → spell_condition (grown and_literal (opened o) ls) (word THEN ∷ rest) ≡ condition_parts.spells (condition_parts_of o ls) rest
unfolding condition_parts_of
parts_spelled (with_literal l) ls rest = spells_condition (one_literal l) ls (word THEN ∷ rest)
parts_spelled with_true [] rest = refl
parts_spelled with_true (l ∷ ls) rest = spells_condition true_alone (l ∷ ls) (word THEN ∷ rest)

reader_condition : (slots : List Slot) → Reader a_condition (read_condition slots)
unfolding read_condition
reader_condition slots =
    reader_along condition_parts a_condition (read_condition slots)
    (reader_next TRUE (fork AND THEN (read_literals slots literal_limit []) (took [])) (read_literals slots literal_limit []) (either AND THEN literals nothing) literals
    (reader_fork AND THEN (read_literals slots literal_limit []) (took []) literals nothing (reader_literals slots literal_limit []) (reader_took []) (λ z. omega arith))
    (reader_literals slots literal_limit []) (λ y rest. no_true y.0 _))
    condition_to condition_to_spelled
    (λ c. let x = condition_leftmost c in condition_parts_of x.0 x.1)
    (λ c rest. let x = condition_leftmost c in ap (λ (d : ConditionTree). spell_condition d (word THEN ∷ rest)) x.2 ∙ parts_spelled x.0 x.1 rest)

-- Assignments.
pub assignment_append : (a : AssignmentTree) (xs ys : List Token) → spell_assignment a (xs ++ ys) ≡ spell_assignment a xs ++ ys
assignment_append (gets_value s v) xs ys = refl

assignment_written : (a : AssignmentTree) (rest : List Token) → Written rest → Written (spell_assignment a rest)
assignment_written (gets_value s v) rest h = a_value.written v rest h

abbrev an_assignment : Language
an_assignment = record { Tree = AssignmentTree; spells = spell_assignment; append = assignment_append; written = assignment_written; some_tree = gets_value x_name (slotval_name x_name) }

abbrev assignment_parts : Language
assignment_parts = both a_single_name (both (the_word GETS) (both a_value nothing))

assignment_of : AssignmentTree → assignment_parts.Tree
assignment_of (gets_value s v) = (s, (tt, (v, tt)))

assignment_of_spelled : (a : AssignmentTree) (rest : List Token) → spell_assignment a rest ≡ assignment_parts.spells (assignment_of a) rest
unfolding assignment_of
assignment_of_spelled (gets_value s v) rest = refl

reader_assignment : (slots : List Slot) (sofar : List Pair) → Reader an_assignment (read_assignment slots sofar)
unfolding read_assignment
reader_assignment slots sofar =
    reader_along assignment_parts an_assignment (read_assignment slots sofar)
    (reader_then a_single_name (both (the_word GETS) (both a_value nothing)) (read_target slots sofar) _ (reader_name (read_target slots sofar) (target_name_read slots sofar))
    (λ s. reader_then (the_word GETS) (both a_value nothing) (expects GETS) _ (reader_expects GETS)
    (λ u. reader_then a_value nothing (read_value slots s) _ (reader_value slots s) (λ v. reader_took (pair s v)))))
    (λ x. gets_value x.0 x.1.1.0) (λ x rest. refl) assignment_of assignment_of_spelled

-- Assignments with commas between and `}` at the end.
abbrev assignments : Language
assignments = list_of an_assignment COMMA CLOSE

first_of_assignments : (a : AssignmentTree) (more : List Token) → (n : Name) × (rest : List Token) × (spell_assignment a more ≡ name n ∷ rest)
first_of_assignments (gets_value s v) more = (s, word GETS ∷ spell_slotval v ∷ more, refl)

reader_assignments : (slots : List Slot) (room : ℕ) (sofar : List Pair) → Reader assignments (read_assignments slots room sofar)
unfolding read_assignments
reader_assignments slots room sofar =
    reader_list an_assignment COMMA CLOSE (read_assignment slots) no_assignment (reader_assignment slots)
    (λ ps. reader_full assignments (no_assignment ps) (full_assignment_read ps) (λ n rest. ((gets_value n (slotval_name x_name), []), word GETS ∷ name x_name ∷ word CLOSE ∷ rest, refl))
    (λ x rest. first_of_assignments x.0 _) (no_assignment_back ps)) (λ z. omega arith) room sofar

-- What follows THEN.
assignments_append : (l : AssignmentListTree) (xs ys : List Token) → spell_assignments l (xs ++ ys) ≡ spell_assignments l xs ++ ys
assignments_append (one_assignment a) xs ys = assignment_append a xs ys
assignments_append (comma_assignment l a) xs ys = ap (λ (y : List Token). spell_assignments l (word COMMA ∷ y)) (assignment_append a xs ys) ∙ assignments_append l (word COMMA ∷ spell_assignment a xs) ys

assignments_written : (l : AssignmentListTree) (rest : List Token) → Written rest → Written (spell_assignments l rest)
assignments_written (one_assignment a) rest h = assignment_written a rest h
assignments_written (comma_assignment l a) rest h = assignments_written l (word COMMA ∷ spell_assignment a rest) (assignment_written a rest h)

assign_append : (a : AssignTree) (xs ys : List Token) → spell_assign a (xs ++ ys) ≡ spell_assign a xs ++ ys
assign_append (one_alone a) xs ys = assignment_append a xs ys
assign_append (braces l) xs ys = ap (λ (y : List Token). word OPEN ∷ y) (assignments_append l (word CLOSE ∷ xs) ys)

assign_written : (a : AssignTree) (rest : List Token) → Written rest → Written (spell_assign a rest)
assign_written (one_alone a) rest h = assignment_written a rest h
assign_written (braces l) rest h = assignments_written l (word CLOSE ∷ rest) h

abbrev an_assign : Language
an_assign = record { Tree = AssignTree; spells = spell_assign; append = assign_append; written = assign_written; some_tree = one_alone (gets_value x_name (slotval_name x_name)) }

abbrev assign_parts : Language
assign_parts = perhaps OPEN assignments (both an_assignment nothing)

assign_to : assign_parts.Tree → AssignTree
assign_to (inl x) = braces (grown comma_assignment (one_assignment x.0) x.1)
assign_to (inr x) = one_alone x.0

assign_to_spelled : (x : assign_parts.Tree) (rest : List Token) → assign_parts.spells x rest ≡ spell_assign (assign_to x) rest
unfolding assign_to
assign_to_spelled (inl x) rest = ap (λ (y : List Token). word OPEN ∷ y) (sym (spells_assignments (one_assignment x.0) x.1 (word CLOSE ∷ rest)))
assign_to_spelled (inr x) rest = refl

assign_of : AssignTree → assign_parts.Tree
assign_of (one_alone a) = inr (a, tt)
assign_of (braces l) = let x = assignments_leftmost l in inl (x.0, x.1)

assign_of_spelled : (a : AssignTree) (rest : List Token) → spell_assign a rest ≡ assign_parts.spells (assign_of a) rest
unfolding assign_of
assign_of_spelled (one_alone a) rest = refl
assign_of_spelled (braces l) rest =
    let x = assignments_leftmost l in
    ap (λ (y : List Token). word OPEN ∷ y) (ap (λ (m : AssignmentListTree). spell_assignments m (word CLOSE ∷ rest)) x.2 ∙ spells_assignments (one_assignment x.0) x.1 (word CLOSE ∷ rest))

reader_assign : (slots : List Slot) → Reader an_assign (read_assign slots)
unfolding read_assign
reader_assign slots =
    reader_along assign_parts an_assign (read_assign slots)
    (reader_next OPEN (read_assignments slots assignment_limit []) (λ more. read_assignment slots [] more then λ p rest. took (p ∷ []) rest) assignments (both an_assignment nothing)
    (reader_assignments slots assignment_limit []) (reader_then an_assignment nothing (read_assignment slots []) (λ p rest. took (p ∷ []) rest) (reader_assignment slots []) (λ p. reader_took (p ∷ [])))
    (λ y rest. no_open y.0 rest))
    assign_to assign_to_spelled assign_of assign_of_spelled

-- Rules.
abbrev rule_parts : Language
rule_parts = both (the_word WHEN) (both a_single_name (both (the_word BECOMES) (both a_value (both (the_word IF) (both a_condition (both an_assign (both (the_word SEMICOLON) nothing)))))))

rule_of : RuleTree → rule_parts.Tree
rule_of (rule (trigger s v) c a) = (tt, (s, (tt, (v, (tt, (c, (a, (tt, tt))))))))

rule_of_spelled : (t : RuleTree) (rest : List Token) → spell_rule t rest ≡ rule_parts.spells (rule_of t) rest
unfolding rule_of
rule_of_spelled (rule (trigger s v) c a) rest = refl

-- Whatever a rule derives, the tokens after it follow it.
pub rule_append : (t : RuleTree) (xs ys : List Token) → spell_rule t (xs ++ ys) ≡ spell_rule t xs ++ ys
rule_append t xs ys = rule_of_spelled t (xs ++ ys) ∙ rule_parts.append (rule_of t) xs ys ∙ sym (ap (λ (z : List Token). z ++ ys) (rule_of_spelled t xs))

pub rule_written : (t : RuleTree) (rest : List Token) → Written rest → Written (spell_rule t rest)
rule_written t rest h = subst Written (sym (rule_of_spelled t rest)) (rule_parts.written (rule_of t) rest h)

abbrev pub a_rule : Language
a_rule = record { Tree = RuleTree; spells = spell_rule; append = rule_append; written = rule_written; some_tree = rule (trigger x_name (slotval_name x_name)) true_alone (one_alone (gets_value x_name (slotval_name x_name))) }

-- The reader of a rule.
pub reader_rule : (slots : List Slot) → Reader a_rule (read_rule slots)
unfolding read_rule
reader_rule slots =
    reader_along rule_parts a_rule (read_rule slots)
    (reader_then (the_word WHEN) _ (expects WHEN) _ (reader_expects WHEN) (λ u1.
    reader_then a_single_name _ (read_slot slots) _ (reader_name (read_slot slots) (slot_name_read slots)) (λ s.
    reader_then (the_word BECOMES) _ (expects BECOMES) _ (reader_expects BECOMES) (λ u2.
    reader_then a_value _ (read_value slots s) _ (reader_value slots s) (λ v.
    reader_then (the_word IF) _ (expects IF) _ (reader_expects IF) (λ u3.
    reader_then a_condition _ (read_condition slots) _ (reader_condition slots) (λ ls.
    reader_then an_assign _ (read_assign slots) _ (reader_assign slots) (λ ps.
    reader_then (the_word SEMICOLON) nothing (expects SEMICOLON) _ (reader_expects SEMICOLON) (λ u4. reader_took (record { trigger = pair s v; literals = ls; assignments = ps }))))))))))
    (λ x. rule (trigger x.1.0 x.1.1.1.0) x.1.1.1.1.1.0 x.1.1.1.1.1.1.0) (λ x rest. refl) rule_of rule_of_spelled

-- Values with commas between and `}` at the end.
abbrev values : Language
values = list_of a_single_name COMMA CLOSE

reader_values : (room : ℕ) (sofar : List Name) → Reader values (read_values room sofar)
unfolding read_values
reader_values room sofar =
    reader_list a_single_name COMMA CLOSE new_name no_value (λ ns. reader_name (new_name ns) (new_name_read ns))
    (λ ns. reader_full values (no_value ns) (full_value_read ns) (λ n rest. ((n, []), word CLOSE ∷ rest, refl)) (λ x rest. (x.0, _, refl)) (no_value_back ns)) (λ z. omega arith) room sofar

-- Slot lines.
abbrev line_parts : Language
line_parts = both (the_word SLOT) (both a_single_name (both (the_word OPEN) (both values (both (the_word SEMICOLON) nothing))))

line_to : line_parts.Tree → LineTree
line_to x = line x.1.0 (grown comma_value (one_value x.1.1.1.0.0) x.1.1.1.0.1)

line_to_spelled : (x : line_parts.Tree) (rest : List Token) → line_parts.spells x rest ≡ spell_line (line_to x) rest
unfolding line_to
line_to_spelled x rest =
    ap (λ (y : List Token). word SLOT ∷ name x.1.0 ∷ word OPEN ∷ y) (sym (spells_values (one_value x.1.1.1.0.0) x.1.1.1.0.1 (word CLOSE ∷ word SEMICOLON ∷ rest)))

line_of : LineTree → line_parts.Tree
line_of (line n vs) = let x = values_leftmost vs in (tt, (n, (tt, ((x.0, x.1), (tt, tt)))))

line_of_spelled : (t : LineTree) (rest : List Token) → spell_line t rest ≡ line_parts.spells (line_of t) rest
unfolding line_of
line_of_spelled (line n vs) rest =
    let x = values_leftmost vs in
    ap (λ (y : List Token). word SLOT ∷ name n ∷ word OPEN ∷ y)
    (ap (λ (m : ValueListTree). spell_values m (word CLOSE ∷ word SEMICOLON ∷ rest)) x.2 ∙ spells_values (one_value x.0) x.1 (word CLOSE ∷ word SEMICOLON ∷ rest))

-- Whatever a slot line derives, the tokens after it follow it.
pub line_append : (t : LineTree) (xs ys : List Token) → spell_line t (xs ++ ys) ≡ spell_line t xs ++ ys
line_append t xs ys = line_of_spelled t (xs ++ ys) ∙ line_parts.append (line_of t) xs ys ∙ sym (ap (λ (z : List Token). z ++ ys) (line_of_spelled t xs))

pub line_written : (t : LineTree) (rest : List Token) → Written rest → Written (spell_line t rest)
line_written t rest h = subst Written (sym (line_of_spelled t rest)) (line_parts.written (line_of t) rest h)

abbrev pub a_line : Language
a_line = record { Tree = LineTree; spells = spell_line; append = line_append; written = line_written; some_tree = line x_name (one_value x_name) }

-- The reader of a slot line.
pub reader_line : (before : List Slot) → Reader a_line (read_line before)
unfolding read_line
reader_line before =
    reader_along line_parts a_line (read_line before)
    (reader_then (the_word SLOT) _ (expects SLOT) _ (reader_expects SLOT) (λ u1.
    reader_then a_single_name _ (new_name (slot_names before)) _ (reader_name (new_name (slot_names before)) (new_name_read (slot_names before))) (λ n.
    reader_then (the_word OPEN) _ (expects OPEN) _ (reader_expects OPEN) (λ u2.
    reader_then values _ (read_values value_limit []) _ (reader_values value_limit []) (λ vs.
    reader_then (the_word SEMICOLON) nothing (expects SEMICOLON) _ (reader_expects SEMICOLON) (λ u3. reader_took (record { name = n; values = vs })))))))
    line_to line_to_spelled line_of line_of_spelled
