-- Lists that grow at their right end, as the grammar's do, taken from their left end.
-- Assumes nothing.
use Prim.Native.Nat.{ℕ}
use mathlib.Core.Path.{◌≡◌, refl, sym, ap, ◌∙◌}
use mathlib.Core.List.{List, [], ◌∷◌, ◌++◌}
use Rattle.text.specs.Tokens.{Name, Token, word, name, AND, COMMA}
use Rattle.grammar.specs.Grammar.{ConditionTree, and_literal, one_literal, true_alone, LiteralTree, AssignmentListTree, one_assignment, comma_assignment, AssignmentTree, ValueListTree, one_value, comma_value, spell_literal, spell_condition, spell_assignment, spell_assignments, spell_values, grown}

-- Parts with `sep` before each.
abbrev pub spell_more : {A : Type 0} → (A → List Token → List Token) → ℕ → List A → List Token → List Token
spell_more spell_one sep [] r = r
spell_more spell_one sep (a ∷ xs) r = word sep ∷ spell_one a (spell_more spell_one sep xs r)

pub grown_last : {A T : Type 0} (grow : T → A → T) (t : T) (xs : List A) (a : A) → grown grow t (xs ++ a ∷ []) ≡ grow (grown grow t xs) a
grown_last grow t [] a = refl
grown_last grow t (x ∷ xs) a = grown_last grow (grow t x) xs a

pub spells_grown : {A T : Type 0} (grow : T → A → T) (spell_one : A → List Token → List Token) (spells : T → List Token → List Token) (sep : ℕ)
    → ((t : T) (a : A) (r : List Token) → spells (grow t a) r ≡ spells t (word sep ∷ spell_one a r))
    → (t : T) (xs : List A) (r : List Token) → spells (grown grow t xs) r ≡ spells t (spell_more spell_one sep xs r)
spells_grown grow spell_one spells sep h t [] r = refl
spells_grown grow spell_one spells sep h t (a ∷ xs) r = spells_grown grow spell_one spells sep h (grow t a) xs r ∙ h t a (spell_more spell_one sep xs r)

-- How a condition opens: with a literal, or with TRUE.
pub data Opening : Type 0 where
  with_literal : LiteralTree → Opening
  with_true : Opening

abbrev pub opened : Opening → ConditionTree
opened (with_literal l) = one_literal l
opened with_true = true_alone

-- A condition is its opening, grown by literals.
pub condition_leftmost : (c : ConditionTree) → (o : Opening) × (ls : List LiteralTree) × (c ≡ grown and_literal (opened o) ls)
condition_leftmost (and_literal c l) =
    let x = condition_leftmost c in
    (x.0, x.1 ++ l ∷ [], ap (λ (d : ConditionTree). and_literal d l) x.2 ∙ sym (grown_last and_literal (opened x.0) x.1 l))
condition_leftmost (one_literal l) = (with_literal l, [], refl)
condition_leftmost true_alone = (with_true, [], refl)

pub spells_condition : (c : ConditionTree) (ls : List LiteralTree) (r : List Token) → spell_condition (grown and_literal c ls) r ≡ spell_condition c (spell_more spell_literal AND ls r)
spells_condition c ls r = spells_grown and_literal spell_literal spell_condition AND (λ t a s. refl) c ls r

-- A list of assignments is its first, grown by the others.
pub assignments_leftmost : (l : AssignmentListTree) → (a : AssignmentTree) × (xs : List AssignmentTree) × (l ≡ grown comma_assignment (one_assignment a) xs)
assignments_leftmost (one_assignment a) = (a, [], refl)
assignments_leftmost (comma_assignment l a) =
    let x = assignments_leftmost l in
    (x.0, x.1 ++ a ∷ [], ap (λ (m : AssignmentListTree). comma_assignment m a) x.2 ∙ sym (grown_last comma_assignment (one_assignment x.0) x.1 a))

pub spells_assignments : (l : AssignmentListTree) (xs : List AssignmentTree) (r : List Token) → spell_assignments (grown comma_assignment l xs) r ≡ spell_assignments l (spell_more spell_assignment COMMA xs r)
spells_assignments l xs r = spells_grown comma_assignment spell_assignment spell_assignments COMMA (λ t a s. refl) l xs r

-- A name alone.
abbrev pub spell_name : Name → List Token → List Token
spell_name n r = name n ∷ r

-- A list of values is its first, grown by the others.
pub values_leftmost : (l : ValueListTree) → (n : Name) × (xs : List Name) × (l ≡ grown comma_value (one_value n) xs)
values_leftmost (one_value n) = (n, [], refl)
values_leftmost (comma_value l n) =
    let x = values_leftmost l in
    (x.0, x.1 ++ n ∷ [], ap (λ (m : ValueListTree). comma_value m n) x.2 ∙ sym (grown_last comma_value (one_value x.0) x.1 n))

pub spells_values : (l : ValueListTree) (xs : List Name) (r : List Token) → spell_values (grown comma_value l xs) r ≡ spell_values l (spell_more spell_name COMMA xs r)
spells_values l xs r = spells_grown comma_value spell_name spell_values COMMA (λ t a s. refl) l xs r
