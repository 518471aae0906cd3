-- The canonical tree of a file is tidy, and it is the only one: every tidy tree that means the file is laid out alike.
-- Assumes nothing.
use Prim.Native.Nat.{ℕ, ◌≤◌, ◌<◌}
use native.Mathlib.Omega.{arith}
use mathlib.Core.Path.{◌≡◌, refl, sym, ap, ap₂, subst, ◌∙◌}
use mathlib.Core.Bool.{Bool, true, false}
use mathlib.Core.List.{List, [], ◌∷◌, ◌++◌, map}
use lib.ListN.{length, length-append}
use Rattle.laws.specs.Listed.{Each}
use Rattle.laws.proofs.Lists.{map_append}
use Rattle.text.specs.Tokens.{Name, Token, word, name, SLOT, WHEN, IF, THEN, AND, NOT, TRUE, OPEN, CLOSE, COMMA, SEMICOLON, BECOMES, HAS, GETS}
use Rattle.model.specs.Rules.{Pair, Literal, Rule}
use Rattle.grammar.specs.Files.{Slot, File, slot_named, value_written}
use Rattle.grammar.specs.Grammar.{RuleTree, SlotvalTree, ConditionTree, true_alone, and_literal, one_literal, LiteralTree, not_literal, becomes_value, holds_value, AssignTree, braces, AssignmentListTree, one_assignment, comma_assignment, AssignmentTree, ValueListTree, one_value, comma_value, LineTree, line, FileTree, grown, spell, spell_slotval, spell_literal, spell_condition, spell_assignment, spell_assignments, spell_assign, spell_rule, spell_rules, spell_values, spell_lines}
use Rattle.grammar.specs.Meaning.{Names, nots, turned, tests_change, tested_slot, tested_value, MeansLiteral, MeansCondition, means_and, means_one, means_true, MeansAssignment, means_assignment, MeansAssignments, means_first, means_comma, MeansAssign, means_alone, means_braces, means_trigger, MeansRule, means_rule, MeansRules, no_rules, more_rules, Means}
use Rattle.grammar.proofs.Leftmost.{grown_last}
use Rattle.grammar.proofs.Declared.{slot_letters, value_letters}
use Rattle.style.specs.Layout.{layout, by_letters}
use Rattle.style.specs.Printed.{literal_tree, condition_tree, assign_tree, assignment_tree, rule_tree, line_tree, canonical, print}
use Rattle.style.specs.Tidy.{TidyLiterals, TidyCondition, TidyAssign, TidyRule, Tidy}
use Rattle.style.proofs.Letters.{bare_name}
use Rattle.style.proofs.Trees.{lines_one}
use Rattle.style.proofs.Unplaced.{layout_bare}

-- The canonical tree is tidy.
literals_tidy : (c : ConditionTree) → TidyLiterals c → TidyCondition c
literals_tidy (and_literal c l) h = h
literals_tidy (one_literal l) h = h
literals_tidy true_alone h = elim h [ ]

grown_tidy : (c : ConditionTree) (ls : List LiteralTree) → TidyLiterals c → Each (λ (l : LiteralTree). nots l ≤ 1) ls → TidyLiterals (grown and_literal c ls)
grown_tidy c [] h k = h
grown_tidy c (l ∷ ls) h k = grown_tidy (and_literal c l) ls (h, k.0) k.1

braces_tidy : (l : AssignmentListTree) (a : AssignmentTree) (bs : List AssignmentTree) → TidyAssign (braces (grown comma_assignment (comma_assignment l a) bs))
braces_tidy l a [] = tt
braces_tidy l a (b ∷ bs) = braces_tidy (comma_assignment l a) b bs

module _ (slots : List Slot) where
  literal_tidy : (m : Literal) → nots (literal_tree slots m) ≤ 1
  literal_tidy m = go m.becomes m.negated
    where
      go : (b n : Bool) → nots (literal_tree slots (record { becomes = b; negated = n; pair = m.pair })) ≤ 1
      go true true = omega arith
      go true false = omega arith
      go false true = omega arith
      go false false = omega arith

  each_tidy : (ms : List Literal) → Each (λ (l : LiteralTree). nots l ≤ 1) (map (literal_tree slots) ms)
  each_tidy [] = tt
  each_tidy (m ∷ ms) = (literal_tidy m, each_tidy ms)

  condition_tidy : (ms : List Literal) → TidyCondition (condition_tree (map (literal_tree slots) ms))
  condition_tidy [] = tt
  condition_tidy (m ∷ ms) = literals_tidy (condition_tree (map (literal_tree slots) (m ∷ ms))) (grown_tidy (one_literal (literal_tree slots m)) (map (literal_tree slots) ms) (literal_tidy m) (each_tidy ms))

  assign_tidy : (ps : List Pair) → TidyAssign (assign_tree (map (assignment_tree slots) ps))
  assign_tidy [] = tt
  assign_tidy (p ∷ []) = tt
  assign_tidy (p ∷ q ∷ qs) = braces_tidy (one_assignment (assignment_tree slots p)) (assignment_tree slots q) (map (assignment_tree slots) qs)

  rules_tidy : (rs : List Rule) → Each TidyRule (map (rule_tree slots) rs)
  rules_tidy [] = tt
  rules_tidy (r ∷ rs) = ((condition_tidy r.literals, assign_tidy r.assignments), rules_tidy rs)

-- THE CANONICAL TREE IS TIDY.
pub canonical_tidy : (f : File) → Tidy (canonical f)
canonical_tidy f = rules_tidy f.slots f.rules

-- Trees that spell the same by letters, before tokens that are the same by letters.
abbrev Same : (List Token → List Token) → (List Token → List Token) → Type 0
Same f g = (r q : List Token) → by_letters r ≡ by_letters q → by_letters (f r) ≡ by_letters (g q)

word_first : (w : ℕ) {x y : List Token} → x ≡ y → word w ∷ x ≡ word w ∷ y
word_first w h = ap (λ (z : List Token). word w ∷ z) h

name_first : (n m : Name) {x y : List Token} → n.letters ≡ m.letters → x ≡ y → name (bare_name n) ∷ x ≡ name (bare_name m) ∷ y
name_first n m e h = ap₂ (λ (l : List ℕ) (z : List Token). name (record { start = 0; letters = l }) ∷ z) e h

module _ (slots : List Slot) where
  -- A slot's name, a mark and a value.
  pair_same : (s : Name) (v : SlotvalTree) (p : Pair) (w : ℕ) → Names slots s v p → Same (λ r. name s ∷ word w ∷ spell_slotval v ∷ r) (λ r. name (slot_named slots p) ∷ word w ∷ spell_slotval (value_written slots p) ∷ r)
  pair_same s v p w n r q h =
      name_first s (slot_named slots p) (slot_letters slots s v p n) (word_first w (ap₂ (λ (t : Token) (y : List Token). t ∷ y) (value_letters slots s v p n) h))

  plain_same : (l : LiteralTree) (p : Pair) → Names slots (tested_slot l) (tested_value l) p → nots l ≤ 1
      → Same (spell_literal l) (spell_literal (literal_tree slots (record { becomes = tests_change l; negated = turned (nots l) false; pair = p })))
  plain_same (not_literal (not_literal l)) p n t = absurd (omega arith)
  plain_same (not_literal (becomes_value s v)) p n t = λ r q h. word_first NOT (pair_same s v p BECOMES n r q h)
  plain_same (not_literal (holds_value s v)) p n t = λ r q h. word_first NOT (pair_same s v p HAS n r q h)
  plain_same (becomes_value s v) p n t = pair_same s v p BECOMES n
  plain_same (holds_value s v) p n t = pair_same s v p HAS n

  literal_same : (l : LiteralTree) (m : Literal) → MeansLiteral slots l m → nots l ≤ 1 → Same (spell_literal l) (spell_literal (literal_tree slots m))
  literal_same l m h t =
      subst (λ (x : LiteralTree). Same (spell_literal l) (spell_literal x))
      (ap₂ (λ (b n : Bool). literal_tree slots (record { becomes = b; negated = n; pair = m.pair })) (sym h.mark) (sym h.sign))
      (plain_same l m.pair h.names t)

  literals_some : (c : ConditionTree) (ms : List Literal) → MeansCondition slots c ms → TidyLiterals c → 0 < length ms
  literals_some c ms (means_and {ms = ls} {m = m} g h) t = let z = length-append ls (m ∷ []) in omega arith
  literals_some c ms (means_one h) t = omega arith
  literals_some c ms means_true t = absurd t

  -- The tree of a condition that has a literal more.
  condition_grown : (x : Literal) (ms : List Literal) (m : Literal)
      → condition_tree (map (literal_tree slots) (x ∷ ms ++ m ∷ [])) ≡ and_literal (condition_tree (map (literal_tree slots) (x ∷ ms))) (literal_tree slots m)
  condition_grown x ms m =
      ap (grown and_literal (one_literal (literal_tree slots x))) (map_append (literal_tree slots) ms (m ∷ []))
      ∙ grown_last and_literal (one_literal (literal_tree slots x)) (map (literal_tree slots) ms) (literal_tree slots m)

  condition_same : (c : ConditionTree) (ms : List Literal) → MeansCondition slots c ms → TidyCondition c → Same (spell_condition c) (spell_condition (condition_tree (map (literal_tree slots) ms)))
  condition_same c ms (means_and {c = d} {ms = ls} {l = l} {m = m} g h) t = go ls (literals_some d ls g t.0) (condition_same d ls g (literals_tidy d t.0))
    where
      go : (ls : List Literal) → 0 < length ls → Same (spell_condition d) (spell_condition (condition_tree (map (literal_tree slots) ls)))
          → Same (spell_condition (and_literal d l)) (spell_condition (condition_tree (map (literal_tree slots) (ls ++ m ∷ []))))
      go [] i s = absurd (omega arith)
      go (x ∷ xs) i s = rw (condition_grown x xs m) (λ r q e. s (word AND ∷ spell_literal l r) (word AND ∷ spell_literal (literal_tree slots m) q) (word_first AND (literal_same l m h t.1 r q e)))
  condition_same c ms (means_one {l = l} {m = m} h) t = literal_same l m h t
  condition_same c ms means_true t = λ r q e. word_first TRUE e

  assignment_same : (a : AssignmentTree) (p : Pair) → MeansAssignment slots a p → Same (spell_assignment a) (spell_assignment (assignment_tree slots p))
  assignment_same a p (means_assignment {s = s} {v = v} n) = pair_same s v p GETS n

  -- A list of assignments, with its first and its others.
  assignments_same : (l : AssignmentListTree) (ps : List Pair) → MeansAssignments slots l ps
      → (p : Pair) × (qs : List Pair) × (ps ≡ p ∷ qs) × Same (spell_assignments l) (spell_assignments (grown comma_assignment (one_assignment (assignment_tree slots p)) (map (assignment_tree slots) qs)))
  assignments_same l ps (means_first {a = a} {p = p} g) = (p, [], refl, assignment_same a p g)
  assignments_same l ps (means_comma {l = k} {ps = os} {a = a} {p = p} g h e) =
      let r = assignments_same k os g in (
        r.0,
        r.1 ++ p ∷ [],
        ap (λ (xs : List Pair). xs ++ p ∷ []) r.2,
        rw (map_append (assignment_tree slots) r.1 (p ∷ []), grown_last comma_assignment (one_assignment (assignment_tree slots r.0)) (map (assignment_tree slots) r.1) (assignment_tree slots p))
            (λ x y d. r.3 (word COMMA ∷ spell_assignment a x) (word COMMA ∷ spell_assignment (assignment_tree slots p) y) (word_first COMMA (assignment_same a p h x y d))),
      )

  assign_same : (a : AssignTree) (ps : List Pair) → MeansAssign slots a ps → TidyAssign a → Same (spell_assign a) (spell_assign (assign_tree (map (assignment_tree slots) ps)))
  assign_same a ps (means_alone {a = b} {p = p} g) t = assignment_same b p g
  assign_same a ps (means_braces {l = one_assignment b} g) t = absurd t
  assign_same a ps (means_braces {l = comma_assignment k b} (means_comma {ps = os} {p = p} g h e)) t =
      let r = assignments_same (comma_assignment k b) (os ++ p ∷ []) (means_comma g h e) in
      let i = assignments_same k os g in
      let z = length-append os (p ∷ []) in
      subst (λ (xs : List Pair). Same (spell_assign (braces (comma_assignment k b))) (spell_assign (assign_tree (map (assignment_tree slots) xs)))) (sym r.2)
      (go r.0 r.1 (omega (arith, ap length r.2, z, ap length i.2)) r.3)
    where
      go : (x : Pair) (qs : List Pair) → 0 < length qs
          → Same (spell_assignments (comma_assignment k b)) (spell_assignments (grown comma_assignment (one_assignment (assignment_tree slots x)) (map (assignment_tree slots) qs)))
          → Same (spell_assign (braces (comma_assignment k b))) (spell_assign (assign_tree (map (assignment_tree slots) (x ∷ qs))))
      go x [] l s = absurd (omega arith)
      go x (y ∷ qs) l s = λ r q d. word_first OPEN (s (word CLOSE ∷ r) (word CLOSE ∷ q) (word_first CLOSE d))

  rule_same : (t : RuleTree) (x : Rule) → MeansRule slots t x → TidyRule t → Same (spell_rule t) (spell_rule (rule_tree slots x))
  rule_same t x (means_rule {c = c} {a = a} (means_trigger {s = s} {v = v} n) m few g most) d r q e =
      let T : List Token → List Token = λ y. word THEN ∷ spell_assign a (word SEMICOLON ∷ y) in
      let U : List Token → List Token = λ y. word THEN ∷ spell_assign (assign_tree (map (assignment_tree slots) x.assignments)) (word SEMICOLON ∷ y) in
      word_first WHEN (pair_same s v x.trigger BECOMES n (word IF ∷ spell_condition c (T r)) (word IF ∷ spell_condition (condition_tree (map (literal_tree slots) x.literals)) (U q))
      (word_first IF (condition_same c x.literals m d.0 (T r) (U q)
      (word_first THEN (assign_same a x.assignments g d.1 (word SEMICOLON ∷ r) (word SEMICOLON ∷ q) (word_first SEMICOLON e))))))

  rules_same : (ts : List RuleTree) (rs : List Rule) → MeansRules slots ts rs → Each TidyRule ts → by_letters (spell_rules ts []) ≡ by_letters (spell_rules (map (rule_tree slots) rs) [])
  rules_same ts rs no_rules d = refl
  rules_same ts rs (more_rules {t = t} {r = x} {ts = us} {rs = qs} g gs) d =
      rule_same t x g d.0 (spell_rules us []) (spell_rules (map (rule_tree slots) qs) []) (rules_same us qs gs d.1)

values_same : (vs : ValueListTree) → Same (spell_values vs) (spell_values vs)
values_same (one_value n) = λ r q h. name_first n n refl h
values_same (comma_value vs n) = λ r q h. values_same vs (word COMMA ∷ name n ∷ r) (word COMMA ∷ name n ∷ q) (word_first COMMA (name_first n n refl h))

lines_same : (ls : List LineTree) → Same (spell_lines ls) (spell_lines ls)
lines_same [] r q h = h
lines_same (line n vs ∷ ls) r q h =
    word_first SLOT (name_first n n refl (word_first OPEN
    (values_same vs (word CLOSE ∷ word SEMICOLON ∷ spell_lines ls r) (word CLOSE ∷ word SEMICOLON ∷ spell_lines ls q) (word_first CLOSE (word_first SEMICOLON (lines_same ls r q h))))))

-- THE ONE PRINTED FORM: every tidy tree that means the file is laid out as its print.
pub tidy_print : (t : FileTree) (f : File) → Means t f → Tidy t → layout (spell t) ≡ print f
unfolding print
tidy_print t f m d =
    let r = lines_one [] t.lines f.slots m.lines_are in
    let e : t.lines ≡ map line_tree f.slots = r.2 ∙ ap (map line_tree) (sym r.1) in
    let s = lines_same t.lines (spell_rules t.rules []) (spell_rules (map (rule_tree f.slots) f.rules) []) (rules_same f.slots t.rules f.rules m.rules_are d) in
    sym (layout_bare (spell t))
    ∙ ap layout (s ∙ ap (λ (ls : List LineTree). by_letters (spell_lines ls (spell_rules (map (rule_tree f.slots) f.rules) []))) e)
    ∙ layout_bare (spell (canonical f))
