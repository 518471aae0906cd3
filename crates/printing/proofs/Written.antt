-- The printed form of an accepted text's file is file-bytes line by line.
-- Assumes nothing.
use Prim.Native.Nat.{ℕ, ◌<◌}
use native.Mathlib.Omega.{arith}
use mathlib.Core.Path.{◌≡◌, refl, sym, ap, ◌∙◌}
use mathlib.Core.Bool.{Bool, true, false, cond}
use mathlib.Core.List.{List, [], ◌∷◌, ◌++◌, map, append_assoc}
use lib.ListN.{length}
use Rattle.laws.specs.Quoted.{bytes_from, bytes}
use Rattle.text.specs.Tokens.{Name, Token, word, name, IF, THEN, AND, CLOSE, COMMA, SEMICOLON, BECOMES, HAS, GETS, reserved}
use Rattle.text.specs.Covering.{spelling}
use Rattle.model.specs.Rules.{Pair, Literal, Rule}
use Rattle.grammar.specs.Files.{Slot, File, spellings, slot_named, value_written}
use Rattle.grammar.specs.Grammar.{SlotvalTree, slotval_name, slotval_none, and_literal, one_literal, LiteralTree, not_literal, becomes_value, holds_value, one_assignment, comma_assignment, one_value, comma_value, LineTree, spell_slotval, spell_literal, spell_condition, spell_assignment, spell_assignments, spell_assign, spell_rule, spell_rules, spell_values, spell_lines, grown}
use Rattle.grammar.specs.Meaning.{IsFile}
use Rattle.grammar.proofs.Leftmost.{spell_more, spell_name, spells_grown}
use Rattle.grammar.proofs.Declared.{DeclaredRule, file_declared}
use Rattle.style.specs.Layout.{token_bytes, tight, gap, layout}
use Rattle.laws.specs.Listed.{Each}
use Rattle.laws.proofs.Listed.{each_imply}
use Rattle.style.specs.Printed.{literal_tree, condition_tree, assign_tree, assignment_tree, rule_tree, values_tree, line_tree, print}
use Rattle.writing.specs.inner.Written.{followed, separated, test_bytes, literal_bytes, condition_bytes, assign_bytes, rule_bytes, line_bytes, lines_joined}
use Rattle.printing.specs.inner.Lines.{pair_bytes, slot_bytes, file_bytes}

-- `unfolding laying` opens a layout.
unfoldable laying : Unit {0}
unfolding token_bytes spelling reserved tight gap layout bytes_from bytes
laying = tt

-- Tokens laid out after a token that is not `;`: the gap before them, and they.
unfoldable following : List Token → List ℕ
following ts = cond (tight ts) [] (32 ∷ []) ++ layout ts

-- Parts that are laid out as their bytes, with a separating token laid out as `sep`.
more_laid : {X A : Type 0} (f : X → A) (spell_one : A → List Token → List Token) (w : ℕ) (part : X → List ℕ) (sep : List ℕ)
    → ((x : X) (r : List Token) → following (word w ∷ spell_one (f x) r) ≡ sep ++ (part x ++ following r))
    → (xs : List X) (r : List Token) → following (spell_more spell_one w (map f xs) r) ≡ followed sep (map part xs) ++ following r
unfolding followed
more_laid f spell_one w part sep h [] r = refl
more_laid f spell_one w part sep h (x ∷ xs) r =
    h x (spell_more spell_one w (map f xs) r)
    ∙ ap (λ (y : List ℕ). sep ++ (part x ++ y)) (more_laid f spell_one w part sep h xs r)
    ∙ ap (λ (y : List ℕ). sep ++ y) (sym (append_assoc (part x) (followed sep (map part xs)) (following r)))
    ∙ sym (append_assoc sep (part x ++ followed sep (map part xs)) (following r))

tight_literal : (l : LiteralTree) (r : List Token) → tight (spell_literal l r) ≡ false
unfolding tight
tight_literal (not_literal l) r = refl
tight_literal (becomes_value s v) r = refl
tight_literal (holds_value s v) r = refl

open_gap : (ts : List Token) → tight ts ≡ false → following ts ≡ 32 ∷ layout ts
unfolding following
open_gap ts e = rw e

-- Brackets moved to the front.
nested : (a i b j c k l : List ℕ) → a ++ (i ++ (b ++ (j ++ (c ++ (k ++ l))))) ≡ (a ++ (i ++ (b ++ (j ++ (c ++ k))))) ++ l
nested a i b j c k l = rw (append_assoc, append_assoc, append_assoc, append_assoc, append_assoc)

-- Names with commas before them.
more_names : (ns : List Name) (r : List Token) → following (spell_more spell_name COMMA ns r) ≡ followed (bytes ", ") (spellings ns) ++ following r
unfolding laying following followed
more_names [] r = refl
more_names (n ∷ ns) r = ap (λ (y : List ℕ). 44 ∷ 32 ∷ (n.letters ++ y)) (more_names ns r) ∙ ap (λ (y : List ℕ). 44 ∷ 32 ∷ y) (sym (append_assoc n.letters (followed (bytes ", ") (spellings ns)) (following r)))

-- A slot's name, a mark and a value.
abbrev value_bytes : SlotvalTree → List ℕ
value_bytes v = token_bytes (spell_slotval v)

becomes_laid : (n : Name) (v : SlotvalTree) (r : List Token) → layout (name n ∷ word BECOMES ∷ spell_slotval v ∷ r) ≡ n.letters ++ ((bytes " *= " ++ value_bytes v) ++ following r)
unfolding laying following
becomes_laid n (slotval_name m) r = refl
becomes_laid n slotval_none r = refl

holds_laid : (n : Name) (v : SlotvalTree) (r : List Token) → layout (name n ∷ word HAS ∷ spell_slotval v ∷ r) ≡ n.letters ++ ((bytes " |= " ++ value_bytes v) ++ following r)
unfolding laying following
holds_laid n (slotval_name m) r = refl
holds_laid n slotval_none r = refl

gets_laid : (n : Name) (v : SlotvalTree) (r : List Token) → layout (name n ∷ word GETS ∷ spell_slotval v ∷ r) ≡ n.letters ++ ((bytes " := " ++ value_bytes v) ++ following r)
unfolding laying following
gets_laid n (slotval_name m) r = refl
gets_laid n slotval_none r = refl

module _ (slots : List Slot) where
  pair_laid : (mark : List ℕ) (p : Pair) (y : List ℕ) → (slot_named slots p).letters ++ ((mark ++ value_bytes (value_written slots p)) ++ y) ≡ pair_bytes slots mark p ++ y
  unfolding pair_bytes
  pair_laid mark p y = sym (append_assoc (slot_named slots p).letters (mark ++ value_bytes (value_written slots p)) y)

  becomes_pair : (p : Pair) (r : List Token) → layout (name (slot_named slots p) ∷ word BECOMES ∷ spell_slotval (value_written slots p) ∷ r) ≡ pair_bytes slots (bytes " *= ") p ++ following r
  becomes_pair p r = becomes_laid (slot_named slots p) (value_written slots p) r ∙ pair_laid (bytes " *= ") p (following r)

  holds_pair : (p : Pair) (r : List Token) → layout (name (slot_named slots p) ∷ word HAS ∷ spell_slotval (value_written slots p) ∷ r) ≡ pair_bytes slots (bytes " |= ") p ++ following r
  holds_pair p r = holds_laid (slot_named slots p) (value_written slots p) r ∙ pair_laid (bytes " |= ") p (following r)

  literal_laid : (m : Literal) (r : List Token) → layout (spell_literal (literal_tree slots m) r) ≡ literal_bytes (pair_bytes slots) m ++ following r
  unfolding laying following literal_bytes test_bytes
  literal_laid m r = go m.becomes m.negated m.pair
    where
      go : (b n : Bool) (p : Pair) → layout (spell_literal (literal_tree slots (record { becomes = b; negated = n; pair = p })) r)
          ≡ literal_bytes (pair_bytes slots) (record { becomes = b; negated = n; pair = p }) ++ following r
      go true true p = ap (λ (y : List ℕ). 78 ∷ 79 ∷ 84 ∷ 32 ∷ y) (becomes_pair p r)
      go true false p = becomes_pair p r
      go false true p = ap (λ (y : List ℕ). 78 ∷ 79 ∷ 84 ∷ 32 ∷ y) (holds_pair p r)
      go false false p = holds_pair p r

  -- A literal after a word that is not `;`.
  literal_follows : (m : Literal) (r : List Token) → following (spell_literal (literal_tree slots m) r) ≡ 32 ∷ (literal_bytes (pair_bytes slots) m ++ following r)
  literal_follows m r = open_gap (spell_literal (literal_tree slots m) r) (tight_literal (literal_tree slots m) r) ∙ ap (λ (y : List ℕ). 32 ∷ y) (literal_laid m r)

  condition_laid : (ms : List Literal) (r : List Token) → following (spell_condition (condition_tree (map (literal_tree slots) ms)) r) ≡ 32 ∷ (condition_bytes (pair_bytes slots) ms ++ following r)
  unfolding laying following condition_bytes separated
  condition_laid [] r = refl
  condition_laid (m ∷ ms) r =
      ap following (spells_grown and_literal spell_literal spell_condition AND (λ t a x. refl) (one_literal (literal_tree slots m)) (map (literal_tree slots) ms) r)
      ∙ literal_follows m (spell_more spell_literal AND (map (literal_tree slots) ms) r)
      ∙ ap (λ (y : List ℕ). 32 ∷ (literal_bytes (pair_bytes slots) m ++ y))
      (more_laid (literal_tree slots) spell_literal AND (literal_bytes (pair_bytes slots)) (bytes " AND ") (λ x q. ap (λ (y : List ℕ). 32 ∷ 65 ∷ 78 ∷ 68 ∷ y) (literal_follows x q)) ms r)
      ∙ ap (λ (y : List ℕ). 32 ∷ y) (sym (append_assoc (literal_bytes (pair_bytes slots) m) (followed (bytes " AND ") (map (literal_bytes (pair_bytes slots)) ms)) (following r)))

  assignment_laid : (p : Pair) (r : List Token) → layout (spell_assignment (assignment_tree slots p) r) ≡ pair_bytes slots (bytes " := ") p ++ following r
  assignment_laid p r = gets_laid (slot_named slots p) (value_written slots p) r ∙ pair_laid (bytes " := ") p (following r)

  list_laid : (p : Pair) (qs : List Pair) (r : List Token) → following (spell_assignments (grown comma_assignment (one_assignment (assignment_tree slots p)) (map (assignment_tree slots) qs)) r)
      ≡ 32 ∷ (separated (bytes ", ") (map (pair_bytes slots (bytes " := ")) (p ∷ qs)) ++ following r)
  unfolding laying following separated
  list_laid p qs r =
      ap following (spells_grown comma_assignment spell_assignment spell_assignments COMMA (λ t a x. refl) (one_assignment (assignment_tree slots p)) (map (assignment_tree slots) qs) r)
      ∙ ap (λ (y : List ℕ). 32 ∷ y) (assignment_laid p (spell_more spell_assignment COMMA (map (assignment_tree slots) qs) r)
      ∙ ap (λ (y : List ℕ). pair_bytes slots (bytes " := ") p ++ y)
      (more_laid (assignment_tree slots) spell_assignment COMMA (pair_bytes slots (bytes " := ")) (bytes ", ") (λ x q. ap (λ (y : List ℕ). 44 ∷ 32 ∷ y) (assignment_laid x q)) qs r)
      ∙ sym (append_assoc (pair_bytes slots (bytes " := ") p) (followed (bytes ", ") (map (pair_bytes slots (bytes " := ")) qs)) (following r)))

  assign_laid : (ps : List Pair) (r : List Token) → 0 < length ps → following (spell_assign (assign_tree (map (assignment_tree slots) ps)) r) ≡ 32 ∷ (assign_bytes (pair_bytes slots) ps ++ following r)
  unfolding laying following assign_bytes
  assign_laid [] r i = absurd (omega arith)
  assign_laid (p ∷ []) r i = ap (λ (y : List ℕ). 32 ∷ y) (assignment_laid p r)
  assign_laid (p ∷ q ∷ qs) r i =
      ap (λ (y : List ℕ). 32 ∷ 123 ∷ y) (list_laid p (q ∷ qs) (word CLOSE ∷ r)
      ∙ ap (λ (y : List ℕ). 32 ∷ y) (sym (append_assoc (separated (bytes ", ") (map (pair_bytes slots (bytes " := ")) (p ∷ q ∷ qs))) (bytes " }") (following r))))

  -- A rule is laid out as its line.
  rule_laid : (x : Rule) (r : List Token) → 0 < length x.assignments → layout (spell_rule (rule_tree slots x) r) ≡ rule_bytes (pair_bytes slots) x ++ layout r
  unfolding laying following rule_bytes
  rule_laid x r i =
      let then-part = spell_assign (assign_tree (map (assignment_tree slots) x.assignments)) (word SEMICOLON ∷ r) in
      let a = assign_laid x.assignments (word SEMICOLON ∷ r) i in
      let c = condition_laid x.literals (word THEN ∷ then-part) in
      ap (λ (y : List ℕ). 87 ∷ 72 ∷ 69 ∷ 78 ∷ 32 ∷ y)
      (becomes_pair x.trigger (word IF ∷ spell_condition (condition_tree (map (literal_tree slots) x.literals)) (word THEN ∷ then-part))
      ∙ ap (λ (y : List ℕ). pair_bytes slots (bytes " *= ") x.trigger ++ (32 ∷ 73 ∷ 70 ∷ y)) c
      ∙ ap (λ (y : List ℕ). pair_bytes slots (bytes " *= ") x.trigger ++ (bytes " IF " ++ (condition_bytes (pair_bytes slots) x.literals ++ (32 ∷ 84 ∷ 72 ∷ 69 ∷ 78 ∷ y)))) a
      ∙ nested (pair_bytes slots (bytes " *= ") x.trigger) (bytes " IF ") (condition_bytes (pair_bytes slots) x.literals) (bytes " THEN ") (assign_bytes (pair_bytes slots) x.assignments) (bytes ";\n") (layout r))

  rules_laid : (rs : List Rule) → Each (λ (x : Rule). 0 < length x.assignments) rs → layout (spell_rules (map (rule_tree slots) rs) []) ≡ lines_joined (map (rule_bytes (pair_bytes slots)) rs)
  unfolding layout lines_joined
  rules_laid [] h = refl
  rules_laid (x ∷ rs) h = rule_laid x (spell_rules (map (rule_tree slots) rs) []) h.0 ∙ ap (λ (y : List ℕ). rule_bytes (pair_bytes slots) x ++ y) (rules_laid rs h.1)

values_laid : (ns : List Name) (r : List Token) → following (spell_values (values_tree ns) r) ≡ 32 ∷ (separated (bytes ", ") (spellings ns) ++ following r)
unfolding laying following separated
values_laid [] r = refl
values_laid (n ∷ ns) r =
    ap following (spells_grown comma_value spell_name spell_values COMMA (λ t a x. refl) (one_value n) ns r)
    ∙ ap (λ (y : List ℕ). 32 ∷ (n.letters ++ y)) (more_names ns r)
    ∙ ap (λ (y : List ℕ). 32 ∷ y) (sym (append_assoc n.letters (followed (bytes ", ") (spellings ns)) (following r)))

-- A slot's line is laid out as that.
slot_laid : (s : Slot) (ls : List LineTree) (r : List Token) → layout (spell_lines (line_tree s ∷ ls) r) ≡ slot_bytes s ++ layout (spell_lines ls r)
unfolding laying following line_bytes
slot_laid s ls r =
    ap (λ (y : List ℕ). 83 ∷ 76 ∷ 79 ∷ 84 ∷ 32 ∷ (s.name.letters ++ (32 ∷ 123 ∷ y))) (values_laid s.values (word CLOSE ∷ word SEMICOLON ∷ spell_lines ls r))
    ∙ ap (λ (y : List ℕ). 83 ∷ 76 ∷ 79 ∷ 84 ∷ 32 ∷ y) (nested s.name.letters (bytes " { ") (separated (bytes ", ") (spellings s.values)) (bytes " };\n") [] [] (layout (spell_lines ls r)))

lines_laid : (ss : List Slot) (r : List Token) → layout (spell_lines (map line_tree ss) r) ≡ lines_joined (map slot_bytes ss) ++ layout r
unfolding lines_joined
lines_laid [] r = refl
lines_laid (s ∷ ss) r =
    slot_laid s (map line_tree ss) r ∙ ap (λ (y : List ℕ). slot_bytes s ++ y) (lines_laid ss r) ∙ sym (append_assoc (slot_bytes s) (lines_joined (map slot_bytes ss)) (layout r))

-- THE PRINT IS WRITTEN LINE BY LINE.
pub print_written : (text : List ℕ) (f : File) → IsFile text f → print f ≡ file_bytes f
unfolding print file_bytes
print_written text f a =
    lines_laid f.slots (spell_rules (map (rule_tree f.slots) f.rules) [])
    ∙ ap (λ (y : List ℕ). lines_joined (map slot_bytes f.slots) ++ y) (rules_laid f.slots f.rules (each_imply (DeclaredRule f.slots) (λ (x : Rule). 0 < length x.assignments) f.rules (λ x d. d.some) (file_declared text f a).each_rule))
