-- How long a print can be.
-- Assumes nothing.
use Prim.Native.Nat.{ℕ, ◌+◌, ◌*◌, ◌≤◌}
use native.Mathlib.Omega.{arith}
use native.Mathlib.Nat.{suc-mul}
use mathlib.Core.Path.{ap}
use mathlib.Core.Bool.{Bool, true, false}
use mathlib.Core.List.{List, [], ◌∷◌, ◌++◌, map}
use lib.ListN.{length, length-append, length-map}
use Rattle.laws.specs.Quoted.{bytes_from, bytes}
use Rattle.text.specs.Tokens.{Name, reserved}
use Rattle.text.specs.Covering.{spelling}
use Rattle.model.specs.Rules.{Pair, Literal, Rule}
use Rattle.laws.specs.Limits.{name_limit}
use Rattle.grammar.specs.Files.{Slot, File, spellings, slot_named, value_written}
use Rattle.grammar.specs.Grammar.{SlotvalTree, slotval_name, slotval_none, spell_slotval}
use Rattle.grammar.specs.Meaning.{IsFile}
use Rattle.grammar.proofs.Declared.{DeclaredPair, DeclaredRule, Valued, file_declared}
use Rattle.laws.specs.Listed.{Each}
use Rattle.laws.proofs.Listed.{each_map, each_imply}
use Rattle.style.specs.Layout.{token_bytes}
use Rattle.style.specs.Printed.{print}
use Rattle.style.specs.inner.Named.{Printable, Named, WellNamed}
use Rattle.writing.specs.inner.Puts.{pair_most, slot_line_most, rule_line_most, longest}
use Rattle.writing.specs.inner.Written.{followed, separated, test_bytes, literal_bytes, condition_bytes, assign_bytes, rule_bytes, line_bytes, lines_joined}
use Rattle.printing.specs.inner.Lines.{pair_bytes, slot_bytes, file_bytes}
use Rattle.style.proofs.Formed.{file_formed}
use Rattle.style.proofs.Spelled.{slot_formed, value_formed}
use Rattle.printing.proofs.Written.{print_written}

-- Parts of at most `m` bytes, each after a separator.
followed_le : (sep : List ℕ) (m : ℕ) (xs : List (List ℕ)) → Each (λ (x : List ℕ). length x ≤ m) xs → length (followed sep xs) ≤ length xs * (length sep + m)
unfolding followed
followed_le sep m [] h = omega arith
followed_le sep m (x ∷ xs) h =
    let r = followed_le sep m xs h.1 in
    let a = length-append sep (x ++ followed sep xs) in
    let b = length-append x (followed sep xs) in
    let g = h.0 in
    let k = suc-mul (length xs) (length sep + m) in
    omega arith

-- Parts of at most `m` bytes with a separator between them.
separated_le : {A : Type 0} (sep : List ℕ) (m : ℕ) (part : A → List ℕ) (xs : List A) → Each (λ (x : A). length (part x) ≤ m) xs → length (separated sep (map part xs)) ≤ length xs * (length sep + m)
unfolding separated
separated_le sep m part [] h = omega arith
separated_le {A} sep m part (x ∷ xs) h =
    let r = followed_le sep m (map part xs) (each_map (λ (y : A). length (part y) ≤ m) (λ (y : List ℕ). length y ≤ m) part xs (λ y k. k) h.1) in
    let s : length (followed sep (map part xs)) ≤ length xs * (length sep + m) = rw (← length-map xs part) r in
    let a = length-append (part x) (followed sep (map part xs)) in
    let g = h.0 in
    let k = suc-mul (length xs) (length sep + m) in
    omega arith

-- A value takes no more bytes than a name.
value_short : (v : SlotvalTree) → Printable (spell_slotval v) → length (token_bytes (spell_slotval v)) ≤ name_limit
unfolding token_bytes spelling reserved
value_short (slotval_name n) h = h.short
value_short slotval_none h = omega arith

module _ (slots : List Slot) (formed : Each WellNamed slots) where
  pair_le : (mark : List ℕ) (p : Pair) → DeclaredPair slots p → length (pair_bytes slots mark p) ≤ name_limit + length mark + name_limit
  unfolding pair_bytes
  pair_le mark p d =
      let s = (slot_formed slots formed p d).0.short in
      let v = value_short (value_written slots p) (value_formed slots formed p d) in
      let a = length-append (slot_named slots p).letters (mark ++ token_bytes (spell_slotval (value_written slots p))) in
      let b = length-append mark (token_bytes (spell_slotval (value_written slots p))) in
      omega arith

  literal_le : (m : Literal) → DeclaredPair slots m.pair → length (literal_bytes (pair_bytes slots) m) ≤ pair_most + 4
  unfolding literal_bytes test_bytes bytes bytes_from
  literal_le m d = go m.becomes m.negated
    where
      go : (b n : Bool) → length (literal_bytes (pair_bytes slots) (record { becomes = b; negated = n; pair = m.pair })) ≤ pair_most + 4
      go true true = let h = pair_le (bytes " *= ") m.pair d in omega arith
      go true false = let h = pair_le (bytes " *= ") m.pair d in omega arith
      go false true = let h = pair_le (bytes " |= ") m.pair d in omega arith
      go false false = let h = pair_le (bytes " |= ") m.pair d in omega arith

  condition_le : (ms : List Literal) → Each (λ (m : Literal). DeclaredPair slots m.pair) ms → length (condition_bytes (pair_bytes slots) ms) ≤ 4 + length ms * (pair_most + 9)
  unfolding condition_bytes bytes bytes_from
  condition_le [] d = omega arith
  condition_le (m ∷ ms) d =
      let r : length (separated (bytes " AND ") (map (literal_bytes (pair_bytes slots)) (m ∷ ms))) ≤ length (m ∷ ms) * (pair_most + 9) =
      separated_le (bytes " AND ") (pair_most + 4) (literal_bytes (pair_bytes slots)) (m ∷ ms) (each_imply (λ (x : Literal). DeclaredPair slots x.pair) (λ (x : Literal). length (literal_bytes (pair_bytes slots) x) ≤ pair_most + 4) (m ∷ ms) literal_le d) in
      omega arith

  assign_le : (ps : List Pair) → Each (DeclaredPair slots) ps → length (assign_bytes (pair_bytes slots) ps) ≤ 4 + length ps * (pair_most + 2)
  unfolding assign_bytes bytes bytes_from
  assign_le [] d = omega arith
  assign_le (p ∷ []) d = let h = pair_le (bytes " := ") p d.0 in omega arith
  assign_le (p ∷ q ∷ qs) d =
      let list = separated (bytes ", ") (map (pair_bytes slots (bytes " := ")) (p ∷ q ∷ qs)) in
      let r : length list ≤ length (p ∷ q ∷ qs) * (pair_most + 2) =
      separated_le (bytes ", ") pair_most (pair_bytes slots (bytes " := ")) (p ∷ q ∷ qs) (each_imply (DeclaredPair slots) (λ (x : Pair). length (pair_bytes slots (bytes " := ") x) ≤ pair_most) (p ∷ q ∷ qs) (pair_le (bytes " := ")) d) in
      let a = length-append list (bytes " }") in
      omega arith

  rule_le : (x : Rule) → DeclaredRule slots x → length (rule_bytes (pair_bytes slots) x) ≤ rule_line_most
  unfolding rule_bytes bytes bytes_from
  rule_le x d =
      let p = pair_bytes slots (bytes " *= ") x.trigger in
      let c = condition_bytes (pair_bytes slots) x.literals in
      let s = assign_bytes (pair_bytes slots) x.assignments in
      let i = length-append p (bytes " IF " ++ (c ++ (bytes " THEN " ++ (s ++ bytes ";\n")))) in
      let j = length-append c (bytes " THEN " ++ (s ++ bytes ";\n")) in
      let k = length-append s (bytes ";\n") in
      omega (arith, i, j, k, pair_le (bytes " *= ") x.trigger d.trigger_declared, condition_le x.literals d.literals_declared, assign_le x.assignments d.assignments_declared, d.few_literals, d.few_assignments)

slot_le : (s : Slot) → WellNamed s → Valued s → length (slot_bytes s) ≤ slot_line_most
unfolding line_bytes bytes bytes_from
slot_le s n v =
    let list = separated (bytes ", ") (spellings s.values) in
    let r : length list ≤ length s.values * (name_limit + 2) =
    separated_le (bytes ", ") name_limit (λ (m : Name). m.letters) s.values (each_imply Named (λ (m : Name). length m.letters ≤ name_limit) s.values (λ m h. h.short) n.1) in
    let i = length-append s.name.letters (bytes " { " ++ (list ++ bytes " };\n")) in
    let j = length-append list (bytes " };\n") in
    omega (arith, r, i, j, n.0.short, v.1)

-- Lines of at most `m` bytes.
joined_le : {A : Type 0} (m : ℕ) (line : A → List ℕ) (xs : List A) → Each (λ (x : A). length (line x) ≤ m) xs → length (lines_joined (map line xs)) ≤ length xs * m
unfolding lines_joined
joined_le m line [] h = omega arith
joined_le m line (x ∷ xs) h = omega (arith, joined_le m line xs h.1, h.0, length-append (line x) (lines_joined (map line xs)), suc-mul (length xs) m)

slots_le : (ss : List Slot) → Each WellNamed ss → Each Valued ss → Each (λ (s : Slot). length (slot_bytes s) ≤ slot_line_most) ss
slots_le [] n v = tt
slots_le (s ∷ ss) n v = (slot_le s n.0 v.0, slots_le ss n.1 v.1)

-- THE PRINT OF AN ACCEPTED TEXT'S FILE is bounded.
pub print_bounded : (text : List ℕ) (f : File) → IsFile text f → length (print f) ≤ longest
unfolding file_bytes
print_bounded text f a =
    let n = file_formed text f a in
    let d = file_declared text f a in
    let lines = map slot_bytes f.slots in
    let rules = map (rule_bytes (pair_bytes f.slots)) f.rules in
    let h = joined_le slot_line_most slot_bytes f.slots (slots_le f.slots n d.slots_valued) in
    let k = joined_le rule_line_most (rule_bytes (pair_bytes f.slots)) f.rules
    (each_imply (DeclaredRule f.slots) (λ (x : Rule). length (rule_bytes (pair_bytes f.slots) x) ≤ rule_line_most) f.rules (rule_le f.slots n) d.each_rule) in
    let e = ap length (print_written text f a) in
    omega (arith, h, k, e, length-append (lines_joined lines) (lines_joined rules), d.few_slots, d.few_rules)
