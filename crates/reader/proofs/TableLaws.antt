-- Laws of the table that a reading gives.
-- Assumes nothing.
use Prim.Native.Nat.{ℕ, ◌+◌, ◌<◌}
use native.Mathlib.Omega.{arith}
use mathlib.Core.Path.{◌≡◌, refl, sym, ap, ◌∙◌}
use mathlib.Core.List.{List, [], ◌∷◌, ◌++◌, map}
use lib.ListN.{length, length-append, length-map, take, set}
use lib.Seq.{length-take-le}
use Rattle.laws.specs.Filled.{filled}
use Rattle.laws.proofs.Filled.{filled_is, filled_snoc}
use Rattle.laws.proofs.Lists.{map_append}
use Rattle.model.specs.Rules as model
use Rattle.table.specs.Link.{literal_of, assignment_of, rule_of}
use Rattle.laws.specs.Limits.{slot_limit, rule_limit, literal_limit, assignment_limit}
use Rattle.table.specs.Zero.{zero_literal, zero_assignment}
use Rattle.table.specs.Empty.{unused_rule, unused_slot, empty_table}
use Rattle.table.specs.declared.Literal.{Literal}
use Rattle.table.specs.declared.Assignment.{Assignment}
use Rattle.table.specs.declared.Rule.{Rule}
use Rattle.table.specs.declared.Slot as slotted
use Rattle.table.specs.declared.Table.{Table}
use Rattle.grammar.specs.Files.{Slot}
use Rattle.grammar.specs.TableFor.{slot_for, assignment_for, literal_for, rule_for, table_for}
use Rattle.reader.specs.inner.Rules.{PlainRule}

-- What goes to the model and back is what it was.
literals_back : (ls : List Literal) → map literal_for (map literal_of ls) ≡ ls
literals_back [] = refl
literals_back (l ∷ ls) = ap (λ (xs : List Literal). l ∷ xs) (literals_back ls)

assignments_back : (ps : List Assignment) → map assignment_for (map assignment_of ps) ≡ ps
assignments_back [] = refl
assignments_back (p ∷ ps) = ap (λ (xs : List Assignment). p ∷ xs) (assignments_back ps)

made : (s v t a : ℕ) (ls ls' : List Literal) (ps ps' : List Assignment) (t' a' n n' : ℕ) → ls ≡ ls' → t ≡ t' → ps ≡ ps' → a ≡ a' → n ≡ n'
    → ◌≡◌ {A = Rule} (record { slot = s; value = v; literals = ls; tested = t; assignments = ps; assigned = a; stratum = n }) (record { slot = s; value = v; literals = ls'; tested = t'; assignments = ps'; assigned = a'; stratum = n' })
made s v t a ls ls' ps ps' t' a' n n' e f g h i = rw (e, f, g, h, i)

-- A plain rule is the rule in its places.
pub rule_kept : (r : Rule) → PlainRule r → rule_for (rule_of r) ≡ r
rule_kept r P =
    let F = P.literals_filled in
    let G = P.assignments_filled in
    let u = F.used in
    let w = F.size in
    let x = G.used in
    let y = G.size in
    made r.slot r.value _ _ _ r.literals _ r.assignments r.tested r.assigned 0 r.stratum
    (ap (filled literal_limit zero_literal) (literals_back (take r.tested r.literals)) ∙ sym (filled_is literal_limit zero_literal r.literals r.tested F))
    (length-map (take r.tested r.literals) literal_of ∙ length-take-le r.tested r.literals (omega arith))
    (ap (filled assignment_limit zero_assignment) (assignments_back (take r.assigned r.assignments)) ∙ sym (filled_is assignment_limit zero_assignment r.assignments r.assigned G))
    (length-map (take r.assigned r.assignments) assignment_of ∙ length-take-le r.assigned r.assignments (omega arith))
    (sym P.no_stratum)

-- The table without slots or rules.
pub table_empty : table_for (record { slots = []; rules = [] }) ≡ empty_table
unfolding table_for filled
table_empty = refl

-- The table with one slot more, or one rule more.
tabled : (ss ss' : List slotted.Slot) (w w' : ℕ) (rs rs' : List Rule) (n n' : ℕ) → ss ≡ ss' → w ≡ w' → rs ≡ rs' → n ≡ n'
    → ◌≡◌ {A = Table} (record { slots = ss; width = w; rules = rs; count = n }) (record { slots = ss'; width = w'; rules = rs'; count = n' })
tabled ss ss' w w' rs rs' n n' e f g h = rw (e, f, g, h)

longer : {A : Type 0} (xs : List A) (x : A) → length xs + 1 ≡ length (xs ++ x ∷ [])
longer xs x = sym (length-append xs (x ∷ []))

pub table_slot : (slots : List Slot) (rules : List model.Rule) (s : Slot) → length slots < slot_limit
    → record { slots = set (filled slot_limit unused_slot (map slot_for slots)) (length slots) (slot_for s); width = length slots + 1; rules = filled rule_limit unused_rule (map rule_for rules); count = length rules }
    ≡ table_for (record { slots = slots ++ s ∷ []; rules = rules })
unfolding table_for
table_slot slots rules s h =
    let l : length (map slot_for slots) ≡ length slots = length-map slots slot_for in
    tabled _ _ _ _ _ _ _ _
    (ap (λ (k : ℕ). set (filled slot_limit unused_slot (map slot_for slots)) k (slot_for s)) (sym l) ∙ filled_snoc slot_limit unused_slot (slot_for s) (map slot_for slots) (omega arith)
    ∙ ap (filled slot_limit unused_slot) (sym (map_append slot_for slots (s ∷ []))))
    (longer slots s) refl refl

pub table_rule : (slots : List Slot) (rules : List model.Rule) (r : model.Rule) → length rules < rule_limit
    → record { slots = filled slot_limit unused_slot (map slot_for slots); width = length slots; rules = set (filled rule_limit unused_rule (map rule_for rules)) (length rules) (rule_for r); count = length rules + 1 }
    ≡ table_for (record { slots = slots; rules = rules ++ r ∷ [] })
unfolding table_for
table_rule slots rules r h =
    let l : length (map rule_for rules) ≡ length rules = length-map rules rule_for in
    tabled _ _ _ _ _ _ _ _
    refl refl
    (ap (λ (k : ℕ). set (filled rule_limit unused_rule (map rule_for rules)) k (rule_for r)) (sym l) ∙ filled_snoc rule_limit unused_rule (rule_for r) (map rule_for rules) (omega arith)
    ∙ ap (filled rule_limit unused_rule) (sym (map_append rule_for rules (r ∷ []))))
    (longer rules r)
