-- A file that a tree means keeps to the limits, each of its slots has values, and its rules name only what it declares.
-- Assumes nothing.
use Prim.Native.Nat.{ℕ, suc, ◌≤◌, ◌<◌}
use native.Mathlib.Omega.{arith}
use mathlib.Core.Path.{◌≡◌, refl, sym, ap, subst, ◌∙◌}
use mathlib.Core.Bool.{Bool, true, false}
use mathlib.Core.List.{List, [], ◌∷◌, ◌++◌, append-nil}
use lib.Dec.{T, eqb}
use lib.ListN.{length, get_or, length-append, length-map, get_or-map}
use borrow.Author.Tests.{eqb-false, ne_eqb}
use Rattle.laws.specs.Truth.{◌∨ᵇ◌, notᵇ}
use Rattle.laws.specs.Listed.{Each}
use Rattle.laws.proofs.Truth.{and_i, and_l, and_r}
use Rattle.laws.proofs.Listed.{each_last}
use Rattle.text.specs.Tokens.{Name, name, place}
use Rattle.text.specs.Cut.{moved}
use Rattle.text.proofs.Cut.{place_le}
use Rattle.text.proofs.Covering.{place_spelled}
use Rattle.model.specs.Rules.{Pair, Literal, Rule, assigns, each_once}
use Rattle.laws.specs.Limits.{slot_limit, value_limit, rule_limit, literal_limit, assignment_limit}
use Rattle.grammar.specs.Files.{Slot, File, spellings, place_in, slot_names, no_slot, values_of, slot_named, slotval_of, value_written}
use Rattle.grammar.specs.Grammar.{RuleTree, SlotvalTree, ConditionTree, AssignTree, AssignmentListTree, AssignmentTree, ValueListTree, LineTree, FileTree, spell_slotval}
use Rattle.grammar.specs.Meaning.{MeansSlotval, means_name, means_none, Names, MeansCondition, means_and, means_one, means_true, MeansAssignment, means_assignment, MeansAssignments, means_first, means_comma, MeansAssign, means_alone, means_braces, means_trigger, means_rule, MeansRules, no_rules, more_rules, MeansValues, means_value, means_values, means_line, MeansLines, no_lines, more_lines, Means, IsFile}

-- A pair is declared: its slot's name and its value as it is written mean it.
abbrev pub DeclaredPair : List Slot → Pair → Type 0
DeclaredPair slots p = Names slots (slot_named slots p) (value_written slots p) p

-- A name that is found has the letters of the declared name.
found_letters : (names : List Name) (n : Name) (k : ℕ) → place_in names n ≡ suc k → n.letters ≡ (get_or names k no_slot.name).letters
found_letters names n k e =
    place_spelled n.letters (spellings names) [] k e
    ∙ ap (λ (ms : List (List ℕ)). get_or ms k []) (append-nil (spellings names))
    ∙ get_or-map (λ (m : Name). m.letters) names k no_slot.name

pub slot_letters : (slots : List Slot) (s : Name) (v : SlotvalTree) (p : Pair) → Names slots s v p → s.letters ≡ (slot_named slots p).letters
slot_letters slots s v p n = found_letters (slot_names slots) s p.slot n.slot_is ∙ ap (λ (m : Name). m.letters) (get_or-map (λ (x : Slot). x.name) slots p.slot no_slot)

-- A value that means a number is written as that number is, but for the place of its name.
slotval_letters : (names : List Name) (v : SlotvalTree) (k : ℕ) → MeansSlotval names v k → moved (λ i. 0) (spell_slotval v) ≡ moved (λ i. 0) (spell_slotval (slotval_of names k))
slotval_letters names v k (means_name {n = n} {k = i} e) = ap (λ (l : List ℕ). name (record { start = 0; letters = l })) (found_letters names n i e)
slotval_letters names v k means_none = refl

pub value_letters : (slots : List Slot) (s : Name) (v : SlotvalTree) (p : Pair) → Names slots s v p → moved (λ i. 0) (spell_slotval v) ≡ moved (λ i. 0) (spell_slotval (value_written slots p))
value_letters slots s v p n = slotval_letters (values_of slots p.slot) v p.value n.value_is

-- As it is written, a number means itself.
slotval_written : (names : List Name) (v : SlotvalTree) (k : ℕ) → MeansSlotval names v k → MeansSlotval names (slotval_of names k) k
slotval_written names v k (means_name {n = n} {k = i} e) = means_name (ap (λ (l : List ℕ). place l (spellings names)) (sym (found_letters names n i e)) ∙ e)
slotval_written names v k means_none = means_none

named_declared : (slots : List Slot) (s : Name) (v : SlotvalTree) (p : Pair) → Names slots s v p → DeclaredPair slots p
named_declared slots s v p n = record {
  slot_is = ap (λ (l : List ℕ). place l (spellings (slot_names slots))) (sym (slot_letters slots s v p n)) ∙ n.slot_is;
  value_is = slotval_written (values_of slots p.slot) v p.value n.value_is;
}

-- A declared pair is of a slot that is there, and of a value that is there or NONE.
pub slot_declared : (slots : List Slot) (p : Pair) → DeclaredPair slots p → p.slot < length slots
slot_declared slots p n =
    let l : length (spellings (slot_names slots)) ≡ length slots = rw (length-map, length-map) in
    omega (arith, l, n.slot_is, place_le (slot_named slots p).letters (spellings (slot_names slots)))

pub value_declared : (slots : List Slot) (p : Pair) → DeclaredPair slots p → p.value ≤ length (values_of slots p.slot)
value_declared slots p n = slotval_le (values_of slots p.slot) (value_written slots p) p.value n.value_is
  where
    slotval_le : (names : List Name) (v : SlotvalTree) (k : ℕ) → MeansSlotval names v k → k ≤ length names
    slotval_le names v k (means_name {n = m} {k = i} e) =
        let l : length (spellings names) ≡ length names = rw length-map in
        omega (arith, l, e, place_le m.letters (spellings names))
    slotval_le names v k means_none = omega arith

-- Neither of two tests holds.
neither : (a b : Bool) → (a ∨ᵇ b) ≡ false → (a ≡ false) × (b ≡ false)
unfolding ◌∨ᵇ◌
neither true b e = absurd (subst T e tt)
neither false b e = (refl, e)

not-true : (b : Bool) → T (notᵇ b) → b ≡ false
unfolding notᵇ
not-true true t = absurd t
not-true false t = refl

turned_round : (m n : ℕ) → eqb m n ≡ false → eqb n m ≡ false
turned_round m n e = ne_eqb n m (λ same. eqb-false m n e (sym same))

-- One assignment more, to another slot.
assigns_more : (ps : List Pair) (p : Pair) (s : ℕ) → assigns ps s ≡ false → eqb p.slot s ≡ false → assigns (ps ++ p ∷ []) s ≡ false
unfolding assigns ◌∨ᵇ◌
assigns_more [] p s e n = rw n
assigns_more (q ∷ ps) p s e n = let w = neither (eqb q.slot s) (assigns ps s) e in rw w.0 (assigns_more ps p s w.1 n)

once_more : (ps : List Pair) (p : Pair) → T (each_once ps) → assigns ps p.slot ≡ false → T (each_once (ps ++ p ∷ []))
unfolding each_once assigns notᵇ
once_more [] p t e = and_i true true tt tt
once_more (q ∷ ps) p t e =
    let w = neither (eqb q.slot p.slot) (assigns ps p.slot) e in
    let none = not-true (assigns ps q.slot) (and_l (notᵇ (assigns ps q.slot)) _ t) in
    and_i (notᵇ (assigns (ps ++ p ∷ []) q.slot)) _ (rw (assigns_more ps p q.slot none (turned_round q.slot p.slot w.0)) tt) (once_more ps p (and_r (notᵇ (assigns ps q.slot)) _ t) w.1)

-- Where no slot is assigned twice, an assignment is to a slot that none before it assigns.
pub once_before : (os ps : List Pair) (p : Pair) → T (each_once (os ++ p ∷ ps)) → assigns os p.slot ≡ false
unfolding each_once assigns ◌∨ᵇ◌
once_before [] ps p t = refl
once_before (q ∷ os) ps p t =
    let none = not-true (assigns (os ++ p ∷ ps) q.slot) (and_l (notᵇ (assigns (os ++ p ∷ ps) q.slot)) _ t) in
    rw (turned_round p.slot q.slot (apart os none)) (once_before os ps p (and_r (notᵇ (assigns (os ++ p ∷ ps) q.slot)) _ t))
  where
    apart : (rs : List Pair) → assigns (rs ++ p ∷ ps) q.slot ≡ false → eqb p.slot q.slot ≡ false
    apart [] e = (neither (eqb p.slot q.slot) _ e).0
    apart (r ∷ rs) e = apart rs (neither (eqb r.slot q.slot) _ e).1

-- A rule keeps to the limits, its pairs are declared, and it assigns some slots, none twice.
pub record DeclaredRule (slots : List Slot) (r : Rule) : Type 0 where
  pub trigger_declared : DeclaredPair slots r.trigger
  pub literals_declared : Each (λ (m : Literal). DeclaredPair slots m.pair) r.literals
  pub few_literals : length r.literals ≤ literal_limit
  pub assignments_declared : Each (DeclaredPair slots) r.assignments
  pub once : T (each_once r.assignments)
  pub some : 0 < length r.assignments
  pub few_assignments : length r.assignments ≤ assignment_limit

module _ (slots : List Slot) where
  condition_declared : (c : ConditionTree) (ms : List Literal) → MeansCondition slots c ms → Each (λ (m : Literal). DeclaredPair slots m.pair) ms
  condition_declared c ms (means_and {c = d} {ms = ls} {m = m} g h) = each_last (λ (x : Literal). DeclaredPair slots x.pair) ls m (condition_declared d ls g) (named_declared slots _ _ m.pair h.names)
  condition_declared c ms (means_one {m = m} h) = (named_declared slots _ _ m.pair h.names, tt)
  condition_declared c ms means_true = tt

  -- What is said of a rule's assignments.
  abbrev Assigned : List Pair → Type 0
  Assigned ps = Each (DeclaredPair slots) ps × T (each_once ps) × (0 < length ps)

  assignment_declared : (a : AssignmentTree) (p : Pair) → MeansAssignment slots a p → DeclaredPair slots p
  assignment_declared a p (means_assignment {s = s} {v = v} n) = named_declared slots s v p n

  one_assigned : (a : AssignmentTree) (p : Pair) → MeansAssignment slots a p → Assigned (p ∷ [])
  unfolding each_once assigns notᵇ
  one_assigned a p g = ((assignment_declared a p g, tt), and_i true true tt tt, omega arith)

  assignments_declared : (l : AssignmentListTree) (ps : List Pair) → MeansAssignments slots l ps → Assigned ps
  assignments_declared l ps (means_first {a = a} {p = p} g) = one_assigned a p g
  assignments_declared l ps (means_comma {l = k} {ps = os} {a = a} {p = p} g h e) =
      let w = assignments_declared k os g in
      (each_last (DeclaredPair slots) os p w.0 (assignment_declared a p h), once_more os p w.1 e, omega (arith, length-append os (p ∷ [])))

  assign_declared : (a : AssignTree) (ps : List Pair) → MeansAssign slots a ps → Assigned ps
  assign_declared a ps (means_alone {a = b} {p = p} g) = one_assigned b p g
  assign_declared a ps (means_braces {l = l} g) = assignments_declared l ps g

  rules_declared : (ts : List RuleTree) (rs : List Rule) → MeansRules slots ts rs → Each (DeclaredRule slots) rs
  rules_declared ts rs no_rules = tt
  rules_declared ts rs (more_rules {r = r} {ts = us} {rs = qs} (means_rule {c = c} {a = a} (means_trigger {s = s} {v = v} n) m few g most) gs) =
      let w = assign_declared a r.assignments g in (
        record {
          trigger_declared = named_declared slots s v r.trigger n;
          literals_declared = condition_declared c r.literals m;
          few_literals = few;
          assignments_declared = w.0;
          once = w.1;
          some = w.2;
          few_assignments = most;
        },
        rules_declared us qs gs,
      )

-- A slot has a value, and values within the limit.
abbrev pub Valued : Slot → Type 0
Valued s = (0 < length s.values) × (length s.values ≤ value_limit)

values_some : (t : ValueListTree) (ns : List Name) → MeansValues t ns → 0 < length ns
values_some t ns means_value = omega arith
values_some t ns (means_values {ns = ms} {n = n} h e) = omega (arith, length-append ms (n ∷ []))

lines_valued : (before : List Slot) (ts : List LineTree) (slots : List Slot) → MeansLines before ts slots → Each Valued before → Each Valued slots
lines_valued before ts slots no_lines h = h
lines_valued before ts slots (more_lines {s = s} {ts = us} (means_line {vs = vs} d g few) ms) h = lines_valued (before ++ s ∷ []) us slots ms (each_last Valued before s h (values_some vs s.values g, few))

-- A file keeps to the limits, each slot has values, and each rule is declared.
pub record DeclaredFile (f : File) : Type 0 where
  pub few_slots : length f.slots ≤ slot_limit
  pub slots_valued : Each Valued f.slots
  pub few_rules : length f.rules ≤ rule_limit
  pub each_rule : Each (DeclaredRule f.slots) f.rules

-- A FILE THAT A TREE MEANS does.
pub means_declared : (t : FileTree) (f : File) → Means t f → DeclaredFile f
means_declared t f m =
    record { few_slots = m.few_slots; slots_valued = lines_valued [] t.lines f.slots m.lines_are tt; few_rules = m.few_rules; each_rule = rules_declared f.slots t.rules f.rules m.rules_are }

pub file_declared : (text : List ℕ) (f : File) → IsFile text f → DeclaredFile f
file_declared text f a = means_declared a.tree f a.means
