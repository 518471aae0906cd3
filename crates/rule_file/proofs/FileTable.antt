-- The table of a file that is read: it has the file's rules, with stratum 0 throughout, its places are full, and it is well-formed.
-- Assumes nothing.
use mathlib.Core.Path.{◌≡◌, refl, sym, ap, ap₂, ◌∙◌}
use mathlib.Core.Bool.{Bool, false}
use mathlib.Core.List.{List, [], ◌∷◌, map}
use Prim.Native.Nat.{ℕ, zero, suc, ◌≤◌, ◌<◌}
use native.Mathlib.Omega.{arith}
use lib.Dec.{T, eqb, leb, ltb, le→leb, lt→ltb}
use lib.ListN.{length, get_or, take, length-map, get_or-map}
use Rattle.laws.proofs.Lists.{any_default}
use Rattle.laws.specs.Truth.{◌∧ᵇ◌, ◌∨ᵇ◌}
use Rattle.laws.specs.Listed.{all_of, Each}
use Rattle.laws.specs.Filled.{filled}
use Rattle.laws.proofs.Truth.{and_i, or_l, or_r}
use Rattle.laws.proofs.Listed.{all_i, all_append, each_at, each_map, each_imply}
use Rattle.laws.proofs.Filled.{filled_length, filled_front, filled_each, used_at}
use Rattle.model.specs.Rules as model
use Rattle.model.specs.Orders as orders
use Rattle.table.specs.declared.Rule.{Rule}
use Rattle.table.specs.declared.Slot.{Slot}
use Rattle.laws.specs.Limits.{slot_limit, value_limit, rule_limit, literal_limit, assignment_limit}
use Rattle.table.specs.Zero.{zero_literal, zero_assignment, zero_rule, zero_slot, zero_name}
use Rattle.table.specs.inner.Shape.{LiteralShaped, AssignmentShaped, RuleShaped, SlotShaped, Shaped}
use Rattle.table.specs.Empty.{unused_rule, unused_slot}
use Rattle.table.specs.Link.{literal_of, assignment_of, rule_of, rules_of, carried_strata, value_counts}
use Rattle.names.specs.Names.{has_slot, has_value}
use Rattle.table.proofs.Link.{count_is}
use Rattle.grammar.specs.Files as files
use Rattle.grammar.specs.Files.{File, slot_counts}
use Rattle.grammar.proofs.Declared.{DeclaredPair, slot_declared, value_declared, DeclaredRule, Valued, DeclaredFile}
use Rattle.soundness.specs.Sound.{has_pair, named, well_formed, stratum_0}
use Rattle.soundness.specs.inner.Right.{rule_right}
use Rattle.soundness.proofs.WellFormed.{well_formed_i}
use Rattle.grammar.specs.TableFor.{slot_for, name_for, assignment_for, literal_for, rule_for, table_for}

-- What goes into its place and back is what it was.
literals_kept : (ls : List model.Literal) → map literal_of (map literal_for ls) ≡ ls
literals_kept [] = refl
literals_kept (l ∷ ls) = ap (λ (xs : List model.Literal). l ∷ xs) (literals_kept ls)

assignments_kept : (ps : List model.Pair) → map assignment_of (map assignment_for ps) ≡ ps
assignments_kept [] = refl
assignments_kept (p ∷ ps) = ap (λ (xs : List model.Pair). p ∷ xs) (assignments_kept ps)

-- The first places of a filled array are the images of the list.
used_of : {A B : Type 0} (n : ℕ) (unused : B) (f : A → B) (xs : List A) → take (length xs) (filled n unused (map f xs)) ≡ map f xs
used_of n unused f xs = ap (λ (k : ℕ). take k (filled n unused (map f xs))) (sym (length-map xs f)) ∙ filled_front n unused (map f xs)

-- What stands at a used place, whatever reading past the end would give.
pub image_at : {A B : Type 0} (n : ℕ) (unused d : B) (f : A → B) (xs : List A) (i : ℕ) (e : A) → i < length xs → get_or (filled n unused (map f xs)) i d ≡ f (get_or xs i e)
image_at n unused d f xs i e h =
    let l : i < length (map f xs) = omega (arith, h, length-map xs f) in
    used_at n unused (map f xs) i d l ∙ any_default (map f xs) i d (f e) l ∙ get_or-map f xs i e

literals_back : (r : model.Rule) → (rule_of (rule_for r)).literals ≡ r.literals
literals_back r = ap (map literal_of) (used_of literal_limit zero_literal literal_for r.literals) ∙ literals_kept r.literals

assignments_back : (r : model.Rule) → (rule_of (rule_for r)).assignments ≡ r.assignments
assignments_back r = ap (map assignment_of) (used_of assignment_limit zero_assignment assignment_for r.assignments) ∙ assignments_kept r.assignments

rule_back : (r : model.Rule) → rule_of (rule_for r) ≡ r
rule_back r = λ i. record { trigger = r.trigger; literals = literals_back r i; assignments = assignments_back r i }

rules_kept : (rs : List model.Rule) → map rule_of (map rule_for rs) ≡ rs
rules_kept [] = refl
rules_kept (r ∷ rs) = ap₂ (λ (x : model.Rule) (xs : List model.Rule). x ∷ xs) (rule_back r) (rules_kept rs)

-- The rules of a file's table are the file's rules.
pub file_rules : (f : File) → rules_of (table_for f) ≡ f.rules
unfolding rules_of table_for
file_rules f = ap (map rule_of) (used_of rule_limit unused_rule rule_for f.rules) ∙ rules_kept f.rules

-- They have stratum 0 throughout.
strata_0 : (rs : List model.Rule) → T (all_of (λ s. eqb s 0) (map (λ (r : Rule). r.stratum) (map rule_for rs)))
unfolding all_of
strata_0 [] = tt
strata_0 (r ∷ rs) = and_i _ _ tt (strata_0 rs)

pub file_stratum_0 : (f : File) → T (stratum_0 (table_for f))
unfolding stratum_0 carried_strata table_for
file_stratum_0 f = rw (used_of rule_limit unused_rule rule_for f.rules) (strata_0 f.rules)

-- Its slots have the file's values.
counts_kept : (ss : List files.Slot) → map (λ (s : Slot). s.count) (map slot_for ss) ≡ slot_counts ss
counts_kept [] = refl
counts_kept (s ∷ ss) = ap (λ (xs : List ℕ). length s.values ∷ xs) (counts_kept ss)

pub file_counts : (f : File) → value_counts (table_for f) ≡ slot_counts f.slots
unfolding value_counts table_for
file_counts f = ap (map (λ (s : Slot). s.count)) (used_of slot_limit unused_slot slot_for f.slots) ∙ counts_kept f.slots

-- Both numbers of a pair are bytes.
abbrev Small : model.Pair → Type 0
Small p = (p.slot < 256) × (p.value < 256)

-- What reading past the end of a condition or of assignments gives.
abbrev no_test : model.Literal
no_test = record { becomes = false; negated = false; pair = record { slot = 0; value = 0 } }

abbrev no_pair : model.Pair
no_pair = record { slot = 0; value = 0 }

-- A rule in its places has their shape.
rule_for_shaped : (r : model.Rule) → length r.literals ≤ literal_limit → length r.assignments ≤ assignment_limit → Small r.trigger
    → Each (λ (l : model.Literal). Small l.pair) r.literals → Each Small r.assignments → RuleShaped (rule_for r)
rule_for_shaped r few-l few-a t ls ps =
    record {
      slot_byte = t.0;
      value_byte = t.1;
      literal_places = filled_length literal_limit zero_literal (map literal_for r.literals) (omega (arith, few-l, sized));
      each_literal = filled_each LiteralShaped literal_limit zero_literal (map literal_for r.literals) zero_literal (omega (arith, few-l, sized)) (record { slot_byte = omega arith; value_byte = omega arith }) literal;
      assignment_places = filled_length assignment_limit zero_assignment (map assignment_for r.assignments) (omega (arith, few-a, counted));
      each_assignment = filled_each AssignmentShaped assignment_limit zero_assignment (map assignment_for r.assignments) zero_assignment (omega (arith, few-a, counted)) (record { slot_byte = omega arith; value_byte = omega arith }) assignment;
      stratum_small = omega arith;
    }
  where
    sized : length (map literal_for r.literals) ≡ length r.literals
    sized = length-map r.literals literal_for

    counted : length (map assignment_for r.assignments) ≡ length r.assignments
    counted = length-map r.assignments assignment_for

    literal : (i : ℕ) → i < length (map literal_for r.literals) → LiteralShaped (get_or (map literal_for r.literals) i zero_literal)
    literal i h =
        let s = each_at (λ (l : model.Literal). Small l.pair) r.literals i no_test ls (omega (arith, h, sized)) in
        rw (get_or-map literal_for r.literals i no_test) (record { slot_byte = s.0; value_byte = s.1 })

    assignment : (i : ℕ) → i < length (map assignment_for r.assignments) → AssignmentShaped (get_or (map assignment_for r.assignments) i zero_assignment)
    assignment i h =
        let s = each_at Small r.assignments i no_pair ps (omega (arith, h, counted)) in
        rw (get_or-map assignment_for r.assignments i no_pair) (record { slot_byte = s.0; value_byte = s.1 })

-- So has the place of a rule that is not used.
unused_shaped : RuleShaped unused_rule
unfolding filled orders.no_rule
unused_shaped = rule_for_shaped orders.no_rule (omega arith) (omega arith) (omega arith, omega arith) tt tt

module _ (f : File) (D : DeclaredFile f) where
  slot_some : (i : ℕ) → i < length f.slots → (1 ≤ length (get_or f.slots i files.no_slot).values) × (length (get_or f.slots i files.no_slot).values ≤ value_limit)
  slot_some i h = each_at Valued f.slots i files.no_slot D.slots_valued h

  -- A declared pair keeps to the limits.
  within : (p : model.Pair) → DeclaredPair f.slots p → (p.slot < slot_limit) × (p.value ≤ value_limit)
  within p n = let k = slot_declared f.slots p n in (omega (arith, k, D.few_slots), omega (arith, value_declared f.slots p n, (slot_some p.slot k).1))

  small : (p : model.Pair) → DeclaredPair f.slots p → Small p
  small p n = (omega (arith, (within p n).0), omega (arith, (within p n).1))

  -- The table has it.
  abbrev own : model.Pair → Bool
  own p = has_pair (length f.slots) (slot_counts f.slots) p

  -- A value within the limit and the slot's count is NONE or one of the slot's.
  value_own : (value count : ℕ) → value ≤ value_limit → value ≤ count → T (eqb value 0 ∨ᵇ has_value count value)
  unfolding has_value
  value_own zero count h l = or_l (eqb 0 0) _ tt
  value_own (suc k) count h l = or_r (eqb (suc k) 0) _ (and_i (leb 1 (suc k) ∧ᵇ leb (suc k) value_limit) _ (and_i (leb 1 (suc k)) _ (le→leb 1 (suc k) (omega arith)) (le→leb (suc k) value_limit h)) (le→leb (suc k) count l))

  declared_own : (p : model.Pair) → DeclaredPair f.slots p → T (own p)
  unfolding has_pair has_slot
  declared_own p n =
      and_i (ltb p.slot slot_limit ∧ᵇ ltb p.slot (length f.slots)) _
      (and_i (ltb p.slot slot_limit) _ (lt→ltb p.slot slot_limit (within p n).0) (lt→ltb p.slot (length f.slots) (slot_declared f.slots p n)))
      (rw (get_or-map (λ (z : files.Slot). length z.values) f.slots p.slot files.no_slot) (value_own p.value _ (within p n).1 (value_declared f.slots p n)))

  all_own : (ps : List model.Pair) → Each (DeclaredPair f.slots) ps → T (all_of own ps)
  all_own ps h = all_i own ps no_pair (λ i l. declared_own (get_or ps i no_pair) (each_at (DeclaredPair f.slots) ps i no_pair h l))

  rule_declared : (i : ℕ) → i < length f.rules → DeclaredRule f.slots (get_or f.rules i orders.no_rule)
  rule_declared i h = each_at (DeclaredRule f.slots) f.rules i orders.no_rule D.each_rule h

  declared_shaped : (i : ℕ) → i < length (map rule_for f.rules) → RuleShaped (get_or (map rule_for f.rules) i zero_rule)
  declared_shaped i h =
      let r : model.Rule = get_or f.rules i orders.no_rule in
      let d = rule_declared i (omega (arith, h, length-map f.rules rule_for)) in
      rw (any_default (map rule_for f.rules) i zero_rule (rule_for orders.no_rule) h, get_or-map rule_for f.rules i orders.no_rule)
      (rule_for_shaped r d.few_literals d.few_assignments (small r.trigger d.trigger_declared)
      (each_imply (λ (l : model.Literal). DeclaredPair f.slots l.pair) (λ (l : model.Literal). Small l.pair) r.literals (λ l. small l.pair) d.literals_declared) (each_imply (DeclaredPair f.slots) Small r.assignments small d.assignments_declared))

  slot_shaped : (i : ℕ) → i < length (map slot_for f.slots) → SlotShaped (get_or (map slot_for f.slots) i zero_slot)
  slot_shaped i h =
      let k : i < length f.slots = omega (arith, h, length-map f.slots slot_for) in
      rw (any_default (map slot_for f.slots) i zero_slot (slot_for files.no_slot) h, get_or-map slot_for f.slots i files.no_slot)
      (record { value_places = filled_length value_limit zero_name (map name_for (get_or f.slots i files.no_slot).values) (omega (arith, (slot_some i k).1, length-map (get_or f.slots i files.no_slot).values name_for)) })

  -- The table has all places for rules.
  pub file_places : length (table_for f).rules ≡ rule_limit
  unfolding table_for
  file_places = filled_length rule_limit unused_rule (map rule_for f.rules) (omega (arith, length-map f.rules rule_for, D.few_rules))

  -- The table's places are full.
  pub file_shaped : Shaped (table_for f)
  unfolding table_for
  file_shaped =
      let s = length-map f.slots slot_for in
      let r = length-map f.rules rule_for in
      record {
        slot_places = filled_length slot_limit unused_slot (map slot_for f.slots) (omega (arith, s, D.few_slots));
        each_slot = filled_each SlotShaped slot_limit unused_slot (map slot_for f.slots) zero_slot (omega (arith, s, D.few_slots)) (record { value_places = refl }) slot_shaped;
        rule_places = λ h. rw file_places h;
        each_rule = λ i h. filled_each RuleShaped rule_limit unused_rule (map rule_for f.rules) zero_rule (omega (arith, r, D.few_rules)) unused_shaped declared_shaped i (rw file_places at h);
      }

  -- The rule at a place used, and the number of values of a slot.
  rule_here : (i : ℕ) → i < length f.rules → get_or (table_for f).rules i zero_rule ≡ rule_for (get_or f.rules i orders.no_rule)
  unfolding table_for
  rule_here i h = image_at rule_limit unused_rule zero_rule rule_for f.rules i orders.no_rule h

  same_width : (table_for f).width ≡ length f.slots
  unfolding table_for
  same_width = refl

  same_count : (table_for f).count ≡ length f.rules
  unfolding table_for
  same_count = refl

  values_here : (i : ℕ) → i < length f.slots → (get_or (table_for f).slots i zero_slot).count ≡ length (get_or f.slots i files.no_slot).values
  values_here i h =
      sym (count_is (table_for f) i (omega (arith, h, same_width))) ∙ ap (λ (ns : List ℕ). get_or ns i 0) (file_counts f)
      ∙ get_or-map (λ (s : files.Slot). length s.values) f.slots i files.no_slot

  -- A declared rule is right in its places.
  right_here : (r : model.Rule) → DeclaredRule f.slots r → T (rule_right (length f.slots) (slot_counts f.slots) (rule_for r))
  unfolding rule_right named all_of
  right_here r d =
      and_i (leb (length r.literals) literal_limit ∧ᵇ leb (length r.assignments) assignment_limit ∧ᵇ all_of own (named (rule_for r))) _
      (and_i (leb (length r.literals) literal_limit ∧ᵇ leb (length r.assignments) assignment_limit) _
      (and_i (leb (length r.literals) literal_limit) _ (le→leb (length r.literals) literal_limit d.few_literals) (le→leb (length r.assignments) assignment_limit d.few_assignments))
      (and_i (own r.trigger) _ (declared_own r.trigger d.trigger_declared)
      (rw (all_append own (map (λ (l : model.Literal). l.pair) (rule_of (rule_for r)).literals) (rule_of (rule_for r)).assignments, literals_back r, assignments_back r)
      (and_i _ _ (all_own (map (λ (l : model.Literal). l.pair) r.literals) (each_map (λ (l : model.Literal). DeclaredPair f.slots l.pair) (DeclaredPair f.slots) (λ (l : model.Literal). l.pair) r.literals (λ l n. n) d.literals_declared)) (all_own r.assignments d.assignments_declared)))))
      (rw (assignments_back r) d.once)

  -- The table is well-formed.
  pub file_well_formed : T (well_formed (table_for f))
  file_well_formed = well_formed_i (table_for f) (record {
    few_slots = omega (arith, D.few_slots, same_width);
    some_value = λ i h. let k : i < length f.slots = omega (arith, h, same_width) in rw (values_here i k) (slot_some i k).0;
    few_values = λ i h. let k : i < length f.slots = omega (arith, h, same_width) in rw (values_here i k) (slot_some i k).1;
    few_rules = omega (arith, D.few_rules, same_count);
    each_right = λ i h. let k : i < length f.rules = omega (arith, h, same_count) in rw (file_counts f, same_width, rule_here i k) (right_here (get_or f.rules i orders.no_rule) (rule_declared i k));
  })
