-- A reading that is refused with a number from 14 on stands at a token that has this fault, by what stands before it.
-- Assumes nothing.
use Prim.Native.Nat.{ℕ, zero, suc, ◌+◌, ◌≤◌, ◌<◌}
use native.Mathlib.Omega.{arith}
use mathlib.Core.Path.{◌≡◌, refl, sym, ap, subst, ◌∙◌}
use mathlib.Core.Bool.{Bool, true, false, not, cond}
use mathlib.Core.List.{List, [], ◌∷◌, ◌++◌, append_assoc}
use mathlib.Core.Logic.{◌⊎◌, inl, inr, ⊎_elim}
use lib.Dec.{eqb}
use borrow.Author.Tests.{eqb-true}
use lib.ListN.{length, length-append}
use Rattle.text.specs.Tokens.{Name, Token, word, name, long, bad, SLOT, WHEN, IF, THEN, AND, NOT, TRUE, NONE, OPEN, CLOSE, COMMA, SEMICOLON, BECOMES, HAS, GETS}
use Rattle.model.specs.Rules.{Pair, Literal, Rule, assigns}
use Rattle.model.specs.Result.{pair}
use Rattle.laws.specs.Limits.{slot_limit, value_limit, rule_limit, literal_limit, assignment_limit}
use Rattle.grammar.specs.Files.{Slot, place_in, slot_names, values_of}
use Rattle.grammar.specs.Grammar.{trigger, spell_slotval, spell_literal, spell_condition, spell_assignment, spell_rule, spell_line}
use Rattle.grammar.specs.Meaning.{means_trigger}
use Rattle.grammar.specs.Reading.{Part, took, stop, refused, ◌then◌, expects, fork, a_name, new, new_name, known_slot, known_value, unassigned, read_slot, read_place, read_value, read_target, read_list, plain_literal, read_literal, no_literal, read_literals, read_condition, read_assignment, no_assignment, read_assignments, read_assign, read_rule, no_value, read_values, read_line, read_rules, read_lines, read_tokens}
use Rattle.grammar.specs.Beginnings.{Position, next_line, fresh_slot, fresh_value, next_rule, next_trigger, next_condition, next_literal, literal_slot, next_assign, next_listed, assigned_slot, next_value, Before, start, behind_line, behind_slot, behind_open, behind_value, lines_over, behind_rule, behind_when, behind_trigger_slot, behind_if, no_true_first, behind_true, behind_literal, literal_first, behind_not, behind_becomes, behind_has, behind_then, no_brace, behind_brace, behind_assignment, in_braces, behind_gets, FaultAt, slot_twice, value_twice, too_many_slots, too_many_values, too_many_rules, too_many_literals, too_many_nots, too_many_assignments, no_trigger_slot, no_tested_slot, no_assigned_slot, no_such_value, slot_assigned_twice}
use Rattle.grammar.proofs.Steps.{never, put, expects_back, slot_back, value_back, target_back, new_name_back, if_next_back}
use Rattle.grammar.proofs.Backward.{literal_back, literal_meaning, condition_back, assignment_back, room_for_one, rule_back, line_back}
use Rattle.grammar.proofs.Stopping.{then_stops}
use Rattle.grammar.proofs.Parts.{literal_append}
use Rattle.grammar.proofs.Statements.{rules_end}
use Rattle.grammar.proofs.Stops.{condition_append, assignment_append, rule_append, line_append}
use Rattle.grammar.proofs.Halting.{not_refused, refused_same, go_on_stops, rules_again, rules_last}

-- One of the tokens has the fault `k` by what stands before it.
pub record Found (k : ℕ) (all : List Token) : Type 0 where
  pub before : List Token
  pub token : Token
  pub later : List Token
  pub position : Position
  pub whole : all ≡ before ++ token ∷ later
  pub begun : Before before position
  pub fault : FaultAt k position token

-- It is the token after `mid`, with the number `j` that the reading gives there.
here : (j k : ℕ) (all mid ts : List Token) (t : Token) (later : List Token) (P : Position) → all ≡ mid ++ ts → ts ≡ t ∷ later → Before mid P → FaultAt j P t → j ≡ k → Found k all
here j k all mid ts t later P w q b f e =
    record { before = mid; token = t; later = later; position = P; whole = w ∙ ap (λ (l : List Token). mid ++ l) q; begun = b; fault = subst (λ (i : ℕ). FaultAt i P t) e f }

-- More tokens before.
on : (all mid xs rest ts : List Token) → all ≡ mid ++ ts → ts ≡ xs ++ rest → all ≡ mid ++ xs ++ rest
on all mid xs rest ts w q = w ∙ ap (λ (l : List Token). mid ++ l) q ∙ sym (append_assoc mid xs rest)

-- The steps of a reading that stops with a number from 14 on.
stop_same : {A : Type 0} (j k : ℕ) → ◌≡◌ {A = Part A} (stop j) (stop k) → j ≡ k
stop_same j k e = cc

low : {A C : Type 0} (j k : ℕ) → 14 ≤ k → j ≤ 13 → ◌≡◌ {A = Part A} (stop j) (stop k) → C
low j k lo h e = absurd (let z = stop_same j k e in omega arith)

not_took : {A C : Type 0} (k : ℕ) (a : A) (ts : List Token) → took a ts ≡ stop k → C
not_took k a ts e = never k a ts (sym e)

by_part : {A B C : Type 0} (m : Part A) (f : A → List Token → Part B) (k : ℕ) → (m then f) ≡ stop k → (m ≡ stop k → C) → ((a : A) (ts : List Token) → m ≡ took a ts → f a ts ≡ stop k → C) → C
by_part m f k e g h = ⊎_elim g (λ x. h x.0 x.1 x.2 x.3) (then_stops m f k e)

expects_low : {C : Type 0} (w : ℕ) (ts : List Token) (k : ℕ) → 14 ≤ k → expects w ts ≡ stop k → C
unfolding expects
expects_low w [] k lo e = low 12 k lo (omega arith) e
expects_low {C} w (word v ∷ ts) k lo e = go (eqb v w) e
  where
    go : (t : Bool) → cond {A = Part (Unit {0})} t (took tt ts) (stop 12) ≡ stop k → C
    go true x = not_took k tt ts x
    go false x = low 12 k lo (omega arith) x
expects_low w (name n ∷ ts) k lo e = low 12 k lo (omega arith) e
expects_low w (long ∷ ts) k lo e = low 12 k lo (omega arith) e
expects_low w (bad ∷ ts) k lo e = low 11 k lo (omega arith) e

by_word : {B C : Type 0} (w : ℕ) (ts : List Token) (f : Unit {0} → List Token → Part B) (k : ℕ) → 14 ≤ k → (expects w ts then f) ≡ stop k → ((rest : List Token) → ts ≡ word w ∷ rest → f tt rest ≡ stop k → C) → C
by_word w ts f k lo e h = by_part (expects w ts) f k e (expects_low w ts k lo) (λ u rest x y. h rest (expects_back w ts u rest x) y)

name_stop : {B : Type 0} (ts : List Token) (f : Name → List Token → Part B) (k : ℕ) → 14 ≤ k → (a_name ts then f) ≡ stop k → (n : Name) × (rest : List Token) × (ts ≡ name n ∷ rest) × (f n rest ≡ stop k)
unfolding a_name ◌then◌
name_stop [] f k lo e = low 12 k lo (omega arith) e
name_stop (word v ∷ ts) f k lo e = low 12 k lo (omega arith) e
name_stop (name n ∷ ts) f k lo e = (n, ts, refl, e)
name_stop (long ∷ ts) f k lo e = low 13 k lo (omega arith) e
name_stop (bad ∷ ts) f k lo e = low 11 k lo (omega arith) e

fork_stop : {B : Type 0} (w v : ℕ) (f g : List Token → Part B) (ts : List Token) (k : ℕ) → 14 ≤ k → fork w v f g ts ≡ stop k
    → ((more : List Token) × (ts ≡ word w ∷ more) × (f more ≡ stop k)) ⊎ ((more : List Token) × (ts ≡ word v ∷ more) × (g more ≡ stop k))
unfolding fork
fork_stop w v f g [] k lo e = low 12 k lo (omega arith) e
fork_stop {B} w v f g (word u ∷ ts) k lo e = go (eqb u w) (eqb u v) refl refl e
  where
    go : (a b : Bool) → eqb u w ≡ a → eqb u v ≡ b → cond {A = List Token → Part B} a f (cond b g (λ rest. stop 12)) ts ≡ stop k
        → ((more : List Token) × (word u ∷ ts ≡ word w ∷ more) × (f more ≡ stop k)) ⊎ ((more : List Token) × (word u ∷ ts ≡ word v ∷ more) × (g more ≡ stop k))
    go true b p q x = inl (ts, ap (λ (i : ℕ). word i ∷ ts) (eqb-true u w p), x)
    go false true p q x = inr (ts, ap (λ (i : ℕ). word i ∷ ts) (eqb-true u v q), x)
    go false false p q x = low 12 k lo (omega arith) x
fork_stop w v f g (name n ∷ ts) k lo e = low 12 k lo (omega arith) e
fork_stop w v f g (long ∷ ts) k lo e = low 12 k lo (omega arith) e
fork_stop w v f g (bad ∷ ts) k lo e = low 11 k lo (omega arith) e

new_again : (i : ℕ) (n : Name) (ts : List Token) (k : ℕ) → new i n ts ≡ stop k → (1 ≤ i) × (14 ≡ k)
unfolding new
new_again zero n ts k e = not_took k n ts e
new_again (suc i) n ts k e = (omega arith, stop_same 14 k e)

slot_unknown : (i : ℕ) (ts : List Token) (k : ℕ) → known_slot i ts ≡ stop k → (i ≡ 0) × (16 ≡ k)
unfolding known_slot
slot_unknown zero ts k e = (refl, stop_same 16 k e)
slot_unknown (suc i) ts k e = not_took k i ts e

value_unknown : (i : ℕ) (ts : List Token) (k : ℕ) → known_value i ts ≡ stop k → (i ≡ 0) × (16 ≡ k)
unfolding known_value
value_unknown zero ts k e = (refl, stop_same 16 k e)
value_unknown (suc i) ts k e = not_took k (suc i) ts e

assigned_again : (t : Bool) (s : ℕ) (ts : List Token) (k : ℕ) → unassigned t s ts ≡ stop k → (t ≡ true) × (17 ≡ k)
unfolding unassigned
assigned_again true s ts k e = (refl, stop_same 17 k e)
assigned_again false s ts k e = not_took k s ts e

-- Names.
module _ (k : ℕ) (lo : 14 ≤ k) (all mid ts : List Token) (w : all ≡ mid ++ ts) where
  find_new : (ns : List Name) (P : Position) → ((n : Name) → 1 ≤ place_in ns n → FaultAt 14 P (name n)) → Before mid P → new_name ns ts ≡ stop k → Found k all
  unfolding new_name
  find_new ns P f b e =
      let x = name_stop ts _ k lo e in
      let y = new_again (place_in ns x.0) x.0 x.1 k x.3 in
      here 14 k all mid ts (name x.0) x.1 P w x.2 b (f x.0 y.0) y.1

  find_slot : (slots : List Slot) (P : Position) → ((n : Name) → place_in (slot_names slots) n ≡ 0 → FaultAt 16 P (name n)) → Before mid P → read_slot slots ts ≡ stop k → Found k all
  unfolding read_slot
  find_slot slots P f b e =
      let x = name_stop ts _ k lo e in
      let y = slot_unknown (place_in (slot_names slots) x.0) x.1 k x.3 in
      here 16 k all mid ts (name x.0) x.1 P w x.2 b (f x.0 y.0) y.1

  find_value : (slots : List Slot) (s : ℕ) → Before mid (next_value slots s) → read_value slots s ts ≡ stop k → Found k all
  unfolding read_value read_place
  find_value slots s b e =
      ⊎_elim (λ z. not_took k 0 z.0 z.2)
      (λ z. let x = name_stop ts _ k lo z in
      let y = value_unknown (place_in (values_of slots s) x.0) x.1 k x.3 in
      here 16 k all mid ts (name x.0) x.1 (next_value slots s) w x.2 b (no_such_value y.0) y.1)
      (if_next_back NONE _ _ ts (stop k) e)

  find_target : (slots : List Slot) (ps : List Pair) → Before mid (assigned_slot slots ps) → length ps < assignment_limit → read_target slots ps ts ≡ stop k → Found k all
  unfolding read_target
  find_target slots ps b few e =
      by_part (read_slot slots ts) _ k e (find_slot slots (assigned_slot slots ps) (λ n q. no_assigned_slot q) b)
      (λ s rest x y. let z = slot_back slots ts s rest x in
      let a = assigned_again (assigns ps s) s rest k y in
      here 17 k all mid ts (name z.0) rest (assigned_slot slots ps) w z.1 b (slot_assigned_twice z.2 a.0) a.1)

-- Values of a slot line, and the line.
find_values : (room : ℕ) (k : ℕ) → 14 ≤ k → (all mid ts : List Token) → all ≡ mid ++ ts → (ns : List Name) → Before mid (fresh_value ns) → room + length ns ≡ value_limit → read_values room ns ts ≡ stop k → Found k all
unfolding read_values read_list no_value
find_values zero k lo all mid ts w ns b r e =
    by_part (new_name ns ts) _ k e (find_new k lo all mid ts w ns (fresh_value ns) (λ n q. value_twice q) b)
    (λ n rest x y. let z = new_name_back ns ts n rest x in here 15 k all mid ts (name n) rest (fresh_value ns) w z.0 b (too_many_values (omega arith)) (stop_same 15 k y))
find_values (suc room) k lo all mid ts w ns b r e =
    by_part (new_name ns ts) _ k e (find_new k lo all mid ts w ns (fresh_value ns) (λ n q. value_twice q) b)
    (λ n rest x y. let z = new_name_back ns ts n rest x in
    ⊎_elim (λ v. find_values room k lo all (mid ++ name n ∷ word COMMA ∷ []) v.0 (on all mid (name n ∷ word COMMA ∷ []) v.0 ts w (z.0 ∙ put (name n) v.1)) (ns ++ n ∷ []) (behind_value n b (omega arith) z.1)
    (let l = length-append ns (n ∷ []) in omega arith) v.2)
    (λ v. not_took k (ns ++ n ∷ []) v.0 v.2) (fork_stop COMMA CLOSE _ _ rest k lo y))

find_line : (k : ℕ) → 14 ≤ k → (all mid ts : List Token) → all ≡ mid ++ ts → (slots : List Slot) → Before mid (next_line slots) → length slots < slot_limit → read_line slots ts ≡ stop k → Found k all
unfolding read_line
find_line k lo all mid ts w slots b few e =
    by_word SLOT ts _ k lo e (λ t1 q1 e1.
    by_part (new_name (slot_names slots) t1) _ k e1
    (find_new k lo all (mid ++ word SLOT ∷ []) t1 (on all mid (word SLOT ∷ []) t1 ts w q1) (slot_names slots) (fresh_slot slots) (λ n q. slot_twice q) (behind_slot b few))
    (λ n t2 x2 e2. let z = new_name_back (slot_names slots) t1 n t2 x2 in
    by_word OPEN t2 _ k lo e2 (λ t3 q3 e3.
    by_part (read_values value_limit [] t3) _ k e3
    (find_values value_limit k lo all (mid ++ word SLOT ∷ [] ++ name n ∷ word OPEN ∷ []) t3
    (on all (mid ++ word SLOT ∷ []) (name n ∷ word OPEN ∷ []) t3 t1 (on all mid (word SLOT ∷ []) t1 ts w q1) (z.0 ∙ put (name n) q3)) [] (behind_open n (behind_slot b few) z.1) (omega arith))
    (λ vs t4 x4 e4. by_word SEMICOLON t4 _ k lo e4 (λ t5 q5 e5. not_took k _ t5 e5)))))

-- Literals.
find_plain : (k : ℕ) → 14 ≤ k → (all mid ts : List Token) → all ≡ mid ++ ts → (slots : List Slot) (ms : List Literal) (neg : Bool) → Before mid (literal_slot slots ms) → length ms < literal_limit → plain_literal slots neg ts ≡ stop k → Found k all
unfolding plain_literal
find_plain k lo all mid ts w slots ms neg b few e =
    by_part (read_slot slots ts) _ k e (find_slot k lo all mid ts w slots (literal_slot slots ms) (λ n q. no_tested_slot q) b)
    (λ s rest x y. let z = slot_back slots ts s rest x in
    ⊎_elim (λ v. by_part (read_value slots s v.0) _ k v.2
    (find_value k lo all (mid ++ name z.0 ∷ word BECOMES ∷ []) v.0 (on all mid (name z.0 ∷ word BECOMES ∷ []) v.0 ts w (z.1 ∙ put (name z.0) v.1)) slots s (behind_becomes z.0 b few z.2))
    (λ i left p q. not_took k _ left q))
    (λ v. by_part (read_value slots s v.0) _ k v.2
    (find_value k lo all (mid ++ name z.0 ∷ word HAS ∷ []) v.0 (on all mid (name z.0 ∷ word HAS ∷ []) v.0 ts w (z.1 ∙ put (name z.0) v.1)) slots s (behind_has z.0 b few z.2))
    (λ i left p q. not_took k _ left q))
    (fork_stop BECOMES HAS _ _ rest k lo y))

find_literal : (ts : List Token) (k : ℕ) → 14 ≤ k → (all mid : List Token) → all ≡ mid ++ ts → (slots : List Slot) (ms : List Literal) (neg : Bool) → Before mid (literal_slot slots ms) → length ms < literal_limit → read_literal ts slots neg ≡ stop k → Found k all
unfolding read_literal
find_literal [] k lo all mid w slots ms neg b few e = low 12 k lo (omega arith) e
find_literal (word v ∷ ts) k lo all mid w slots ms neg b few e = go (eqb v NOT) refl (find_literal ts k lo all (mid ++ word NOT ∷ [])) e
  where
    go : (t : Bool) → eqb v NOT ≡ t → (all ≡ mid ++ word NOT ∷ [] ++ ts → (slots : List Slot) (ms : List Literal) (neg : Bool) → Before (mid ++ word NOT ∷ []) (literal_slot slots ms) → length ms < literal_limit → read_literal ts slots neg ≡ stop k → Found k all)
        → cond t (read_literal ts slots (not neg)) (stop 12) ≡ stop k → Found k all
    go true q again x = again (on all mid (word NOT ∷ []) ts (word v ∷ ts) w (ap (λ (i : ℕ). word i ∷ ts) (eqb-true v NOT q))) slots ms (not neg) (behind_not b few) few x
    go false q again x = low 12 k lo (omega arith) x
find_literal (name n ∷ ts) k lo all mid w slots ms neg b few e = find_plain k lo all mid (name n ∷ ts) w slots ms neg b few e
find_literal (long ∷ ts) k lo all mid w slots ms neg b few e = low 13 k lo (omega arith) e
find_literal (bad ∷ ts) k lo all mid w slots ms neg b few e = low 11 k lo (omega arith) e

find_surplus : (k : ℕ) → 14 ≤ k → (all mid ts : List Token) → all ≡ mid ++ ts → (slots : List Slot) (ms : List Literal) → Before mid (next_literal slots ms) → length ms ≡ literal_limit → no_literal ms ts ≡ stop k → Found k all
unfolding no_literal
find_surplus k lo all mid [] w slots ms b r e = low 12 k lo (omega arith) e
find_surplus k lo all mid (word v ∷ ts) w slots ms b r e = go (eqb v NOT) refl e
  where
    go : (t : Bool) → eqb v NOT ≡ t → cond {A = Part (List Literal)} t (stop 15) (stop 12) ≡ stop k → Found k all
    go true q x = here 15 k all mid (word v ∷ ts) (word NOT) ts (literal_slot slots ms) w (ap (λ (i : ℕ). word i ∷ ts) (eqb-true v NOT q)) (literal_first b) (too_many_nots (omega arith)) (stop_same 15 k x)
    go false q x = low 12 k lo (omega arith) x
find_surplus k lo all mid (name n ∷ ts) w slots ms b r e = here 15 k all mid (name n ∷ ts) (name n) ts (literal_slot slots ms) w refl (literal_first b) (too_many_literals (omega arith)) (stop_same 15 k e)
find_surplus k lo all mid (long ∷ ts) w slots ms b r e = low 13 k lo (omega arith) e
find_surplus k lo all mid (bad ∷ ts) w slots ms b r e = low 11 k lo (omega arith) e

find_literals : (room : ℕ) (k : ℕ) → 14 ≤ k → (all mid ts : List Token) → all ≡ mid ++ ts → (slots : List Slot) (ms : List Literal) → Before mid (next_literal slots ms) → room + length ms ≡ literal_limit
    → read_literals slots room ms ts ≡ stop k → Found k all
unfolding read_literals read_list
find_literals zero k lo all mid ts w slots ms b r e = find_surplus k lo all mid ts w slots ms b (omega arith) e
find_literals (suc room) k lo all mid ts w slots ms b r e =
    by_part (read_literal ts slots false) _ k e (find_literal ts k lo all mid w slots ms false (literal_first b) (omega arith))
    (λ m rest x y. let z = literal_back ts slots false m rest x in
    ⊎_elim (λ v. find_literals room k lo all (mid ++ spell_literal z.tree (word AND ∷ [])) v.0
    (on all mid (spell_literal z.tree (word AND ∷ [])) v.0 ts w (z.spelled ∙ ap (spell_literal z.tree) v.1 ∙ literal_append z.tree (word AND ∷ []) v.0))
    slots (ms ++ m ∷ []) (behind_literal b (omega arith) (literal_meaning ts slots m rest z)) (let l = length-append ms (m ∷ []) in omega arith) v.2)
    (λ v. not_took k (ms ++ m ∷ []) v.0 v.2) (fork_stop AND THEN _ _ rest k lo y))

find_condition : (k : ℕ) → 14 ≤ k → (all mid ts : List Token) → all ≡ mid ++ ts → (slots : List Slot) → Before mid (next_condition slots) → read_condition slots ts ≡ stop k → Found k all
unfolding read_condition
find_condition k lo all mid ts w slots b e =
    ⊎_elim (λ x. ⊎_elim (λ v. find_literals literal_limit k lo all (mid ++ word TRUE ∷ word AND ∷ []) v.0 (on all mid (word TRUE ∷ word AND ∷ []) v.0 ts w (x.1 ∙ put (word TRUE) v.1)) slots [] (behind_true b) (omega arith) v.2)
    (λ v. not_took k [] v.0 v.2) (fork_stop AND THEN _ _ x.0 k lo x.2))
    (λ x. find_literals literal_limit k lo all mid ts w slots [] (no_true_first b) (omega arith) x)
    (if_next_back TRUE _ _ ts (stop k) e)

-- Assignments.
find_assignment : (k : ℕ) → 14 ≤ k → (all mid ts : List Token) → all ≡ mid ++ ts → (slots : List Slot) (ps : List Pair) → Before mid (assigned_slot slots ps) → length ps < assignment_limit → read_assignment slots ps ts ≡ stop k → Found k all
unfolding read_assignment
find_assignment k lo all mid ts w slots ps b few e =
    by_part (read_target slots ps ts) _ k e (find_target k lo all mid ts w slots ps b few)
    (λ s t1 x1 e1. let z = target_back slots ps ts s t1 x1 in
    by_word GETS t1 _ k lo e1 (λ t2 q2 e2.
    by_part (read_value slots s t2) _ k e2
    (find_value k lo all (mid ++ name z.0 ∷ word GETS ∷ []) t2 (on all mid (name z.0 ∷ word GETS ∷ []) t2 ts w (z.1 ∙ put (name z.0) q2)) slots s (behind_gets z.0 b few z.2 z.3))
    (λ v t3 x3 e3. not_took k (pair s v) t3 e3)))

find_assignments : (room : ℕ) (k : ℕ) → 14 ≤ k → (all mid ts : List Token) → all ≡ mid ++ ts → (slots : List Slot) (ps : List Pair) → Before mid (next_listed slots ps) → room + length ps ≡ assignment_limit
    → read_assignments slots room ps ts ≡ stop k → Found k all
unfolding read_assignments read_list no_assignment
find_assignments zero k lo all mid ts w slots ps b r e =
    let x = name_stop ts _ k lo e in
    here 15 k all mid ts (name x.0) x.1 (assigned_slot slots ps) w x.2 (in_braces b) (too_many_assignments (omega arith)) (stop_same 15 k x.3)
find_assignments (suc room) k lo all mid ts w slots ps b r e =
    by_part (read_assignment slots ps ts) _ k e (find_assignment k lo all mid ts w slots ps (in_braces b) (omega arith))
    (λ p rest x y. let z = assignment_back slots ps ts p rest x in
    ⊎_elim (λ v. find_assignments room k lo all (mid ++ spell_assignment z.0 (word COMMA ∷ [])) v.0
    (on all mid (spell_assignment z.0 (word COMMA ∷ [])) v.0 ts w (z.1 ∙ ap (spell_assignment z.0) v.1 ∙ assignment_append z.0 (word COMMA ∷ []) v.0))
    slots (ps ++ p ∷ []) (behind_assignment b (omega arith) z.2 z.3) (let l = length-append ps (p ∷ []) in omega arith) v.2)
    (λ v. not_took k (ps ++ p ∷ []) v.0 v.2) (fork_stop COMMA CLOSE _ _ rest k lo y))

find_assign : (k : ℕ) → 14 ≤ k → (all mid ts : List Token) → all ≡ mid ++ ts → (slots : List Slot) → Before mid (next_assign slots) → read_assign slots ts ≡ stop k → Found k all
unfolding read_assign
find_assign k lo all mid ts w slots b e =
    ⊎_elim (λ x. find_assignments assignment_limit k lo all (mid ++ word OPEN ∷ []) x.0 (on all mid (word OPEN ∷ []) x.0 ts w x.1) slots [] (behind_brace b) (omega arith) x.2)
    (λ x. by_part (read_assignment slots [] ts) _ k x (find_assignment k lo all mid ts w slots [] (no_brace b) (omega (arith, room_for_one))) (λ p rest y q. not_took k (p ∷ []) rest q))
    (if_next_back OPEN _ _ ts (stop k) e)

-- A rule: what follows its IF, with what stops after the assignments, and the whole.
find_body : {A : Type 0} (k : ℕ) → 14 ≤ k → (all mid ts : List Token) → all ≡ mid ++ ts → (slots : List Slot) → Before mid (next_condition slots) → (f : List Literal → List Pair → List Token → Part A)
    → ((ms : List Literal) (ps : List Pair) (rest : List Token) → f ms ps rest ≡ stop k → Found k all) → (read_condition slots ts then λ ms rest. read_assign slots rest then f ms) ≡ stop k → Found k all
find_body k lo all mid ts w slots b f h e =
    by_part (read_condition slots ts) _ k e (find_condition k lo all mid ts w slots b)
    (λ ms t1 x1 e1. let c = condition_back slots ts ms t1 x1 in
    by_part (read_assign slots t1) (f ms) k e1
    (find_assign k lo all (mid ++ spell_condition c.0 (word THEN ∷ [])) t1 (on all mid (spell_condition c.0 (word THEN ∷ [])) t1 ts w (c.1 ∙ condition_append c.0 (word THEN ∷ []) t1)) slots (behind_then b c.2 c.3))
    (λ ps t2 x2 e2. h ms ps t2 e2))

find_rule : (k : ℕ) → 14 ≤ k → (all mid ts : List Token) → all ≡ mid ++ ts → (slots : List Slot) (rs : List Rule) → Before mid (next_rule slots rs) → length rs < rule_limit → read_rule slots ts ≡ stop k → Found k all
unfolding read_rule
find_rule k lo all mid ts w slots rs b few e =
    by_word WHEN ts _ k lo e (λ t1 q1 e1. let w1 = on all mid (word WHEN ∷ []) t1 ts w q1 in
    by_part (read_slot slots t1) _ k e1 (find_slot k lo all (mid ++ word WHEN ∷ []) t1 w1 slots (next_trigger slots) (λ n q. no_trigger_slot q) (behind_when b few))
    (λ s t2 x2 e2. let n = slot_back slots t1 s t2 x2 in
    by_word BECOMES t2 _ k lo e2 (λ t3 q3 e3.
    by_part (read_value slots s t3) _ k e3
    (find_value k lo all (mid ++ word WHEN ∷ [] ++ name n.0 ∷ word BECOMES ∷ []) t3 (on all (mid ++ word WHEN ∷ []) (name n.0 ∷ word BECOMES ∷ []) t3 t1 w1 (n.1 ∙ put (name n.0) q3)) slots s (behind_trigger_slot n.0 (behind_when b few) n.2))
    (λ v t4 x4 e4. let m = value_back slots s t3 v t4 x4 in
    by_word IF t4 _ k lo e4 (λ t5 q5 e5.
    find_body k lo all (mid ++ word WHEN ∷ [] ++ name n.0 ∷ word BECOMES ∷ spell_slotval m.0 ∷ word IF ∷ []) t5
    (on all (mid ++ word WHEN ∷ []) (name n.0 ∷ word BECOMES ∷ spell_slotval m.0 ∷ word IF ∷ []) t5 t1 w1 (n.1 ∙ put (name n.0) (q3 ∙ put (word BECOMES) (m.1 ∙ put (spell_slotval m.0) q5))))
    slots (behind_if {t = trigger n.0 m.0} (behind_when b few) (means_trigger {p = pair s v} (record { slot_is = n.2; value_is = m.2 })))
    _ (λ ms ps t7 e7. by_word SEMICOLON t7 _ k lo e7 (λ t8 q8 e8. not_took k _ t8 e8)) e5)))))

find_rules : (room : ℕ) (k : ℕ) → 14 ≤ k → (all mid ts : List Token) → all ≡ mid ++ ts → (slots : List Slot) (rs : List Rule) → Before mid (next_rule slots rs) → room + length rs ≡ rule_limit
    → (n : ℕ) → read_rules room slots rs ts ≡ refused k n → Found k all
find_rules zero k lo all mid [] w slots rs b r n e = not_refused (record { slots = slots; rules = rs }) k n (sym (rules_end zero slots rs) ∙ e)
find_rules zero k lo all mid (t ∷ ts) w slots rs b r n e =
    ⊎_elim (λ x. expects_low WHEN (t ∷ ts) k lo x.0)
    (λ x. here 15 k all mid (t ∷ ts) (word WHEN) x.1 (next_rule slots rs) w (expects_back WHEN (t ∷ ts) x.0 x.1 x.2) b (too_many_rules (omega arith)) (refused_same 15 (length rs) k n x.3).0)
    (rules_last slots rs t ts k n e)
find_rules (suc room) k lo all mid [] w slots rs b r n e = not_refused (record { slots = slots; rules = rs }) k n (sym (rules_end (suc room) slots rs) ∙ e)
find_rules (suc room) k lo all mid (t ∷ ts) w slots rs b r n e =
    ⊎_elim (λ x. find_rule k lo all mid (t ∷ ts) w slots rs b (omega arith) x.0)
    (λ x. let z = rule_back slots (t ∷ ts) x.0 x.1 x.2 in
    find_rules room k lo all (mid ++ spell_rule z.0 []) x.1 (on all mid (spell_rule z.0 []) x.1 (t ∷ ts) w (z.1 ∙ rule_append z.0 [] x.1))
    slots (rs ++ x.0 ∷ []) (behind_rule b (omega arith) z.2) (let l = length-append rs (x.0 ∷ []) in omega arith) n x.3)
    (rules_again room slots rs t ts k n e)

find_lines : (room : ℕ) (k : ℕ) → 14 ≤ k → (all mid ts : List Token) → all ≡ mid ++ ts → (slots : List Slot) → Before mid (next_line slots) → room + length slots ≡ slot_limit
    → (n : ℕ) → read_lines rule_limit room slots ts ≡ refused k n → Found k all
unfolding read_lines
find_lines zero k lo all mid ts w slots b r n e =
    ⊎_elim (λ x. here 15 k all mid ts (word SLOT) x.0 (next_line slots) w x.1 b (too_many_slots (omega arith)) (refused_same 15 0 k n x.2).0)
    (λ x. find_rules rule_limit k lo all mid ts w slots [] (lines_over b) (omega arith) n x) (if_next_back SLOT _ _ ts (refused k n) e)
find_lines (suc room) k lo all mid ts w slots b r n e =
    ⊎_elim (λ x. ⊎_elim (λ y. find_line k lo all mid (word SLOT ∷ x.0) (w ∙ ap (λ (l : List Token). mid ++ l) x.1) slots b (omega arith) y.0)
    (λ y. let z = line_back slots (word SLOT ∷ x.0) y.0 y.1 y.2 in
    find_lines room k lo all (mid ++ spell_line z.0 []) y.1 (on all mid (spell_line z.0 []) y.1 ts w (x.1 ∙ z.1 ∙ line_append z.0 [] y.1))
    (slots ++ y.0 ∷ []) (behind_line b (omega arith) z.2) (let l = length-append slots (y.0 ∷ []) in omega arith) n y.3)
    (go_on_stops 0 (read_line slots (word SLOT ∷ x.0)) _ k n x.2))
    (λ x. find_rules rule_limit k lo all mid ts w slots [] (lines_over b) (omega arith) n x) (if_next_back SLOT _ _ ts (refused k n) e)

-- Tokens that are refused with a number from 14 on have such a token.
pub found : (ts : List Token) (k n : ℕ) → 14 ≤ k → read_tokens rule_limit ts ≡ refused k n → Found k ts
unfolding read_tokens
found ts k n lo e = find_lines slot_limit k lo ts [] ts refl [] start (omega arith) n e
