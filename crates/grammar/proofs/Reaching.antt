-- Tokens before a position are read up to it: where the reading from there halts, the whole reading is refused.
-- Assumes nothing.
use Prim.Native.Nat.{ℕ, zero, suc, ◌+◌, ◌-◌, ◌≤◌, ◌<◌}
use native.Mathlib.Omega.{arith}
use mathlib.Core.Path.{◌≡◌, refl, ap, subst, ◌∙◌}
use mathlib.Core.Bool.{Bool, false, not}
use mathlib.Core.List.{List, [], ◌∷◌, ◌++◌, append_assoc}
use mathlib.Core.Logic.{⊎_elim}
use lib.ListN.{length, length-append}
use Rattle.laws.proofs.Truth.{le_or_lt}
use Rattle.text.specs.Tokens.{Name, Token, word, name, SLOT, WHEN, IF, THEN, AND, NOT, TRUE, OPEN, COMMA, BECOMES, HAS, GETS}
use Rattle.model.specs.Rules.{Pair, Literal, Rule, assigns}
use Rattle.laws.specs.Limits.{slot_limit, value_limit, rule_limit, literal_limit, assignment_limit}
use Rattle.grammar.specs.Files.{Slot, place_in, slot_names}
use Rattle.grammar.specs.Grammar.{RuleTree, rule, TriggerTree, trigger, ConditionTree, LiteralTree, AssignmentTree, gets_value, LineTree, spell_trigger, spell_literal, spell_condition, spell_assignment, spell_rule, spell_line}
use Rattle.grammar.specs.Meaning.{MeansTrigger, means_trigger, MeansLiteral, MeansCondition, MeansAssignment, MeansRule, MeansLine}
use Rattle.grammar.specs.Reading.{Part, took, stop, refused, ◌then◌, fork, a_name, begins_with, if_next, new, new_name, known_slot, known_value, unassigned, read_slot, read_place, read_value, read_target, read_list, plain_literal, read_literal, no_literal, read_literals, read_condition, read_assignment, no_assignment, read_assignments, read_assign, read_rule, no_value, read_values, read_line, read_rules, read_lines, read_tokens}
use Rattle.grammar.specs.Beginnings.{Position, next_line, fresh_slot, fresh_value, next_rule, next_trigger, next_condition, next_literal, literal_slot, next_assign, next_listed, assigned_slot, next_value, Before, start, behind_line, behind_slot, behind_open, behind_value, lines_over, behind_rule, behind_when, behind_trigger_slot, behind_if, no_true_first, behind_true, behind_literal, literal_first, behind_not, behind_becomes, behind_has, behind_then, no_brace, behind_brace, behind_assignment, in_braces, behind_gets, FaultAt, slot_twice, value_twice, too_many_slots, too_many_values, too_many_rules, too_many_literals, too_many_nots, too_many_assignments, no_trigger_slot, no_tested_slot, no_assigned_slot, no_such_value, slot_assigned_twice}
use Rattle.grammar.proofs.Forward.{took_then, expects_here, value_here, new_here, literals_step, and_here, then_here, no_true, condition_true, condition_read, assignments_step, rule_read, values_step, line_read, rules_begin}
use Rattle.grammar.proofs.Backward.{room_for_one}
use Rattle.grammar.proofs.Statements.{rules_take, lines_take}
use Rattle.grammar.proofs.Stopping.{stop_then}
use Rattle.grammar.proofs.Parts.{literal_append}
use Rattle.grammar.proofs.Stops.{condition_append, rule_append, line_append}
use Rattle.grammar.proofs.Halting.{rule_refused, one_too_many, slot_too_many, go_on_stop, line_next}

-- The reading from a position halts with `k` at these tokens.
abbrev pub Halts : Position → List Token → ℕ → Type 0
Halts (next_line slots) us k = (room : ℕ) → room + length slots ≡ slot_limit → (n : ℕ) × (read_lines rule_limit room slots us ≡ refused k n)
Halts (fresh_slot slots) us k = read_line slots (word SLOT ∷ us) ≡ stop k
Halts (fresh_value ns) us k = (room : ℕ) → room + length ns ≡ value_limit → read_values room ns us ≡ stop k
Halts (next_rule slots rs) us k = (begins_with SLOT us ≡ false) × ((room : ℕ) → room + length rs ≡ rule_limit → (n : ℕ) × (read_rules room slots rs us ≡ refused k n))
Halts (next_trigger slots) us k = read_rule slots (word WHEN ∷ us) ≡ stop k
Halts (next_condition slots) us k = (read_condition slots us then λ ms rest. read_assign slots rest) ≡ stop k
Halts (next_literal slots ms) us k = (begins_with TRUE us ≡ false) × ((room : ℕ) → room + length ms ≡ literal_limit → read_literals slots room ms us ≡ stop k)
Halts (literal_slot slots ms) us k =
    (begins_with TRUE us ≡ false) × (length ms < literal_limit → (neg : Bool) → read_literal us slots neg ≡ stop k) × (length ms ≡ literal_limit → no_literal ms us ≡ stop k)
Halts (next_assign slots) us k = read_assign slots us ≡ stop k
Halts (next_listed slots ps) us k = (room : ℕ) → room + length ps ≡ assignment_limit → read_assignments slots room ps us ≡ stop k
Halts (assigned_slot slots ps) us k =
    (begins_with OPEN us ≡ false) × (length ps < assignment_limit → read_assignment slots ps us ≡ stop k) × (length ps ≡ assignment_limit → no_assignment ps us ≡ stop k)
Halts (next_value slots s) us k = read_value slots s us ≡ stop k

-- A declared slot's name is taken.
slot_known : (slots : List Slot) (n : Name) (s : ℕ) (ts : List Token) → place_in (slot_names slots) n ≡ suc s → read_slot slots (name n ∷ ts) ≡ took s ts
unfolding read_slot a_name ◌then◌ known_slot
slot_known slots n s ts e = ap (λ (k : ℕ). known_slot k ts) e

-- Slot lines.
line_step : (slots : List Slot) (t : LineTree) (s : Slot) (us : List Token) (k : ℕ) → length slots < slot_limit → MeansLine slots t s → Halts (next_line (slots ++ s ∷ [])) us k → Halts (next_line slots) (spell_line t us) k
line_step slots t s us k few m h zero e = absurd (omega arith)
line_step slots t s us k few m h (suc room) e =
    let x = h room (let l = length-append slots (s ∷ []) in omega arith) in
    (x.0, lines_take room slots (spell_line t us) s us (line_read slots t s us m) ∙ x.1)

slot_step : (slots : List Slot) (us : List Token) (k : ℕ) → length slots < slot_limit → Halts (fresh_slot slots) us k → Halts (next_line slots) (word SLOT ∷ us) k
slot_step slots us k few h zero e = absurd (omega arith)
slot_step slots us k few h (suc room) e = (0, line_next room slots (word SLOT ∷ us) refl ∙ go_on_stop 0 (read_line slots (word SLOT ∷ us)) _ k h)

open_step : (slots : List Slot) (n : Name) (us : List Token) (k : ℕ) → place_in (slot_names slots) n ≡ 0 → Halts (fresh_value []) us k → Halts (fresh_slot slots) (name n ∷ word OPEN ∷ us) k
unfolding read_line
open_step slots n us k fresh h =
    rw (expects_here SLOT _, took_then, new_here (slot_names slots) n _ fresh, took_then, expects_here OPEN _, took_then) (stop_then (read_values value_limit [] us) _ k (h value_limit (omega arith)))

value_step : (ns : List Name) (n : Name) (us : List Token) (k : ℕ) → length ns < value_limit → place_in ns n ≡ 0 → Halts (fresh_value (ns ++ n ∷ [])) us k → Halts (fresh_value ns) (name n ∷ word COMMA ∷ us) k
unfolding fork read_values
value_step ns n us k few fresh h zero e = absurd (omega arith)
value_step ns n us k few fresh h (suc room) e = values_step room ns n (word COMMA ∷ us) fresh ∙ h room (let l = length-append ns (n ∷ []) in omega arith)

-- Rules.
rules_step : (slots : List Slot) (us : List Token) (k : ℕ) → Halts (next_rule slots []) us k → Halts (next_line slots) us k
rules_step slots us k h room e = let x = h.1 rule_limit (omega arith) in (x.0, rules_begin rule_limit room slots us h.0 ∙ x.1)

no_slot : (t : RuleTree) (us : List Token) → begins_with SLOT (spell_rule t us) ≡ false
no_slot (rule t c a) us = refl

rule_step : (slots : List Slot) (rs : List Rule) (t : RuleTree) (r : Rule) (us : List Token) (k : ℕ) → length rs < rule_limit → MeansRule slots t r → Halts (next_rule slots (rs ++ r ∷ [])) us k → Halts (next_rule slots rs) (spell_rule t us) k
rule_step slots rs t r us k few m h = (no_slot t us, on)
  where
    on : (room : ℕ) → room + length rs ≡ rule_limit → (n : ℕ) × (read_rules room slots rs (spell_rule t us) ≡ refused k n)
    on zero e = absurd (omega arith)
    on (suc room) e =
        let x = h.1 room (let l = length-append rs (r ∷ []) in omega arith) in
        (x.0, rules_take room slots rs (spell_rule t us) r us (rule_read slots t r us m) ∙ x.1)

when_step : (slots : List Slot) (rs : List Rule) (us : List Token) (k : ℕ) → length rs < rule_limit → Halts (next_trigger slots) us k → Halts (next_rule slots rs) (word WHEN ∷ us) k
when_step slots rs us k few h = (refl, on)
  where
    on : (room : ℕ) → room + length rs ≡ rule_limit → (n : ℕ) × (read_rules room slots rs (word WHEN ∷ us) ≡ refused k n)
    on zero e = absurd (omega arith)
    on (suc room) e = (length rs, rule_refused room slots rs (word WHEN) us k h)

trigger_step : (slots : List Slot) (n : Name) (s : ℕ) (us : List Token) (k : ℕ) → place_in (slot_names slots) n ≡ suc s → Halts (next_value slots s) us k → Halts (next_trigger slots) (name n ∷ word BECOMES ∷ us) k
unfolding read_rule
trigger_step slots n s us k e h = rw (expects_here WHEN _, took_then, slot_known slots n s _ e, took_then, expects_here BECOMES _, took_then) (stop_then (read_value slots s us) _ k h)

-- What stops with `k` stops so with another part behind it that stops where the first does.
then_on : {A B C : Type 0} (m : Part A) (f : A → List Token → Part B) (g : A → List Token → Part C) (k : ℕ) → (m then f) ≡ stop k → ((a : A) (ts : List Token) → f a ts ≡ stop k → g a ts ≡ stop k) → (m then g) ≡ stop k
unfolding ◌then◌
then_on (took a ts) f g k e h = h a ts e
then_on (stop j) f g k e h = let z : j ≡ k = cc in ap stop z

if_step : (slots : List Slot) (t : TriggerTree) (p : Pair) (us : List Token) (k : ℕ) → MeansTrigger slots t p → Halts (next_condition slots) us k → Halts (next_trigger slots) (spell_trigger t (word IF ∷ us)) k
unfolding read_rule
if_step slots t p us k (means_trigger {s = s} {v = v} n) h =
    rw (expects_here WHEN _, took_then, slot_known slots s p.slot _ n.slot_is, took_then, expects_here BECOMES _, took_then, value_here slots s v p _ n, took_then, expects_here IF _, took_then)
    (then_on (read_condition slots us) _ _ k h (λ ms rest x. stop_then (read_assign slots rest) _ k x))

-- Conditions.
literals_first : (slots : List Slot) (us : List Token) (k : ℕ) → Halts (next_literal slots []) us k → Halts (next_condition slots) us k
unfolding read_condition if_next
literals_first slots us k h = rw h.0 (stop_then (read_literals slots literal_limit [] us) _ k (h.1 literal_limit (omega arith)))

true_step : (slots : List Slot) (us : List Token) (k : ℕ) → Halts (next_literal slots []) us k → Halts (next_condition slots) (word TRUE ∷ word AND ∷ us) k
true_step slots us k h = rw (condition_true, and_here) (stop_then (read_literals slots literal_limit [] us) _ k (h.1 literal_limit (omega arith)))

literal_step : (slots : List Slot) (ms : List Literal) (t : LiteralTree) (m : Literal) (us : List Token) (k : ℕ) → length ms < literal_limit → MeansLiteral slots t m → Halts (next_literal slots (ms ++ m ∷ [])) us k → Halts (next_literal slots ms) (spell_literal t (word AND ∷ us)) k
literal_step slots ms t m us k few g h = (no_true t (word AND ∷ us), on)
  where
    on : (room : ℕ) → room + length ms ≡ literal_limit → read_literals slots room ms (spell_literal t (word AND ∷ us)) ≡ stop k
    on zero e = absurd (omega arith)
    on (suc room) e = literals_step slots room ms t m (word AND ∷ us) g ∙ and_here slots room (ms ++ m ∷ []) us ∙ h.1 room (let l = length-append ms (m ∷ []) in omega arith)

tested_step : (slots : List Slot) (ms : List Literal) (us : List Token) (k : ℕ) → Halts (literal_slot slots ms) us k → Halts (next_literal slots ms) us k
unfolding read_literals read_list
tested_step slots ms us k h = (h.0, on)
  where
    on : (room : ℕ) → room + length ms ≡ literal_limit → read_literals slots room ms us ≡ stop k
    on zero e = h.2 (omega arith)
    on (suc room) e = stop_then (read_literal us slots false) _ k (h.1 (omega arith) false)

not_step : (slots : List Slot) (ms : List Literal) (us : List Token) (k : ℕ) → length ms < literal_limit → Halts (literal_slot slots ms) us k → Halts (literal_slot slots ms) (word NOT ∷ us) k
unfolding read_literal
not_step slots ms us k few h = (refl, λ l neg. h.1 few (not neg), λ l. absurd (omega arith))

becomes_step : (slots : List Slot) (ms : List Literal) (n : Name) (s : ℕ) (us : List Token) (k : ℕ) → length ms < literal_limit → place_in (slot_names slots) n ≡ suc s
    → Halts (next_value slots s) us k → Halts (literal_slot slots ms) (name n ∷ word BECOMES ∷ us) k
unfolding read_literal plain_literal fork
becomes_step slots ms n s us k few e h = (refl, λ l neg. rw (slot_known slots n s _ e, took_then) (stop_then (read_value slots s us) _ k h), λ l. absurd (omega arith))

has_step : (slots : List Slot) (ms : List Literal) (n : Name) (s : ℕ) (us : List Token) (k : ℕ) → length ms < literal_limit → place_in (slot_names slots) n ≡ suc s
    → Halts (next_value slots s) us k → Halts (literal_slot slots ms) (name n ∷ word HAS ∷ us) k
unfolding read_literal plain_literal fork
has_step slots ms n s us k few e h = (refl, λ l neg. rw (slot_known slots n s _ e, took_then) (stop_then (read_value slots s us) _ k h), λ l. absurd (omega arith))

-- What follows THEN.
then_step : (slots : List Slot) (c : ConditionTree) (ms : List Literal) (us : List Token) (k : ℕ) → MeansCondition slots c ms → length ms ≤ literal_limit → Halts (next_assign slots) us k → Halts (next_condition slots) (spell_condition c (word THEN ∷ us)) k
then_step slots c ms us k m few h = rw (condition_read slots c ms (word THEN ∷ us) (literal_limit - length ms) m (omega arith), then_here, took_then) h

alone_step : (slots : List Slot) (us : List Token) (k : ℕ) → Halts (assigned_slot slots []) us k → Halts (next_assign slots) us k
unfolding read_assign if_next
alone_step slots us k h = rw h.0 (stop_then (read_assignment slots [] us) _ k (h.1 (omega (arith, room_for_one))))

brace_step : (slots : List Slot) (us : List Token) (k : ℕ) → Halts (next_listed slots []) us k → Halts (next_assign slots) (word OPEN ∷ us) k
unfolding read_assign if_next
brace_step slots us k h = h assignment_limit (omega arith)

assignment_step : (slots : List Slot) (ps : List Pair) (t : AssignmentTree) (p : Pair) (us : List Token) (k : ℕ) → length ps < assignment_limit → MeansAssignment slots t p → assigns ps p.slot ≡ false
    → Halts (next_listed slots (ps ++ p ∷ [])) us k → Halts (next_listed slots ps) (spell_assignment t (word COMMA ∷ us)) k
unfolding fork read_assignments
assignment_step slots ps t p us k few m d h zero e = absurd (omega arith)
assignment_step slots ps t p us k few m d h (suc room) e = assignments_step slots room ps t p (word COMMA ∷ us) m d ∙ h room (let l = length-append ps (p ∷ []) in omega arith)

listed_step : (slots : List Slot) (ps : List Pair) (us : List Token) (k : ℕ) → Halts (assigned_slot slots ps) us k → Halts (next_listed slots ps) us k
unfolding read_assignments read_list
listed_step slots ps us k h zero e = h.2 (omega arith)
listed_step slots ps us k h (suc room) e = stop_then (read_assignment slots ps us) _ k (h.1 (omega arith))

gets_step : (slots : List Slot) (ps : List Pair) (n : Name) (s : ℕ) (us : List Token) (k : ℕ) → length ps < assignment_limit → place_in (slot_names slots) n ≡ suc s → assigns ps s ≡ false
    → Halts (next_value slots s) us k → Halts (assigned_slot slots ps) (name n ∷ word GETS ∷ us) k
unfolding read_assignment read_target unassigned
gets_step slots ps n s us k few e d h =
    (refl, λ l. rw (slot_known slots n s _ e, took_then, d, took_then, expects_here GETS _, took_then) (stop_then (read_value slots s us) _ k h), λ l. absurd (omega arith))

-- What is refused behind more tokens.
carried : (ts xs us : List Token) (k : ℕ) → (n : ℕ) × (read_tokens rule_limit (ts ++ (xs ++ us)) ≡ refused k n) → (n : ℕ) × (read_tokens rule_limit ((ts ++ xs) ++ us) ≡ refused k n)
carried ts xs us k x = (x.0, ap (read_tokens rule_limit) (append_assoc ts xs us) ∙ x.1)

-- Where the reading from a position halts, the tokens before it and those there are refused.
pub reaches : (ts : List Token) (P : Position) (us : List Token) (k : ℕ) → Before ts P → Halts P us k → (n : ℕ) × (read_tokens rule_limit (ts ++ us) ≡ refused k n)
unfolding read_tokens
reaches ts P us k start h = h slot_limit (omega arith)
reaches ts P us k (behind_line {ts = xs} {slots = slots} {t = t} {s = s} b few m) h =
    carried xs (spell_line t []) us k (reaches xs (next_line slots) (spell_line t [] ++ us) k b (subst (λ (l : List Token). Halts (next_line slots) l k) (line_append t [] us) (line_step slots t s us k few m h)))
reaches ts P us k (behind_slot {ts = xs} {slots = slots} b few) h = carried xs (word SLOT ∷ []) us k (reaches xs (next_line slots) (word SLOT ∷ us) k b (slot_step slots us k few h))
reaches ts P us k (behind_open {ts = xs} {slots = slots} n b fresh) h = carried xs (name n ∷ word OPEN ∷ []) us k (reaches xs (fresh_slot slots) (name n ∷ word OPEN ∷ us) k b (open_step slots n us k fresh h))
reaches ts P us k (behind_value {ts = xs} {ns = ns} n b few fresh) h = carried xs (name n ∷ word COMMA ∷ []) us k (reaches xs (fresh_value ns) (name n ∷ word COMMA ∷ us) k b (value_step ns n us k few fresh h))
reaches ts P us k (lines_over {slots = slots} b) h = reaches ts (next_line slots) us k b (rules_step slots us k h)
reaches ts P us k (behind_rule {ts = xs} {slots = slots} {rs = rs} {t = t} {r = r} b few m) h =
    carried xs (spell_rule t []) us k (reaches xs (next_rule slots rs) (spell_rule t [] ++ us) k b (subst (λ (l : List Token). Halts (next_rule slots rs) l k) (rule_append t [] us) (rule_step slots rs t r us k few m h)))
reaches ts P us k (behind_when {ts = xs} {slots = slots} {rs = rs} b few) h = carried xs (word WHEN ∷ []) us k (reaches xs (next_rule slots rs) (word WHEN ∷ us) k b (when_step slots rs us k few h))
reaches ts P us k (behind_trigger_slot {ts = xs} {slots = slots} {s = s} n b e) h =
    carried xs (name n ∷ word BECOMES ∷ []) us k (reaches xs (next_trigger slots) (name n ∷ word BECOMES ∷ us) k b (trigger_step slots n s us k e h))
reaches ts P us k (behind_if {ts = xs} {slots = slots} {t = trigger s v} {p = p} b m) h =
    carried xs (spell_trigger (trigger s v) (word IF ∷ [])) us k (reaches xs (next_trigger slots) (spell_trigger (trigger s v) (word IF ∷ us)) k b (if_step slots (trigger s v) p us k m h))
reaches ts P us k (no_true_first {slots = slots} b) h = reaches ts (next_condition slots) us k b (literals_first slots us k h)
reaches ts P us k (behind_true {ts = xs} {slots = slots} b) h = carried xs (word TRUE ∷ word AND ∷ []) us k (reaches xs (next_condition slots) (word TRUE ∷ word AND ∷ us) k b (true_step slots us k h))
reaches ts P us k (behind_literal {ts = xs} {slots = slots} {ms = ms} {t = t} {m = m} b few g) h =
    carried xs (spell_literal t (word AND ∷ [])) us k (reaches xs (next_literal slots ms) (spell_literal t (word AND ∷ []) ++ us) k b (subst (λ (l : List Token). Halts (next_literal slots ms) l k) (literal_append t (word AND ∷ []) us) (literal_step slots ms t m us k few g h)))
reaches ts P us k (literal_first {slots = slots} {ms = ms} b) h = reaches ts (next_literal slots ms) us k b (tested_step slots ms us k h)
reaches ts P us k (behind_not {ts = xs} {slots = slots} {ms = ms} b few) h = carried xs (word NOT ∷ []) us k (reaches xs (literal_slot slots ms) (word NOT ∷ us) k b (not_step slots ms us k few h))
reaches ts P us k (behind_becomes {ts = xs} {slots = slots} {ms = ms} {s = s} n b few e) h =
    carried xs (name n ∷ word BECOMES ∷ []) us k (reaches xs (literal_slot slots ms) (name n ∷ word BECOMES ∷ us) k b (becomes_step slots ms n s us k few e h))
reaches ts P us k (behind_has {ts = xs} {slots = slots} {ms = ms} {s = s} n b few e) h =
    carried xs (name n ∷ word HAS ∷ []) us k (reaches xs (literal_slot slots ms) (name n ∷ word HAS ∷ us) k b (has_step slots ms n s us k few e h))
reaches ts P us k (behind_then {ts = xs} {slots = slots} {c = c} {ms = ms} b m few) h =
    carried xs (spell_condition c (word THEN ∷ [])) us k (reaches xs (next_condition slots) (spell_condition c (word THEN ∷ []) ++ us) k b (subst (λ (l : List Token). Halts (next_condition slots) l k) (condition_append c (word THEN ∷ []) us) (then_step slots c ms us k m few h)))
reaches ts P us k (no_brace {slots = slots} b) h = reaches ts (next_assign slots) us k b (alone_step slots us k h)
reaches ts P us k (behind_brace {ts = xs} {slots = slots} b) h = carried xs (word OPEN ∷ []) us k (reaches xs (next_assign slots) (word OPEN ∷ us) k b (brace_step slots us k h))
reaches ts P us k (behind_assignment {ts = xs} {slots = slots} {ps = ps} {t = gets_value s v} {p = p} b few m d) h =
    carried xs (spell_assignment (gets_value s v) (word COMMA ∷ [])) us k (reaches xs (next_listed slots ps) (spell_assignment (gets_value s v) (word COMMA ∷ us)) k b (assignment_step slots ps (gets_value s v) p us k few m d h))
reaches ts P us k (in_braces {slots = slots} {ps = ps} b) h = reaches ts (next_listed slots ps) us k b (listed_step slots ps us k h)
reaches ts P us k (behind_gets {ts = xs} {slots = slots} {ps = ps} {s = s} n b few e d) h =
    carried xs (name n ∷ word GETS ∷ []) us k (reaches xs (assigned_slot slots ps) (name n ∷ word GETS ∷ us) k b (gets_step slots ps n s us k few e d h))

-- A name that stands among others is refused with 14, one that does not stand among them with 16.
again : (ns : List Name) (n : Name) (ts : List Token) → 1 ≤ place_in ns n → new_name ns (name n ∷ ts) ≡ stop 14
unfolding new_name a_name ◌then◌
again ns n ts h = go (place_in ns n) h
  where
    go : (i : ℕ) → 1 ≤ i → new i n ts ≡ stop 14
    go zero l = absurd (omega arith)
    go (suc i) l = unfold new in refl

no_slot_there : (slots : List Slot) (n : Name) (ts : List Token) → place_in (slot_names slots) n ≡ 0 → read_slot slots (name n ∷ ts) ≡ stop 16
unfolding read_slot a_name ◌then◌ known_slot
no_slot_there slots n ts e = ap (λ (i : ℕ). known_slot i ts) e

-- There is room where one more is not one too many.
room_left : (most count : ℕ) → (most ≤ count → ⊥) → count < most
room_left most count h = ⊎_elim (λ l. absurd (h l)) (λ l. l) (le_or_lt most count)

new_there : (i : ℕ) → (1 ≤ i → ⊥) → i ≡ 0
new_there zero h = refl
new_there (suc i) h = absurd (h (omega arith))

-- At a token with a fault, and with none of a smaller number, the reading halts, whatever follows.
halts : (k : ℕ) (P : Position) (t : Token) (us : List Token) → FaultAt k P t → ((j : ℕ) → j < k → ¬ FaultAt j P t) → Halts P (t ∷ us) k
unfolding read_line read_list read_values no_value read_rule no_literal read_literal plain_literal read_assignment read_target unassigned no_assignment a_name read_place read_value if_next known_value ◌then◌
halts k P t us (slot_twice {slots = slots} {n = n} e) least = rw (expects_here SLOT _, again (slot_names slots) n us e)
halts k P t us (value_twice {ns = ns} {n = n} e) least = on
  where
    on : (room : ℕ) → room + length ns ≡ value_limit → read_values room ns (name n ∷ us) ≡ stop 14
    on zero l = rw (again ns n us e)
    on (suc room) l = rw (again ns n us e)
halts k P t us (too_many_slots {slots = slots} e) least = on
  where
    on : (room : ℕ) → room + length slots ≡ slot_limit → (n : ℕ) × (read_lines rule_limit room slots (word SLOT ∷ us) ≡ refused 15 n)
    on zero l = (0, slot_too_many slots us)
    on (suc room) l = absurd (omega arith)
halts k P t us (too_many_values {ns = ns} {n = n} e) least = on
  where
    on : (room : ℕ) → room + length ns ≡ value_limit → read_values room ns (name n ∷ us) ≡ stop 15
    on zero l = rw (new_here ns n us (new_there (place_in ns n) (λ h. least 14 (omega arith) (value_twice h))))
    on (suc room) l = absurd (omega arith)
halts k P t us (too_many_rules {slots = slots} {rs = rs} e) least = (refl, on)
  where
    on : (room : ℕ) → room + length rs ≡ rule_limit → (n : ℕ) × (read_rules room slots rs (word WHEN ∷ us) ≡ refused 15 n)
    on zero l = (length rs, one_too_many slots rs us)
    on (suc room) l = absurd (omega arith)
halts k P t us (too_many_literals e) least = (refl, λ l. absurd (omega arith), λ l. refl)
halts k P t us (too_many_nots e) least = (refl, λ l. absurd (omega arith), λ l. refl)
halts k P t us (too_many_assignments e) least = (refl, λ l. absurd (omega arith), λ l. refl)
halts k P t us (no_trigger_slot {slots = slots} {n = n} e) least = rw (expects_here WHEN _, no_slot_there slots n us e)
halts k P t us (no_tested_slot {slots = slots} {ms = ms} {n = n} e) least =
    let few = room_left literal_limit (length ms) (λ h. least 15 (omega arith) (too_many_literals h)) in
    (refl, λ l neg. rw (no_slot_there slots n us e), λ l. absurd (omega arith))
halts k P t us (no_assigned_slot {slots = slots} {ps = ps} {n = n} e) least =
    let few = room_left assignment_limit (length ps) (λ h. least 15 (omega arith) (too_many_assignments h)) in
    (refl, λ l. rw (no_slot_there slots n us e), λ l. absurd (omega arith))
halts k P t us (no_such_value {slots = slots} {s = s} {n = n} e) least = ap (λ (i : ℕ). known_value i us) e
halts k P t us (slot_assigned_twice {slots = slots} {ps = ps} {n = n} {s = s} e d) least =
    let few = room_left assignment_limit (length ps) (λ h. least 15 (omega arith) (too_many_assignments h)) in
    (refl, λ l. rw (slot_known slots n s us e, d), λ l. absurd (omega arith))

-- Tokens before a position and a token that has a fault there, and none of a smaller number, are refused with the number of that fault, whatever follows.
pub fault_refused : (ts : List Token) (P : Position) (t : Token) (us : List Token) (k : ℕ) → Before ts P → FaultAt k P t → ((j : ℕ) → j < k → ¬ FaultAt j P t) → (n : ℕ) × (read_tokens rule_limit (ts ++ t ∷ us) ≡ refused k n)
fault_refused ts P t us k b f least = reaches ts P (t ∷ us) k b (halts k P t us f least)
