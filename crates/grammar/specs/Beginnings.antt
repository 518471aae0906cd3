-- The beginnings of a rule file: what the tokens before a token have said, and which tokens have the faults 14 to 17 there (document 01, 'Rule text' and 'Refusals'). Nothing here goes by the one-pass reading.
use Rattle.std.specs.Prelude.{ℕ, suc, ◌≤◌, ◌<◌, ◌≡◌, true, false, List, [], ◌∷◌, ◌++◌, length}
use Rattle.text.specs.Tokens.{Name, Token, word, name, SLOT, WHEN, IF, THEN, AND, NOT, TRUE, OPEN, COMMA, BECOMES, HAS, GETS}
use Rattle.model.specs.Rules.{Pair, Literal, Rule, assigns}
use Rattle.laws.specs.Limits.{slot_limit, value_limit, rule_limit, literal_limit, assignment_limit}
use Rattle.grammar.specs.Files.{Slot, place_in, slot_names, values_of}
use Rattle.grammar.specs.Grammar.{RuleTree, TriggerTree, ConditionTree, LiteralTree, AssignmentTree, LineTree, spell_trigger, spell_literal, spell_condition, spell_assignment, spell_rule, spell_line}
use Rattle.grammar.specs.Meaning.{MeansTrigger, MeansLiteral, MeansCondition, MeansAssignment, MeansRule, MeansLine}

-- What may stand next, with what counts there of the tokens before.
pub data Position : Type 0 where
  -- A slot line, after those of these slots.
  next_line : List Slot → Position
  -- The name of a slot to be declared, after these slots.
  fresh_slot : List Slot → Position
  -- The name of a value to be declared, after these of its slot.
  fresh_value : List Name → Position
  -- A rule over these slots, after these rules.
  next_rule : List Slot → List Rule → Position
  -- A trigger.
  next_trigger : List Slot → Position
  -- A condition.
  next_condition : List Slot → Position
  -- A literal, after these of its condition.
  next_literal : List Slot → List Literal → Position
  -- A slot's name in a literal, or a NOT before it, after these literals of its condition.
  literal_slot : List Slot → List Literal → Position
  -- What follows THEN.
  next_assign : List Slot → Position
  -- An assignment in braces, after these.
  next_listed : List Slot → List Pair → Position
  -- The name of a slot to be assigned, after these assignments of its rule.
  assigned_slot : List Slot → List Pair → Position
  -- A value of the slot of this number, by its name or NONE.
  next_value : List Slot → ℕ → Position

-- These tokens stand before a position: slot lines, rules, and the beginning of one more statement, all declared and within the limits.
pub data Before : List Token → Position → Type 0 where
  -- Slot lines, and in one its name and the values so far, each with a comma.
  start : Before [] (next_line [])
  behind_line : {ts : List Token} {slots : List Slot} {t : LineTree} {s : Slot}
      → Before ts (next_line slots) → length slots < slot_limit → MeansLine slots t s → Before (ts ++ spell_line t []) (next_line (slots ++ s ∷ []))
  behind_slot : {ts : List Token} {slots : List Slot} → Before ts (next_line slots) → length slots < slot_limit → Before (ts ++ word SLOT ∷ []) (fresh_slot slots)
  behind_open : {ts : List Token} {slots : List Slot} (n : Name)
      → Before ts (fresh_slot slots) → place_in (slot_names slots) n ≡ 0 → Before (ts ++ name n ∷ word OPEN ∷ []) (fresh_value [])
  behind_value : {ts : List Token} {ns : List Name} (n : Name)
      → Before ts (fresh_value ns) → length ns < value_limit → place_in ns n ≡ 0 → Before (ts ++ name n ∷ word COMMA ∷ []) (fresh_value (ns ++ n ∷ []))
  -- Rules, and in one its trigger.
  lines_over : {ts : List Token} {slots : List Slot} → Before ts (next_line slots) → Before ts (next_rule slots [])
  behind_rule : {ts : List Token} {slots : List Slot} {rs : List Rule} {t : RuleTree} {r : Rule}
      → Before ts (next_rule slots rs) → length rs < rule_limit → MeansRule slots t r → Before (ts ++ spell_rule t []) (next_rule slots (rs ++ r ∷ []))
  behind_when : {ts : List Token} {slots : List Slot} {rs : List Rule} → Before ts (next_rule slots rs) → length rs < rule_limit → Before (ts ++ word WHEN ∷ []) (next_trigger slots)
  behind_trigger_slot : {ts : List Token} {slots : List Slot} {s : ℕ} (n : Name)
      → Before ts (next_trigger slots) → place_in (slot_names slots) n ≡ suc s → Before (ts ++ name n ∷ word BECOMES ∷ []) (next_value slots s)
  behind_if : {ts : List Token} {slots : List Slot} {t : TriggerTree} {p : Pair}
      → Before ts (next_trigger slots) → MeansTrigger slots t p → Before (ts ++ spell_trigger t (word IF ∷ [])) (next_condition slots)
  -- A condition: TRUE AND or not, and literals so far, each with AND; in one its NOTs, its slot and its mark.
  no_true_first : {ts : List Token} {slots : List Slot} → Before ts (next_condition slots) → Before ts (next_literal slots [])
  behind_true : {ts : List Token} {slots : List Slot} → Before ts (next_condition slots) → Before (ts ++ word TRUE ∷ word AND ∷ []) (next_literal slots [])
  behind_literal : {ts : List Token} {slots : List Slot} {ms : List Literal} {t : LiteralTree} {m : Literal}
      → Before ts (next_literal slots ms) → length ms < literal_limit → MeansLiteral slots t m → Before (ts ++ spell_literal t (word AND ∷ [])) (next_literal slots (ms ++ m ∷ []))
  literal_first : {ts : List Token} {slots : List Slot} {ms : List Literal} → Before ts (next_literal slots ms) → Before ts (literal_slot slots ms)
  behind_not : {ts : List Token} {slots : List Slot} {ms : List Literal} → Before ts (literal_slot slots ms) → length ms < literal_limit → Before (ts ++ word NOT ∷ []) (literal_slot slots ms)
  behind_becomes : {ts : List Token} {slots : List Slot} {ms : List Literal} {s : ℕ} (n : Name)
      → Before ts (literal_slot slots ms) → length ms < literal_limit → place_in (slot_names slots) n ≡ suc s → Before (ts ++ name n ∷ word BECOMES ∷ []) (next_value slots s)
  behind_has : {ts : List Token} {slots : List Slot} {ms : List Literal} {s : ℕ} (n : Name)
      → Before ts (literal_slot slots ms) → length ms < literal_limit → place_in (slot_names slots) n ≡ suc s → Before (ts ++ name n ∷ word HAS ∷ []) (next_value slots s)
  -- What follows THEN: one assignment, or in braces those so far, each with a comma; in one its slot and its mark.
  behind_then : {ts : List Token} {slots : List Slot} {c : ConditionTree} {ms : List Literal}
      → Before ts (next_condition slots) → MeansCondition slots c ms → length ms ≤ literal_limit → Before (ts ++ spell_condition c (word THEN ∷ [])) (next_assign slots)
  no_brace : {ts : List Token} {slots : List Slot} → Before ts (next_assign slots) → Before ts (assigned_slot slots [])
  behind_brace : {ts : List Token} {slots : List Slot} → Before ts (next_assign slots) → Before (ts ++ word OPEN ∷ []) (next_listed slots [])
  behind_assignment : {ts : List Token} {slots : List Slot} {ps : List Pair} {t : AssignmentTree} {p : Pair}
      → Before ts (next_listed slots ps) → length ps < assignment_limit → MeansAssignment slots t p → assigns ps p.slot ≡ false
      → Before (ts ++ spell_assignment t (word COMMA ∷ [])) (next_listed slots (ps ++ p ∷ []))
  in_braces : {ts : List Token} {slots : List Slot} {ps : List Pair} → Before ts (next_listed slots ps) → Before ts (assigned_slot slots ps)
  behind_gets : {ts : List Token} {slots : List Slot} {ps : List Pair} {s : ℕ} (n : Name)
      → Before ts (assigned_slot slots ps) → length ps < assignment_limit → place_in (slot_names slots) n ≡ suc s → assigns ps s ≡ false
      → Before (ts ++ name n ∷ word GETS ∷ []) (next_value slots s)

-- A token at a position has the fault of this number, whatever other faults it has.
pub data FaultAt : ℕ → Position → Token → Type 0 where
  -- 14: a slot, or a value within one slot, declared twice.
  slot_twice : {slots : List Slot} {n : Name} → 1 ≤ place_in (slot_names slots) n → FaultAt 14 (fresh_slot slots) (name n)
  value_twice : {ns : List Name} {n : Name} → 1 ≤ place_in ns n → FaultAt 14 (fresh_value ns) (name n)
  -- 15: one too many, at SLOT, at a new value's name, at WHEN, at a literal's first token (no NOT is passed where there is no room), at an assigned slot's name.
  too_many_slots : {slots : List Slot} → slot_limit ≤ length slots → FaultAt 15 (next_line slots) (word SLOT)
  too_many_values : {ns : List Name} {n : Name} → value_limit ≤ length ns → FaultAt 15 (fresh_value ns) (name n)
  too_many_rules : {slots : List Slot} {rs : List Rule} → rule_limit ≤ length rs → FaultAt 15 (next_rule slots rs) (word WHEN)
  too_many_literals : {slots : List Slot} {ms : List Literal} {n : Name} → literal_limit ≤ length ms → FaultAt 15 (literal_slot slots ms) (name n)
  too_many_nots : {slots : List Slot} {ms : List Literal} → literal_limit ≤ length ms → FaultAt 15 (literal_slot slots ms) (word NOT)
  too_many_assignments : {slots : List Slot} {ps : List Pair} {n : Name} → assignment_limit ≤ length ps → FaultAt 15 (assigned_slot slots ps) (name n)
  -- 16: a slot, or a value of that slot, not declared.
  no_trigger_slot : {slots : List Slot} {n : Name} → place_in (slot_names slots) n ≡ 0 → FaultAt 16 (next_trigger slots) (name n)
  no_tested_slot : {slots : List Slot} {ms : List Literal} {n : Name} → place_in (slot_names slots) n ≡ 0 → FaultAt 16 (literal_slot slots ms) (name n)
  no_assigned_slot : {slots : List Slot} {ps : List Pair} {n : Name} → place_in (slot_names slots) n ≡ 0 → FaultAt 16 (assigned_slot slots ps) (name n)
  no_such_value : {slots : List Slot} {s : ℕ} {n : Name} → place_in (values_of slots s) n ≡ 0 → FaultAt 16 (next_value slots s) (name n)
  -- 17: a slot assigned twice in one rule.
  slot_assigned_twice : {slots : List Slot} {ps : List Pair} {n : Name} {s : ℕ} → place_in (slot_names slots) n ≡ suc s → assigns ps s ≡ true → FaultAt 17 (assigned_slot slots ps) (name n)
