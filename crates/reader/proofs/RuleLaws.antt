-- Laws of the reading of rules.
-- Assumes nothing.
use Prim.Native.Nat.{ℕ}
use mathlib.Core.Path.{◌≡◌, refl, ◌∙◌}
use mathlib.Core.List.{List}
use Rattle.text.specs.Tokens.{Token, WHEN, IF, BECOMES, SEMICOLON}
use Rattle.model.specs.Rules.{Pair, Literal, Rule}
use Rattle.grammar.specs.Files.{Slot}
use Rattle.grammar.specs.Reading.{Part, took, stop, ◌then◌, expects, a_name, read_slot, read_value, read_condition, read_assign, read_rule}
use Rattle.model.specs.Result.{pair}
use Rattle.reader.specs.inner.Rules.{trigger_pair, read_trigger, read_rest}

-- A trigger, part by part.
pub pair_took : (slots : List Slot) (ts t1 t2 t3 : List Token) (s v : ℕ) → read_slot slots ts ≡ took s t1 → expects BECOMES t1 ≡ took tt t2 → read_value slots s t2 ≡ took v t3
    → trigger_pair slots ts ≡ took (pair s v) t3
unfolding trigger_pair ◌then◌
pair_took slots ts t1 t2 t3 s v e f g = rw (e, f, g)

pub pair_no_name : (slots : List Slot) (ts : List Token) (k : ℕ) → a_name ts ≡ stop k → trigger_pair slots ts ≡ stop k
unfolding trigger_pair read_slot ◌then◌
pair_no_name slots ts k e = rw e

pub pair_no_slot : (slots : List Slot) (ts : List Token) (k : ℕ) → read_slot slots ts ≡ stop k → trigger_pair slots ts ≡ stop k
unfolding trigger_pair ◌then◌
pair_no_slot slots ts k e = rw e

pub pair_no_mark : (slots : List Slot) (ts t1 : List Token) (s k : ℕ) → read_slot slots ts ≡ took s t1 → expects BECOMES t1 ≡ stop k → trigger_pair slots ts ≡ stop k
unfolding trigger_pair ◌then◌
pair_no_mark slots ts t1 s k e f = rw (e, f)

pub pair_no_value : (slots : List Slot) (ts t1 t2 : List Token) (s k : ℕ) → read_slot slots ts ≡ took s t1 → expects BECOMES t1 ≡ took tt t2 → read_value slots s t2 ≡ stop k → trigger_pair slots ts ≡ stop k
unfolding trigger_pair ◌then◌
pair_no_value slots ts t1 t2 s k e f g = rw (e, f, g)

-- The beginning of a rule after its WHEN, part by part.
pub trigger_took : (slots : List Slot) (ts t1 t2 : List Token) (p : Pair) → trigger_pair slots ts ≡ took p t1 → expects IF t1 ≡ took tt t2 → read_trigger slots ts ≡ took p t2
unfolding read_trigger ◌then◌
trigger_took slots ts t1 t2 p e f = rw (e, f)

pub trigger_no_pair : (slots : List Slot) (ts : List Token) (k : ℕ) → trigger_pair slots ts ≡ stop k → read_trigger slots ts ≡ stop k
unfolding read_trigger ◌then◌
trigger_no_pair slots ts k e = rw e

pub trigger_no_if : (slots : List Slot) (ts t1 : List Token) (p : Pair) (k : ℕ) → trigger_pair slots ts ≡ took p t1 → expects IF t1 ≡ stop k → read_trigger slots ts ≡ stop k
unfolding read_trigger ◌then◌
trigger_no_if slots ts t1 p k e f = rw (e, f)

-- A rule after its WHEN is its beginning and its rest.
if_mark : Pair → List Token → Part Pair
if_mark p ts = expects IF ts then λ u t1. took p t1

after_if : (m : Part (Unit {0})) (p : Pair) (g : Pair → List Token → Part Rule) → (m then λ u ts. g p ts) ≡ ((m then λ u ts. took p ts) then g)
unfolding ◌then◌
after_if (took u ts) p g = refl
after_if (stop k) p g = refl

after_value : (m : Part ℕ) (s : ℕ) (g : Pair → List Token → Part Rule)
    → (m then λ v ts. expects IF ts then λ u t1. g (pair s v) t1) ≡ (((m then λ v ts. took (pair s v) ts) then if_mark) then g)
unfolding ◌then◌ if_mark
after_value (took v ts) s g = after_if (expects IF ts) (pair s v) g
after_value (stop k) s g = refl

after_mark : (slots : List Slot) (m : Part (Unit {0})) (s : ℕ) (g : Pair → List Token → Part Rule)
    → (m then λ u ts. read_value slots s ts then λ v t1. expects IF t1 then λ u t2. g (pair s v) t2) ≡ (((m then λ u ts. read_value slots s ts then λ v t1. took (pair s v) t1) then if_mark) then g)
unfolding ◌then◌
after_mark slots (took u ts) s g = after_value (read_value slots s ts) s g
after_mark slots (stop k) s g = refl

after_slot : (slots : List Slot) (m : Part ℕ) (g : Pair → List Token → Part Rule)
    → (m then λ s ts. expects BECOMES ts then λ u t1. read_value slots s t1 then λ v t2. expects IF t2 then λ u t3. g (pair s v) t3)
    ≡ (((m then λ s ts. expects BECOMES ts then λ u t1. read_value slots s t1 then λ v t2. took (pair s v) t2) then if_mark) then g)
unfolding ◌then◌
after_slot slots (took s ts) g = after_mark slots (expects BECOMES ts) s g
after_slot slots (stop k) g = refl

rule_parts : (slots : List Slot) (ts begin : List Token) → expects WHEN ts ≡ took tt begin → read_rule slots ts ≡ (read_trigger slots begin then read_rest slots)
unfolding read_rule read_trigger read_rest if_mark trigger_pair ◌then◌
rule_parts slots ts begin e = rw e (after_slot slots (read_slot slots begin) (read_rest slots))

pub rule_begun : (slots : List Slot) (ts begin left : List Token) (p : Pair) → expects WHEN ts ≡ took tt begin → read_trigger slots begin ≡ took p left → read_rule slots ts ≡ read_rest slots p left
unfolding ◌then◌
rule_begun slots ts begin left p w e = rule_parts slots ts begin w ∙ rw e

pub rule_refused : (slots : List Slot) (ts begin : List Token) (k : ℕ) → expects WHEN ts ≡ took tt begin → read_trigger slots begin ≡ stop k → read_rule slots ts ≡ stop k
unfolding ◌then◌
rule_refused slots ts begin k w e = rule_parts slots ts begin w ∙ rw e

pub rule_no_when : (slots : List Slot) (ts : List Token) (k : ℕ) → expects WHEN ts ≡ stop k → read_rule slots ts ≡ stop k
unfolding read_rule ◌then◌
rule_no_when slots ts k e = rw e

-- The rest of a rule, part by part.
pub rest_took : (slots : List Slot) (p : Pair) (ts t1 t2 t3 : List Token) (ls : List Literal) (ps : List Pair) → read_condition slots ts ≡ took ls t1 → read_assign slots t1 ≡ took ps t2 → expects SEMICOLON t2 ≡ took tt t3
    → read_rest slots p ts ≡ took (record { trigger = p; literals = ls; assignments = ps }) t3
unfolding read_rest ◌then◌
rest_took slots p ts t1 t2 t3 ls ps e f g = rw (e, f, g)

pub rest_no_end : (slots : List Slot) (p : Pair) (ts t1 t2 : List Token) (ls : List Literal) (ps : List Pair) (k : ℕ) → read_condition slots ts ≡ took ls t1 → read_assign slots t1 ≡ took ps t2 → expects SEMICOLON t2 ≡ stop k
    → read_rest slots p ts ≡ stop k
unfolding read_rest ◌then◌
rest_no_end slots p ts t1 t2 ls ps k e f g = rw (e, f, g)

pub rest_no_condition : (slots : List Slot) (p : Pair) (ts : List Token) (k : ℕ) → read_condition slots ts ≡ stop k → read_rest slots p ts ≡ stop k
unfolding read_rest ◌then◌
rest_no_condition slots p ts k e = rw e

pub rest_no_assign : (slots : List Slot) (p : Pair) (ts t1 : List Token) (ls : List Literal) (k : ℕ) → read_condition slots ts ≡ took ls t1 → read_assign slots t1 ≡ stop k → read_rest slots p ts ≡ stop k
unfolding read_rest ◌then◌
rest_no_assign slots p ts t1 ls k e f = rw (e, f)
