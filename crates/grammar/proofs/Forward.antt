-- What a tree derives is read as what it means.
-- Assumes nothing.
use Prim.Native.Nat.{ℕ, zero, suc, ◌+◌, ◌-◌, ◌≤◌, ◌<◌}
use native.Mathlib.Omega.{arith}
use mathlib.Core.Path.{◌≡◌, refl, sym, ap, ◌∙◌}
use mathlib.Core.Bool.{Bool, false, not, cond}
use mathlib.Core.List.{List, [], ◌∷◌, ◌++◌, append_assoc, append-nil}
use borrow.Author.Tests.{le-leb, lt-leb, eq-eqb}
use lib.ListN.{length, length-append}
use Rattle.text.specs.Tokens.{Name, Token, word, name, SLOT, WHEN, IF, THEN, AND, TRUE, OPEN, CLOSE, COMMA, SEMICOLON, BECOMES, GETS, tokens}
use Rattle.model.specs.Rules.{Pair, Literal, Rule, assigns}
use Rattle.laws.specs.Limits.{text_limit, slot_limit, value_limit, rule_limit, literal_limit, assignment_limit}
use Rattle.grammar.specs.Files.{Slot, File, place_in, slot_names, values_of}
use Rattle.grammar.specs.Grammar.{RuleTree, rule, trigger, SlotvalTree, ConditionTree, LiteralTree, not_literal, becomes_value, holds_value, AssignTree, AssignmentListTree, AssignmentTree, gets_value, ValueListTree, LineTree, line, FileTree, spell, spell_slotval, spell_literal, spell_condition, spell_assignment, spell_assignments, spell_assign, spell_rule, spell_rules, spell_values, spell_line, spell_lines}
use Rattle.grammar.specs.Reading.{Part, took, stop, accepted, refused, ◌then◌, expects, fork, a_name, begins_with, if_next, new, new_name, known_slot, known_value, unassigned, read_slot, read_place, read_value, read_target, read_list, plain_literal, read_literal, no_literal, read_literals, read_condition, read_assignment, no_assignment, read_assignments, read_assign, read_rule, no_value, read_values, read_line, go_on, read_rules, read_lines, read_tokens, parse, parse_within}
use Rattle.grammar.specs.Meaning.{MeansSlotval, means_name, means_none, Names, turned, nots, tests_change, tested_slot, tested_value, MeansLiteral, MeansCondition, means_and, means_one, means_true, MeansAssignment, means_assignment, MeansAssignments, means_first, means_comma, MeansAssign, means_alone, means_braces, means_trigger, MeansRule, means_rule, MeansRules, no_rules, more_rules, MeansValues, means_value, means_values, MeansLine, means_line, MeansLines, no_lines, more_lines, Means, IsFile}

pub took_then : {A B : Type 0} (a : A) (ts : List Token) (f : A → List Token → Part B) → (took a ts then f) ≡ f a ts
unfolding ◌then◌
took_then a ts f = refl

pub expects_here : (w : ℕ) (ts : List Token) → expects w (word w ∷ ts) ≡ took tt ts
unfolding expects
expects_here w ts = ap (λ (t : Bool). cond t (took tt ts) (stop 12)) (eq-eqb w w refl)

slot_here : (slots : List Slot) (s : Name) (v : SlotvalTree) (p : Pair) (ts : List Token) → Names slots s v p → read_slot slots (name s ∷ ts) ≡ took p.slot ts
unfolding read_slot a_name ◌then◌ known_slot
slot_here slots s v p ts n = ap (λ (k : ℕ). known_slot k ts) n.slot_is

-- A value that means a number is taken as that number.
slotval_here : (slots : List Slot) (s : ℕ) (v : SlotvalTree) (k : ℕ) (ts : List Token) → MeansSlotval (values_of slots s) v k → read_value slots s (spell_slotval v ∷ ts) ≡ took k ts
unfolding read_value read_place if_next a_name ◌then◌ known_value
slotval_here slots s v k ts (means_name e) = ap (λ (i : ℕ). known_value i ts) e
slotval_here slots s v k ts means_none = refl

pub value_here : (slots : List Slot) (s : Name) (v : SlotvalTree) (p : Pair) (ts : List Token) → Names slots s v p → read_value slots p.slot (spell_slotval v ∷ ts) ≡ took p.value ts
value_here slots s v p ts n = slotval_here slots p.slot v p.value ts n.value_is

target_here : (slots : List Slot) (ps : List Pair) (s : Name) (v : SlotvalTree) (p : Pair) (ts : List Token) → Names slots s v p → assigns ps p.slot ≡ false
    → read_target slots ps (name s ∷ ts) ≡ took p.slot ts
unfolding read_target unassigned
target_here slots ps s v p ts n e = rw (slot_here slots s v p ts n, took_then) (ap (λ (t : Bool). unassigned t p.slot ts) e)

pub new_here : (ns : List Name) (n : Name) (ts : List Token) → place_in ns n ≡ 0 → new_name ns (name n ∷ ts) ≡ took n ts
unfolding new_name a_name ◌then◌ new
new_here ns n ts e = ap (λ (k : ℕ). new k n ts) e

-- What follows a part of a list: `sep` and more, or `end`.
abbrev pub after_part : {A : Type 0} → (List A → List Token → Part A) → (List A → List Token → Part (List A)) → ℕ → ℕ → ℕ → List A → List Token → Part (List A)
after_part one none sep end room sofar rest = fork sep end (λ more. read_list one none sep end room sofar more) (took sofar) rest

pub list_step : {A : Type 0} (one : List A → List Token → Part A) (none : List A → List Token → Part (List A)) (sep end room : ℕ) (sofar : List A) (ts : List Token) (a : A) (rest : List Token)
    → one sofar ts ≡ took a rest → read_list one none sep end (suc room) sofar ts ≡ after_part one none sep end room (sofar ++ a ∷ []) rest
unfolding read_list
list_step one none sep end room sofar ts a rest e = rw (e, took_then)

-- A literal.
pub literal_read : (slots : List Slot) (l : LiteralTree) (p : Pair) (neg : Bool) (rest : List Token) → Names slots (tested_slot l) (tested_value l) p
    → read_literal (spell_literal l rest) slots neg ≡ took (record { becomes = tests_change l; negated = turned (nots l) neg; pair = p }) rest
unfolding read_literal plain_literal fork
literal_read slots (not_literal l) p neg rest n = literal_read slots l p (not neg) rest n
literal_read slots (becomes_value s v) p neg rest n = rw (slot_here slots s v p _ n, took_then, value_here slots s v p _ n, took_then)
literal_read slots (holds_value s v) p neg rest n = rw (slot_here slots s v p _ n, took_then, value_here slots s v p _ n, took_then)

literal_is : (slots : List Slot) (l : LiteralTree) (m : Literal) (rest : List Token) → MeansLiteral slots l m → read_literal (spell_literal l rest) slots false ≡ took m rest
literal_is slots l m rest h =
    literal_read slots l m.pair false rest h.names
    ∙ ap (λ (x : Literal). took x rest) (λ i. record { becomes = sym h.mark i; negated = sym h.sign i; pair = m.pair })

-- What follows a literal: AND and more, or THEN.
abbrev pub after_literal : List Slot → ℕ → List Literal → List Token → Part (List Literal)
after_literal slots = after_part (λ sofar ts. read_literal ts slots false) no_literal AND THEN

pub literals_step : (slots : List Slot) (room : ℕ) (ms : List Literal) (l : LiteralTree) (m : Literal) (rest : List Token) → MeansLiteral slots l m
    → read_literals slots (suc room) ms (spell_literal l rest) ≡ after_literal slots room (ms ++ m ∷ []) rest
unfolding read_literals
literals_step slots room ms l m rest h = list_step _ _ AND THEN room ms (spell_literal l rest) m rest (literal_is slots l m rest h)

pub no_true : (l : LiteralTree) (rest : List Token) → begins_with TRUE (spell_literal l rest) ≡ false
no_true (not_literal l) rest = refl
no_true (becomes_value s v) rest = refl
no_true (holds_value s v) rest = refl

pub and_here : (slots : List Slot) (room : ℕ) (ms : List Literal) (rest : List Token) → after_literal slots room ms (word AND ∷ rest) ≡ read_literals slots room ms rest
unfolding fork read_literals
and_here slots room ms rest = refl

pub then_here : (slots : List Slot) (room : ℕ) (ms : List Literal) (rest : List Token) → after_literal slots room ms (word THEN ∷ rest) ≡ took ms rest
unfolding fork
then_here slots room ms rest = refl

condition_one : (slots : List Slot) (l : LiteralTree) (rest : List Token) → read_condition slots (spell_literal l rest) ≡ read_literals slots literal_limit [] (spell_literal l rest)
unfolding read_condition if_next
condition_one slots l rest = rw (no_true l rest)

pub condition_true : (slots : List Slot) (rest : List Token) → read_condition slots (word TRUE ∷ rest) ≡ after_literal slots literal_limit [] rest
unfolding read_condition if_next read_literals
condition_true slots rest = refl

pub condition_read : (slots : List Slot) (c : ConditionTree) (ms : List Literal) (rest : List Token) (room : ℕ) → MeansCondition slots c ms → room + length ms ≡ literal_limit
    → read_condition slots (spell_condition c rest) ≡ after_literal slots room ms rest
condition_read slots c ms rest room (means_and {c = d} {ms = ls} {l = l} {m = m} g h) e =
    condition_read slots d ls (word AND ∷ spell_literal l rest) (suc room) g (let x = length-append ls (m ∷ []) in omega arith)
    ∙ and_here slots (suc room) ls (spell_literal l rest)
    ∙ literals_step slots room ls l m rest h
condition_read slots c ms rest room (means_one {l = l} {m = m} h) e =
    let z : literal_limit ≡ suc room = omega arith in
    condition_one slots l rest ∙ ap (λ (k : ℕ). read_literals slots k [] (spell_literal l rest)) z ∙ literals_step slots room [] l m rest h
condition_read slots c ms rest room means_true e =
    let z : literal_limit ≡ room = omega arith in
    condition_true slots rest ∙ ap (λ (k : ℕ). after_literal slots k [] rest) z

-- Assignments.
assignment_is : (slots : List Slot) (ps : List Pair) (a : AssignmentTree) (p : Pair) (rest : List Token) → MeansAssignment slots a p
    → assigns ps p.slot ≡ false → read_assignment slots ps (spell_assignment a rest) ≡ took p rest
unfolding read_assignment
assignment_is slots ps a p rest (means_assignment {s = s} {v = v} n) e =
    rw (target_here slots ps s v p _ n e, took_then, expects_here GETS _, took_then, value_here slots s v p rest n, took_then)

-- What follows an assignment in braces: a comma and more, or `}`.
abbrev pub after_assignment : List Slot → ℕ → List Pair → List Token → Part (List Pair)
after_assignment slots = after_part (read_assignment slots) no_assignment COMMA CLOSE

pub assignments_step : (slots : List Slot) (room : ℕ) (ps : List Pair) (a : AssignmentTree) (p : Pair) (rest : List Token) → MeansAssignment slots a p
    → assigns ps p.slot ≡ false → read_assignments slots (suc room) ps (spell_assignment a rest) ≡ after_assignment slots room (ps ++ p ∷ []) rest
unfolding read_assignments
assignments_step slots room ps a p rest n e = list_step _ _ COMMA CLOSE room ps (spell_assignment a rest) p rest (assignment_is slots ps a p rest n e)

assignments_read : (slots : List Slot) (l : AssignmentListTree) (ps : List Pair) (rest : List Token) (room : ℕ) → MeansAssignments slots l ps → room + length ps ≡ assignment_limit
    → read_assignments slots assignment_limit [] (spell_assignments l rest) ≡ after_assignment slots room ps rest
unfolding fork assigns read_assignments
assignments_read slots l ps rest room (means_first {a = a} {p = p} n) e =
    let z : assignment_limit ≡ suc room = omega arith in
    ap (λ (k : ℕ). read_assignments slots k [] (spell_assignment a rest)) z ∙ assignments_step slots room [] a p rest n refl
assignments_read slots l ps rest room (means_comma {l = k} {ps = qs} {a = a} {p = p} g n d) e =
    assignments_read slots k qs (word COMMA ∷ spell_assignment a rest) (suc room) g (let x = length-append qs (p ∷ []) in omega arith)
    ∙ assignments_step slots room qs a p rest n d

pub no_open : (a : AssignmentTree) (rest : List Token) → begins_with OPEN (spell_assignment a rest) ≡ false
no_open (gets_value s v) rest = refl

assign_read : (slots : List Slot) (a : AssignTree) (ps : List Pair) (rest : List Token) → MeansAssign slots a ps → length ps ≤ assignment_limit
    → read_assign slots (spell_assign a rest) ≡ took ps rest
unfolding read_assign if_next fork assigns read_assignments
assign_read slots a ps rest (means_alone {a = b} {p = p} n) h = rw (no_open b rest, assignment_is slots [] b p rest n refl, took_then)
assign_read slots a ps rest (means_braces {l = l} g) h = assignments_read slots l ps (word CLOSE ∷ rest) (assignment_limit - length ps) g (omega arith)

-- A rule.
pub rule_read : (slots : List Slot) (t : RuleTree) (r : Rule) (rest : List Token) → MeansRule slots t r → read_rule slots (spell_rule t rest) ≡ took r rest
unfolding read_rule
rule_read slots t r rest (means_rule {c = c} {a = a} (means_trigger {s = s} {v = v} n) m few g most) =
    rw (
      expects_here WHEN _,
      took_then,
      slot_here slots s v r.trigger _ n,
      took_then,
      expects_here BECOMES _,
      took_then,
      value_here slots s v r.trigger _ n,
      took_then,
      expects_here IF _,
      took_then,
      condition_read slots c r.literals _ (literal_limit - length r.literals) m (omega arith),
      then_here,
      took_then,
      assign_read slots a r.assignments _ g most,
      took_then,
      expects_here SEMICOLON _,
      took_then,
    )

rules_read : (slots : List Slot) (ts : List RuleTree) (rs sofar : List Rule) (room : ℕ) → MeansRules slots ts rs → length rs ≤ room
    → read_rules room slots sofar (spell_rules ts []) ≡ accepted (record { slots = slots; rules = sofar ++ rs })
unfolding read_rules go_on
rules_read slots ts rs sofar zero no_rules h = rw append-nil
rules_read slots ts rs sofar (suc room) no_rules h = rw append-nil
rules_read slots ts rs sofar zero (more_rules g gs) h = absurd (omega arith)
rules_read slots ts rs sofar (suc room) (more_rules {t = rule (trigger s v) c a} {r = r} {ts = us} {rs = qs} g gs) h =
    rw (rule_read slots (rule (trigger s v) c a) r (spell_rules us []) g)
    (rules_read slots us qs (sofar ++ r ∷ []) room gs (omega arith) ∙ rw append_assoc)

-- What follows a value's name: a comma and more, or `}`.
abbrev pub after_value : ℕ → List Name → List Token → Part (List Name)
after_value = after_part new_name no_value COMMA CLOSE

pub values_step : (room : ℕ) (ns : List Name) (n : Name) (rest : List Token) → place_in ns n ≡ 0
    → read_values (suc room) ns (name n ∷ rest) ≡ after_value room (ns ++ n ∷ []) rest
unfolding read_values
values_step room ns n rest e = list_step _ _ COMMA CLOSE room ns (name n ∷ rest) n rest (new_here ns n rest e)

values_read : (vs : ValueListTree) (ns : List Name) (rest : List Token) (room : ℕ) → MeansValues vs ns → room + length ns ≡ value_limit
    → read_values value_limit [] (spell_values vs rest) ≡ after_value room ns rest
unfolding fork read_values
values_read vs ns rest room (means_value {n = n}) e =
    let z : value_limit ≡ suc room = omega arith in
    ap (λ (k : ℕ). read_values k [] (name n ∷ rest)) z ∙ values_step room [] n rest refl
values_read vs ns rest room (means_values {vs = ws} {ns = ms} {n = n} g d) e =
    values_read ws ms (word COMMA ∷ name n ∷ rest) (suc room) g (let x = length-append ms (n ∷ []) in omega arith)
    ∙ values_step room ms n rest d

close_here : (room : ℕ) (ns : List Name) (rest : List Token) → after_value room ns (word CLOSE ∷ rest) ≡ took ns rest
unfolding fork
close_here room ns rest = refl

pub line_read : (before : List Slot) (t : LineTree) (s : Slot) (rest : List Token) → MeansLine before t s → read_line before (spell_line t rest) ≡ took s rest
unfolding read_line
line_read before t s rest (means_line {vs = vs} fresh g few) =
    rw (
      expects_here SLOT _,
      took_then,
      new_here (slot_names before) s.name _ fresh,
      took_then,
      expects_here OPEN _,
      took_then,
      values_read vs s.values _ (value_limit - length s.values) g (omega arith),
      close_here,
      took_then,
      expects_here SEMICOLON _,
      took_then,
    )

pub no_slot_first : (ts : List RuleTree) → begins_with SLOT (spell_rules ts []) ≡ false
no_slot_first [] = refl
no_slot_first (rule t c a ∷ ts) = refl

-- Where no SLOT stands next the rules begin.
pub rules_begin : (most room : ℕ) (slots : List Slot) (ts : List Token) → begins_with SLOT ts ≡ false → read_lines most room slots ts ≡ read_rules most slots [] ts
unfolding read_lines if_next
rules_begin most zero slots ts e = rw e
rules_begin most (suc room) slots ts e = rw e

-- There are at least as many slots in the end as before.
lines_grow : (before : List Slot) (ts : List LineTree) (all : List Slot) → MeansLines before ts all → length before ≤ length all
lines_grow before ts all no_lines = omega arith
lines_grow before ts all (more_lines {s = s} h hs) = let x = length-append before (s ∷ []) in let y = lines_grow _ _ all hs in omega arith

lines_read : (before : List Slot) (ts : List LineTree) (all : List Slot) (us : List RuleTree) (room : ℕ) → MeansLines before ts all → length all ≤ room + length before
    → read_lines rule_limit room before (spell_lines ts (spell_rules us [])) ≡ read_rules rule_limit all [] (spell_rules us [])
unfolding read_lines if_next go_on
lines_read before ts all us room no_lines h = rules_begin rule_limit room before (spell_rules us []) (no_slot_first us)
lines_read before ts all us zero (more_lines {s = s} g gs) h = absurd (let x = length-append before (s ∷ []) in let y = lines_grow _ _ all gs in omega arith)
lines_read before ts all us (suc room) (more_lines {t = line n vs} {s = s} {ts = ws} g gs) h =
    rw (line_read before (line n vs) s (spell_lines ws (spell_rules us [])) g)
    (lines_read (before ++ s ∷ []) ws all us room gs (let x = length-append before (s ∷ []) in omega arith))

-- The tokens of a tree are read as what the tree means, whatever the length of a text that has them.
pub tree_read : (t : FileTree) (f : File) → Means t f → read_tokens rule_limit (spell t) ≡ accepted f
unfolding read_tokens
tree_read t f m =
    lines_read [] t.lines f.slots t.rules slot_limit m.lines_are (let x = m.few_slots in omega arith)
    ∙ rules_read f.slots t.rules f.rules [] rule_limit m.rules_are m.few_rules

-- A text within the limit is read by its tokens.
pub read_short : (bytes most : ℕ) (text : List ℕ) → length text ≤ bytes → parse_within bytes most text ≡ read_tokens most (tokens text)
unfolding parse_within
read_short bytes most text h = rw (le-leb (length text) bytes h)

-- A text over the limit is refused with 10.
pub read_long : (bytes most : ℕ) (text : List ℕ) → bytes < length text → parse_within bytes most text ≡ refused 10 0
unfolding parse_within
read_long bytes most text h = rw (lt-leb (length text) bytes h)

-- A text that is a file is read as that file.
pub file_parsed : (text : List ℕ) (f : File) → IsFile text f → parse text ≡ accepted f
file_parsed text f h = read_short text_limit rule_limit text h.short ∙ ap (read_tokens rule_limit) (sym h.derives) ∙ tree_read h.tree f h.means
