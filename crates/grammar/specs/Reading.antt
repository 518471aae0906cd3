-- The reading of a rule file in one pass over its tokens: the file, or the number of its earliest fault (document 01, 'Rule text' and refusals 10 to 17). Of one token's faults the smallest number counts, and nothing behind that token is looked at; the end of the text comes last.
use Rattle.std.specs.Prelude.{ℕ, zero, suc, Bool, true, false, not, cond, List, [], ◌∷◌, ◌++◌, eqb, leb, length, drop}
use Rattle.text.specs.Tokens.{Name, Token, word, name, long, bad, SLOT, WHEN, IF, THEN, AND, NOT, TRUE, NONE, OPEN, CLOSE, COMMA, SEMICOLON, BECOMES, HAS, GETS, tokens}
use Rattle.model.specs.Rules.{Pair, Literal, Rule, assigns}
use Rattle.model.specs.Result.{pair}
use Rattle.laws.specs.Limits.{text_limit, slot_limit, value_limit, rule_limit, literal_limit, assignment_limit, program_text_limit, program_rule_limit}
use Rattle.table.specs.declared.Limits.{Limits}
use Rattle.table.specs.declared.Limits.TheVariants.{Library, Program}
use Rattle.grammar.specs.Files.{Slot, File, place_in, slot_names, values_of}

-- What reading a part gives: what it read and the tokens left, or the number of a refusal.
pub data Part (A : Type 0) : Type 0 where
  took : A → List Token → Part A
  stop : ℕ → Part A

-- What reading a text gives: the file, or a refusal with its second number, the rules completed so far.
pub data Parsed : Type 0 where
  accepted : File → Parsed
  refused : ℕ → ℕ → Parsed

-- First a part, then what follows it.
infixl 20 ◌then◌
unfoldable pub ◌then◌ : {A B : Type 0} → Part A → (A → List Token → Part B) → Part B
took a ts then f = f a ts
stop k then f = stop k

-- The word or mark `w` must stand next. 11: a byte that can begin no token, or class 5 without `=`. 12: a token out of place, or the text ending inside a statement.
unfoldable pub expects : ℕ → List Token → Part (Unit {0})
expects w [] = stop 12
expects w (word v ∷ ts) = cond (eqb v w) (took tt ts) (stop 12)
expects w (name n ∷ ts) = stop 12
expects w (long ∷ ts) = stop 12
expects w (bad ∷ ts) = stop 11

-- One of two words or marks must stand next, each with its own way on; 11 and 12 as before.
unfoldable pub fork : {B : Type 0} → ℕ → ℕ → (List Token → Part B) → (List Token → Part B) → List Token → Part B
fork w v f g [] = stop 12
fork w v f g (word u ∷ ts) = cond (eqb u w) f (cond (eqb u v) g (λ rest. stop 12)) ts
fork w v f g (name n ∷ ts) = stop 12
fork w v f g (long ∷ ts) = stop 12
fork w v f g (bad ∷ ts) = stop 11

-- A name must stand next; 11 and 12 as before. 13: a name over 24 bytes.
unfoldable pub a_name : List Token → Part Name
a_name [] = stop 12
a_name (word v ∷ ts) = stop 12
a_name (name n ∷ ts) = took n ts
a_name (long ∷ ts) = stop 13
a_name (bad ∷ ts) = stop 11

-- Tokens begin with the word or mark `w`.
abbrev pub begins_with : ℕ → List Token → Bool
begins_with w [] = false
begins_with w (word v ∷ ts) = eqb v w
begins_with w (name n ∷ ts) = false
begins_with w (long ∷ ts) = false
begins_with w (bad ∷ ts) = false

-- One way on where the word or mark `w` stands next, another where it does not; nothing is taken.
unfoldable pub if_next : {B : Type 0} → ℕ → (List Token → B) → (List Token → B) → List Token → B
if_next {B} w f g ts = cond {A = List Token → B} (begins_with w ts) f g ts

-- 14: a slot, or a value within one slot, declared twice; the place of a new name is 0.
unfoldable pub new : ℕ → Name → List Token → Part Name
new zero n ts = took n ts
new (suc k) n ts = stop 14

-- 16: a slot, or a value of that slot, not declared. Slots are numbered from 0.
unfoldable pub known_slot : ℕ → List Token → Part ℕ
known_slot zero ts = stop 16
known_slot (suc k) ts = took k ts

-- 16 for a value; those declared are numbered from 1.
unfoldable pub known_value : ℕ → List Token → Part ℕ
known_value zero ts = stop 16
known_value (suc k) ts = took (suc k) ts

-- 17: a slot assigned twice in one rule.
unfoldable pub unassigned : Bool → ℕ → List Token → Part ℕ
unassigned true s ts = stop 17
unassigned false s ts = took s ts

-- A name to be declared, which is none of `names`.
unfoldable pub new_name : List Name → List Token → Part Name
new_name names ts = a_name ts then λ n rest. new (place_in names n) n rest

-- The name of a declared slot.
unfoldable pub read_slot : List Slot → List Token → Part ℕ
read_slot slots ts = a_name ts then λ n rest. known_slot (place_in (slot_names slots) n) rest

-- The name of one of some values, by its place among them, from 1.
unfoldable pub read_place : List Name → List Token → Part ℕ
read_place names ts = a_name ts then λ n rest. known_value (place_in names n) rest

-- A value of slot `s`: the name of one, or NONE, which is 0 and declared nowhere.
unfoldable pub read_value : List Slot → ℕ → List Token → Part ℕ
read_value slots s ts = if_next NONE (λ more. took 0 (drop 1 more)) (read_place (values_of slots s)) ts

-- The name of a slot to be assigned, after the assignments `sofar` of its rule.
unfoldable pub read_target : List Slot → List Pair → List Token → Part ℕ
read_target slots sofar ts = read_slot slots ts then λ s rest. unassigned (assigns sofar s) s rest

-- A list: each of its parts read by `one`, after those of `sofar`, with `sep` between them and `end` after the last. `room` more may come; where none may, `none` names the fault.
unfoldable pub read_list : {A : Type 0} → (List A → List Token → Part A) → (List A → List Token → Part (List A)) → ℕ → ℕ → ℕ → List A → List Token → Part (List A)
read_list one none sep end zero sofar ts = none sofar ts
read_list one none sep end (suc room) sofar ts =
    one sofar ts then λ a rest.
    fork sep end (λ more. read_list one none sep end room (sofar ++ a ∷ []) more) (took (sofar ++ a ∷ [])) rest

-- A literal after its NOTs, which left it `negated` or not.
unfoldable pub plain_literal : List Slot → Bool → List Token → Part Literal
plain_literal slots negated ts =
    read_slot slots ts then λ s rest.
    fork BECOMES HAS
    (λ more. read_value slots s more then λ v left. took (record { becomes = true; negated = negated; pair = pair s v }) left)
    (λ more. read_value slots s more then λ v left. took (record { becomes = false; negated = negated; pair = pair s v }) left)
    rest

-- A literal: each NOT turns it round. Of other words and bad or long tokens 11, 12 and 13 as before.
unfoldable pub read_literal : List Token → List Slot → Bool → Part Literal
read_literal [] slots negated = stop 12
read_literal (word w ∷ ts) slots negated = cond (eqb w NOT) (read_literal ts slots (not negated)) (stop 12)
read_literal (name n ∷ ts) slots negated = plain_literal slots negated (name n ∷ ts)
read_literal (long ∷ ts) slots negated = stop 13
read_literal (bad ∷ ts) slots negated = stop 11

-- No literal may follow. 15: one too many, at a literal's first token, NOT or a name; of other tokens 11, 12 and 13 as before.
unfoldable pub no_literal : List Literal → List Token → Part (List Literal)
no_literal sofar [] = stop 12
no_literal sofar (word w ∷ ts) = cond (eqb w NOT) (stop 15) (stop 12)
no_literal sofar (name n ∷ ts) = stop 15
no_literal sofar (long ∷ ts) = stop 13
no_literal sofar (bad ∷ ts) = stop 11

-- Literals with AND between and THEN at the end.
unfoldable pub read_literals : List Slot → ℕ → List Literal → List Token → Part (List Literal)
read_literals slots = read_list (λ sofar ts. read_literal ts slots false) no_literal AND THEN

-- A condition and its THEN: TRUE may open it, and stands nowhere else.
unfoldable pub read_condition : List Slot → List Token → Part (List Literal)
read_condition slots ts =
    if_next TRUE (λ more. fork AND THEN (read_literals slots literal_limit []) (took []) (drop 1 more))
    (read_literals slots literal_limit []) ts

-- An assignment, after those of `sofar`.
unfoldable pub read_assignment : List Slot → List Pair → List Token → Part Pair
read_assignment slots sofar ts =
    read_target slots sofar ts then λ s t1.
    expects GETS t1 then λ u t2.
    read_value slots s t2 then λ v t3.
    took (pair s v) t3

-- No assignment may follow. 15: one too many, at an assigned slot's name.
unfoldable pub no_assignment : List Pair → List Token → Part (List Pair)
no_assignment sofar ts = a_name ts then λ n rest. stop 15

-- Assignments with commas between and `}` at the end.
unfoldable pub read_assignments : List Slot → ℕ → List Pair → List Token → Part (List Pair)
read_assignments slots = read_list (read_assignment slots) no_assignment COMMA CLOSE

-- What follows THEN, up to the `;`: one assignment, or a list in braces.
unfoldable pub read_assign : List Slot → List Token → Part (List Pair)
read_assign slots ts =
    if_next OPEN (λ more. read_assignments slots assignment_limit [] (drop 1 more))
    (λ more. read_assignment slots [] more then λ p rest. took (p ∷ []) rest) ts

-- A rule.
unfoldable pub read_rule : List Slot → List Token → Part Rule
read_rule slots ts =
    expects WHEN ts then λ u t1.
    read_slot slots t1 then λ s t2.
    expects BECOMES t2 then λ u t3.
    read_value slots s t3 then λ v t4.
    expects IF t4 then λ u t5.
    read_condition slots t5 then λ literals t6.
    read_assign slots t6 then λ assignments t7.
    expects SEMICOLON t7 then λ u t8.
    took (record { trigger = pair s v; literals = literals; assignments = assignments }) t8

-- No value may follow. 15: one too many, at a value's name; 14 where it is declared twice.
unfoldable pub no_value : List Name → List Token → Part (List Name)
no_value sofar ts = new_name sofar ts then λ n rest. stop 15

-- Names of values with commas between and `}` at the end.
unfoldable pub read_values : ℕ → List Name → List Token → Part (List Name)
read_values = read_list new_name no_value COMMA CLOSE

-- A slot line, after those of `slots`.
unfoldable pub read_line : List Slot → List Token → Part Slot
read_line slots ts =
    expects SLOT ts then λ u t1.
    new_name (slot_names slots) t1 then λ n t2.
    expects OPEN t2 then λ u t3.
    read_values value_limit [] t3 then λ vs t4.
    expects SEMICOLON t4 then λ u t5.
    took (record { name = n; values = vs }) t5

-- A statement's refusal gets its second number, the rules done; else the reading goes on.
unfoldable pub go_on : {A : Type 0} → ℕ → Part A → (A → List Token → Parsed) → Parsed
go_on done (took a ts) f = f a ts
go_on done (stop k) f = refused k done

-- The rules, where `room` more may come after `sofar`. 15: one too many, at WHEN.
unfoldable pub read_rules : ℕ → List Slot → List Rule → List Token → Parsed
read_rules zero slots sofar [] = accepted (record { slots = slots; rules = sofar })
read_rules zero slots sofar (t ∷ ts) =
    go_on (length sofar) (expects WHEN (t ∷ ts)) (λ u rest. refused 15 (length sofar))
read_rules (suc room) slots sofar [] = accepted (record { slots = slots; rules = sofar })
read_rules (suc room) slots sofar (t ∷ ts) =
    go_on (length sofar) (read_rule slots (t ∷ ts)) (λ r rest. read_rules room slots (sofar ++ r ∷ []) rest)

-- The slot lines, where `room` more may come after `slots`, then the rules, `most` of them. 15: one too many, at SLOT.
unfoldable pub read_lines : ℕ → ℕ → List Slot → List Token → Parsed
read_lines most zero slots ts = if_next SLOT (λ more. refused 15 0) (read_rules most slots []) ts
read_lines most (suc room) slots ts =
    if_next SLOT (λ more. go_on 0 (read_line slots more) (λ s rest. read_lines most room (slots ++ s ∷ []) rest))
    (read_rules most slots []) ts

-- The reading of tokens that takes so many rules.
unfoldable pub read_tokens : ℕ → List Token → Parsed
read_tokens most ts = read_lines most slot_limit [] ts

-- The reading of a text that takes so many bytes and rules, all but refusal 18. 10: text over these bytes.
unfoldable pub parse_within : ℕ → ℕ → List ℕ → Parsed
parse_within bytes most text = cond (leb (length text) bytes) (read_tokens most (tokens text)) (refused 10 0)

-- The library's, of 262,144 bytes and 2,000 rules.
abbrev pub parse : List ℕ → Parsed
parse = parse_within text_limit rule_limit

-- How many bytes and rules a reading takes by whose limits it reads (document 02, section 7).
abbrev pub bytes_by : Limits → ℕ
bytes_by Library = text_limit
bytes_by Program = program_text_limit

abbrev pub rules_by : Limits → ℕ
rules_by Library = rule_limit
rules_by Program = program_rule_limit

-- The reading of a text by these limits: `parse` is the library's.
abbrev pub parse_by : Limits → List ℕ → Parsed
parse_by limits = parse_within (bytes_by limits) (rules_by limits)
