-- What is read stands in the text: an accepted reading gives a tree.
-- Assumes nothing.
use Prim.Native.Nat.{ℕ, zero, suc, ◌+◌, ◌≤◌}
use native.Mathlib.Omega.{arith}
use mathlib.Core.Path.{◌≡◌, refl, sym, ap, ap₂, subst, ◌∙◌}
use mathlib.Core.Bool.{Bool, true, false, not, cond}
use mathlib.Core.List.{List, [], ◌∷◌, ◌++◌, append_assoc, append-nil}
use mathlib.Core.Logic.{⊎_elim}
use lib.Dec.{eqb, leb}
use borrow.Author.Tests.{leb-true, eqb-true}
use lib.ListN.{length, length-append}
use Rattle.text.specs.Tokens.{Name, Token, word, name, long, bad, SLOT, WHEN, IF, THEN, AND, NOT, TRUE, OPEN, CLOSE, COMMA, SEMICOLON, BECOMES, HAS, GETS, tokens}
use Rattle.model.specs.Rules.{Pair, Literal, Rule, assigns}
use Rattle.laws.specs.Limits.{text_limit, slot_limit, value_limit, rule_limit, literal_limit, assignment_limit}
use Rattle.grammar.specs.Files.{Slot, File, place_in, slot_names, values_of}
use Rattle.grammar.specs.Grammar.{RuleTree, rule, trigger, SlotvalTree, ConditionTree, and_literal, one_literal, true_alone, LiteralTree, not_literal, becomes_value, holds_value, AssignTree, one_alone, braces, AssignmentListTree, one_assignment, comma_assignment, AssignmentTree, gets_value, ValueListTree, one_value, comma_value, LineTree, line, FileTree, spell, spell_slotval, spell_literal, spell_condition, spell_assignment, spell_assignments, spell_assign, spell_rule, spell_rules, spell_values, spell_line, spell_lines}
use Rattle.grammar.specs.Reading.{Part, took, stop, Parsed, accepted, refused, ◌then◌, expects, a_name, new_name, read_slot, read_value, read_target, plain_literal, read_literal, no_literal, read_literals, read_condition, read_assignment, no_assignment, read_assignments, read_assign, read_rule, no_value, read_values, read_line, go_on, read_rules, read_lines, read_tokens, parse, parse_within}
use Rattle.model.specs.Result.{pair}
use Rattle.grammar.specs.Meaning.{MeansSlotval, Names, turned, nots, tests_change, tested_slot, tested_value, MeansLiteral, MeansCondition, means_and, means_one, means_true, MeansAssignment, means_assignment, MeansAssignments, means_first, means_comma, MeansAssign, means_alone, means_braces, means_trigger, MeansRule, means_rule, MeansRules, no_rules, more_rules, MeansValues, means_value, means_values, MeansLine, means_line, MeansLines, no_lines, more_lines, IsFile}
use Rattle.grammar.proofs.Steps.{never, took_same, put, then_back, by_then, cond_back, expects_back, slot_back, value_back, target_back, new_name_back, fork_back, if_next_back, after_back, list_back}

-- A literal that was read.
pub record LiteralFound (ts : List Token) (slots : List Slot) (neg : Bool) (m : Literal) (rest : List Token) : Type 0 where
  pub tree : LiteralTree
  pub spelled : ts ≡ spell_literal tree rest
  pub mark : m.becomes ≡ tests_change tree
  pub sign : m.negated ≡ turned (nots tree) neg
  pub names : Names slots (tested_slot tree) (tested_value tree) m.pair

-- The end of a literal: its mark was read, and a value follows.
value_end : (slots : List Slot) (s : ℕ) (b neg : Bool) (more : List Token) (m : Literal) (rest : List Token)
    → (read_value slots s more then λ v left. took (record { becomes = b; negated = neg; pair = pair s v }) left) ≡ took m rest
    → (v : SlotvalTree) × (k : ℕ) × (more ≡ spell_slotval v ∷ rest) × (m ≡ record { becomes = b; negated = neg; pair = pair s k }) × MeansSlotval (values_of slots s) v k
value_end slots s b neg more m rest e =
    let a = then_back (read_value slots s more) _ m rest e in
    let v = value_back slots s more a.0 a.1 a.2 in
    let t = took_same _ m a.1 rest a.3 in
    (v.0, a.0, v.1 ∙ put (spell_slotval v.0) t.1, sym t.0, v.2)

plain_back : (slots : List Slot) (neg : Bool) (ts : List Token) (m : Literal) (rest : List Token) → plain_literal slots neg ts ≡ took m rest → LiteralFound ts slots neg m rest
unfolding plain_literal
plain_back slots neg ts m rest e =
    let a = then_back (read_slot slots ts) _ m rest e in
    let s = slot_back slots ts a.0 a.1 a.2 in
    ⊎_elim (λ x. let v = value_end slots a.0 true neg x.0 m rest x.2 in record {
      tree = becomes_value s.0 v.0;
      spelled = s.1 ∙ put (name s.0) (x.1 ∙ put (word BECOMES) v.2);
      mark = ap (λ (l : Literal). l.becomes) v.3;
      sign = ap (λ (l : Literal). l.negated) v.3;
      names = subst (λ (l : Literal). Names slots s.0 v.0 l.pair) (sym v.3) (record { slot_is = s.2; value_is = v.4 });
    })
    (λ x. let v = value_end slots a.0 false neg x.0 m rest x.2 in record {
      tree = holds_value s.0 v.0;
      spelled = s.1 ∙ put (name s.0) (x.1 ∙ put (word HAS) v.2);
      mark = ap (λ (l : Literal). l.becomes) v.3;
      sign = ap (λ (l : Literal). l.negated) v.3;
      names = subst (λ (l : Literal). Names slots s.0 v.0 l.pair) (sym v.3) (record { slot_is = s.2; value_is = v.4 });
    })
    (fork_back BECOMES HAS _ _ a.1 m rest a.3)

pub literal_back : (ts : List Token) (slots : List Slot) (neg : Bool) (m : Literal) (rest : List Token) → read_literal ts slots neg ≡ took m rest → LiteralFound ts slots neg m rest
unfolding read_literal
literal_back [] slots neg m rest e = never 12 m rest e
literal_back (word w ∷ ts) slots neg m rest e =
    let h = cond_back (eqb w NOT) (read_literal ts slots (not neg)) 12 m rest e in
    let r = literal_back ts slots (not neg) m rest h.1 in record {
      tree = not_literal r.tree;
      spelled = ap₂ (λ (x : ℕ) (y : List Token). word x ∷ y) (eqb-true w NOT h.0) r.spelled;
      mark = r.mark;
      sign = r.sign;
      names = r.names;
    }
literal_back (name n ∷ ts) slots neg m rest e = plain_back slots neg (name n ∷ ts) m rest e
literal_back (long ∷ ts) slots neg m rest e = never 13 m rest e
literal_back (bad ∷ ts) slots neg m rest e = never 11 m rest e

pub literal_meaning : (ts : List Token) (slots : List Slot) (m : Literal) (rest : List Token) (h : LiteralFound ts slots false m rest) → MeansLiteral slots h.tree m
literal_meaning ts slots m rest h = record { mark = h.mark; sign = h.sign; names = h.names }

pub no_literal_back : (sofar : List Literal) (ts : List Token) (out : List Literal) (rest : List Token) → no_literal sofar ts ≡ took out rest → ⊥
unfolding no_literal
no_literal_back sofar [] out rest e = never 12 out rest e
no_literal_back sofar (word w ∷ ts) out rest e = never _ out rest (cond_back (eqb w NOT) _ 12 out rest e).1
no_literal_back sofar (name n ∷ ts) out rest e = never _ out rest e
no_literal_back sofar (long ∷ ts) out rest e = never 13 out rest e
no_literal_back sofar (bad ∷ ts) out rest e = never 11 out rest e

-- A condition that was read, up to its THEN.
pub condition_back : (slots : List Slot) (ts : List Token) (out : List Literal) (rest : List Token) → read_condition slots ts ≡ took out rest
    → (d : ConditionTree) × (ts ≡ spell_condition d (word THEN ∷ rest)) × MeansCondition slots d out × (length out ≤ literal_limit)
unfolding read_condition read_literals
condition_back slots ts out rest e =
    ⊎_elim (λ x. let r = after_back (λ sofar us. read_literal us slots false) no_literal AND THEN spell_condition (MeansCondition slots) no_literal_back grow literal_limit true_alone [] x.0 out rest means_true x.2 in
    (r.0, x.1 ∙ r.1, r.2, (let z = r.3 in omega arith)))
    (λ x. list_back (λ sofar us. read_literal us slots false) no_literal AND THEN spell_condition (MeansCondition slots) no_literal_back grow literal_limit ts out rest start x)
    (if_next_back TRUE _ _ ts (took out rest) e)
  where
    grow : (c : ConditionTree) (sofar : List Literal) (us : List Token) (m : Literal) (left : List Token) → MeansCondition slots c sofar → read_literal us slots false ≡ took m left
        → (d : ConditionTree) × (spell_condition c (word AND ∷ us) ≡ spell_condition d left) × MeansCondition slots d (sofar ++ m ∷ [])
    grow c sofar us m left g x =
        let a = literal_back us slots false m left x in
        (and_literal c a.tree, ap (λ (y : List Token). spell_condition c (word AND ∷ y)) a.spelled, means_and g (literal_meaning us slots m left a))

    start : (m : Literal) (left : List Token) → read_literal ts slots false ≡ took m left → (d : ConditionTree) × (ts ≡ spell_condition d left) × MeansCondition slots d (m ∷ [])
    start m left x = let a = literal_back ts slots false m left x in (one_literal a.tree, a.spelled, means_one (literal_meaning ts slots m left a))

-- An assignment that was read.
pub assignment_back : (slots : List Slot) (ps : List Pair) (ts : List Token) (p : Pair) (rest : List Token) → read_assignment slots ps ts ≡ took p rest
    → (a : AssignmentTree) × (ts ≡ spell_assignment a rest) × MeansAssignment slots a p × (assigns ps p.slot ≡ false)
unfolding read_assignment
assignment_back slots ps ts p rest e =
    let a = then_back (read_target slots ps ts) _ p rest e in
    let c = then_back (expects GETS a.1) _ p rest a.3 in
    let d = then_back (read_value slots a.0 c.1) _ p rest c.3 in
    let s = target_back slots ps ts a.0 a.1 a.2 in
    let v = value_back slots a.0 c.1 d.0 d.1 d.2 in
    let t = took_same (pair a.0 d.0) p d.1 rest d.3 in (
      gets_value s.0 v.0,
      s.1 ∙ put (name s.0) (expects_back GETS a.1 c.0 c.1 c.2 ∙ put (word GETS) (v.1 ∙ put (spell_slotval v.0) t.1)),
      subst (λ (q : Pair). MeansAssignment slots (gets_value s.0 v.0) q) t.0 (means_assignment (record { slot_is = s.2; value_is = v.2 })),
      subst (λ (q : Pair). assigns ps q.slot ≡ false) t.0 s.3,
    )

pub no_assignment_back : (sofar : List Pair) (ts : List Token) (out : List Pair) (rest : List Token) → no_assignment sofar ts ≡ took out rest → ⊥
unfolding no_assignment
no_assignment_back sofar ts out rest e = let a = then_back (a_name ts) _ out rest e in never _ out rest a.3

-- There is room for an assignment without braces.
pub room_for_one : 1 ≤ assignment_limit
room_for_one = omega arith

-- What was read between THEN and `;`.
assign_back : (slots : List Slot) (ts : List Token) (out : List Pair) (rest : List Token) → read_assign slots ts ≡ took out rest
    → (d : AssignTree) × (ts ≡ spell_assign d rest) × MeansAssign slots d out × (length out ≤ assignment_limit)
unfolding read_assign read_assignments
assign_back slots ts out rest e =
    ⊎_elim (λ x. let r = list_back (read_assignment slots) no_assignment COMMA CLOSE spell_assignments (MeansAssignments slots) no_assignment_back grow assignment_limit x.0 out rest (start x.0) x.2 in
    (braces r.0, x.1 ∙ put (word OPEN) r.1, means_braces r.2, r.3))
    (λ x. let a = then_back (read_assignment slots [] ts) _ out rest x in
    let b = assignment_back slots [] ts a.0 a.1 a.2 in
    let t = took_same (a.0 ∷ []) out a.1 rest a.3 in
    (one_alone b.0, b.1 ∙ ap (spell_assignment b.0) t.1, subst (λ (o : List Pair). MeansAssign slots (one_alone b.0) o) t.0 (means_alone b.2), (let z = ap length t.0 in omega (arith, room_for_one))))
    (if_next_back OPEN _ _ ts (took out rest) e)
  where
    grow : (c : AssignmentListTree) (sofar : List Pair) (us : List Token) (p : Pair) (left : List Token) → MeansAssignments slots c sofar → read_assignment slots sofar us ≡ took p left
        → (d : AssignmentListTree) × (spell_assignments c (word COMMA ∷ us) ≡ spell_assignments d left) × MeansAssignments slots d (sofar ++ p ∷ [])
    grow c sofar us p left g x =
        let b = assignment_back slots sofar us p left x in
        (comma_assignment c b.0, ap (λ (y : List Token). spell_assignments c (word COMMA ∷ y)) b.1, means_comma g b.2 b.3)

    start : (us : List Token) (p : Pair) (left : List Token) → read_assignment slots [] us ≡ took p left
        → (d : AssignmentListTree) × (us ≡ spell_assignments d left) × MeansAssignments slots d (p ∷ [])
    start us p left x = let b = assignment_back slots [] us p left x in (one_assignment b.0, b.1, means_first b.2)

-- A rule that was read.
pub rule_back : (slots : List Slot) (ts : List Token) (r : Rule) (rest : List Token) → read_rule slots ts ≡ took r rest
    → (t : RuleTree) × (ts ≡ spell_rule t rest) × MeansRule slots t r
unfolding read_rule
rule_back slots ts r rest e =
    by_then (expects WHEN ts) _ r rest e (λ u1 t1 e1 f1.
    by_then (read_slot slots t1) _ r rest f1 (λ s t2 e2 f2.
    by_then (expects BECOMES t2) _ r rest f2 (λ u3 t3 e3 f3.
    by_then (read_value slots s t3) _ r rest f3 (λ v t4 e4 f4.
    by_then (expects IF t4) _ r rest f4 (λ u5 t5 e5 f5.
    by_then (read_condition slots t5) _ r rest f5 (λ ls t6 e6 f6.
    by_then (read_assign slots t6) _ r rest f6 (λ ps t7 e7 f7.
    by_then (expects SEMICOLON t7) _ r rest f7 (λ u8 t8 e8 f8.
    made t1 s t2 v t3 t4 t5 ls t6 ps t7 t8 (expects_back WHEN ts u1 t1 e1) (slot_back slots t1 s t2 e2) (expects_back BECOMES t2 u3 t3 e3) (value_back slots s t3 v t4 e4)
    (expects_back IF t4 u5 t5 e5) (condition_back slots t5 ls t6 e6) (assign_back slots t6 ps t7 e7) (expects_back SEMICOLON t7 u8 t8 e8) (took_same _ r t8 rest f8)))))))))
  where
    made : (t1 : List Token) (s : ℕ) (t2 : List Token) (v : ℕ) (t3 t4 t5 : List Token) (ls : List Literal) (t6 : List Token) (ps : List Pair) (t7 t8 : List Token)
        → ts ≡ word WHEN ∷ t1 → ((n : Name) × (t1 ≡ name n ∷ t2) × (place_in (slot_names slots) n ≡ suc s)) → t2 ≡ word BECOMES ∷ t3
        → ((w : SlotvalTree) × (t3 ≡ spell_slotval w ∷ t4) × MeansSlotval (values_of slots s) w v) → t4 ≡ word IF ∷ t5
        → ((d : ConditionTree) × (t5 ≡ spell_condition d (word THEN ∷ t6)) × MeansCondition slots d ls × (length ls ≤ literal_limit))
        → ((d : AssignTree) × (t6 ≡ spell_assign d t7) × MeansAssign slots d ps × (length ps ≤ assignment_limit)) → t7 ≡ word SEMICOLON ∷ t8
        → (record { trigger = pair s v; literals = ls; assignments = ps } ≡ r) × (t8 ≡ rest) → (t : RuleTree) × (ts ≡ spell_rule t rest) × MeansRule slots t r
    made t1 s t2 v t3 t4 t5 ls t6 ps t7 t8 e1 n e3 m e5 c a e8 e9 = (
      rule (trigger n.0 m.0) c.0 a.0,
      e1 ∙ put (word WHEN) (n.1 ∙ put (name n.0) (e3 ∙ put (word BECOMES) (m.1 ∙ put (spell_slotval m.0) (e5 ∙ put (word IF) (c.1
          ∙ ap (λ (y : List Token). spell_condition c.0 (word THEN ∷ y)) (a.1 ∙ ap (spell_assign a.0) (e8 ∙ put (word SEMICOLON) e9.1))))))),
      subst (λ (q : Rule). MeansRule slots (rule (trigger n.0 m.0) c.0 a.0) q) e9.0
          (means_rule (means_trigger (record { slot_is = n.2; value_is = m.2 })) c.2 c.3 a.2 a.3),
    )

pub refused_never : {B : Type 0} (k n : ℕ) (f : File) → refused k n ≡ accepted f → B
refused_never k n f e = absurd (let z : ◌≡◌ {A = ℕ} 0 1 = cc in omega arith)

pub file_same : (f g : File) → accepted f ≡ accepted g → f ≡ g
file_same f g e = cc

pub go_on_back : {A : Type 0} (done : ℕ) (m : Part A) (k : A → List Token → Parsed) (f : File) → go_on done m k ≡ accepted f
    → (a : A) × (ts : List Token) × (m ≡ took a ts) × (k a ts ≡ accepted f)
unfolding go_on
go_on_back done (took a ts) k f e = (a, ts, refl, e)
go_on_back done (stop n) k f e = refused_never n done f e

-- The rules that were read.
abbrev RulesFound : List Slot → List Rule → List Token → File → ℕ → Type 0
RulesFound slots sofar ts f most =
    (us : List RuleTree) × (rs : List Rule) × (ts ≡ spell_rules us []) × MeansRules slots us rs × (f ≡ record { slots = slots; rules = sofar ++ rs }) × (length rs ≤ most)

no_more : (slots : List Slot) (sofar : List Rule) (f : File) (most : ℕ) → accepted (record { slots = slots; rules = sofar }) ≡ accepted f → RulesFound slots sofar [] f most
no_more slots sofar f most e = ([], [], refl, no_rules, sym (file_same _ f e) ∙ rw append-nil, omega arith)

rules_back : (room : ℕ) (slots : List Slot) (sofar : List Rule) (ts : List Token) (f : File) → read_rules room slots sofar ts ≡ accepted f → RulesFound slots sofar ts f room
unfolding read_rules
rules_back zero slots sofar [] f e = no_more slots sofar f zero e
rules_back zero slots sofar (t ∷ ts) f e = let a = go_on_back (length sofar) (expects WHEN (t ∷ ts)) _ f e in refused_never _ (length sofar) f a.3
rules_back (suc room) slots sofar [] f e = no_more slots sofar f (suc room) e
rules_back (suc room) slots sofar (t ∷ ts) f e =
    let a = go_on_back (length sofar) (read_rule slots (t ∷ ts)) _ f e in
    let b = rule_back slots (t ∷ ts) a.0 a.1 a.2 in
    let r = rules_back room slots (sofar ++ a.0 ∷ []) a.1 f a.3 in
    (b.0 ∷ r.0, a.0 ∷ r.1, b.1 ∙ ap (spell_rule b.0) r.2, more_rules b.2 r.3, r.4 ∙ rw append_assoc, (let z = r.5 in omega arith))

pub no_value_back : (sofar : List Name) (ts : List Token) (out : List Name) (rest : List Token) → no_value sofar ts ≡ took out rest → ⊥
unfolding no_value
no_value_back sofar ts out rest e = let a = then_back (new_name sofar ts) _ out rest e in never _ out rest a.3

-- The values that were read, up to the `}`.
values_back : (ts : List Token) (out : List Name) (rest : List Token) → read_values value_limit [] ts ≡ took out rest
    → (d : ValueListTree) × (ts ≡ spell_values d (word CLOSE ∷ rest)) × MeansValues d out × (length out ≤ value_limit)
unfolding read_values
values_back ts out rest e = list_back new_name no_value COMMA CLOSE spell_values MeansValues no_value_back grow value_limit ts out rest start e
  where
    grow : (c : ValueListTree) (sofar : List Name) (us : List Token) (n : Name) (left : List Token) → MeansValues c sofar → new_name sofar us ≡ took n left
        → (d : ValueListTree) × (spell_values c (word COMMA ∷ us) ≡ spell_values d left) × MeansValues d (sofar ++ n ∷ [])
    grow c sofar us n left g x =
        let b = new_name_back sofar us n left x in
        (comma_value c n, ap (λ (y : List Token). spell_values c (word COMMA ∷ y)) b.0, means_values g b.1)

    start : (n : Name) (left : List Token) → new_name [] ts ≡ took n left → (d : ValueListTree) × (ts ≡ spell_values d left) × MeansValues d (n ∷ [])
    start n left x = (one_value n, (new_name_back [] ts n left x).0, means_value)

-- A slot line that was read.
pub line_back : (before : List Slot) (ts : List Token) (s : Slot) (rest : List Token) → read_line before ts ≡ took s rest
    → (t : LineTree) × (ts ≡ spell_line t rest) × MeansLine before t s
unfolding read_line
line_back before ts s rest e =
    by_then (expects SLOT ts) _ s rest e (λ u1 t1 e1 f1.
    by_then (new_name (slot_names before) t1) _ s rest f1 (λ n t2 e2 f2.
    by_then (expects OPEN t2) _ s rest f2 (λ u3 t3 e3 f3.
    by_then (read_values value_limit [] t3) _ s rest f3 (λ vs t4 e4 f4.
    by_then (expects SEMICOLON t4) _ s rest f4 (λ u5 t5 e5 f5.
    made t1 n t2 t3 vs t4 t5 (expects_back SLOT ts u1 t1 e1) (new_name_back (slot_names before) t1 n t2 e2) (expects_back OPEN t2 u3 t3 e3) (values_back t3 vs t4 e4)
    (expects_back SEMICOLON t4 u5 t5 e5) (took_same _ s t5 rest f5))))))
  where
    made : (t1 : List Token) (n : Name) (t2 t3 : List Token) (vs : List Name) (t4 t5 : List Token)
        → ts ≡ word SLOT ∷ t1 → (t1 ≡ name n ∷ t2) × (place_in (slot_names before) n ≡ 0) → t2 ≡ word OPEN ∷ t3
        → ((d : ValueListTree) × (t3 ≡ spell_values d (word CLOSE ∷ t4)) × MeansValues d vs × (length vs ≤ value_limit)) → t4 ≡ word SEMICOLON ∷ t5
        → (record { name = n; values = vs } ≡ s) × (t5 ≡ rest) → (t : LineTree) × (ts ≡ spell_line t rest) × MeansLine before t s
    made t1 n t2 t3 vs t4 t5 e1 e2 e3 v e5 e6 = (
      line n v.0,
      e1 ∙ put (word SLOT) (e2.0 ∙ put (name n) (e3 ∙ put (word OPEN) (v.1 ∙ ap (λ (y : List Token). spell_values v.0 (word CLOSE ∷ y)) (e5 ∙ put (word SEMICOLON) e6.1)))),
      subst (λ (q : Slot). MeansLine before (line n v.0) q) e6.0 (means_line {s = record { name = n; values = vs }} e2.1 v.2 v.3),
    )

-- The slot lines and the rules that were read.
record FileFound (before : List Slot) (ts : List Token) (f : File) (most : ℕ) : Type 0 where
  lines : List LineTree
  rules : List RuleTree
  spelled : ts ≡ spell_lines lines (spell_rules rules [])
  lines_are : MeansLines before lines f.slots
  few_slots : length f.slots ≤ most
  rules_are : MeansRules f.slots rules f.rules
  few_rules : length f.rules ≤ rule_limit

rules_only : (before : List Slot) (ts : List Token) (f : File) (most : ℕ) → length before ≤ most → read_rules rule_limit before [] ts ≡ accepted f → FileFound before ts f most
rules_only before ts f most h e =
    let a = rules_back rule_limit before [] ts f e in
    subst (λ (g : File). FileFound before ts g most) (sym a.4)
    (record { lines = []; rules = a.0; spelled = a.2; lines_are = no_lines; few_slots = h; rules_are = a.3; few_rules = a.5 })

lines_back : (room : ℕ) (before : List Slot) (ts : List Token) (f : File) (most : ℕ) → room + length before ≤ most → read_lines rule_limit room before ts ≡ accepted f → FileFound before ts f most
unfolding read_lines
lines_back zero before ts f most h e =
    ⊎_elim (λ x. refused_never _ 0 f x.2) (λ x. rules_only before ts f most (omega arith) x) (if_next_back SLOT _ _ ts (accepted f) e)
lines_back (suc room) before ts f most h e =
    ⊎_elim (λ x. let a = go_on_back 0 (read_line before (word SLOT ∷ x.0)) _ f x.2 in
    let b = line_back before (word SLOT ∷ x.0) a.0 a.1 a.2 in
    let r = lines_back room (before ++ a.0 ∷ []) a.1 f most (let y = length-append before (a.0 ∷ []) in omega arith) a.3 in
    record {
      lines = b.0 ∷ r.lines;
      rules = r.rules;
      spelled = x.1 ∙ b.1 ∙ ap (spell_line b.0) r.spelled;
      lines_are = more_lines b.2 r.lines_are;
      few_slots = r.few_slots;
      rules_are = r.rules_are;
      few_rules = r.few_rules;
    })
    (λ x. rules_only before ts f most (omega arith) x) (if_next_back SLOT _ _ ts (accepted f) e)

-- Tokens that are accepted are derived.
pub tokens_back : (ts : List Token) (f : File) → read_tokens rule_limit ts ≡ accepted f → (tree : FileTree) × (spell tree ≡ ts)
unfolding read_tokens
tokens_back ts f e = let r = lines_back slot_limit [] ts f slot_limit (omega arith) e in (record { lines = r.lines; rules = r.rules }, sym r.spelled)

-- A text that is read is a file.
pub file_back : (text : List ℕ) (f : File) → parse text ≡ accepted f → IsFile text f
unfolding parse_within read_tokens
file_back text f e = go (leb (length text) text_limit) refl e
  where
    go : (t : Bool) → leb (length text) text_limit ≡ t → cond t (read_lines rule_limit slot_limit [] (tokens text)) (refused 10 0) ≡ accepted f → IsFile text f
    go true q x = let r = lines_back slot_limit [] (tokens text) f slot_limit (omega arith) x in record {
      short = leb-true (length text) text_limit q;
      tree = record { lines = r.lines; rules = r.rules };
      derives = sym r.spelled;
      means = record { lines_are = r.lines_are; few_slots = r.few_slots; rules_are = r.rules_are; few_rules = r.few_rules };
    }
    go false q x = refused_never 10 0 f x
