-- Where the reading of a whole file halts.
-- Assumes nothing.
use Prim.Native.Nat.{ℕ, zero, suc, ◌+◌, ◌≤◌}
use native.Mathlib.Omega.{arith}
use mathlib.Core.Path.{◌≡◌, refl, sym, ap, subst, ◌∙◌}
use mathlib.Core.Bool.{Bool, true, false}
use mathlib.Core.List.{List, [], ◌∷◌, ◌++◌, append-nil, append-eq-nil_iff}
use mathlib.Core.Logic.{◌⊎◌, inl, inr, ⊎_elim}
use lib.ListN.{length, length-append, drop}
use Rattle.text.specs.Tokens.{Token, word, SLOT, WHEN}
use Rattle.text.specs.Cut.{is_semi, Free, past_semi}
use Rattle.model.specs.Rules.{Rule}
use Rattle.laws.specs.Limits.{rule_limit}
use Rattle.grammar.specs.Files.{Slot, File}
use Rattle.grammar.specs.Grammar.{RuleTree, rule, LineTree, line, spell_rule, spell_rules, spell_line, spell_lines}
use Rattle.grammar.specs.Reading.{Part, took, stop, Parsed, accepted, refused, expects, begins_with, if_next, read_rule, read_line, go_on, read_rules, read_lines}
use Rattle.grammar.proofs.Forward.{no_slot_first, rules_begin}
use Rattle.grammar.proofs.Steps.{begins_back, expects_back}
use Rattle.grammar.proofs.Backward.{refused_never}
use Rattle.grammar.proofs.Ends.{rule_past, line_past}
use Rattle.grammar.proofs.Statements.{rules_take, lines_take, rules_end}
use Rattle.grammar.proofs.Stopping.{Language, Begins, later_fault, Stop, stop_behind, stop_where, nothing_next, Fits, Reader, follows_same, the_word, reader_expects}
use Rattle.grammar.proofs.Stops.{rule_append, a_rule, reader_rule, line_append, a_line, reader_line}

-- The reading of these tokens ends inside a statement or is accepted, with `n` rules completed.
abbrev pub Clean : (List Token → Parsed) → ℕ → List Token → Type 0
Clean R n us = (R us ≡ refused 12 n) ⊎ ((f : File) × (R us ≡ accepted f) × (length f.rules ≡ n))

-- A refused reading: where it halts, and, by `C`, which statements stand before that.
pub record Halt (B : List Token → Type 0) (R : List Token → Parsed) (C : List Token → Type 0) (ts : List Token) (k n : ℕ) : Type 0 where
  pub stopped : Stop B (Clean R n) (λ us. R us ≡ refused k n) ts k
  pub completed : C stopped.mid

pub go_on_stops : {A : Type 0} (done : ℕ) (m : Part A) (f : A → List Token → Parsed) (k n : ℕ) → go_on done m f ≡ refused k n
    → ((m ≡ stop k) × (done ≡ n)) ⊎ ((a : A) × (ts : List Token) × (m ≡ took a ts) × (f a ts ≡ refused k n))
unfolding go_on
go_on_stops done (took a ts) f k n e = inr (a, ts, refl, e)
go_on_stops done (stop j) f k n e = inl (let z : j ≡ k = cc in ap stop z, cc)

pub go_on_stop : {A : Type 0} (done : ℕ) (m : Part A) (f : A → List Token → Parsed) (k : ℕ) → m ≡ stop k → go_on done m f ≡ refused k done
unfolding go_on
go_on_stop done m f k e = rw e

-- What of a statement is read before it stops has no `;`.
free_or_past : (ts us : List Token) → Free ts ⊎ (past_semi (ts ++ us) ≡ past_semi ts ++ us)
free_or_past [] us = inl tt
free_or_past (t ∷ ts) us = go (is_semi t) refl (free_or_past ts us)
  where
    go : (b : Bool) → is_semi t ≡ b → Free ts ⊎ (past_semi (ts ++ us) ≡ past_semi ts ++ us) → Free (t ∷ ts) ⊎ (past_semi (t ∷ ts ++ us) ≡ past_semi (t ∷ ts) ++ us)
    go true q x = inr (rw q)
    go false q x = ⊎_elim (λ h. inl (q, h)) (λ h. inr (rw q h)) x

free_part : {A : Type 0} (G : Language) (R : List Token → Part A) → Reader G R → ((x : G.Tree) (rest : List Token) → past_semi (G.spells x rest) ≡ rest)
    → (mid : List Token) → Begins G mid → R mid ≡ stop 12 → Free mid
free_part {A} G R g past mid b e =
    ⊎_elim (λ h. h)
    (λ q. absurd (
    let whole : G.spells x.0 [] ≡ mid = x.2 ∙ ap (λ (z : List Token). mid ++ z) ((append-eq-nil_iff {p = past_semi mid} {q = x.1}).0 (sym q ∙ sym (ap past_semi x.2) ∙ past x.0 [])).1 ∙ rw append-nil in
    let h : 14 ≤ 12 = subst (λ (m : Part A). Fits m []) (ap R whole ∙ e) (g.fits x.0 []) in
    omega arith
    ))
    (free_or_past mid x.1)
  where
    x : (t : G.Tree) × (more : List Token) × (G.spells t [] ≡ mid ++ more)
    x = b []

free_front : (xs ys : List Token) → Free (xs ++ ys) → Free xs
free_front [] ys h = tt
free_front (x ∷ xs) ys h = (h.0, free_front xs ys h.1)

-- A reading that refuses as a statement's reader does, where `w` stands next or where it does not, halts where that stops.
statement_halts : {A : Type 0} (G : Language) (M : List Token → Part A) → Reader G M → (B : List Token → Type 0) → ((us : List Token) → Begins G us → B us)
    → (R : List Token → Parsed) (d w : ℕ) (b : Bool) → Clean R d [] → ((t : Token) (us : List Token) (k : ℕ) → begins_with w (t ∷ us) ≡ b → M (t ∷ us) ≡ stop k → R (t ∷ us) ≡ refused k d)
    → (ts : List Token) (k : ℕ) → begins_with w ts ≡ b → M ts ≡ stop k
    → (h : Stop B (Clean R d) (λ us. R us ≡ refused k d) ts k) × Begins G h.mid × (M h.mid ≡ stop 12)
unfolding stop_where
statement_halts G M g B to R d w b end likewise ts k on e =
    (stop_where (Begins G) (λ us. M us ≡ stop 12) (λ us. M us ≡ stop k) B (Clean R d) (λ us. R us ≡ refused k d) w b to clean (λ t us q x. likewise t us k q x) ts k on s, s.begun, s.ended)
  where
    s : Stop (Begins G) (λ us. M us ≡ stop 12) (λ us. M us ≡ stop k) ts k
    s = g.stops ts k e

    clean : (us : List Token) → (us ≡ []) ⊎ (begins_with w us ≡ b) → M us ≡ stop 12 → Clean R d us
    clean [] x q = end
    clean (t ∷ us) x q = ⊎_elim (λ z. absurd (let y : ◌≡◌ {A = ℕ} 0 1 = cc in omega arith)) (λ z. inl (likewise t us 12 z q)) x

-- Some rules begin with these tokens.
abbrev pub BeginsRules : List Token → Type 0
BeginsRules ts = (us : List RuleTree) × (more : List Token) × (spell_rules us [] ≡ ts ++ more)

-- These tokens are rules, `d` fewer than `n`, and a part of a statement without `;`.
abbrev pub RulesDone : ℕ → ℕ → List Token → Type 0
RulesDone d n ts = (rs : List RuleTree) × (part : List Token) × (ts ≡ spell_rules rs part) × Free part × (n ≡ d + length rs)

rules_full : (slots : List Slot) (sofar : List Rule) (t : Token) (ts : List Token) (k : ℕ) → expects WHEN (t ∷ ts) ≡ stop k → read_rules zero slots sofar (t ∷ ts) ≡ refused k (length sofar)
unfolding read_rules
rules_full slots sofar t ts k e = go_on_stop (length sofar) (expects WHEN (t ∷ ts)) _ k e

pub one_too_many : (slots : List Slot) (sofar : List Rule) (ts : List Token) → read_rules zero slots sofar (word WHEN ∷ ts) ≡ refused 15 (length sofar)
unfolding read_rules go_on expects
one_too_many slots sofar ts = refl

pub rule_refused : (room : ℕ) (slots : List Slot) (sofar : List Rule) (t : Token) (ts : List Token) (k : ℕ) → read_rule slots (t ∷ ts) ≡ stop k → read_rules (suc room) slots sofar (t ∷ ts) ≡ refused k (length sofar)
unfolding read_rules
rule_refused room slots sofar t ts k e = go_on_stop (length sofar) (read_rule slots (t ∷ ts)) _ k e

clean_end : (room : ℕ) (slots : List Slot) (sofar : List Rule) → Clean (read_rules room slots sofar) (length sofar) []
clean_end room slots sofar = inr (record { slots = slots; rules = sofar }, rules_end room slots sofar, refl)

pub not_refused : {C : Type 0} (f : File) (k n : ℕ) → accepted f ≡ refused k n → C
not_refused f k n e = refused_never k n f (sym e)

pub refused_same : (j m k n : ℕ) → refused j m ≡ refused k n → (j ≡ k) × (m ≡ n)
refused_same j m k n e = (cc, cc)

-- What reading rules that are refused tells.
abbrev pub RulesHalt : ℕ → List Slot → List Rule → List Token → ℕ → ℕ → Type 0
RulesHalt room slots sofar ts k n = Halt BeginsRules (read_rules room slots sofar) (RulesDone (length sofar) n) ts k n

-- No room is left.
full_halt : (slots : List Slot) (sofar : List Rule) (t : Token) (ts : List Token) (k : ℕ) → expects WHEN (t ∷ ts) ≡ stop k → RulesHalt zero slots sofar (t ∷ ts) k (length sofar)
full_halt slots sofar t ts k e =
    let x = statement_halts (the_word WHEN) (expects WHEN) (reader_expects WHEN) BeginsRules to (read_rules zero slots sofar) (length sofar) WHEN (begins_with WHEN (t ∷ ts)) (clean_end zero slots sofar)
    (λ u us j q z. rules_full slots sofar u us j z) (t ∷ ts) k refl e in
    let y = x.1 [] in
    record { stopped = x.0; completed = ([], x.0.mid, refl, free_front x.0.mid y.1 (subst Free y.2 (refl, tt)), omega arith) }
  where
    to : (us : List Token) → Begins (the_word WHEN) us → BeginsRules us
    to us b = let y = b (drop 1 (spell_rules (a_rule.some_tree ∷ []) [])) in (a_rule.some_tree ∷ [], y.1, y.2)

-- One rule too many.
many_halt : (slots : List Slot) (sofar : List Rule) (ts : List Token) → RulesHalt zero slots sofar (word WHEN ∷ ts) 15 (length sofar)
many_halt slots sofar ts = record {
  stopped = record {
    mid = [];
    after = word WHEN ∷ ts;
    whole = refl;
    begun = ([], [], refl);
    cause = later_fault {k = 15} (omega arith) (a_rule.some_tree ∷ [], drop 1 (spell_rules (a_rule.some_tree ∷ []) []), refl);
    ended = clean_end zero slots sofar;
    decided = follows_same (λ us. read_rules zero slots sofar us ≡ refused 15 (length sofar)) 15 (word WHEN) ts refl (one_too_many slots sofar);
  };
  completed = ([], [], refl, tt, omega arith);
}

-- The rule being read is refused.
rule_halt : (room : ℕ) (slots : List Slot) (sofar : List Rule) (t : Token) (ts : List Token) (k : ℕ) → read_rule slots (t ∷ ts) ≡ stop k → RulesHalt (suc room) slots sofar (t ∷ ts) k (length sofar)
rule_halt room slots sofar t ts k e =
    let x = statement_halts a_rule (read_rule slots) (reader_rule slots) BeginsRules (λ us b. let y = b [] in (y.0 ∷ [], y.1, y.2)) (read_rules (suc room) slots sofar) (length sofar) WHEN (begins_with WHEN (t ∷ ts)) (clean_end (suc room) slots sofar)
    (λ u us j q z. rule_refused room slots sofar u us j z) (t ∷ ts) k refl e in
    record { stopped = x.0; completed = ([], x.0.mid, refl, free_part a_rule (read_rule slots) (reader_rule slots) rule_past x.0.mid x.1 x.2, omega arith) }

-- A rule was read, and what follows is refused.
past_rule : (room : ℕ) (slots : List Slot) (sofar : List Rule) (r : Rule) (x : RuleTree) (ts left : List Token) (k n : ℕ) → ts ≡ spell_rule x left
    → ((later : List Token) → read_rule slots (spell_rule x later) ≡ took r later) → RulesHalt room slots (sofar ++ r ∷ []) left k n → RulesHalt (suc room) slots sofar ts k n
unfolding stop_behind
past_rule room slots sofar r x ts left k n e there h = record {
  stopped = stop_behind BeginsRules (Clean (read_rules room slots (sofar ++ r ∷ [])) n) (λ us. read_rules room slots (sofar ++ r ∷ []) us ≡ refused k n)
      BeginsRules (Clean (read_rules (suc room) slots sofar) n) (λ us. read_rules (suc room) slots sofar us ≡ refused k n) (spell_rule x) (rule_append x)
      (λ us b. (x ∷ b.0, b.1, ap (spell_rule x) b.2 ∙ rule_append x us b.1))
      (λ us c. ⊎_elim (λ q. inl (on us ∙ q)) (λ q. inr (q.0, on us ∙ q.1, q.2)) c) (λ us q. on us ∙ q) left ts k e h.stopped;
  completed = (let c = h.completed in (x ∷ c.0, c.1, ap (spell_rule x) c.2, c.3, (let z = c.4 in let l = length-append sofar (r ∷ []) in omega arith)));
}
  where
    on : (us : List Token) → read_rules (suc room) slots sofar (spell_rule x us) ≡ read_rules room slots (sofar ++ r ∷ []) us
    on us = rules_take room slots sofar (spell_rule x us) r us (there us)

pub rules_again : (room : ℕ) (slots : List Slot) (sofar : List Rule) (t : Token) (ts : List Token) (k n : ℕ) → read_rules (suc room) slots sofar (t ∷ ts) ≡ refused k n
    → ((read_rule slots (t ∷ ts) ≡ stop k) × (length sofar ≡ n))
    ⊎ ((r : Rule) × (left : List Token) × (read_rule slots (t ∷ ts) ≡ took r left) × (read_rules room slots (sofar ++ r ∷ []) left ≡ refused k n))
unfolding read_rules
rules_again room slots sofar t ts k n e = go_on_stops (length sofar) (read_rule slots (t ∷ ts)) _ k n e

pub rules_last : (slots : List Slot) (sofar : List Rule) (t : Token) (ts : List Token) (k n : ℕ) → read_rules zero slots sofar (t ∷ ts) ≡ refused k n
    → ((expects WHEN (t ∷ ts) ≡ stop k) × (length sofar ≡ n)) ⊎ ((u : Unit {0}) × (left : List Token) × (expects WHEN (t ∷ ts) ≡ took u left) × (refused 15 (length sofar) ≡ refused k n))
unfolding read_rules
rules_last slots sofar t ts k n e = go_on_stops (length sofar) (expects WHEN (t ∷ ts)) _ k n e

-- Where a refused reading of rules halts.
pub rules_halt : (room : ℕ) (slots : List Slot) (sofar : List Rule) (ts : List Token) (k n : ℕ) → read_rules room slots sofar ts ≡ refused k n → RulesHalt room slots sofar ts k n
rules_halt zero slots sofar [] k n e = not_refused (record { slots = slots; rules = sofar }) k n (sym (rules_end zero slots sofar) ∙ e)
rules_halt zero slots sofar (t ∷ ts) k n e =
    ⊎_elim (λ m. subst (RulesHalt zero slots sofar (t ∷ ts) k) m.1 (full_halt slots sofar t ts k m.0))
    (λ m. let z = refused_same 15 (length sofar) k n m.3 in
    subst (λ (us : List Token). RulesHalt zero slots sofar us k n) (sym (expects_back WHEN (t ∷ ts) m.0 m.1 m.2))
    (subst (λ (j : ℕ). RulesHalt zero slots sofar (word WHEN ∷ m.1) j n) z.0 (subst (RulesHalt zero slots sofar (word WHEN ∷ m.1) 15) z.1 (many_halt slots sofar m.1))))
    (rules_last slots sofar t ts k n e)
rules_halt (suc room) slots sofar [] k n e = not_refused (record { slots = slots; rules = sofar }) k n (sym (rules_end (suc room) slots sofar) ∙ e)
rules_halt (suc room) slots sofar (t ∷ ts) k n e =
    ⊎_elim (λ m. subst (RulesHalt (suc room) slots sofar (t ∷ ts) k) m.1 (rule_halt room slots sofar t ts k m.0))
    (λ m. let x = (reader_rule slots).reads (t ∷ ts) m.0 m.1 m.2 in
    past_rule room slots sofar m.0 x.0 (t ∷ ts) m.1 k n x.1 x.2 (rules_halt room slots (sofar ++ m.0 ∷ []) m.1 k n m.3))
    (rules_again room slots sofar t ts k n e)

-- Some slot lines and rules begin with these tokens.
abbrev pub BeginsFile : List Token → Type 0
BeginsFile ts = (ls : List LineTree) × (us : List RuleTree) × (more : List Token) × (spell_lines ls (spell_rules us []) ≡ ts ++ more)

-- These tokens are slot lines, `n` rules, and a part of a statement without `;`.
abbrev pub FileDone : ℕ → List Token → Type 0
FileDone n ts = (ls : List LineTree) × (rs : List RuleTree) × (part : List Token) × (ts ≡ spell_lines ls (spell_rules rs part)) × Free part × (n ≡ length rs)

-- What reading slot lines and rules that is refused tells.
abbrev pub LinesHalt : ℕ → List Slot → List Token → ℕ → ℕ → Type 0
LinesHalt room before ts k n = Halt BeginsFile (read_lines rule_limit room before) (FileDone n) ts k n

lines_at_rules : (room : ℕ) (before : List Slot) → Clean (read_lines rule_limit room before) 0 []
lines_at_rules room before = inr (record { slots = before; rules = [] }, rules_begin rule_limit room before [] refl ∙ rules_end rule_limit before [], refl)

-- The rules are refused.
rules_refused : (room : ℕ) (before : List Slot) (ts : List Token) (k n : ℕ) → begins_with SLOT ts ≡ false → read_rules rule_limit before [] ts ≡ refused k n → LinesHalt room before ts k n
unfolding stop_where
rules_refused room before ts k n off e =
    let h = rules_halt rule_limit before [] ts k n e in
    record {
      stopped = stop_where BeginsRules (Clean (read_rules rule_limit before []) n) (λ us. read_rules rule_limit before [] us ≡ refused k n)
          BeginsFile (Clean (read_lines rule_limit room before) n) (λ us. read_lines rule_limit room before us ≡ refused k n) SLOT false (λ us b. ([], b.0, b.1, b.2))
          (λ us o c. let on = rules_begin rule_limit room before us (nothing_next SLOT us o) in ⊎_elim (λ q. inl (on ∙ q)) (λ q. inr (q.0, on ∙ q.1, q.2)) c)
          (λ t us o q. rules_begin rule_limit room before (t ∷ us) o ∙ q) ts k off h.stopped;
      completed = (let c = h.completed in ([], c.0, c.1, c.2, c.3, (let z = c.4 in omega arith)));
    }

pub slot_too_many : (before : List Slot) (ts : List Token) → read_lines rule_limit zero before (word SLOT ∷ ts) ≡ refused 15 0
unfolding read_lines if_next
slot_too_many before ts = refl

-- One slot too many.
many_lines : (before : List Slot) (ts : List Token) → LinesHalt zero before (word SLOT ∷ ts) 15 0
many_lines before ts = record {
  stopped = record {
    mid = [];
    after = word SLOT ∷ ts;
    whole = refl;
    begun = ([], [], [], refl);
    cause = later_fault {k = 15} (omega arith) (a_line.some_tree ∷ [], [], drop 1 (spell_lines (a_line.some_tree ∷ []) []), refl);
    ended = lines_at_rules zero before;
    decided = follows_same (λ us. read_lines rule_limit zero before us ≡ refused 15 0) 15 (word SLOT) ts refl (slot_too_many before);
  };
  completed = ([], [], [], refl, tt, refl);
}

pub line_next : (room : ℕ) (before : List Slot) (ts : List Token) → begins_with SLOT ts ≡ true
    → read_lines rule_limit (suc room) before ts ≡ go_on 0 (read_line before ts) (λ s rest. read_lines rule_limit room (before ++ s ∷ []) rest)
unfolding read_lines if_next
line_next room before ts e = rw e

-- The slot line being read is refused.
line_halt : (room : ℕ) (before : List Slot) (ts : List Token) (k : ℕ) → begins_with SLOT ts ≡ true → read_line before ts ≡ stop k → LinesHalt (suc room) before ts k 0
line_halt room before ts k on e =
    let x = statement_halts a_line (read_line before) (reader_line before) BeginsFile (λ us b. let y = b [] in (y.0 ∷ [], [], y.1, y.2)) (read_lines rule_limit (suc room) before) 0 SLOT true (lines_at_rules (suc room) before)
    (λ u us j q z. line_next room before (u ∷ us) q ∙ go_on_stop 0 (read_line before (u ∷ us)) _ j z) ts k on e in
    record { stopped = x.0; completed = ([], [], x.0.mid, refl, free_part a_line (read_line before) (reader_line before) line_past x.0.mid x.1 x.2, refl) }

-- A slot line was read, and what follows is refused.
past_line : (room : ℕ) (before : List Slot) (s : Slot) (x : LineTree) (ts left : List Token) (k n : ℕ) → ts ≡ spell_line x left
    → ((later : List Token) → read_line before (spell_line x later) ≡ took s later) → LinesHalt room (before ++ s ∷ []) left k n → LinesHalt (suc room) before ts k n
unfolding stop_behind
past_line room before s x ts left k n e there h = record {
  stopped = stop_behind BeginsFile (Clean (read_lines rule_limit room (before ++ s ∷ [])) n) (λ us. read_lines rule_limit room (before ++ s ∷ []) us ≡ refused k n)
      BeginsFile (Clean (read_lines rule_limit (suc room) before) n) (λ us. read_lines rule_limit (suc room) before us ≡ refused k n) (spell_line x) (line_append x)
      (λ us b. (x ∷ b.0, b.1, b.2, ap (spell_line x) b.3 ∙ line_append x us b.2))
      (λ us c. ⊎_elim (λ q. inl (on us ∙ q)) (λ q. inr (q.0, on us ∙ q.1, q.2)) c) (λ us q. on us ∙ q) left ts k e h.stopped;
  completed = (let c = h.completed in (x ∷ c.0, c.1, c.2, ap (spell_line x) c.3, c.4, c.5));
}
  where
    on : (us : List Token) → read_lines rule_limit (suc room) before (spell_line x us) ≡ read_lines rule_limit room (before ++ s ∷ []) us
    on us = lines_take room before (spell_line x us) s us (there us)

-- Where a refused reading of slot lines and rules halts.
pub lines_halt : (room : ℕ) (before : List Slot) (ts : List Token) (k n : ℕ) → read_lines rule_limit room before ts ≡ refused k n → LinesHalt room before ts k n
lines_halt zero before ts k n e = go (begins_with SLOT ts) refl
  where
    go : (b : Bool) → begins_with SLOT ts ≡ b → LinesHalt zero before ts k n
    go true q =
        let m = begins_back SLOT ts q in
        let z = refused_same 15 0 k n (sym (ap (read_lines rule_limit zero before) m.1 ∙ slot_too_many before m.0) ∙ e) in
        subst (λ (us : List Token). LinesHalt zero before us k n) (sym m.1)
        (subst (λ (j : ℕ). LinesHalt zero before (word SLOT ∷ m.0) j n) z.0 (subst (LinesHalt zero before (word SLOT ∷ m.0) 15) z.1 (many_lines before m.0)))
    go false q = rules_refused zero before ts k n q (sym (rules_begin rule_limit zero before ts q) ∙ e)
lines_halt (suc room) before ts k n e = go (begins_with SLOT ts) refl (λ s left. lines_halt room (before ++ s ∷ []) left k n)
  where
    go : (b : Bool) → begins_with SLOT ts ≡ b → ((s : Slot) (left : List Token) → read_lines rule_limit room (before ++ s ∷ []) left ≡ refused k n → LinesHalt room (before ++ s ∷ []) left k n) → LinesHalt (suc room) before ts k n
    go true q again =
        ⊎_elim (λ m. subst (LinesHalt (suc room) before ts k) m.1 (line_halt room before ts k q m.0))
        (λ m. let x = (reader_line before).reads ts m.0 m.1 m.2 in past_line room before m.0 x.0 ts m.1 k n x.1 x.2 (again m.0 m.1 m.3))
        (go_on_stops 0 (read_line before ts) (λ s rest. read_lines rule_limit room (before ++ s ∷ []) rest) k n (sym (line_next room before ts q) ∙ e))
    go false q again = rules_refused (suc room) before ts k n q (sym (rules_begin rule_limit (suc room) before ts q) ∙ e)

-- The reading of a derived file is accepted, or refused with a number from 14 on.
abbrev pub FitsFile : Parsed → Type 0
FitsFile (accepted f) = Unit
FitsFile (refused k n) = 14 ≤ k

fits_on : {A : Type 0} (done : ℕ) (m : Part A) (f : A → List Token → Parsed) (rest : List Token) → Fits m rest → ((a : A) → FitsFile (f a rest)) → FitsFile (go_on done m f)
unfolding go_on
fits_on done (took a ts) f rest e h = subst (λ (us : List Token). FitsFile (f a us)) (sym e) (h a)
fits_on done (stop k) f rest e h = e

rules_fit : (us : List RuleTree) (room : ℕ) (slots : List Slot) (sofar : List Rule) → FitsFile (read_rules room slots sofar (spell_rules us []))
rules_fit [] room slots sofar = subst FitsFile (sym (rules_end room slots sofar)) tt
rules_fit (rule t c a ∷ us) zero slots sofar = subst FitsFile (sym (one_too_many slots sofar _)) (omega arith)
rules_fit (rule t c a ∷ us) (suc room) slots sofar =
    subst FitsFile (sym (rules_next room slots sofar _ _))
    (fits_on (length sofar) (read_rule slots (spell_rule (rule t c a) (spell_rules us []))) _ (spell_rules us []) ((reader_rule slots).fits (rule t c a) (spell_rules us [])) (λ r. rules_fit us room slots (sofar ++ r ∷ [])))
  where
    rules_next : (room : ℕ) (slots : List Slot) (sofar : List Rule) (v : Token) (vs : List Token)
        → read_rules (suc room) slots sofar (v ∷ vs) ≡ go_on (length sofar) (read_rule slots (v ∷ vs)) (λ r rest. read_rules room slots (sofar ++ r ∷ []) rest)
    rules_next room slots sofar v vs = unfold read_rules in refl

pub lines_fit : (ls : List LineTree) (us : List RuleTree) (room : ℕ) (before : List Slot) → FitsFile (read_lines rule_limit room before (spell_lines ls (spell_rules us [])))
lines_fit [] us room before = subst FitsFile (sym (rules_begin rule_limit room before (spell_rules us []) (no_slot_first us))) (rules_fit us rule_limit before [])
lines_fit (line n vs ∷ ls) us zero before = subst FitsFile (sym (slot_too_many before _)) (omega arith)
lines_fit (line n vs ∷ ls) us (suc room) before =
    subst FitsFile (sym (line_next room before (spell_line (line n vs) (spell_lines ls (spell_rules us []))) refl))
    (fits_on 0 (read_line before (spell_line (line n vs) (spell_lines ls (spell_rules us [])))) _ (spell_lines ls (spell_rules us [])) ((reader_line before).fits (line n vs) (spell_lines ls (spell_rules us []))) (λ s. lines_fit ls us room (before ++ s ∷ [])))
