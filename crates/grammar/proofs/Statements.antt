-- A text is read by statements: each piece by itself, a rule's piece by the slots and its own bytes alone.
-- Assumes nothing.
use Prim.Native.Nat.{ℕ, zero, suc, ◌+◌, ◌-◌, ◌≤◌}
use native.Mathlib.Omega.{arith}
use mathlib.Core.Path.{◌≡◌, refl, sym, ap, subst, ◌∙◌}
use mathlib.Core.Bool.{Bool, true, false, cond}
use mathlib.Core.List.{List, [], ◌∷◌, ◌++◌, map, append_assoc, append-nil, Forall₂}
use mathlib.Core.Logic.{◌↔◌, ◌⊎◌, inl, inr, ⊎_elim}
use lib.Dec.{eqb, leb}
use lib.ListN.{length, length-append}
use borrow.Author.Tests.{leb-true, le-leb}
use Rattle.laws.proofs.Lists.{map_append}
use Rattle.text.specs.Tokens.{Token, word, SLOT, WHEN, SEMICOLON, tokens_from, tokens}
use Rattle.text.specs.Cut.{moved, NoSemi}
use Rattle.text.proofs.Cut.{tokens_moved}
use Rattle.model.specs.Rules.{Rule}
use Rattle.laws.specs.Limits.{text_limit, slot_limit, rule_limit}
use Rattle.grammar.specs.Files.{Slot, File}
use Rattle.grammar.specs.Grammar.{RuleTree, rule, LineTree, line, spell_rule, spell_line}
use Rattle.grammar.specs.Reading.{took, accepted, refused, expects, begins_with, if_next, read_rule, read_line, go_on, read_rules, read_lines, read_tokens, parse, parse_within}
use Rattle.grammar.specs.Meaning.{MeansRule}
use Rattle.grammar.specs.Pieces.{pieces, tail_piece, joined, ReadRule, ReadLine, ReadLines, no_more_lines, one_more_line, ByStatements}
use Rattle.grammar.proofs.Forward.{rule_read, line_read, rules_begin}
use Rattle.grammar.proofs.Steps.{if_next_back}
use Rattle.grammar.proofs.Backward.{rule_back, line_back, refused_never, file_same, go_on_back}
use Rattle.grammar.proofs.Pieces.{Plain, cut_joined, pieces_plain, tail_plain, joined_cut}
use Rattle.grammar.proofs.Moved.{moved_rule, rule_moved, rule_means}
use Rattle.grammar.proofs.Ends.{rule_past, rule_refit, line_past, line_refit, rest_same, piece_spelled, no_statement}

-- A rule that is read stands in its piece, and the piece is read as that rule wherever it stands.
rule_piece_read : (slots : List Slot) (b : List ℕ) (p : ℕ) (r : Rule) (rest us : List Token) → NoSemi b → read_rule slots (tokens_from b 0 p ++ word SEMICOLON ∷ us) ≡ took r rest
    → (rest ≡ us) × ReadRule slots b r
rule_piece_read slots b p r rest us n e = (rest_same spell_rule rule_past rule_refit b p x.0 rest us n x.1, anywhere)
  where
    x : (t : RuleTree) × (tokens_from b 0 p ++ word SEMICOLON ∷ us ≡ spell_rule t rest) × MeansRule slots t r
    x = rule_back slots (tokens_from b 0 p ++ word SEMICOLON ∷ us) r rest e

    anywhere : ReadRule slots b r
    anywhere q more =
        let f : ℕ → ℕ = λ i. i - p + q in
        let t : RuleTree = moved_rule f x.0 in
        let here : tokens_from b 0 q ++ word SEMICOLON ∷ [] ≡ spell_rule t [] =
        sym (sym (rule_moved f x.0 []) ∙ ap (map (moved f)) (piece_spelled spell_rule rule_past rule_refit b p x.0 rest us n x.1 [])
        ∙ map_append (moved f) (tokens_from b 0 p) (word SEMICOLON ∷ []) ∙ ap (λ (y : List Token). y ++ word SEMICOLON ∷ []) (tokens_moved b 0 p q f (λ j. omega arith))) in
        sym (ap (read_rule slots) (piece_spelled spell_rule rule_past rule_refit b q t [] [] n here more)) ∙ rule_read slots t r more (rule_means f slots x.0 r x.2)

-- A slot line that is read stands in its piece.
line_piece_read : (before : List Slot) (b : List ℕ) (p : ℕ) (s : Slot) (rest us : List Token) → NoSemi b → read_line before (tokens_from b 0 p ++ word SEMICOLON ∷ us) ≡ took s rest
    → (rest ≡ us) × ReadLine before p b s
line_piece_read before b p s rest us n e =
    let x = line_back before (tokens_from b 0 p ++ word SEMICOLON ∷ us) s rest e in (
      rest_same spell_line line_past line_refit b p x.0 rest us n x.1,
      λ more. sym (ap (read_line before) (piece_spelled spell_line line_past line_refit b p x.0 rest us n x.1 more)) ∙ line_read before x.0 s more x.2,
    )

-- One step of an accepted reading of rules: the end, or a rule.
rules_step : (room : ℕ) (slots : List Slot) (sofar : List Rule) (ts : List Token) (f : File) → read_rules room slots sofar ts ≡ accepted f
    → ((ts ≡ []) × (f ≡ record { slots = slots; rules = sofar }))
    ⊎ ((k : ℕ) × (r : Rule) × (left : List Token) × (room ≡ suc k) × (read_rule slots ts ≡ took r left) × (read_rules k slots (sofar ++ r ∷ []) left ≡ accepted f))
unfolding read_rules
rules_step zero slots sofar [] f e = inl (refl, sym (file_same _ f e))
rules_step zero slots sofar (t ∷ ts) f e = refused_never _ (length sofar) f (go_on_back (length sofar) (expects WHEN (t ∷ ts)) _ f e).3
rules_step (suc room) slots sofar [] f e = inl (refl, sym (file_same _ f e))
rules_step (suc room) slots sofar (t ∷ ts) f e =
    let a = go_on_back (length sofar) (read_rule slots (t ∷ ts)) _ f e in inr (room, a.0, a.1, refl, a.2, a.3)

-- One step of an accepted reading of slot lines: a line, or the rules.
lines_step : (room : ℕ) (before : List Slot) (ts : List Token) (f : File) → read_lines rule_limit room before ts ≡ accepted f
    → (read_rules rule_limit before [] ts ≡ accepted f)
    ⊎ ((k : ℕ) × (s : Slot) × (left : List Token) × (room ≡ suc k) × (read_line before ts ≡ took s left) × (read_lines rule_limit k (before ++ s ∷ []) left ≡ accepted f))
unfolding read_lines
lines_step zero before ts f e = ⊎_elim (λ x. refused_never _ 0 f x.2) (λ x. inl x) (if_next_back SLOT _ _ ts (accepted f) e)
lines_step (suc room) before ts f e =
    ⊎_elim (λ x. let a = go_on_back 0 (read_line before (word SLOT ∷ x.0)) _ f x.2 in inr (room, a.0, a.1, refl, ap (read_line before) x.1 ∙ a.2, a.3))
    (λ x. inl x) (if_next_back SLOT _ _ ts (accepted f) e)

nothing_joined : (b : List ℕ) (p : ℕ) (us : List Token) → tokens_from b 0 p ++ word SEMICOLON ∷ us ≡ [] → ⊥
nothing_joined b p us e = go (tokens_from b 0 p) e
  where
    go : (ts : List Token) → ts ++ word SEMICOLON ∷ us ≡ [] → ⊥
    go [] x = let z : ◌≡◌ {A = ℕ} 0 1 = cc in absurd (omega arith)
    go (t ∷ ts) x = let z : ◌≡◌ {A = ℕ} 0 1 = cc in absurd (omega arith)

-- The rules of an accepted text stand piece by piece.
rules_apart : (bs : List (List ℕ)) (room : ℕ) (slots : List Slot) (sofar : List Rule) (w : List ℕ) (p : ℕ) (f : File) → Plain bs → NoSemi w
    → read_rules room slots sofar (tokens_from (joined bs w) 0 p) ≡ accepted f
    → (rs : List Rule) × Forall₂ (ReadRule slots) bs rs × (f ≡ record { slots = slots; rules = sofar ++ rs }) × (length rs ≤ room) × ((q : ℕ) × (tokens_from w 0 q ≡ []))
rules_apart [] room slots sofar w p f h n e =
    ⊎_elim (λ x. ([], Forall₂.nil, x.1 ∙ rw append-nil, omega arith, (p, x.0)))
    (λ x. let y = rule_back slots (tokens_from w 0 p) x.1 x.2 x.4 in absurd (no_statement spell_rule rule_past rule_refit w p y.0 x.2 n y.1))
    (rules_step room slots sofar (tokens_from w 0 p) f e)
rules_apart (b ∷ bs) room slots sofar w p f h n e =
    ⊎_elim (λ x. absurd (nothing_joined b p (tokens_from (joined bs w) 0 (p + suc (length b))) (sym (joined_cut b bs w p) ∙ x.0)))
    (λ x.
    let y = rule_piece_read slots b p x.1 x.2 (tokens_from (joined bs w) 0 (p + suc (length b))) h.0 (sym (ap (read_rule slots) (joined_cut b bs w p)) ∙ x.4) in
    let z = rules_apart bs x.0 slots (sofar ++ x.1 ∷ []) w (p + suc (length b)) f h.1 n (sym (ap (read_rules x.0 slots (sofar ++ x.1 ∷ [])) y.0) ∙ x.5) in
    (x.1 ∷ z.0, Forall₂.cons y.1 z.1, z.2 ∙ rw append_assoc, (let k = x.3 in let l = z.3 in omega arith), z.4))
    (rules_step room slots sofar (tokens_from (joined (b ∷ bs) w) 0 p) f e)

-- What an accepted reading from some slot line on tells of its pieces.
record Apart (bs : List (List ℕ)) (room : ℕ) (before : List Slot) (w : List ℕ) (p : ℕ) (f : File) : Type 0 where
  slot_part : List (List ℕ)
  rule_part : List (List ℕ)
  whole : bs ≡ slot_part ++ rule_part
  slots_are : ReadLines before p slot_part f.slots
  few_slots : length f.slots ≤ room + length before
  rules_are : Forall₂ (ReadRule f.slots) rule_part f.rules
  few_rules : length f.rules ≤ rule_limit
  end_white : (q : ℕ) × (tokens_from w 0 q ≡ [])

apart_rules : (bs : List (List ℕ)) (room : ℕ) (before : List Slot) (w : List ℕ) (p : ℕ) (f : File) → Plain bs → NoSemi w
    → read_rules rule_limit before [] (tokens_from (joined bs w) 0 p) ≡ accepted f → Apart bs room before w p f
apart_rules bs room before w p f h n e =
    let x = rules_apart bs rule_limit before [] w p f h n e in
    subst (Apart bs room before w p) (sym x.2) (record {
      slot_part = [];
      rule_part = bs;
      whole = refl;
      slots_are = no_more_lines;
      few_slots = omega arith;
      rules_are = x.1;
      few_rules = x.3;
      end_white = x.4;
    })

-- The slot lines of an accepted text stand piece by piece, and then the rules.
lines_apart : (bs : List (List ℕ)) (room : ℕ) (before : List Slot) (w : List ℕ) (p : ℕ) (f : File) → Plain bs → NoSemi w
    → read_lines rule_limit room before (tokens_from (joined bs w) 0 p) ≡ accepted f → Apart bs room before w p f
lines_apart [] room before w p f h n e =
    ⊎_elim (λ x. apart_rules [] room before w p f h n x)
    (λ x. let y = line_back before (tokens_from w 0 p) x.1 x.2 x.4 in absurd (no_statement spell_line line_past line_refit w p y.0 x.2 n y.1))
    (lines_step room before (tokens_from w 0 p) f e)
lines_apart (b ∷ bs) room before w p f h n e =
    ⊎_elim (λ x. apart_rules (b ∷ bs) room before w p f h n x)
    (λ x.
    let y = line_piece_read before b p x.1 x.2 (tokens_from (joined bs w) 0 (p + suc (length b))) h.0 (sym (ap (read_line before) (joined_cut b bs w p)) ∙ x.4) in
    let z = lines_apart bs x.0 (before ++ x.1 ∷ []) w (p + suc (length b)) f h.1 n (sym (ap (read_lines rule_limit x.0 (before ++ x.1 ∷ [])) y.0) ∙ x.5) in
    record {
      slot_part = b ∷ z.slot_part;
      rule_part = z.rule_part;
      whole = ap (λ (l : List (List ℕ)). b ∷ l) z.whole;
      slots_are = one_more_line y.1 z.slots_are;
      few_slots = (let k = x.3 in let l = z.few_slots in let m = length-append before (x.1 ∷ []) in omega arith);
      rules_are = z.rules_are;
      few_rules = z.few_rules;
      end_white = z.end_white;
    })
    (lines_step room before (tokens_from (joined (b ∷ bs) w) 0 p) f e)

-- A text without tokens has none at any other place.
white_anywhere : (w : List ℕ) (p q : ℕ) → tokens_from w 0 p ≡ [] → tokens_from w 0 q ≡ []
white_anywhere w p q e = sym (tokens_moved w 0 p q (λ i. i - p + q) (λ j. omega arith)) ∙ ap (map (moved (λ i. i - p + q))) e

accepted_apart : (text : List ℕ) (f : File) → parse text ≡ accepted f → ByStatements text f
unfolding parse_within read_tokens tokens
accepted_apart text f e = go (leb (length text) text_limit) refl e
  where
    go : (t : Bool) → leb (length text) text_limit ≡ t → cond t (read_lines rule_limit slot_limit [] (tokens_from text 0 0)) (refused 10 0) ≡ accepted f → ByStatements text f
    go true q x =
        let r = lines_apart (pieces text) slot_limit [] (tail_piece text) 0 f (pieces_plain text) (tail_plain text)
        (ap (λ (y : List ℕ). read_lines rule_limit slot_limit [] (tokens_from y 0 0)) (cut_joined text) ∙ x) in record {
          slot_part = r.slot_part;
          rule_part = r.rule_part;
          whole = r.whole;
          slots_are = r.slots_are;
          rules_are = r.rules_are;
          end_white = white_anywhere (tail_piece text) r.end_white.0 0 r.end_white.1;
          short = leb-true (length text) text_limit q;
          few_slots = (let k = r.few_slots in omega arith);
          few_rules = r.few_rules;
        }
    go false q x = refused_never 10 0 f x

-- What is read as a rule begins with WHEN.
pub begins_rule : (slots : List Slot) (w : ℕ) (ts : List Token) (r : Rule) (left : List Token) → read_rule slots ts ≡ took r left → begins_with w ts ≡ eqb WHEN w
begins_rule slots w ts r left e = let x = rule_back slots ts r left e in ap (begins_with w) x.1 ∙ go x.0
  where
    go : (t : RuleTree) → begins_with w (spell_rule t left) ≡ eqb WHEN w
    go (rule t c a) = refl

-- What is read as a slot line begins with SLOT.
pub begins_line : (before : List Slot) (w : ℕ) (ts : List Token) (s : Slot) (left : List Token) → read_line before ts ≡ took s left → begins_with w ts ≡ eqb SLOT w
begins_line before w ts s left e = let x = line_back before ts s left e in ap (begins_with w) x.1 ∙ go x.0
  where
    go : (t : LineTree) → begins_with w (spell_line t left) ≡ eqb SLOT w
    go (line n vs) = refl

-- A rule that is read is one step of the reading of rules.
pub rules_take : (room : ℕ) (slots : List Slot) (sofar : List Rule) (ts : List Token) (r : Rule) (left : List Token) → read_rule slots ts ≡ took r left
    → read_rules (suc room) slots sofar ts ≡ read_rules room slots (sofar ++ r ∷ []) left
unfolding read_rules go_on
rules_take room slots sofar [] r left e = absurd (let x = begins_rule slots WHEN [] r left e in let z : ◌≡◌ {A = ℕ} 0 1 = cc in omega arith)
rules_take room slots sofar (t ∷ ts) r left e = rw e

-- A slot line that is read is one step of the reading of slot lines.
pub lines_take : (room : ℕ) (before : List Slot) (ts : List Token) (s : Slot) (left : List Token) → read_line before ts ≡ took s left
    → read_lines rule_limit (suc room) before ts ≡ read_lines rule_limit room (before ++ s ∷ []) left
unfolding read_lines if_next go_on
lines_take room before ts s left e = rw (begins_line before SLOT ts s left e, e)

pub rules_end : (room : ℕ) (slots : List Slot) (sofar : List Rule) → read_rules room slots sofar [] ≡ accepted (record { slots = slots; rules = sofar })
unfolding read_rules
rules_end zero slots sofar = refl
rules_end (suc room) slots sofar = refl

-- Pieces that are rules by themselves are read as those rules, one after the other.
rules_together : (slots : List Slot) (bs : List (List ℕ)) (room : ℕ) (sofar rs : List Rule) (w : List ℕ) (p : ℕ) → Forall₂ (ReadRule slots) bs rs → length rs ≤ room → tokens_from w 0 0 ≡ []
    → read_rules room slots sofar (tokens_from (joined bs w) 0 p) ≡ accepted (record { slots = slots; rules = sofar ++ rs })
rules_together slots bs room sofar rs w p Forall₂.nil h e = rw (white_anywhere w 0 p e, append-nil) (rules_end room slots sofar)
rules_together slots bs zero sofar rs w p (Forall₂.cons g gs) h e = absurd (omega arith)
rules_together slots bs (suc room) sofar rs w p (Forall₂.cons {a = b} {b = r} {l₁ = cs} {l₂ = qs} g gs) h e =
    rules_take room slots sofar (tokens_from (joined (b ∷ cs) w) 0 p) r (tokens_from (joined cs w) 0 (p + suc (length b)))
    (ap (read_rule slots) (joined_cut b cs w p) ∙ g p (tokens_from (joined cs w) 0 (p + suc (length b))))
    ∙ rules_together slots cs room (sofar ++ r ∷ []) qs w (p + suc (length b)) gs (omega arith) e
    ∙ rw append_assoc

no_slot_next : (slots : List Slot) (bs : List (List ℕ)) (rs : List Rule) (w : List ℕ) (p : ℕ) → Forall₂ (ReadRule slots) bs rs → tokens_from w 0 0 ≡ []
    → begins_with SLOT (tokens_from (joined bs w) 0 p) ≡ false
no_slot_next slots bs rs w p Forall₂.nil e = ap (begins_with SLOT) (white_anywhere w 0 p e)
no_slot_next slots bs rs w p (Forall₂.cons {a = b} {b = r} {l₁ = cs} g gs) e =
    ap (begins_with SLOT) (joined_cut b cs w p) ∙ begins_rule slots SLOT _ r _ (g p (tokens_from (joined cs w) 0 (p + suc (length b))))

slots_grow : (before : List Slot) (p : ℕ) (bs : List (List ℕ)) (all : List Slot) → ReadLines before p bs all → length before ≤ length all
slots_grow before p bs all no_more_lines = omega arith
slots_grow before p bs all (one_more_line {s = s} g gs) = let x = length-append before (s ∷ []) in let y = slots_grow _ _ _ all gs in omega arith

-- Pieces that are slots by themselves are read as those slots, and then the rules.
lines_together : (bs rs : List (List ℕ)) (room : ℕ) (before all : List Slot) (rules : List Rule) (w : List ℕ) (p : ℕ) → ReadLines before p bs all → length all ≤ room + length before
    → Forall₂ (ReadRule all) rs rules → length rules ≤ rule_limit → tokens_from w 0 0 ≡ []
    → read_lines rule_limit room before (tokens_from (joined (bs ++ rs) w) 0 p) ≡ accepted (record { slots = all; rules = rules })
lines_together bs rs room before all rules w p no_more_lines h g few e =
    rules_begin rule_limit room before (tokens_from (joined rs w) 0 p) (no_slot_next before rs rules w p g e) ∙ rules_together before rs rule_limit [] rules w p g few e
lines_together bs rs zero before all rules w p (one_more_line {s = s} l ls) h g few e =
    absurd (let x = length-append before (s ∷ []) in let y = slots_grow _ _ _ all ls in omega arith)
lines_together bs rs (suc room) before all rules w p (one_more_line {b = b} {bs = cs} {s = s} l ls) h g few e =
    lines_take room before (tokens_from (joined (b ∷ (cs ++ rs)) w) 0 p) s (tokens_from (joined (cs ++ rs) w) 0 (p + suc (length b)))
    (ap (read_line before) (joined_cut b (cs ++ rs) w p) ∙ l (tokens_from (joined (cs ++ rs) w) 0 (p + suc (length b))))
    ∙ lines_together cs rs room (before ++ s ∷ []) all rules w (p + suc (length b)) ls (let x = length-append before (s ∷ []) in omega arith) g few e

together_accepted : (text : List ℕ) (f : File) → ByStatements text f → parse text ≡ accepted f
unfolding parse_within read_tokens tokens
together_accepted text f h =
    rw (le-leb (length text) text_limit h.short)
    (ap (λ (y : List ℕ). read_lines rule_limit slot_limit [] (tokens_from y 0 0)) (sym (cut_joined text) ∙ ap (λ (bs : List (List ℕ)). joined bs (tail_piece text)) h.whole)
    ∙ lines_together h.slot_part h.rule_part slot_limit [] f.slots f.rules (tail_piece text) 0 h.slots_are (let x = h.few_slots in omega arith) h.rules_are h.few_rules h.end_white)

-- Reading is by statements: a text is accepted with a file exactly when its pieces, each by itself, are that file's slots and rules.
pub statements_iff : (text : List ℕ) (f : File) → (parse text ≡ accepted f) ↔ ByStatements text f
statements_iff text f = (accepted_apart text f, together_accepted text f)
