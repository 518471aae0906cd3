-- A rearranged text is accepted too: the same slots at the same places, and the rules rearranged as their pieces are.
-- Assumes nothing.
use Prim.Native.Nat.{ℕ, ◌+◌}
use native.Mathlib.Omega.{arith}
use mathlib.Core.Path.{◌≡◌, refl, sym, ap, ap₂, subst, ◌∙◌}
use mathlib.Core.Bool.{Bool, true, false}
use mathlib.Core.List.{List, [], ◌∷◌, ◌++◌, map, Forall₂}
use lib.ListN.{length}
use Rattle.laws.specs.Rearranged.{Perm, goes}
use Rattle.laws.proofs.Rearranged.{p_length}
use Rattle.laws.proofs.Alike.{alike, p_along}
use Rattle.text.specs.Tokens.{Token, word, name, long, bad, WHEN, SEMICOLON, tokens_from, tokens}
use Rattle.text.specs.Cut.{moved}
use Rattle.text.proofs.Cut.{tokens_moved}
use Rattle.model.specs.Rules.{Rule}
use Rattle.grammar.specs.Files.{Slot, File}
use Rattle.grammar.specs.Reading.{accepted, begins_with, parse}
use Rattle.grammar.specs.Pieces.{pieces, tail_piece, joined, ReadRule, ReadLines, no_more_lines, one_more_line, ByStatements, rule_piece, rule_pieces, SameOthers, no_pieces, same_other, some_rule, Rearranges}
use Rattle.grammar.proofs.Pieces.{cut_joined, same_length}
use Rattle.grammar.proofs.Statements.{begins_rule, begins_line, statements_iff}

begins_moved : (w : ℕ) (f : ℕ → ℕ) (ts : List Token) → begins_with w (map (moved f) ts) ≡ begins_with w ts
begins_moved w f [] = refl
begins_moved w f (word v ∷ ts) = refl
begins_moved w f (name n ∷ ts) = refl
begins_moved w f (long ∷ ts) = refl
begins_moved w f (bad ∷ ts) = refl

begins_before : (ts us : List Token) → begins_with WHEN (ts ++ word SEMICOLON ∷ us) ≡ begins_with WHEN ts
begins_before [] us = refl
begins_before (word v ∷ ts) us = refl
begins_before (name n ∷ ts) us = refl
begins_before (long ∷ ts) us = refl
begins_before (bad ∷ ts) us = refl

-- What a piece begins with shows wherever it stands, whatever follows it.
begins_at : (b : List ℕ) (p : ℕ) (us : List Token) → rule_piece b ≡ begins_with WHEN (tokens_from b 0 p ++ word SEMICOLON ∷ us)
unfolding rule_piece tokens
begins_at b p us =
    sym (begins_before (tokens_from b 0 p) us ∙ sym (ap (begins_with WHEN) (tokens_moved b 0 0 p (λ i. i + p) (λ j. omega arith))) ∙ begins_moved WHEN (λ i. i + p) (tokens_from b 0 0))

abbrev AllOther : List (List ℕ) → Type 0
AllOther [] = Unit
AllOther (b ∷ bs) = (rule_piece b ≡ false) × AllOther bs

abbrev AllRules : List (List ℕ) → Type 0
AllRules [] = Unit
AllRules (b ∷ bs) = (rule_piece b ≡ true) × AllRules bs

-- Slot lines are no pieces of rules.
lines_other : (before : List Slot) (p : ℕ) (bs : List (List ℕ)) (all : List Slot) → ReadLines before p bs all → AllOther bs
lines_other before p bs all no_more_lines = tt
lines_other before p bs all (one_more_line {b = b} {bs = cs} {s = s} g gs) =
    (begins_at b p [] ∙ begins_line before WHEN (tokens_from b 0 p ++ word SEMICOLON ∷ []) s [] (g []), lines_other _ _ cs all gs)

-- Rules are.
rules_all : (slots : List Slot) (bs : List (List ℕ)) (rs : List Rule) → Forall₂ (ReadRule slots) bs rs → AllRules bs
rules_all slots bs rs Forall₂.nil = tt
rules_all slots bs rs (Forall₂.cons {a = b} {b = r} {l₁ = cs} {l₂ = qs} g gs) =
    (begins_at b 0 [] ∙ begins_rule slots WHEN (tokens_from b 0 0 ++ word SEMICOLON ∷ []) r [] (g 0 []), rules_all slots cs qs gs)

true_false : {C : Type 0} (t : Bool) → t ≡ true → t ≡ false → C
true_false t a b = absurd (let z : ◌≡◌ {A = ℕ} 0 1 = cc in omega arith)

others_apart : (ss rs cs : List (List ℕ)) → AllOther ss → SameOthers (ss ++ rs) cs → (ds : List (List ℕ)) × (cs ≡ ss ++ ds) × SameOthers rs ds
others_apart [] rs cs h s = (cs, refl, s)
others_apart (b ∷ ss) rs cs h (same_other {cs = cs'} e s) =
    let r = others_apart ss rs cs' h.1 s in (r.0, ap (λ (y : List (List ℕ)). b ∷ y) r.1, r.2)
others_apart (b ∷ ss) rs cs h (some_rule e e' s) = true_false (rule_piece b) e h.0

rules_stay : (rs ds : List (List ℕ)) → AllRules rs → SameOthers rs ds → AllRules ds
rules_stay rs ds h no_pieces = tt
rules_stay rs ds h (same_other {b = b} e s) = true_false (rule_piece b) h.0 e
rules_stay rs ds h (some_rule {bs = bs} {cs = cs} e e' s) = (e', rules_stay bs cs h.1 s)

only_rules : (rs : List (List ℕ)) → AllRules rs → rule_pieces rs ≡ rs
unfolding rule_pieces
only_rules [] h = refl
only_rules (b ∷ bs) h = rw h.0 (ap (λ (y : List (List ℕ)). b ∷ y) (only_rules bs h.1))

others_out : (ss rs : List (List ℕ)) → AllOther ss → rule_pieces (ss ++ rs) ≡ rule_pieces rs
unfolding rule_pieces
others_out [] rs h = refl
others_out (b ∷ ss) rs h = rw h.0 (others_out ss rs h.1)

-- A rearranged text is read to the same slots with the same names, and to the rules rearranged: a rule's new number is its piece's new place.
pub rearranged_text : (t t' : List ℕ) (f : File) → parse t ≡ accepted f → (R : Rearranges t t')
    → (rules' : List Rule) × (parse t' ≡ accepted (record { slots = f.slots; rules = rules' })) × (q : Perm f.rules rules') × ((i : ℕ) → goes q i ≡ goes R.rules i)
rearranged_text t t' f e R = made ((statements_iff t f).0 e)
  where
    made : ByStatements t f
        → (rules' : List Rule) × (parse t' ≡ accepted (record { slots = f.slots; rules = rules' })) × (q : Perm f.rules rules') × ((i : ℕ) → goes q i ≡ goes R.rules i)
    made h =
        let ss = h.slot_part in
        let rs = h.rule_part in
        let other = lines_other [] 0 ss f.slots h.slots_are in
        let rules = rules_all f.slots rs f.rules h.rules_are in
        let o = others_apart ss rs (pieces t') other (subst (λ (y : List (List ℕ)). SameOthers y (pieces t')) h.whole R.others) in
        let p = p_along (rule_pieces (pieces t)) (rule_pieces (pieces t')) rs o.0
        (ap rule_pieces h.whole ∙ others_out ss rs other ∙ only_rules rs rules)
        (ap rule_pieces o.1 ∙ others_out ss o.0 other ∙ only_rules o.0 (rules_stay rs o.0 rules o.2)) R.rules in
        let d = alike p.0 h.rules_are in
        let t_is : joined (ss ++ rs) (tail_piece t) ≡ t = ap (λ (bs : List (List ℕ)). joined bs (tail_piece t)) (sym h.whole) ∙ cut_joined t in
        let t'-is : joined (ss ++ o.0) (tail_piece t) ≡ t' = sym (ap₂ joined o.1 R.end) ∙ cut_joined t' in
        let size : length t' ≡ length t = sym (ap length t'-is) ∙ same_length ss rs o.0 (tail_piece t) p.0 ∙ ap length t_is in (
          d.0,
          (statements_iff t' (record { slots = f.slots; rules = d.0 })).1 (record {
            slot_part = ss;
            rule_part = o.0;
            whole = o.1;
            slots_are = h.slots_are;
            rules_are = d.1;
            end_white = ap tokens R.end ∙ h.end_white;
            short = (let x = h.short in omega (arith, size));
            few_slots = h.few_slots;
            few_rules = (let x = h.few_rules in let y = p_length d.2 in omega arith);
          }),
          d.2,
          λ i. d.3 i ∙ p.1 i,
        )
