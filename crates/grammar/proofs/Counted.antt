-- The rules that tokens complete are counted in one way only.
-- Assumes nothing.
use Prim.Native.Nat.{ℕ, suc}
use native.Mathlib.Omega.{arith}
use mathlib.Core.Path.{◌≡◌, refl, sym, ap, subst, ◌∙◌}
use mathlib.Core.List.{List, [], ◌∷◌}
use lib.ListN.{length}
use Rattle.text.specs.Tokens.{Token, SLOT}
use Rattle.text.specs.Cut.{Free, past_semi}
use Rattle.grammar.specs.Grammar.{RuleTree, rule, LineTree, line, spell_rule, spell_rules, spell_line, spell_lines}
use Rattle.grammar.specs.Reading.{begins_with}
use Rattle.grammar.specs.Refusals.{Completed}
use Rattle.grammar.proofs.Ends.{rule_past, rule_refit, line_past, line_refit, not_free}

no_rule : (t : RuleTree) (rest part : List Token) → Free part → part ≡ spell_rule t rest → ⊥
no_rule t rest part f e = not_free spell_rule rule_past rule_refit t rest (subst Free e f)

no_line : (t : LineTree) (rest part : List Token) → Free part → part ≡ spell_line t rest → ⊥
no_line t rest part f e = not_free spell_line line_past line_refit t rest (subst Free e f)

rules_counted : (rs us : List RuleTree) (p q : List Token) → Free p → Free q → spell_rules rs p ≡ spell_rules us q → length rs ≡ length us
rules_counted [] [] p q f g e = refl
rules_counted [] (u ∷ us) p q f g e = absurd (no_rule u (spell_rules us q) p f e)
rules_counted (r ∷ rs) [] p q f g e = absurd (no_rule r (spell_rules rs p) q g (sym e))
rules_counted (r ∷ rs) (u ∷ us) p q f g e = ap suc (rules_counted rs us p q f g (sym (rule_past r (spell_rules rs p)) ∙ ap past_semi e ∙ rule_past u (spell_rules us q)))

-- Rules are no slot line.
no_line_first : (t : LineTree) (rest : List Token) (rs : List RuleTree) (p : List Token) → Free p → spell_rules rs p ≡ spell_line t rest → ⊥
no_line_first t rest [] p f e = no_line t rest p f e
no_line_first (line n vs) rest (rule t c a ∷ rs) p f e = let q = ap (begins_with SLOT) e in let z : ◌≡◌ {A = ℕ} 0 1 = cc in omega arith

lines_counted : (ls ms : List LineTree) (rs us : List RuleTree) (p q : List Token) → Free p → Free q → spell_lines ls (spell_rules rs p) ≡ spell_lines ms (spell_rules us q) → length rs ≡ length us
lines_counted [] [] rs us p q f g e = rules_counted rs us p q f g e
lines_counted [] (m ∷ ms) rs us p q f g e = absurd (no_line_first m (spell_lines ms (spell_rules us q)) rs p f e)
lines_counted (l ∷ ls) [] rs us p q f g e = absurd (no_line_first l (spell_lines ls (spell_rules rs p)) us q g (sym e))
lines_counted (l ∷ ls) (m ∷ ms) rs us p q f g e =
    lines_counted ls ms rs us p q f g (sym (line_past l (spell_lines ls (spell_rules rs p))) ∙ ap past_semi e ∙ line_past m (spell_lines ms (spell_rules us q)))

-- Tokens complete one number of rules.
pub one_count : (ts : List Token) (m n : ℕ) → Completed ts m → Completed ts n → m ≡ n
one_count ts m n a b =
    sym a.count ∙ lines_counted a.lines b.lines a.rules b.rules a.part b.part a.unended b.unended (sym a.statements ∙ b.statements) ∙ b.count
