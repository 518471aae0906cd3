-- Laws of the reading from the middle of a file on.
-- Assumes nothing.
use Prim.Native.Nat.{ℕ, zero, suc, ◌-◌, ◌≤◌, ◌<◌}
use native.Mathlib.Omega.{arith}
use mathlib.Core.Path.{◌≡◌, refl, ap, ◌∙◌}
use mathlib.Core.Bool.{true, false}
use mathlib.Core.Logic.{⊎_elim}
use mathlib.Core.List.{List, [], ◌∷◌, ◌++◌}
use lib.ListN.{length, length-append}
use Rattle.text.specs.Tokens.{Token, SLOT, WHEN}
use Rattle.model.specs.Rules.{Rule}
use Rattle.laws.specs.Limits.{slot_limit}
use Rattle.grammar.specs.Files.{Slot}
use Rattle.grammar.specs.Reading.{took, stop, accepted, refused, begins_with, if_next, expects, go_on, read_line, read_rule, read_lines, read_rules}
use Rattle.grammar.proofs.Forward.{rules_begin}
use Rattle.text.specs.declared.Token as code
use Rattle.text.specs.declared.Token.TheVariants as v
use Rattle.steps.specs.inner.Places.{shown_past}
use Rattle.lines.specs.inner.Index.{Indexed}
use Rattle.clauses.specs.inner.Literals.{Looked}
use Rattle.lines.proofs.Index.{indexed_slots, indexed_values}
use Rattle.laws.proofs.Truth.{le_or_lt}
use Rattle.reader.specs.inner.Statements.{read_on, RuleNext}
use Rattle.reader.specs.inner.Rules.{RuleLies}
use Rattle.reader.proofs.RuleLaws.{rule_no_when}
use Rattle.std.specs.Prelude.{Result, Ok, Err}
use Rattle.table.specs.declared.Rule as ruled
use Rattle.steps.specs.declared.step.Fault.{Fault}
use Rattle.steps.specs.declared.step.Read.{Read}

longer : {A : Type 0} (xs : List A) (x : A) → length (xs ++ x ∷ []) ≡ suc (length xs)
longer xs x = length-append xs (x ∷ []) ∙ omega arith

module _ (most : ℕ) where
  -- Nothing is left.
  lines_none : (room : ℕ) (slots : List Slot) → read_lines most room slots [] ≡ read_rules most slots [] []
  unfolding read_lines if_next
  lines_none zero slots = refl
  lines_none (suc room) slots = refl

  rules_none : (room : ℕ) (slots : List Slot) (rules : List Rule) → read_rules room slots rules [] ≡ accepted (record { slots = slots; rules = rules })
  unfolding read_rules
  rules_none zero slots rules = refl
  rules_none (suc room) slots rules = refl

  pub on_end : (slots : List Slot) (rules : List Rule) → read_on most slots rules [] ≡ accepted (record { slots = slots; rules = rules })
  unfolding read_on
  on_end slots [] = lines_none _ slots ∙ rules_none most slots []
  on_end slots (r ∷ rs) = rules_none _ slots (r ∷ rs)

  -- A slot line.
  line_full : (room : ℕ) (slots : List Slot) (ts : List Token) → room ≡ 0 → begins_with SLOT ts ≡ true → read_lines most room slots ts ≡ refused 15 0
  unfolding read_lines if_next
  line_full room slots ts e f = rw (e, f)

  pub on_line_full : (slots : List Slot) (ts : List Token) → slot_limit ≤ length slots → begins_with SLOT ts ≡ true → read_on most slots [] ts ≡ refused 15 0
  unfolding read_on
  on_line_full slots ts h f = line_full (slot_limit - length slots) slots ts (omega arith) f

  line_next : (room r : ℕ) (slots : List Slot) (ts left : List Token) (s : Slot) → room ≡ suc r → begins_with SLOT ts ≡ true → read_line slots ts ≡ took s left
      → read_lines most room slots ts ≡ read_lines most r (slots ++ s ∷ []) left
  unfolding read_lines if_next go_on
  line_next room r slots ts left s e f g = rw (e, f, g)

  pub on_line : (slots : List Slot) (ts left : List Token) (s : Slot) → length slots < slot_limit → begins_with SLOT ts ≡ true → read_line slots ts ≡ took s left
      → read_on most slots [] ts ≡ read_on most (slots ++ s ∷ []) [] left
  unfolding read_on
  on_line slots ts left s h f g =
      let l = longer slots s in
      line_next (slot_limit - length slots) (slot_limit - length (slots ++ s ∷ [])) slots ts left s (omega arith) f g

  line_stop : (room r : ℕ) (slots : List Slot) (ts : List Token) (k : ℕ) → room ≡ suc r → begins_with SLOT ts ≡ true → read_line slots ts ≡ stop k → read_lines most room slots ts ≡ refused k 0
  unfolding read_lines if_next go_on
  line_stop room r slots ts k e f g = rw (e, f, g)

  pub on_line_stop : (slots : List Slot) (ts : List Token) (k : ℕ) → length slots < slot_limit → begins_with SLOT ts ≡ true → read_line slots ts ≡ stop k → read_on most slots [] ts ≡ refused k 0
  unfolding read_on
  on_line_stop slots ts k h f g = line_stop (slot_limit - length slots) (slot_limit - suc (length slots)) slots ts k (omega arith) f g

  -- A rule: no SLOT stands next, or rules came before.
  on_rules : (slots : List Slot) (rules : List Rule) (ts : List Token) → RuleNext rules ts → read_on most slots rules ts ≡ read_rules (most - length rules) slots rules ts
  unfolding read_on
  on_rules slots rules [] h = absurd h
  on_rules slots [] (t ∷ ts) h = rules_begin most _ slots (t ∷ ts) h ∙ ap (λ (k : ℕ). read_rules k slots [] (t ∷ ts)) (omega arith)
  on_rules slots (r ∷ rs) (t ∷ ts) h = refl

  rules_after : (slots : List Slot) (rules : List Rule) (r : Rule) (ts : List Token) → read_rules (most - length (rules ++ r ∷ [])) slots (rules ++ r ∷ []) ts ≡ read_on most slots (rules ++ r ∷ []) ts
  unfolding read_on
  rules_after slots [] r ts = refl
  rules_after slots (x ∷ xs) r ts = refl

  rule_next : (room r : ℕ) (slots : List Slot) (rules : List Rule) (t : Token) (ts left : List Token) (x : Rule) → room ≡ suc r → read_rule slots (t ∷ ts) ≡ took x left
      → read_rules room slots rules (t ∷ ts) ≡ read_rules r slots (rules ++ x ∷ []) left
  unfolding read_rules go_on
  rule_next room r slots rules t ts left x e g = rw (e, g)

  on_rule : (slots : List Slot) (rules : List Rule) (t : Token) (ts left : List Token) (x : Rule) → RuleNext rules (t ∷ ts) → length rules < most → read_rule slots (t ∷ ts) ≡ took x left
      → read_on most slots rules (t ∷ ts) ≡ read_on most slots (rules ++ x ∷ []) left
  on_rule slots rules t ts left x n h g =
      let l = longer rules x in
      on_rules slots rules (t ∷ ts) n
      ∙ rule_next (most - length rules) (most - length (rules ++ x ∷ [])) slots rules t ts left x (omega arith) g
      ∙ rules_after slots rules x left

  rule_stop : (room r : ℕ) (slots : List Slot) (rules : List Rule) (t : Token) (ts : List Token) (k : ℕ) → room ≡ suc r → read_rule slots (t ∷ ts) ≡ stop k
      → read_rules room slots rules (t ∷ ts) ≡ refused k (length rules)
  unfolding read_rules go_on
  rule_stop room r slots rules t ts k e g = rw (e, g)

  on_rule_stop : (slots : List Slot) (rules : List Rule) (t : Token) (ts : List Token) (k : ℕ) → RuleNext rules (t ∷ ts) → length rules < most → read_rule slots (t ∷ ts) ≡ stop k
      → read_on most slots rules (t ∷ ts) ≡ refused k (length rules)
  on_rule_stop slots rules t ts k n h g = on_rules slots rules (t ∷ ts) n ∙ rule_stop (most - length rules) (most - suc (length rules)) slots rules t ts k (omega arith) g

  -- No rule may follow.
  rule_full : (room : ℕ) (slots : List Slot) (rules : List Rule) (t : Token) (ts left : List Token) → room ≡ 0 → expects WHEN (t ∷ ts) ≡ took tt left → read_rules room slots rules (t ∷ ts) ≡ refused 15 (length rules)
  unfolding read_rules go_on
  rule_full room slots rules t ts left e g = rw (e, g)

  on_rule_full : (slots : List Slot) (rules : List Rule) (t : Token) (ts left : List Token) → RuleNext rules (t ∷ ts) → most ≤ length rules → expects WHEN (t ∷ ts) ≡ took tt left
      → read_on most slots rules (t ∷ ts) ≡ refused 15 (length rules)
  on_rule_full slots rules t ts left n h g = on_rules slots rules (t ∷ ts) n ∙ rule_full (most - length rules) slots rules t ts left (omega arith) g

  rule_none : (room : ℕ) (slots : List Slot) (rules : List Rule) (t : Token) (ts : List Token) (k : ℕ) → room ≡ 0 → expects WHEN (t ∷ ts) ≡ stop k → read_rules room slots rules (t ∷ ts) ≡ refused k (length rules)
  unfolding read_rules go_on
  rule_none room slots rules t ts k e g = rw (e, g)

  on_rule_none : (slots : List Slot) (rules : List Rule) (t : Token) (ts : List Token) (k : ℕ) → RuleNext rules (t ∷ ts) → most ≤ length rules → expects WHEN (t ∷ ts) ≡ stop k
      → read_on most slots rules (t ∷ ts) ≡ refused k (length rules)
  on_rule_none slots rules t ts k n h g = on_rules slots rules (t ∷ ts) n ∙ rule_none (most - length rules) slots rules t ts k (omega arith) g

  -- The same for any tokens.
  pub next_rule : (slots : List Slot) (rules : List Rule) (ts left : List Token) (x : Rule) → RuleNext rules ts → length rules < most → read_rule slots ts ≡ took x left → read_on most slots rules ts ≡ read_on most slots (rules ++ x ∷ []) left
  next_rule slots rules [] left x n h g = absurd n
  next_rule slots rules (t ∷ ts) left x n h g = on_rule slots rules t ts left x n h g

  pub next_stop : (slots : List Slot) (rules : List Rule) (ts : List Token) (k : ℕ) → RuleNext rules ts → length rules < most → read_rule slots ts ≡ stop k → read_on most slots rules ts ≡ refused k (length rules)
  next_stop slots rules [] k n h g = absurd n
  next_stop slots rules (t ∷ ts) k n h g = on_rule_stop slots rules t ts k n h g

  pub next_full : (slots : List Slot) (rules : List Rule) (ts left : List Token) → RuleNext rules ts → most ≤ length rules → expects WHEN ts ≡ took tt left → read_on most slots rules ts ≡ refused 15 (length rules)
  next_full slots rules [] left n h g = absurd n
  next_full slots rules (t ∷ ts) left n h g = on_rule_full slots rules t ts left n h g

  next_none : (slots : List Slot) (rules : List Rule) (ts : List Token) (k : ℕ) → RuleNext rules ts → most ≤ length rules → expects WHEN ts ≡ stop k → read_on most slots rules ts ≡ refused k (length rules)
  next_none slots rules [] k n h g = absurd n
  next_none slots rules (t ∷ ts) k n h g = on_rule_none slots rules t ts k n h g

  -- No WHEN stands there.
  pub no_when : (slots : List Slot) (rules : List Rule) (ts : List Token) (k : ℕ) → RuleNext rules ts → expects WHEN ts ≡ stop k → read_on most slots rules ts ≡ refused k (length rules)
  no_when slots rules ts k n g = ⊎_elim (λ h. next_none slots rules ts k n h g) (λ h. next_stop slots rules ts k n h (rule_no_when slots ts k g)) (le_or_lt most (length rules))

-- Where the slots so far are indexed, they are found.
pub looked : (text slotspans valuespans : List ℕ) (slots : List Slot) → Indexed text slots slotspans valuespans → Looked text slots slotspans valuespans
looked text slotspans valuespans slots I = let f = I.few in record { slotspans_listed = indexed_slots I; valuespans_listed = λ s h. indexed_values s I (omega arith) }

pub no_rules : (rules : List Rule) → length rules ≡ 0 → rules ≡ []
no_rules [] e = refl
no_rules (r ∷ rs) e = absurd (omega arith)

-- Something that is not the end stands there.
pub not_ended : (rest : List ℕ) (base : ℕ) (t : code.Token) (ts : List Token) → (t ≡ v.End → ⊥) → shown_past rest base t ts ≡ [] → ⊥
not_ended rest base v.End ts h e = h refl
not_ended rest base (v.Word w) ts h e = let z : ◌≡◌ {A = ℕ} 0 1 = cc in omega arith
not_ended rest base (v.Name n) ts h e = let z : ◌≡◌ {A = ℕ} 0 1 = cc in omega arith
not_ended rest base v.Long ts h e = let z : ◌≡◌ {A = ℕ} 0 1 = cc in omega arith
not_ended rest base v.Bad ts h e = let z : ◌≡◌ {A = ℕ} 0 1 = cc in omega arith

-- A rule must stand next.
pub rule_stands : (rules : List Rule) (ts : List Token) → (ts ≡ [] → ⊥) → (length rules ≡ 0 → begins_with SLOT ts ≡ false) → RuleNext rules ts
rule_stands rules [] h f = h refl
rule_stands [] (t ∷ ts) h f = f refl
rule_stands (r ∷ rs) (t ∷ ts) h f = tt

-- What lies behind a later position lies behind an earlier one.
pub rule_earlier : (size from later : ℕ) (r : Result (Read ruled.Rule) Fault) → from ≤ later → RuleLies size later r → RuleLies size from r
rule_earlier size from later (Ok r) h d = (omega (arith, d.0), d.1, d.2)
rule_earlier size from later (Err k) h d = tt
