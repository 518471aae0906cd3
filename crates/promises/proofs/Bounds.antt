-- The pairs of C are pairs that the file has.
-- Assumes nothing.
use Prim.Native.Nat.{ℕ, zero, suc, ◌≤◌, ◌<◌}
use native.Mathlib.Omega.{arith}
use mathlib.Core.Path.{◌≡◌}
use mathlib.Core.Bool.{Bool, true, false, cond}
use mathlib.Core.List.{List, [], ◌∷◌}
use mathlib.Core.Logic.{⊎_elim}
use lib.Dec.{T}
use lib.ListN.{length, get_or, length-map, get_or-map, get_or-eq_default}
use Rattle.laws.specs.Listed.{Each}
use Rattle.laws.specs.Numbers.{Numbered}
use Rattle.laws.proofs.Truth.{or_e, le_or_lt}
use Rattle.laws.proofs.Listed.{each_at}
use Rattle.model.specs.Rules.{Pair, Literal, same, among}
use Rattle.model.specs.Orders.{no_rule, rule_at, changes, firing_order}
use Rattle.model.specs.Strata.{is_becomes, pairs_where, tested}
use Rattle.model.specs.Result.{Bounded}
use Rattle.model.proofs.Pairs.{same_eq}
use Rattle.model.proofs.Changes.{cause}
use Rattle.model.proofs.Orders.{are_rules}
use Rattle.laws.specs.Limits.{row, value_limit}
use Rattle.grammar.specs.Files.{Slot, File, no_slot, slot_counts}
use Rattle.grammar.proofs.Declared.{DeclaredPair, slot_declared, value_declared, DeclaredRule, Valued, DeclaredFile}
use Rattle.laws.specs.Answers.{passed}
use Rattle.cards.specs.Forms.{slip_test}
use Rattle.cards.specs.inner.Fitting.{Slots}
use Rattle.cards.proofs.Having.{Has, tested_has}

-- What each of some literals' pairs has, one among those of literals that pass has.
each_where : (P : Pair → Type 0) (g : Literal → Bool) (ls : List Literal) → Each (λ (l : Literal). P l.pair) ls → (p : Pair) → T (among p (pairs_where g ls)) → P p
unfolding among pairs_where
each_where P g [] h p t = absurd t
each_where P g (l ∷ ls) h p t = go (g l) (each_where P g ls h.1 p) t
  where
    go : (b : Bool) → (T (among p (pairs_where g ls)) → P p) → T (among p (cond b (l.pair ∷ pairs_where g ls) (pairs_where g ls))) → P p
    go true rest u = ⊎_elim (λ s. rw (same_eq p l.pair s) h.0) rest (or_e (same p l.pair) (among p (pairs_where g ls)) u)
    go false rest u = rest u

-- What each of some pairs has, one among them has.
each_among : (P : Pair → Type 0) (ps : List Pair) → Each P ps → (p : Pair) → T (among p ps) → P p
unfolding among
each_among P [] h p t = absurd t
each_among P (q ∷ qs) h p t = ⊎_elim (λ s. rw (same_eq p q s) h.0) (each_among P qs h.1 p) (or_e (same p q) (among p qs) t)

module _ (f : File) (declared : DeclaredFile f) where
  -- No slot has more than 15 values.
  pub few_values : (s : ℕ) → get_or (slot_counts f.slots) s 0 ≤ value_limit
  few_values s = ⊎_elim beyond inside (le_or_lt (length f.slots) s)
    where
      beyond : length f.slots ≤ s → get_or (slot_counts f.slots) s 0 ≤ value_limit
      beyond l = rw (get_or-eq_default (slot_counts f.slots) 0 {n = s} (rw length-map l)) (omega arith)

      inside : s < length f.slots → get_or (slot_counts f.slots) s 0 ≤ value_limit
      inside l = rw (get_or-map (λ (z : Slot). length z.values) f.slots s no_slot) (each_at Valued f.slots s no_slot declared.slots_valued l).1

  -- They are slots of the limits.
  pub file_slots : Slots (slot_counts f.slots)
  file_slots = record { few = rw length-map declared.few_slots; small = λ i h. few_values i }

  pair_has : (p : Pair) → DeclaredPair f.slots p → Has (slot_counts f.slots) p
  pair_has p n = record { below = rw length-map (slot_declared f.slots p n); last = rw (get_or-map (λ (z : Slot). length z.values) f.slots p.slot no_slot) (value_declared f.slots p n) }

  rule_declared : (k : ℕ) → Numbered (length f.rules) (suc k) → DeclaredRule f.slots (get_or f.rules k no_rule)
  rule_declared k i = each_at (DeclaredRule f.slots) f.rules k no_rule declared.each_rule (omega (arith, i.last))

  -- What the rules assign, the slots have,
  pub assigned_has : (n : ℕ) (p : Pair) → Numbered (length f.rules) n → T (among p (rule_at f.rules n).assignments) → Has (slot_counts f.slots) p
  unfolding rule_at
  assigned_has zero p i t = absurd (omega (arith, i.first))
  assigned_has (suc k) p i t = pair_has p (each_among (DeclaredPair f.slots) (get_or f.rules k no_rule).assignments (rule_declared k i).assignments_declared p t)

  -- and what they test.
  pub tests_has : (n : ℕ) (p : Pair) → Numbered (length f.rules) n → T (among p (tested (rule_at f.rules n))) → Has (slot_counts f.slots) p
  unfolding rule_at tested among
  tests_has zero p i t = absurd (omega (arith, i.first))
  tests_has (suc k) p i t =
      let r = rule_declared k i in
      pair_has p (⊎_elim (λ s. rw (same_eq p (get_or f.rules k no_rule).trigger s) r.trigger_declared)
      (each_where (DeclaredPair f.slots) is_becomes (get_or f.rules k no_rule).literals r.literals_declared p) (or_e (same p (get_or f.rules k no_rule).trigger) _ t))

  module _ (S : List ℕ) (I : List Pair) (slip : slip_test (slot_counts f.slots) I ≡ passed) (ns : List ℕ) (order : T (firing_order f.rules S I ns)) where
    -- So does C, at the end of a firing order from a slip that passes its tests.
    pub changes_has : (p : Pair) → T (changes f.rules I ns p) → Has (slot_counts f.slots) p
    unfolding firing_order
    changes_has p t =
        ⊎_elim (tested_has (slot_counts f.slots) 0 0 I slip p) (λ c. assigned_has c.0 p (are_rules f.rules S I [] ns order c.0 c.1) c.2) (cause f.rules I ns p t)

    pub changes_bounded : Bounded (length (slot_counts f.slots)) row (changes f.rules I ns)
    changes_bounded = record {
      slot_below = λ p t. (changes_has p t).below;
      value_below = λ p t. omega (arith, (changes_has p t).last, few_values p.slot);
    }
