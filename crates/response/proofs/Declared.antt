-- The pairs that the rules of a well-formed table name are declared, and those of a slip that is taken.
-- Assumes nothing.
use mathlib.Core.Path.{◌≡◌}
use mathlib.Core.Bool.{Bool}
use mathlib.Core.List.{List, [], ◌∷◌, map}
use mathlib.Core.Logic.{⊎_elim}
use Prim.Native.Nat.{ℕ, zero, suc, ◌<◌}
use native.Mathlib.Omega.{arith}
use lib.Dec.{T}
use lib.ListN.{length, get_or}
use Rattle.laws.specs.Numbers.{Numbered}
use Rattle.laws.specs.Listed.{all_of}
use Rattle.laws.specs.Answers.{taken}
use Rattle.laws.proofs.Truth.{and_l, and_r, or_e}
use Rattle.model.specs.Rules.{Pair, Literal, among}
use Rattle.model.specs.Orders.{rule_at}
use Rattle.model.specs.Strata.{pairs_where, is_becomes, tested}
use Rattle.model.proofs.Pairs.{same_eq, where_e}
use Rattle.table.specs.declared.Table.{Table}
use Rattle.table.specs.Zero.{zero_rule}
use Rattle.table.specs.inner.Shape.{Shaped}
use Rattle.table.specs.Link.{rule_of, literals_of, assignments_of, rules_of, value_counts}
use Rattle.table.proofs.Link.{rules_length, rule_at_is, counts_length}
use Rattle.soundness.specs.Sound.{has_pair, well_formed}
use Rattle.soundness.proofs.WellFormed.{right_e, WellFormed, well_formed_e, pair_inside, named_parts}
use Rattle.cards.specs.Forms.{read_slip}
use Rattle.cards.proofs.Having.{tested_has, slip_tested}
use Rattle.marks.specs.Marks.{declared_pairs}
use Rattle.marks.proofs.Selections.{all_pairs_e}
use Rattle.marks.proofs.Pairs.{declared_iff}

-- A slip that is taken has declared pairs alone.
pub slip_declared : (counts slip : List ℕ) (I : List Pair) → read_slip counts slip ≡ taken I → (p : Pair) → T (among p I) → T (among p (declared_pairs counts))
slip_declared counts slip I e p t = let h = tested_has counts 0 0 I (slip_tested counts slip I e) p t in (declared_iff counts p).1 (h.below, h.last)

-- What the pairs of all literals have, those of the literals that pass a test have.
where_all : (f : Pair → Bool) (g : Literal → Bool) (ls : List Literal) → T (all_of f (map (λ l. l.pair) ls)) → (p : Pair) → T (among p (pairs_where g ls)) → T (f p)
unfolding all_of pairs_where among
where_all f g [] t p h = absurd h
where_all f g (l ∷ ls) t p h = ⊎_elim (λ w. rw w.1 (and_l _ _ t)) (λ s. where_all f g ls (and_r _ _ t) p s) (where_e g l ls p h)

module _ (t : Table) (sh : Shaped t) (passes : T (well_formed t)) where
  form : WellFormed t
  form = well_formed_e t sh passes

  -- A pair that the table has is declared.
  had : (p : Pair) → T (has_pair t.width (value_counts t) p) → T (among p (declared_pairs (value_counts t)))
  had p u =
      let a = pair_inside t.width (value_counts t) p u in
      let l = counts_length t (omega (arith, form.few_slots, sh.slot_places)) in
      (declared_iff (value_counts t) p).1 (omega (arith, a.1, l), a.3)

  -- The rule of a number has a place, and names what the table has.
  module _ (i : ℕ) (inside : i < length (rules_of t)) where
    below : i < t.count
    below = omega (arith, inside, rules_length t (sh.rule_places form.few_rules))

    own : T (has_pair t.width (value_counts t) (rule_of (get_or t.rules i zero_rule)).trigger)
        × T (all_of (has_pair t.width (value_counts t)) (map (λ l. l.pair) (literals_of (get_or t.rules i zero_rule)))) × T (all_of (has_pair t.width (value_counts t)) (assignments_of (get_or t.rules i zero_rule)))
    own =
        let r = get_or t.rules i zero_rule in
        named_parts (has_pair t.width (value_counts t)) r (right_e t.width (value_counts t) r (form.each_right i below)).names_own

    assigned_at : (p : Pair) → T (among p (rule_at (rules_of t) (suc i)).assignments) → T (among p (declared_pairs (value_counts t)))
    assigned_at p u = had p (all_pairs_e (has_pair t.width (value_counts t)) (assignments_of (get_or t.rules i zero_rule)) own.2 p (rw (rule_at_is t i below) at u))

    tested_at : (p : Pair) → T (among p (tested (rule_at (rules_of t) (suc i)))) → T (among p (declared_pairs (value_counts t)))
    unfolding tested among
    tested_at p u =
        had p (⊎_elim (λ s. rw (same_eq p (rule_of (get_or t.rules i zero_rule)).trigger s) own.0) (λ s. where_all (has_pair t.width (value_counts t)) is_becomes (literals_of (get_or t.rules i zero_rule)) own.1 p s)
        (or_e _ _ (rw (rule_at_is t i below) at u)))

  -- What its rules assign is declared, and what they test.
  pub assigned_declared : (m : ℕ) (p : Pair) → Numbered (length (rules_of t)) m → T (among p (rule_at (rules_of t) m).assignments) → T (among p (declared_pairs (value_counts t)))
  assigned_declared zero p h u = absurd (omega (arith, h.first))
  assigned_declared (suc i) p h u = assigned_at i (omega (arith, h.last)) p u

  pub tests_declared : (m : ℕ) (p : Pair) → Numbered (length (rules_of t)) m → T (among p (tested (rule_at (rules_of t) m))) → T (among p (declared_pairs (value_counts t)))
  tests_declared zero p h u = absurd (omega (arith, h.first))
  tests_declared (suc i) p h u = tested_at i (omega (arith, h.last)) p u
