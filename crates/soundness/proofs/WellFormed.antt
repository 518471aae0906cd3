-- A well-formed table, slot by slot and rule by rule; and that it fits.
-- Assumes nothing.
use mathlib.Core.Path.{◌≡◌, refl, ◌∙◌}
use mathlib.Core.Bool.{Bool, true, false}
use mathlib.Core.List.{List, map}
use mathlib.Core.Logic.{⊎_elim}
use Prim.Native.Nat.{ℕ, ◌+◌, ◌≤◌, ◌<◌}
use native.Mathlib.Omega.{arith}
use lib.Dec.{T, eqb, leb, eqb→eq, leb→le, le→leb}
use lib.ListN.{length, get_or, take, set, length-take, length-map, length-set, get_or-map}
use lib.Seq.{get_or-take, get_or-set_same, get_or-set_other, length-take-le}
use Rattle.laws.specs.Truth.{◌∧ᵇ◌}
use Rattle.laws.specs.Listed.{all_of}
use Rattle.laws.proofs.Truth.{and_l, and_r, and_i, or_e, bool_ext}
use Rattle.laws.proofs.Equations.{is_true, from_true}
use Rattle.laws.proofs.Listed.{all_i, all_e, all_append, all_same}
use Rattle.model.specs.Rules.{Pair, each_once}
use Rattle.table.specs.declared.Rule.{Rule}
use Rattle.table.specs.declared.Slot.{Slot}
use Rattle.table.specs.declared.Table.{Table}
use Rattle.laws.specs.Limits.{slot_limit, value_limit, rule_limit, literal_limit, assignment_limit}
use Rattle.table.specs.Zero.{zero_literal, zero_assignment, zero_rule, zero_slot}
use Rattle.table.specs.inner.Shape.{RuleShaped, Shaped}
use Rattle.table.specs.Link.{literal_of, assignment_of, rule_of, literals_of, assignments_of, slots_of, used_rules, value_counts}
use Rattle.names.specs.Names.{has_slot}
use Rattle.table.specs.inner.Flat.{Placed}
use Rattle.table.specs.inner.Fits.{RuleFits, TableFits}
use Rattle.table.proofs.Link.{count_is}
use Rattle.names.proofs.Names.{slot_inside, value_inside}
use Rattle.rows.proofs.Laws.{at_last}
use Rattle.soundness.specs.Sound.{within_limits, slots_have_values, has_pair, named, names_its_own, assigns_once, well_formed, sound}
use Rattle.soundness.specs.inner.Right.{rule_right}
use Rattle.leastness.specs.CarriesLeast.{carries_least}
use Rattle.soundness.proofs.RuleTests.{pair_lacking, pair_there}

-- The four parts of `rule_right`.
pub record RuleRight (width : ℕ) (counts : List ℕ) (r : Rule) : Type 0 where
  pub few_literals : r.tested ≤ literal_limit
  pub few_assignments : r.assigned ≤ assignment_limit
  pub names_own : T (all_of (has_pair width counts) (named r))
  pub once : T (each_once (assignments_of r))

pub right_e : (width : ℕ) (counts : List ℕ) (r : Rule) → T (rule_right width counts r) → RuleRight width counts r
unfolding rule_right
right_e width counts r t =
    let x = and_l (leb r.tested literal_limit ∧ᵇ leb r.assigned assignment_limit ∧ᵇ all_of (has_pair width counts) (named r)) _ t in
    let y = and_l (leb r.tested literal_limit ∧ᵇ leb r.assigned assignment_limit) _ x in
    record {
      few_literals = leb→le r.tested literal_limit (and_l (leb r.tested literal_limit) _ y);
      few_assignments = leb→le r.assigned assignment_limit (and_r (leb r.tested literal_limit) (leb r.assigned assignment_limit) y);
      names_own = and_r (leb r.tested literal_limit ∧ᵇ leb r.assigned assignment_limit) _ x;
      once = and_r (leb r.tested literal_limit ∧ᵇ leb r.assigned assignment_limit ∧ᵇ all_of (has_pair width counts) (named r)) _ t;
    }

-- A well-formed table.
pub record WellFormed (t : Table) : Type 0 where
  pub few_slots : t.width ≤ slot_limit
  pub some_value : (i : ℕ) → i < t.width → 1 ≤ (get_or t.slots i zero_slot).count
  pub few_values : (i : ℕ) → i < t.width → (get_or t.slots i zero_slot).count ≤ value_limit
  pub few_rules : t.count ≤ rule_limit
  pub each_right : (i : ℕ) → i < t.count → T (rule_right t.width (value_counts t) (get_or t.rules i zero_rule))

module _ (t : Table) where
  -- A test of all slots used, and of all rules used.
  slots_i : (f : Slot → Bool) → ((i : ℕ) → i < t.width → T (f (get_or t.slots i zero_slot))) → T (all_of f (slots_of t))
  slots_i f h = all_i f (slots_of t) zero_slot (λ i l. let k : i < t.width = omega (arith, l, length-take t.width t.slots) in rw (get_or-take t.width t.slots i zero_slot k) (h i k))

  rules_i : (f : Rule → Bool) → ((i : ℕ) → i < t.count → T (f (get_or t.rules i zero_rule))) → T (all_of f (used_rules t))
  rules_i f h = all_i f (used_rules t) zero_rule (λ i l. let k : i < t.count = omega (arith, l, length-take t.count t.rules) in rw (get_or-take t.count t.rules i zero_rule k) (h i k))

  pub well_formed_i : WellFormed t → T (well_formed t)
  unfolding well_formed within_limits slots_have_values names_its_own assigns_once
  well_formed_i w =
      and_i _ _ (and_i _ _ (and_i _ _
      (and_i _ _ (and_i _ _ (and_i (leb t.width slot_limit) _ (le→leb t.width slot_limit w.few_slots) (slots_i (λ s. leb s.count value_limit) (λ i h. le→leb _ value_limit (w.few_values i h))))
      (le→leb t.count rule_limit w.few_rules))
      (rules_i (λ r. leb r.tested literal_limit ∧ᵇ leb r.assigned assignment_limit) (λ i h. and_i (leb (get_or t.rules i zero_rule).tested literal_limit) _ (le→leb _ literal_limit (right i h).few_literals) (le→leb _ assignment_limit (right i h).few_assignments))))
      (slots_i (λ s. leb 1 s.count) (λ i h. le→leb 1 _ (w.some_value i h))))
      (rules_i (λ r. all_of (has_pair t.width (value_counts t)) (named r)) (λ i h. (right i h).names_own)))
      (rules_i (λ r. each_once (assignments_of r)) (λ i h. (right i h).once))
    where
      right : (i : ℕ) → i < t.count → RuleRight t.width (value_counts t) (get_or t.rules i zero_rule)
      right i h = right_e t.width (value_counts t) (get_or t.rules i zero_rule) (w.each_right i h)

module _ (t : Table) (sh : Shaped t) where
  slots_e : (f : Slot → Bool) → t.width ≤ slot_limit → T (all_of f (slots_of t)) → (i : ℕ) → i < t.width → T (f (get_or t.slots i zero_slot))
  slots_e f w u i h =
      rw (get_or-take t.width t.slots i zero_slot h) at (all_e f (slots_of t) zero_slot u i (rw length-take (omega (arith, sh.slot_places))))

  rules_e : (f : Rule → Bool) → t.count ≤ rule_limit → T (all_of f (used_rules t)) → (i : ℕ) → i < t.count → T (f (get_or t.rules i zero_rule))
  rules_e f w u i h =
      rw (get_or-take t.count t.rules i zero_rule h) at (all_e f (used_rules t) zero_rule u i (rw length-take (omega (arith, sh.rule_places w))))

  pub well_formed_e : T (well_formed t) → WellFormed t
  unfolding well_formed within_limits slots_have_values names_its_own assigns_once rule_right
  well_formed_e u =
      let own = and_l _ _ u in
      let val = and_l _ _ own in
      let lim = and_l _ _ val in
      let ltop = and_l _ _ lim in
      let wide = and_l _ _ ltop in
      let w : t.width ≤ slot_limit = leb→le t.width slot_limit (and_l (leb t.width slot_limit) _ wide) in
      let n : t.count ≤ rule_limit = leb→le t.count rule_limit (and_r _ (leb t.count rule_limit) ltop) in
      record {
        few_slots = w;
        some_value = λ i h. leb→le 1 _ (slots_e (λ s. leb 1 s.count) w (and_r _ _ val) i h);
        few_values = λ i h. leb→le _ value_limit (slots_e (λ s. leb s.count value_limit) w (and_r (leb t.width slot_limit) _ wide) i h);
        few_rules = n;
        each_right = λ i h. and_i _ _
            (and_i _ _ (rules_e (λ r. leb r.tested literal_limit ∧ᵇ leb r.assigned assignment_limit) n (and_r _ _ lim) i h)
            (rules_e (λ r. all_of (has_pair t.width (value_counts t)) (named r)) n (and_r _ _ own) i h))
            (rules_e (λ r. each_once (assignments_of r)) n (and_r _ _ u) i h);
      }

-- A pair that a table has: its slot is one of the slots, its value is NONE or one of that slot's.
pub pair_inside : (width : ℕ) (counts : List ℕ) (p : Pair) → T (has_pair width counts p) → (p.slot < slot_limit) × (p.slot < width) × (p.value ≤ value_limit) × (p.value ≤ get_or counts p.slot 0)
unfolding has_pair
pair_inside width counts p u =
    let a = slot_inside width p.slot (is_true _ (and_l _ _ u)) in
    let b = ⊎_elim
    (λ (e : T (eqb p.value 0)). let z = eqb→eq p.value 0 e in (omega (arith, z), omega (arith, z)))
    (λ e. (value_inside (get_or counts p.slot 0) p.value (is_true _ e)).1) (or_e _ _ (and_r _ _ u)) in
    (a.0, a.1, b.0, b.1)

-- It has a place.
has_placed : (width : ℕ) (counts : List ℕ) (p : Pair) → T (has_pair width counts p) → Placed p.slot p.value
has_placed width counts p u = let a = pair_inside width counts p u in record { in_slots = a.0; in_row = omega (arith, a.2) }

-- The pairs that a rule names: of its trigger, of its literals, of its assignments.
pub named_parts : (f : Pair → Bool) (r : Rule) → T (all_of f (named r)) → T (f (rule_of r).trigger) × T (all_of f (map (λ l. l.pair) (literals_of r))) × T (all_of f (assignments_of r))
unfolding named all_of
named_parts f r u =
    let v = rw (all_append f (map (λ l. l.pair) (literals_of r)) (assignments_of r)) at (and_r _ _ u) in
    (and_l _ _ u, and_l _ _ v, and_r _ _ v)

-- A rule that is right fits.
pub right_fits : (width : ℕ) (counts : List ℕ) (r : Rule) → RuleShaped r → T (rule_right width counts r) → RuleFits r
right_fits width counts r sh u = record {
  trigger = has_placed width counts (rule_of r).trigger parts.0;
  literals_fit = own.few_literals;
  assignments_fit = own.few_assignments;
  literal = λ j h. has_placed width counts (literal_of (get_or r.literals j zero_literal)).pair
      (rw (get_or-map (λ l. l.pair) (literals_of r) j (literal_of zero_literal), get_or-map literal_of (take r.tested r.literals) j zero_literal, get_or-take r.tested r.literals j zero_literal h)
      at (all_e (has_pair width counts) (map (λ l. l.pair) (literals_of r)) (literal_of zero_literal).pair parts.1 j (rw (length-map, length-map, length-take) (omega (arith, own.few_literals, sh.literal_places)))));
  assignment = λ j h. has_placed width counts (assignment_of (get_or r.assignments j zero_assignment))
      (rw (get_or-map assignment_of (take r.assigned r.assignments) j zero_assignment, get_or-take r.assigned r.assignments j zero_assignment h)
      at (all_e (has_pair width counts) (assignments_of r) (assignment_of zero_assignment) parts.2 j (rw (length-map, length-take) (omega (arith, own.few_assignments, sh.assignment_places)))));
}
  where
    own : RuleRight width counts r
    own = right_e width counts r u

    parts : T (has_pair width counts (rule_of r).trigger) × T (all_of (has_pair width counts) (map (λ l. l.pair) (literals_of r))) × T (all_of (has_pair width counts) (assignments_of r))
    parts = named_parts (has_pair width counts) r own.names_own

-- A well-formed table fits.
pub well_formed_fits : (t : Table) → Shaped t → T (well_formed t) → TableFits t
well_formed_fits t sh u =
    let w = well_formed_e t sh u in
    record {
      rules_fit = w.few_rules;
      each_fits = λ i h. right_fits t.width (value_counts t) (get_or t.rules i zero_rule) (sh.each_rule i (omega (arith, h, sh.rule_places w.few_rules))) (w.each_right i h);
    }

-- The array of counts that the code gathers: that of each of the first k slots, with what the slots are asked for.
pub record Counted (t : Table) (k : ℕ) (counts : List ℕ) : Type 0 where
  pub places : length counts ≡ slot_limit
  pub same_count : (i : ℕ) → i < k → get_or counts i 0 ≡ (get_or t.slots i zero_slot).count
  pub not_none : (i : ℕ) → i < k → 1 ≤ (get_or t.slots i zero_slot).count
  pub not_many : (i : ℕ) → i < k → (get_or t.slots i zero_slot).count ≤ value_limit

pub counted_start : (t : Table) (counts : List ℕ) → length counts ≡ slot_limit → Counted t 0 counts
counted_start t counts l = record { places = l; same_count = λ i h. absurd (omega arith); not_none = λ i h. absurd (omega arith); not_many = λ i h. absurd (omega arith) }

pub counted_step : (t : Table) (k : ℕ) (counts : List ℕ) → k < slot_limit → 1 ≤ (get_or t.slots k zero_slot).count → (get_or t.slots k zero_slot).count ≤ value_limit → Counted t k counts
    → Counted t (k + 1) (set counts k (get_or t.slots k zero_slot).count)
counted_step t k counts h lo hi g = record {
  places = length-set counts k _ ∙ g.places;
  same_count = at_last (λ i. get_or (set counts k (get_or t.slots k zero_slot).count) i 0 ≡ (get_or t.slots i zero_slot).count) k
      (λ i l. get_or-set_other counts k i _ 0 (λ (e : i ≡ k). omega arith) ∙ g.same_count i l)
      (get_or-set_same counts k _ 0 (omega (arith, g.places)));
  not_none = at_last (λ i. 1 ≤ (get_or t.slots i zero_slot).count) k g.not_none lo;
  not_many = at_last (λ i. (get_or t.slots i zero_slot).count ≤ value_limit) k g.not_many hi;
}

-- Counts cut to the slots that a table has: a rule is right by them exactly where it is by all and the number of slots.
pub right_cut : (width : ℕ) (counts : List ℕ) → width ≤ length counts → (r : Rule) → rule_right (length (take width counts)) (take width counts) r ≡ rule_right width counts r
unfolding rule_right
right_cut width counts l r =
    rw (length-take-le width counts l, all_same (has_pair width (take width counts)) (has_pair width counts) (named r) (λ p. at p (has_slot width p.slot) refl))
  where
    at : (p : Pair) (b : Bool) → has_slot width p.slot ≡ b → has_pair width (take width counts) p ≡ has_pair width counts p
    at p true e = rw (pair_there width (take width counts) p e, pair_there width counts p e, get_or-take width counts p.slot 0 (slot_inside width p.slot e).1)
    at p false e = rw (pair_lacking width (take width counts) p e, pair_lacking width counts p e)

-- With it the tests of a rule are those with the table's own counts.
pub right_same : (t : Table) (counts : List ℕ) → Counted t t.width counts → (r : Rule) → rule_right t.width counts r ≡ rule_right t.width (value_counts t) r
unfolding rule_right
right_same t counts g r = rw (all_same (has_pair t.width counts) (has_pair t.width (value_counts t)) (named r) (λ p. at p (has_slot t.width p.slot) refl))
  where
    at : (p : Pair) (b : Bool) → has_slot t.width p.slot ≡ b → has_pair t.width counts p ≡ has_pair t.width (value_counts t) p
    at p true e =
        let h = (slot_inside t.width p.slot e).1 in
        rw (pair_there t.width counts p e, pair_there t.width (value_counts t) p e, g.same_count p.slot h, count_is t p.slot h)
    at p false e = rw (pair_lacking t.width counts p e, pair_lacking t.width (value_counts t) p e)

-- The answers of the code.
pub RightUpTo : Table → List ℕ → ℕ → Type 0
RightUpTo t counts i = (m : ℕ) → m < i → T (rule_right t.width counts (get_or t.rules m zero_rule))

pub right_start : (t : Table) (counts : List ℕ) → RightUpTo t counts 0
unfolding RightUpTo
right_start t counts m h = absurd (omega arith)

pub right_more : (t : Table) (counts : List ℕ) (i : ℕ) → rule_right t.width counts (get_or t.rules i zero_rule) ≡ true → RightUpTo t counts i → RightUpTo t counts (i + 1)
unfolding RightUpTo
right_more t counts i e h = at_last (λ m. T (rule_right t.width counts (get_or t.rules m zero_rule))) i h (from_true _ e)

module _ (t : Table) (sh : Shaped t) where
  no : (T (well_formed t) → ⊥) → false ≡ well_formed t
  no f = bool_ext false (well_formed t) (λ u. absurd u) (λ u. f u)

  pub many_slots : slot_limit < t.width → false ≡ well_formed t
  many_slots h = no (λ u. omega (arith, (well_formed_e t sh u).few_slots))

  pub no_values : (k : ℕ) → k < t.width → (get_or t.slots k zero_slot).count < 1 → false ≡ well_formed t
  no_values k h l = no (λ u. omega (arith, (well_formed_e t sh u).some_value k h))

  pub many_values : (k : ℕ) → k < t.width → value_limit < (get_or t.slots k zero_slot).count → false ≡ well_formed t
  many_values k h l = no (λ u. omega (arith, (well_formed_e t sh u).few_values k h))

  pub many_rules : rule_limit < t.count → false ≡ well_formed t
  many_rules h = no (λ u. omega (arith, (well_formed_e t sh u).few_rules))

  pub wrong_rule : (counts : List ℕ) → Counted t t.width counts → (i : ℕ) → i < t.count → rule_right t.width counts (get_or t.rules i zero_rule) ≡ false → false ≡ well_formed t
  wrong_rule counts g i h e = no (λ u. rw (← (right_same t counts g (get_or t.rules i zero_rule)), e) at ((well_formed_e t sh u).each_right i h))

  pub all_right : (counts : List ℕ) → Counted t t.width counts → t.width ≤ slot_limit → t.count ≤ rule_limit → RightUpTo t counts t.count → true ≡ well_formed t
  unfolding RightUpTo
  all_right counts g w n f =
      bool_ext true (well_formed t) (λ u. well_formed_i t (record {
        few_slots = w;
        some_value = g.not_none;
        few_values = g.not_many;
        few_rules = n;
        each_right = λ i h. rw (right_same t counts g (get_or t.rules i zero_rule)) at (f i h);
      })) (λ u. tt)

-- 31 of a well-formed table is the test of its strata; a table that is not well-formed does not pass.
pub sound_form : (t : Table) → well_formed t ≡ true → sound t ≡ carries_least t
unfolding sound ◌∧ᵇ◌
sound_form t e = rw e

pub sound_parts : (t : Table) → T (sound t) → T (well_formed t) × T (carries_least t)
unfolding sound
sound_parts t u = (and_l _ _ u, and_r _ _ u)

pub unsound_form : (t : Table) → well_formed t ≡ false → sound t ≡ false
unfolding sound ◌∧ᵇ◌
unsound_form t e = rw e
