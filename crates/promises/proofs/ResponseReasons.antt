-- What a response comes to: an answer where no reason for a refusal holds, else refused for its reason.
-- Assumes nothing.
use Prim.Native.Nat.{ℕ, zero, suc, ◌≤◌, ◌<◌}
use native.Mathlib.Omega.{arith}
use mathlib.Core.Path.{◌≡◌, refl, ap, subst, ◌∙◌}
use mathlib.Core.Bool.{Bool, true, false, cond}
use mathlib.Core.List.{List, [], ◌∷◌, map}
use mathlib.Core.Logic.{⊎_elim}
use lib.Dec.{T, leb, ltb, leb→le}
use lib.ListN.{length, get_or, length-map, length-take}
use borrow.Author.Tests.{ltb-true, ltb-false}
use Rattle.laws.specs.Truth.{◌∧ᵇ◌, notᵇ}
use Rattle.laws.specs.Listed.{all_of}
use Rattle.laws.specs.Packed.{byte_count}
use Rattle.laws.specs.Answers.{OrRefused, taken, refused}
use Rattle.laws.proofs.Truth.{and_l, and_r, or_l, or_r, not_e}
use Rattle.laws.proofs.Equations.{from_true}
use Rattle.laws.proofs.Listed.{all_append}
use Rattle.model.specs.Rules.{Pair, Pairs, among}
use Rattle.model.specs.Rules as model
use Rattle.model.specs.Orders.{no_rule, rule_at, changes}
use Rattle.model.specs.Result.{pair, conflict_slot}
use Rattle.model.proofs.Pairs.{same_refl}
use Rattle.model.proofs.Changes.{cause}
use Rattle.model.proofs.Results.{conflict_i, conflict_slot_lowest}
use Rattle.table.specs.declared.Rule.{Rule}
use Rattle.table.specs.declared.Slot.{Slot}
use Rattle.table.specs.declared.Table.{Table}
use Rattle.table.specs.declared.Way.{Way}
use Rattle.table.specs.declared.Way.TheVariants.{Strata, Marks}
use Rattle.laws.specs.Limits.{slot_limit, value_limit, row}
use Rattle.table.specs.Link.{rule_of, assignments_of, slots_of, used_rules, rules_of, value_counts}
use Rattle.soundness.specs.Sound.{within_limits, names_its_own, has_pair, named, well_formed, takes}
use Rattle.soundness.proofs.Taken.{takes_parts}
use Rattle.soundness.proofs.WellFormed.{pair_inside}
use Rattle.marks.specs.Marks as marks
use Rattle.marks.specs.Marks.{declared_pairs, is_both, is_unknown}
use Rattle.marks.specs.Selection.{no_clash, all_known, selection_refusal}
use Rattle.marks.proofs.Selections.{all_pairs_e}
use Rattle.cards.specs.Forms.{card_bits, values_in, changes_in, read_card, read_slip}
use Rattle.cards.specs.inner.Fitting.{Slots}
use Rattle.cards.proofs.Having.{tested_has, slip_tested}
use Rattle.response.specs.Ending.{Answer, answer_of, unless_conflict, answer_by_firing, unless_refused, answer_by_marks}
use Rattle.response.specs.Respond.{◌and_then◌, Rooms, changes_room, if_room, answer_by, answer_by_rules, answer_by_table}
use Rattle.promises.specs.Reasons.{CardReason, CardRight, SlipReason, SlipRight, TableReason, not_passed, of_others, RoomReason, card_short, changes_short, fired_short, RoomRight, marks_left, fired_by, ends_with, EndReason, conflict, clash, unknown, EndRight, RulesReason, of_card, of_slip, of_room, of_end, RulesRight}
use Rattle.promises.specs.Refusals.{Passes}
use Rattle.promises.specs.Agreement.{InConflict}
use Rattle.promises.proofs.Conflicts.{lowest_of}
use Rattle.promises.proofs.Judged.{Judged, judged_if, card_judged, slip_judged}

-- One of some pairs has what not all of them lack.
pub one_fails : (f : Pair → Bool) (ps : List Pair) → all_of (λ p. notᵇ (f p)) ps ≡ false → (p : Pair) × T (among p ps) × T (f p)
unfolding all_of among notᵇ ◌∧ᵇ◌
one_fails f [] e = absurd (let z : ◌≡◌ {A = ℕ} 0 1 = cc in omega arith)
one_fails f (q ∷ qs) e = go (f q) refl e (one_fails f qs)
  where
    go : (b : Bool) → f q ≡ b → (notᵇ b ∧ᵇ all_of (λ p. notᵇ (f p)) qs) ≡ false → (all_of (λ p. notᵇ (f p)) qs ≡ false → (p : Pair) × T (among p qs) × T (f p)) → (p : Pair) × T (among p (q ∷ qs)) × T (f p)
    go true h e rest = (q, or_l _ _ (same_refl q), from_true (f q) h)
    go false h e rest = let w = rest e in (w.0, or_r _ _ w.1, w.2)

-- What rules assign, of which each names only what a table has, the table has.
assigned_by : (width : ℕ) (counts : List ℕ) (rs : List Rule) (k : ℕ) (p : Pair) → T (all_of (λ r. all_of (has_pair width counts) (named r)) rs) → T (among p (get_or (map rule_of rs) k no_rule).assignments) → T (has_pair width counts p)
unfolding all_of among named no_rule
assigned_by width counts [] k p h m = absurd m
assigned_by width counts (r ∷ rs) zero p h m =
    all_pairs_e (has_pair width counts) (assignments_of r)
    (and_r (all_of (has_pair width counts) (map (λ (l : model.Literal). l.pair) (rule_of r).literals)) (all_of (has_pair width counts) (assignments_of r))
    (subst T (all_append (has_pair width counts) (map (λ (l : model.Literal). l.pair) (rule_of r).literals) (assignments_of r))
    (and_r (has_pair width counts (rule_of r).trigger) _ (and_l (all_of (has_pair width counts) (named r)) (all_of (λ q. all_of (has_pair width counts) (named q)) rs) h)))) p m
assigned_by width counts (r ∷ rs) (suc k) p h m = assigned_by width counts rs k p (and_r (all_of (has_pair width counts) (named r)) (all_of (λ q. all_of (has_pair width counts) (named q)) rs) h) m

-- No slot has more than 15 values.
few_each : (ss : List Slot) (i : ℕ) → T (all_of (λ s. leb s.count value_limit) ss) → get_or (map (λ (s : Slot). s.count) ss) i 0 ≤ value_limit
unfolding all_of
few_each [] i h = omega arith
few_each (s ∷ ss) zero h = leb→le s.count value_limit (and_l (leb s.count value_limit) (all_of (λ (x : Slot). leb x.count value_limit) ss) h)
few_each (s ∷ ss) (suc i) h = few_each ss i (and_r (leb s.count value_limit) (all_of (λ (x : Slot). leb x.count value_limit) ss) h)

module _ (t : Table) (formed : T (well_formed t)) where
  rules_own : T (names_its_own t)
  unfolding well_formed
  rules_own = and_r (within_limits t ∧ᵇ _) (names_its_own t) (and_l (within_limits t ∧ᵇ _ ∧ᵇ names_its_own t) _ formed)

  limits : T (within_limits t)
  unfolding well_formed
  limits = and_l (within_limits t) _ (and_l _ _ (and_l _ _ formed))

  few : (i : ℕ) → get_or (value_counts t) i 0 ≤ value_limit
  unfolding within_limits value_counts
  few i = few_each (slots_of t) i (and_r (leb t.width _) _ (and_l _ _ (and_l _ _ limits)))

  -- They are slots of the limits.
  pub table_slots : Slots (value_counts t)
  unfolding within_limits value_counts
  table_slots = record {
    few = omega (arith, leb→le t.width slot_limit (and_l (leb t.width slot_limit) _ (and_l _ _ (and_l _ _ limits))), length-map (slots_of t) (λ (s : Slot). s.count), length-take t.width t.slots);
    small = λ i h. few i;
  }

  -- Every value in C is one that its slot has, or NONE,
  pub value_within : (slip : List ℕ) (I : List Pair) (ns : List ℕ) → read_slip (value_counts t) slip ≡ taken I → (p : Pair) → T (changes (rules_of t) I ns p) → p.value ≤ get_or (value_counts t) p.slot 0
  unfolding rules_of rule_at names_its_own among no_rule
  value_within slip I ns e p m = ⊎_elim of_the_slip (λ c. of_a_rule c.0 c.2) (cause (rules_of t) I ns p m)
    where
      of_the_slip : T (among p I) → p.value ≤ get_or (value_counts t) p.slot 0
      of_the_slip a = (tested_has (value_counts t) 0 0 I (slip_tested (value_counts t) slip I e) p a).last

      of_a_rule : (n : ℕ) → T (among p (rule_at (rules_of t) n).assignments) → p.value ≤ get_or (value_counts t) p.slot 0
      of_a_rule zero a = absurd a
      of_a_rule (suc k) a =
          let h = assigned_by t.width (value_counts t) (used_rules t) k p rules_own a in
          (pair_inside t.width (value_counts t) p h).3

  -- and so one of an array's row.
  value_small : (slip : List ℕ) (I : List Pair) (ns : List ℕ) → read_slip (value_counts t) slip ≡ taken I → (p : Pair) → T (changes (rules_of t) I ns p) → p.value < row
  value_small slip I ns e p m = omega (arith, value_within slip I ns e p m, few p.slot)

-- What follows of the reasons, and of what is taken.
pub judged_more : {A : Type 0} (R R' : ℕ → ℕ → Type 0) (P Q : A → Type 0) (u : OrRefused A) → Judged R' P u → ((k s : ℕ) → R' k s → R k s) → ((a : A) → P a → Q a) → Judged R Q u
judged_more R R' P Q (taken a) j r q = q a j
judged_more R R' P Q (refused k s) j r q = r k s j

-- 31 before other refusals.
pub test_judged : {A : Type 0} (test : Bool) (R : ℕ → ℕ → Type 0) (Q : A → Type 0) (u : OrRefused A) → (T test → Judged R Q u) → Judged (TableReason test R) Q (cond test u (refused 31 0))
test_judged true R Q u j = judged_more (TableReason true R) R Q Q u (j tt) (λ k s r. of_others tt r) (λ a h. h)
test_judged false R Q u j = not_passed (λ p. p)

judged_then : {A B : Type 0} (R R' : ℕ → ℕ → Type 0) (P : A → Type 0) (Q : B → Type 0) (u : OrRefused A) (f : A → OrRefused B) → Judged R' P u → ((k s : ℕ) → R' k s → R k s)
    → ((a : A) → u ≡ taken a → P a → Judged R Q (f a)) → Judged R Q (u and_then f)
unfolding ◌and_then◌
judged_then R R' P Q (taken a) f j r q = q a refl j
judged_then R R' P Q (refused k s) f j r q = r k s j

-- The outputs have room, or one is named.
room_judged : {A : Type 0} (R : ℕ → ℕ → Type 0) (Q : A → Type 0) (width count : ℕ) (rooms : Rooms) (u : OrRefused A) → ((s : ℕ) → RoomReason width count rooms s → R 30 s) → (RoomRight width count rooms → Judged R Q u)
    → Judged R Q (if_room width count rooms u)
unfolding if_room
room_judged R Q width count rooms u r j =
    judged_if R Q (ltb rooms.for_card (byte_count (card_bits width))) (refused 30 1) _ (λ b. r 1 (card_short (ltb-true _ _ b)))
    (λ a. judged_if R Q (ltb rooms.for_changes changes_room) (refused 30 2) _ (λ b. r 2 (changes_short (ltb-false _ _ a) (ltb-true _ _ b)))
    (λ c. judged_if R Q (ltb rooms.for_fired (byte_count count)) (refused 30 3) u (λ b. r 3 (fired_short (ltb-false _ _ a) (ltb-false _ _ c) (ltb-true _ _ b)))
    (λ d. j (record { for_card = ltb-false _ _ a; for_changes = ltb-false _ _ c; for_fired = ltb-false _ _ d }))))

-- By the rules of a table that is well-formed.
module _ (t : Table) (formed : T (well_formed t)) (card slip : List ℕ) (rooms : Rooms) where
  abbrev counts : List ℕ
  counts = value_counts t

  abbrev rs : List model.Rule
  rs = rules_of t

  abbrev C : Pairs
  C = ends_with Strata counts rs card slip

  abbrev Z : marks.Marks
  Z = marks_left counts rs card slip

  -- What a response comes to where no reason for a refusal holds.
  abbrev Comes : Way → Answer → Type 0
  Comes way a = EndRight counts rs card slip way × (a ≡ answer_of (length counts) (length rs) (values_in card) (ends_with way counts rs card slip) (fired_by way counts rs card slip))

  -- No slot is in conflict where the lowest such slot is none.
  no_two : ((p : Pair) → T (C p) → p.value < row) → length counts ≤ conflict_slot (length counts) row C → (s : ℕ) → s < length counts → ¬ InConflict C s
  unfolding InConflict
  no_two small none s h w = conflict_slot_lowest row C (length counts) s (omega (arith, none, h)) (conflict_i row C s w.0 w.1 w.2 (small (pair s w.1) w.4) w.3 w.4)

  -- The rules have fired.
  fired_judged : read_slip counts slip ≡ taken (changes_in slip) → Judged (EndReason counts rs card slip Strata) (Comes Strata) (answer_by_firing rs (length counts) (values_in card) (changes_in slip))
  unfolding answer_by_firing unless_conflict
  fired_judged e =
      let small = value_small t formed slip (changes_in slip) (fired_by Strata counts rs card slip) e in
      judged_if (EndReason counts rs card slip Strata) (Comes Strata) (ltb (conflict_slot (length counts) row C) (length counts)) (refused 40 (conflict_slot (length counts) row C)) (taken _)
      (λ b. conflict (lowest_of C (length counts) small (ltb-true _ _ b))) (λ b. (no_two small (ltb-false _ _ b), refl))

  -- The selection has ended.
  marks_judged : Judged (EndReason counts rs card slip Marks) (Comes Marks) (answer_by_marks rs counts (values_in card) (changes_in slip))
  unfolding answer_by_marks unless_refused selection_refusal no_clash all_known
  marks_judged = go (all_of (λ p. notᵇ (is_both Z p)) (declared_pairs counts)) refl (all_of (λ p. notᵇ (is_unknown Z p)) (declared_pairs counts)) refl
    where
      none : (f : Pair → Bool) → all_of (λ p. notᵇ (f p)) (declared_pairs counts) ≡ true → (p : Pair) → T (among p (declared_pairs counts)) → ¬ T (f p)
      none f e p m = not_e (f p) (all_pairs_e (λ q. notᵇ (f q)) (declared_pairs counts) (from_true _ e) p m)

      go : (clear : Bool) → all_of (λ p. notᵇ (is_both Z p)) (declared_pairs counts) ≡ clear → (known : Bool) → all_of (λ p. notᵇ (is_unknown Z p)) (declared_pairs counts) ≡ known
          → Judged (EndReason counts rs card slip Marks) (Comes Marks) (unless_refused (cond clear (cond known 0 42) 41) (answer_of (length counts) (length rs) (values_in card) Z.positive (fired_by Marks counts rs card slip)))
      go true c true k = (λ p m. (none (is_both Z) c p m, none (is_unknown Z) k p m), refl)
      go true c false k = let w = one_fails (is_unknown Z) (declared_pairs counts) k in unknown (none (is_both Z) c) w.0 w.1 w.2
      go false c known k = let w = one_fails (is_both Z) (declared_pairs counts) c in clash w.0 w.1 w.2

  end_judged : (way : Way) → read_slip counts slip ≡ taken (changes_in slip) → Judged (EndReason counts rs card slip way) (Comes way) (answer_by way counts rs (values_in card) (changes_in slip))
  unfolding answer_by
  end_judged Strata e = fired_judged e
  end_judged Marks e = marks_judged

  rules_judged : (way : Way) → Judged (RulesReason way counts rs card slip rooms) (RulesRight way counts rs card slip rooms) (answer_by_rules way counts rs card slip rooms)
  unfolding answer_by_rules
  rules_judged way =
      judged_then Reason (CardReason counts card) (λ S. (S ≡ values_in card) × CardRight counts card) Right (read_card counts card) _ (card_judged counts card) (λ k s r. of_card r)
      (λ S d c. judged_then Reason (SlipReason counts slip) (λ I. (I ≡ changes_in slip) × SlipRight counts slip) Right (read_slip counts slip) _ (slip_judged counts slip) (λ k s r. of_slip c.1 r)
      (λ I e i. room_judged Reason Right (length counts) (length rs) rooms _ (λ s r. of_room c.1 i.1 r)
      (λ room. rw (c.0, i.0) (judged_more Reason (EndReason counts rs card slip way) (Comes way) Right (answer_by way counts rs (values_in card) (changes_in slip)) (end_judged way (e ∙ ap taken i.0))
      (λ k s r. of_end c.1 i.1 room r) (λ a h. record { card_right = c.1; slip_right = i.1; room_right = room; end_right = h.0; answer_is = h.1 })))))
    where
      Reason : ℕ → ℕ → Type 0
      Reason = RulesReason way counts rs card slip rooms

      Right : Answer → Type 0
      Right = RulesRight way counts rs card slip rooms

-- By any table.
pub table_judged : (way : Way) (t : Table) (card slip : List ℕ) (rooms : Rooms)
    → Judged (TableReason (takes way t) (RulesReason way (value_counts t) (rules_of t) card slip rooms)) (λ a. Passes (takes way t) (RulesRight way (value_counts t) (rules_of t) card slip rooms a)) (answer_by_table way t card slip rooms)
unfolding answer_by_table
table_judged way t card slip rooms =
    test_judged (takes way t) Reason (λ a. Passes (takes way t) (Right a)) (answer_by_rules way (value_counts t) (rules_of t) card slip rooms)
    (λ p. judged_more Reason Reason Right (λ a. Passes (takes way t) (Right a)) (answer_by_rules way (value_counts t) (rules_of t) card slip rooms) (rules_judged t (takes_parts way t p).0 card slip rooms way)
    (λ k s r. r) (λ a h. record { passes = p; right = h }))
  where
    Reason : ℕ → ℕ → Type 0
    Reason = RulesReason way (value_counts t) (rules_of t) card slip rooms

    Right : Answer → Type 0
    Right = RulesRight way (value_counts t) (rules_of t) card slip rooms
