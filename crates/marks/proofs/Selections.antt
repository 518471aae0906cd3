-- Orders of selection by facts: what their tests say, and back; marks are kept; what has fired stays True.
-- Assumes nothing.
use Prim.Native.Nat.{ℕ}
use mathlib.Core.Path.{◌≡◌, ap}
use mathlib.Core.Bool.{Bool}
use mathlib.Core.List.{List, [], ◌∷◌}
use mathlib.Core.Logic.{⊎_elim}
use lib.Dec.{T, leb→le, le→leb}
use lib.ListN.{length}
use Rattle.laws.specs.Truth.{◌∨ᵇ◌}
use Rattle.laws.specs.Numbers.{Numbered}
use Rattle.laws.specs.Listed.{all_of}
use Rattle.laws.proofs.Truth.{bool_ext, and_l, and_r, and_i, or_l, or_r, or_e, not_e, not_i, stable}
use Rattle.laws.proofs.Numbers.{some_i, some_e}
use Rattle.model.specs.Rules.{Pair, Rule, among}
use Rattle.model.specs.Orders.{rule_at, names, changes}
use Rattle.model.proofs.Pairs.{same_refl, same_eq}
use Rattle.model.proofs.Changes.{names_e, names_none, Cause, from_slip, from_rule, cause}
use Rattle.truths.specs.Truths.{is_true, is_false}
use Rattle.marks.specs.Marks.{is_unknown, is_both, rivals, no_marks, update, rule_out, truth_rule}
use Rattle.marks.specs.Selection.{Move, fires, drops, fired, marks_after, no_clash, all_known, never, applies, selects, ends}
use Rattle.marks.specs.inner.Declared.{Declared}
use Rattle.truths.proofs.Laws.{Stays}
use Rattle.marks.proofs.Known.{rule_stays}
use Rattle.marks.proofs.Updates.{rivals_i}

-- A test over a list of pairs is one of each pair of it.
pub all_pairs_e : (f : Pair → Bool) (ps : List Pair) → T (all_of f ps) → (p : Pair) → T (among p ps) → T (f p)
unfolding all_of among
all_pairs_e f [] t p h = absurd h
all_pairs_e f (q ∷ ps) t p h = ⊎_elim (λ s. rw (same_eq p q s) (and_l _ _ t)) (λ s. all_pairs_e f ps (and_r _ _ t) p s) (or_e _ _ h)

pub all_pairs_i : (f : Pair → Bool) (ps : List Pair) → ((p : Pair) → T (among p ps) → T (f p)) → T (all_of f ps)
unfolding all_of among
all_pairs_i f [] h = tt
all_pairs_i f (q ∷ ps) h = and_i _ _ (h q (or_l _ _ (same_refl q))) (all_pairs_i f ps (λ p t. h p (or_r _ _ t)))

module _ (rs : List Rule) (I : List Pair) where
  -- The positive pairs are the changes of the rules fired.
  pub positive_changes : (cs : List Move) (p : Pair) → (marks_after rs I cs).positive p ≡ changes rs I (fired cs) p
  unfolding marks_after update rule_out no_marks fired changes
  positive_changes [] p = bool_ext _ _ (λ t. ⊎_elim (λ x. x) (λ x. absurd x) (or_e _ _ t)) (or_l _ _)
  positive_changes (fires n ∷ cs) p = ap (λ (b : Bool). among p (rule_at rs n).assignments ∨ᵇ b) (positive_changes cs p)
  positive_changes (drops q ∷ cs) p = positive_changes cs p

  -- A mark is kept by each move.
  pub positive_more : (c : Move) (cs : List Move) (p : Pair) → T ((marks_after rs I cs).positive p) → T ((marks_after rs I (c ∷ cs)).positive p)
  unfolding marks_after update rule_out
  positive_more (fires n) cs p t = or_r _ _ t
  positive_more (drops q) cs p t = t

  pub negative_more : (c : Move) (cs : List Move) (p : Pair) → T ((marks_after rs I cs).negative p) → T ((marks_after rs I (c ∷ cs)).negative p)
  unfolding marks_after update rule_out
  negative_more (fires n) cs p t = or_r _ _ t
  negative_more (drops q) cs p t = or_r _ _ t

  -- The other values of the slip's slots are negative.
  pub slip_rival : (cs : List Move) (p : Pair) → T (rivals p I) → T ((marks_after rs I cs).negative p)
  unfolding marks_after update
  slip_rival [] p t = or_l _ _ t
  slip_rival (c ∷ cs) p t = negative_more c cs p (slip_rival cs p t)

  -- So are those of the slots that a fired rule assigns.
  pub fired_rival : (cs : List Move) (n : ℕ) (p : Pair) → T (names (fired cs) n) → T (rivals p (rule_at rs n).assignments) → T ((marks_after rs I cs).negative p)
  unfolding marks_after update rule_out fired
  fired_rival [] n p h t = absurd (names_none n h)
  fired_rival (fires m ∷ cs) n p h t = ⊎_elim (λ (e : n ≡ m). or_l _ _ (rw e at t)) (λ u. or_r _ _ (fired_rival cs n p u t)) (names_e n m (fired cs) h)
  fired_rival (drops q ∷ cs) n p h t = or_r _ _ (fired_rival cs n p h t)

  -- The slip's pairs are positive.
  pub slip_positive : (cs : List Move) (p : Pair) → T (among p I) → T ((marks_after rs I cs).positive p)
  slip_positive cs p t = rw positive_changes (from_slip rs I (fired cs) p t)

  -- So are the pairs of a fired rule.
  pub fired_positive : (cs : List Move) (n : ℕ) (p : Pair) → T (names (fired cs) n) → T (among p (rule_at rs n).assignments) → T ((marks_after rs I cs).positive p)
  fired_positive cs n p h t = rw positive_changes (from_rule rs I (fired cs) p n h t)

  -- A positive pair comes from the slip or from a rule that has fired.
  pub positive_cause : (cs : List Move) (p : Pair) → T ((marks_after rs I cs).positive p) → Cause rs I (fired cs) p
  positive_cause cs p t = cause rs I (fired cs) p (rw positive_changes at t)

  -- The other values of a positive pair's slot are negative.
  pub rivalled : (cs : List Move) (p q : Pair) → T ((marks_after rs I cs).positive p) → q.slot ≡ p.slot → ¬ (q.value ≡ p.value) → T ((marks_after rs I cs).negative q)
  rivalled cs p q t s v =
      ⊎_elim (λ a. slip_rival cs q (rivals_i q p I a s v)) (λ c. fired_rival cs c.0 q c.1 (rivals_i q p (rule_at rs c.0).assignments c.2 s v)) (positive_cause cs p t)

module _ (ps : List Pair) (rs : List Rule) (S : List ℕ) (I : List Pair) where
  -- What the test `no_clash` says.
  pub no_clash_e : (cs : List Move) → T (no_clash ps rs S I cs) → (p : Pair) → T (among p ps) → T ((marks_after rs I cs).positive p) → ¬ T ((marks_after rs I cs).negative p)
  unfolding no_clash is_both
  no_clash_e cs t p h a b = not_e _ (all_pairs_e _ ps t p h) (and_i _ _ a b)

  pub no_clash_i : (cs : List Move) → ((p : Pair) → T ((marks_after rs I cs).positive p) → ¬ T ((marks_after rs I cs).negative p)) → T (no_clash ps rs S I cs)
  unfolding no_clash is_both
  no_clash_i cs h = all_pairs_i _ ps (λ p t. not_i _ (λ b. h p (and_l _ _ b) (and_r _ _ b)))

  -- What the test `all_known` says.
  pub all_known_e : (cs : List Move) → T (all_known ps rs S I cs) → (p : Pair) → T (among p ps) → (¬ T ((marks_after rs I cs).positive p)) → T ((marks_after rs I cs).negative p)
  unfolding all_known is_unknown
  all_known_e cs t p h a = stable ((marks_after rs I cs).negative p) (λ b. not_e _ (all_pairs_e _ ps t p h) (and_i _ _ (not_i _ a) (not_i _ b)))

  -- A rule can be fired.
  pub record CanFire (cs : List Move) (n : ℕ) : Type 0 where
    pub clear : T (no_clash ps rs S I cs)
    pub rule : Numbered (length rs) n
    pub unfired : ¬ T (names (fired cs) n)
    pub is_True : T (is_true (truth_rule S (marks_after rs I cs) (rule_at rs n)))

  -- A pair can be ruled out.
  pub record CanDrop (cs : List Move) (p : Pair) : Type 0 where
    pub clear : T (no_clash ps rs S I cs)
    pub listed : T (among p ps)
    pub not_positive : ¬ T ((marks_after rs I cs).positive p)
    pub not_negative : ¬ T ((marks_after rs I cs).negative p)
    pub all_False : (n : ℕ) → Numbered (length rs) n → T (among p (rule_at rs n).assignments) → T (is_false (truth_rule S (marks_after rs I cs) (rule_at rs n)))

  -- What the test `applies` says.
  pub fires_e : (cs : List Move) (n : ℕ) → T (applies ps rs S I cs (fires n)) → CanFire cs n
  unfolding applies
  fires_e cs n t = record {
    clear = search (and_l, and_r);
    rule = record { first = leb→le 1 n (search (and_l, and_r)); last = leb→le n (length rs) (search (and_l, and_r)) };
    unfired = not_e (names (fired cs) n) (search (and_l, and_r));
    is_True = search (and_l, and_r);
  }

  pub drops_e : (cs : List Move) (p : Pair) → T (applies ps rs S I cs (drops p)) → CanDrop cs p
  unfolding applies is_unknown never
  drops_e cs p t = record {
    clear = search (and_l, and_r);
    listed = search (and_l, and_r);
    not_positive = not_e _ (and_l _ _ (and_r _ _ (and_l _ _ t)));
    not_negative = not_e _ (and_r _ _ (and_r _ _ (and_l _ _ t)));
    all_False = λ n i h. stable (is_false (truth_rule S (marks_after rs I cs) (rule_at rs n))) (λ b. not_e _ (and_r _ _ t) (some_i _ (length rs) n i (and_i _ _ h (not_i _ b))));
  }

  -- And back.
  pub fires_i : (cs : List Move) (n : ℕ) → CanFire cs n → T (applies ps rs S I cs (fires n))
  unfolding applies
  fires_i cs n r =
      and_i _ _ (and_i _ _ (and_i _ _ (and_i _ _ r.clear (le→leb 1 n r.rule.first)) (le→leb n (length rs) r.rule.last)) (not_i _ r.unfired)) r.is_True

  pub drops_i : (cs : List Move) (p : Pair) → CanDrop cs p → T (applies ps rs S I cs (drops p))
  unfolding applies is_unknown never
  drops_i cs p r =
      and_i _ _ (and_i _ _ (and_i _ _ r.clear r.listed) (and_i _ _ (not_i _ r.not_positive) (not_i _ r.not_negative)))
      (not_i _ (λ t. let w = some_e _ (length rs) t in not_e _ (and_r _ _ w.2) (r.all_False w.0 w.1 (and_l _ _ w.2))))

  -- No move can be made.
  pub record Ends (cs : List Move) : Type 0 where
    pub no_drop : (p : Pair) → ¬ CanDrop cs p
    pub no_fire : (n : ℕ) → ¬ CanFire cs n

  -- What the test `ends` says.
  pub ends_e : (cs : List Move) → T (ends ps rs S I cs) → Ends cs
  unfolding ends
  ends_e cs t = record {
    no_drop = λ p r. not_e _ (all_pairs_e _ ps (and_l _ _ t) p r.listed) (drops_i cs p r);
    no_fire = λ n r. not_e _ (and_r _ _ t) (some_i _ (length rs) n r.rule (fires_i cs n r));
  }

  -- And back.
  pub ends_i : (cs : List Move) → Ends cs → T (ends ps rs S I cs)
  unfolding ends
  ends_i cs e = and_i _ _ (all_pairs_i _ ps (λ p h. not_i _ (λ t. e.no_drop p (drops_e cs p t)))) (not_i _ (λ t. let w = some_e _ (length rs) t in e.no_fire w.0 (fires_e cs w.0 w.2)))

  -- The move made last could be made, after an order of selection.
  pub last_move : (c : Move) (cs : List Move) → T (selects ps rs S I (c ∷ cs)) → T (applies ps rs S I cs c)
  unfolding selects
  last_move c cs t = and_r _ _ t

  pub before_last : (c : Move) (cs : List Move) → T (selects ps rs S I (c ∷ cs)) → T (selects ps rs S I cs)
  unfolding selects
  before_last c cs t = and_l _ _ t

  -- The numbers of the rules fired are numbers of rules.
  pub fired_rule : (cs : List Move) → T (selects ps rs S I cs) → (n : ℕ) → T (names (fired cs) n) → Numbered (length rs) n
  unfolding fired
  fired_rule [] t n h = absurd (names_none n h)
  fired_rule (fires m ∷ cs) t n h =
      ⊎_elim (λ (e : n ≡ m). rw e (fires_e cs m (last_move (fires m) cs t)).rule) (λ u. fired_rule cs (before_last (fires m) cs t) n u) (names_e n m (fired cs) h)
  fired_rule (drops q ∷ cs) t n h = fired_rule cs (before_last (drops q) cs t) n h

  module _ (D : Declared ps rs I) where
    -- Positive pairs are declared.
    pub positive_declared : (cs : List Move) → T (selects ps rs S I cs) → (p : Pair) → T ((marks_after rs I cs).positive p) → T (among p ps)
    positive_declared cs t p h = ⊎_elim (D.slip p) (λ c. D.assigned c.0 p (fired_rule cs t c.0 c.1) c.2) (positive_cause rs I cs p h)

    -- So no pair at all is both, where no declared pair is.
    pub not_both_ever : (cs : List Move) → T (selects ps rs S I cs) → T (no_clash ps rs S I cs) → (p : Pair) → T ((marks_after rs I cs).positive p) → ¬ T ((marks_after rs I cs).negative p)
    not_both_ever cs t k p a b = no_clash_e cs k p (positive_declared cs t p a) a b

    -- What is True or False stays so after a move without clash.
    pub stays_after : (c : Move) (cs : List Move) → T (selects ps rs S I (c ∷ cs)) → T (no_clash ps rs S I (c ∷ cs)) → (r : Rule)
        → Stays (truth_rule S (marks_after rs I cs) r) (truth_rule S (marks_after rs I (c ∷ cs)) r)
    stays_after c cs t k r = rule_stays S (marks_after rs I cs) (marks_after rs I (c ∷ cs)) r
        (λ p a. record { positive_kept = positive_more rs I c cs p; negative_kept = negative_more rs I c cs p; not_both = not_both_ever (c ∷ cs) t k p })

    -- A rule that has fired is True at the end.
    pub fired_True : (cs : List Move) → T (selects ps rs S I cs) → T (no_clash ps rs S I cs) → (n : ℕ) → T (names (fired cs) n) → T (is_true (truth_rule S (marks_after rs I cs) (rule_at rs n)))
    unfolding fired
    fired_True [] t k n h = absurd (names_none n h)
    fired_True (fires m ∷ cs) t k n h =
        let r = fires_e cs m (last_move (fires m) cs t) in
        (stays_after (fires m) cs t k (rule_at rs n)).stays_true
        (⊎_elim (λ (e : n ≡ m). rw e r.is_True) (λ u. fired_True cs (before_last (fires m) cs t) r.clear n u) (names_e n m (fired cs) h))
    fired_True (drops q ∷ cs) t k n h =
        let r = drops_e cs q (last_move (drops q) cs t) in
        (stays_after (drops q) cs t k (rule_at rs n)).stays_true (fired_True cs (before_last (drops q) cs t) r.clear n h)
