-- What the test keeps while it goes through the rules: those held are justified, their pairs are flagged and queued, and the others wait on the chains of the pairs that they need.
-- Assumes nothing.
use mathlib.Core.Path.{◌≡◌, refl, sym}
use mathlib.Core.Bool.{Bool, true, false, cond}
use mathlib.Core.List.{List, [], ◌∷◌}
use mathlib.Core.Logic.{◌⊎◌, inl, inr, ⊎_elim}
use Prim.Native.Nat.{ℕ, suc, ◌+◌, ◌*◌, ◌-◌, ◌/◌, ◌≤◌, ◌<◌}
use native.Mathlib.Nat.{eq-or-lt_of_le}
use native.Mathlib.Omega.{arith}
use lib.Dec.{T}
use lib.ListN.{length, get_or, set, take, replicate, length-set, length-replicate, length-map, length-take}
use Rattle.laws.specs.Numbers.{Numbered}
use Rattle.laws.specs.inner.Flags.{flags_set}
use Rattle.laws.proofs.Flags.{flag_here, flag_kept, flag_from}
use Rattle.laws.proofs.Filled.{replicate_at}
use Rattle.model.specs.Rules.{Pair, Literal, among}
use Rattle.model.specs.Orders.{rule_at}
use Rattle.model.specs.Strata.{weak, pairs_where, is_plain, needed, barred, depends_under_not, must_fall}
use Rattle.model.specs.inner.Justified.{Justified, at_first, one_above}
use Rattle.model.proofs.Pairs.{needed_tested, barred_tested, meet_i}
use Rattle.table.specs.declared.Rule.{Rule}
use Rattle.table.specs.declared.Table.{Table}
use Rattle.table.specs.Zero.{zero_rule}
use Rattle.table.specs.inner.Shape.{Shaped}
use Rattle.table.specs.Link.{assignments_of, rule_of, rules_of, stratum_at, literals_of}
use Rattle.table.specs.inner.Flat.{place_of, pair_places}
use Rattle.table.specs.inner.Fits.{RuleFits, TableFits}
use Rattle.table.proofs.Link.{rule_at_is, stratum_at_is}
use Rattle.table.proofs.Fits.{number, tested_in, assigned_in}
use Rattle.leastness.specs.inner.OneBelow.{one_below}
use Rattle.leastness.proofs.OneBelow.{below_e}
use Rattle.leastness.specs.inner.Chains.{heads_with, nexts_with}
use Rattle.leastness.specs.inner.Low.{Unheld, Unchained}
use Rattle.leastness.specs.inner.Flagging.{Flagging, flagging, flag_all}
use Rattle.leastness.proofs.Flagging.{Queued, FlaggedAll, flagged_all}
use Rattle.leastness.proofs.Chains.{On, Falls, Linked, LinkedAll, Kept, linked_all, on_none, nexts_length}
use Rattle.leastness.proofs.Carried.{Carried}

picked_few : (f : Literal → Bool) (ls : List Literal) → length (pairs_where f ls) ≤ length ls
unfolding pairs_where
picked_few f [] = omega arith
picked_few f (l ∷ ls) = go (picked_few f ls) (f l)
  where
    go : length (pairs_where f ls) ≤ length ls → (b : Bool) → length (cond b (l.pair ∷ pairs_where f ls) (pairs_where f ls)) ≤ length (l ∷ ls)
    go h true = omega (arith, h)
    go h false = omega (arith, h)

few_literals : (r : Rule) → length (literals_of r) ≡ length (take r.tested r.literals)
few_literals r = length-map (take r.tested r.literals) _

-- A rule needs at most nine pairs.
needed_few : (r : Rule) → RuleFits r → length (needed (rule_of r)) ≤ 9
unfolding needed
needed_few r f = omega (arith, picked_few is_plain (literals_of r), few_literals r, length-take r.tested r.literals, f.literals_fit)

module _ (t : Table) (hs : List ℕ) where
  -- What a number on the chain of a place stands for: a rule that needs the pair there, level with its highest number.
  unfoldable pub Stands : ℕ → ℕ → Type 0
  Stands k y = ((y - 1) / 9 < t.count) × ((p : Pair) × T (among p (needed (rule_at (rules_of t) (suc ((y - 1) / 9))))) × (k ≡ place_of p)) × (stratum_at t (suc ((y - 1) / 9)) ≡ get_or hs k 0)

  -- Rule k, from 0, is held, or waits on the chain that begins with x.
  unfoldable pub Waits : List Bool → List ℕ → ℕ → ℕ → Type 0
  Waits held nexts x k = T (get_or held k false) ⊎ ((y : ℕ) × On nexts x y × ((y - 1) / 9 ≡ k))

  -- After the rules 1 to i.
  pub record Closing (i : ℕ) (held fl : List Bool) (q : List ℕ) (top : ℕ) (heads nexts : List ℕ) : Type 0 where
    pub linked : Linked Stands (i * 9) heads nexts
    pub queued : Queued fl q top
    pub held_places : t.count ≤ length held
    pub next_places : t.count * 9 ≤ length nexts
    pub held_right : (k : ℕ) → T (get_or held k false) → Justified weak (rules_of t) (stratum_at t) (suc k)
    pub flags_right : (k : ℕ) → T (get_or fl k false) → (m : ℕ) × (p : Pair) × Numbered (length (rules_of t)) m × Justified weak (rules_of t) (stratum_at t) m
        × T (among p (rule_at (rules_of t) m).assignments) × (k ≡ place_of p) × (stratum_at t m ≡ get_or hs k 0)
    pub first_held : (k : ℕ) → k < i → stratum_at t (suc k) ≤ 1 → T (get_or held k false)
    pub ground_held : (k : ℕ) → k < i → T (one_below hs (stratum_at t (suc k)) (barred (rule_at (rules_of t) (suc k)))) → T (get_or held k false)
    pub assigned_flagged : (k : ℕ) (p : Pair) → T (get_or held k false) → 1 < stratum_at t (suc k) → T (among p (rule_at (rules_of t) (suc k)).assignments) → stratum_at t (suc k) ≡ get_or hs (place_of p) 0 → T (get_or fl (place_of p) false)
    pub waits : (k : ℕ) (p : Pair) → k < i → T (among p (needed (rule_at (rules_of t) (suc k)))) → stratum_at t (suc k) ≡ get_or hs (place_of p) 0 → Waits held nexts (get_or heads (place_of p) 0) k

module _ (t : Table) (fits : TableFits t) (sh : Shaped t) (hs : List ℕ) (g : Carried t t.count hs) where
  pub closing_start : (held : List Bool) (nexts : List ℕ) → Unheld t.count held → Unchained t.count nexts → Closing t hs 0 held (replicate pair_places false) (replicate pair_places 0) 0 (replicate pair_places 0) nexts
  unfolding Waits Falls flags_set
  closing_start held nexts u v = record {
    linked = record {
      falls = λ o. rw (v.none o) (omega arith);
      low = λ k. rw (replicate_at {A = ℕ} pair_places 0 k) (omega arith);
      right = λ k y w. absurd (on_none nexts (rw (replicate_at {A = ℕ} pair_places 0 k) at w));
      head_places = length-replicate {A = ℕ} pair_places 0;
    };
    queued = record {
      room = record { flag_places = length-replicate {A = Bool} pair_places false; counted = refl };
      listed = λ k w. absurd (rw (replicate_at pair_places false k) at w);
      inside = λ x h. absurd (omega arith);
      flagged = λ x h. absurd (omega arith);
      queue_places = length-replicate {A = ℕ} pair_places 0;
    };
    held_places = u.places;
    next_places = v.places;
    held_right = λ k w. absurd (rw (u.none k) at w);
    flags_right = λ k w. absurd (rw (replicate_at pair_places false k) at w);
    first_held = λ k h. absurd (omega arith);
    ground_held = λ k h. absurd (omega arith);
    assigned_flagged = λ k p w. absurd (rw (u.none k) at w);
    waits = λ k p h. absurd (omega arith);
  }

  -- Chains do not look at how far the rules went.
  linked_more : (o o' : ℕ) (heads nexts : List ℕ) → o ≤ o' → Linked (Stands t hs) o heads nexts → Linked (Stands t hs) o' heads nexts
  linked_more o o' heads nexts le l = record { falls = l.falls; low = λ k. omega (arith, l.low k); right = l.right; head_places = l.head_places }

  -- What waited waits still where a rule more is held.
  pub waits_held : (held : List Bool) (nexts : List ℕ) (x k i : ℕ) → Waits t hs held nexts x k → Waits t hs (set held i true) nexts x k
  unfolding Waits
  waits_held held nexts x k i w = ⊎_elim (λ a. inl (flag_kept held i k a)) (λ a. inr a) w

  -- A rule more is held and what it assigns is flagged: rule e, whose number is justified.
  pub held_more : (i e : ℕ) (held fl : List Bool) (q : List ℕ) (top : ℕ) (heads nexts : List ℕ) → e < t.count → 1 < stratum_at t (suc e) → Justified weak (rules_of t) (stratum_at t) (suc e)
      → Closing t hs i held fl q top heads nexts → (n : Flagging) → FlaggedAll hs (stratum_at t (suc e)) (rule_at (rules_of t) (suc e)).assignments (flagging fl q top) n
      → Closing t hs i (set held e true) n.flags n.queue n.top heads nexts
  held_more i e held fl q top heads nexts l high j c n w = record {
    linked = c.linked;
    queued = w.queued;
    held_places = rw (length-set held e true) c.held_places;
    next_places = c.next_places;
    held_right = λ k u. ⊎_elim (λ (z : k ≡ e). rw z j) (λ u. c.held_right k u) (flag_from held e k u);
    flags_right = λ k u. ⊎_elim
        (λ u. c.flags_right k u)
        (λ u. (suc e, u.0, number t fits sh e l, j, u.1, u.2, rw u.2 (sym u.3)))
        (w.from k u);
    first_held = λ k h s. flag_kept held e k (c.first_held k h s);
    ground_held = λ k h s. flag_kept held e k (c.ground_held k h s);
    assigned_flagged = λ k p u s a d. ⊎_elim
        (λ (z : k ≡ e). w.here p (rw z at a) (sym (rw z at d)))
        (λ u. w.kept_flags (place_of p) (c.assigned_flagged k p u s a d))
        (flag_from held e k u);
    waits = λ k p h a d. waits_held held nexts (get_or heads (place_of p) 0) k e (c.waits k p h a d);
  }

  pub flagging_of : (e : ℕ) (fl : List Bool) (q : List ℕ) (top : ℕ) → e < t.count → Queued fl q top
      → FlaggedAll hs (stratum_at t (suc e)) (rule_at (rules_of t) (suc e)).assignments (flagging fl q top) (flag_all hs (stratum_at t (suc e)) (rule_at (rules_of t) (suc e)).assignments (flagging fl q top))
  flagging_of e fl q top l c = flagged_all hs (stratum_at t (suc e)) (rule_at (rules_of t) (suc e)).assignments fl q top (λ p a. assigned_in t fits sh (suc e) p (number t fits sh e l) a) c

  -- The next rule, of the first stratum, is held.
  pub closing_first : (i : ℕ) (held fl : List Bool) (q : List ℕ) (top : ℕ) (heads nexts : List ℕ) → i < t.count → stratum_at t (suc i) ≤ 1
      → Closing t hs i held fl q top heads nexts → Closing t hs (i + 1) (set held i true) fl q top heads nexts
  unfolding Waits
  closing_first i held fl q top heads nexts l le c = record {
    linked = linked_more (i * 9) ((i + 1) * 9) heads nexts (omega arith) c.linked;
    queued = c.queued;
    held_places = rw (length-set held i true) c.held_places;
    next_places = c.next_places;
    held_right = λ k u. ⊎_elim (λ (z : k ≡ i). rw z (at_first le)) (λ u. c.held_right k u) (flag_from held i k u);
    flags_right = c.flags_right;
    first_held = λ k h s. ⊎_elim (λ z. rw z own) (λ z. flag_kept held i k (c.first_held k z s)) (before k h);
    ground_held = λ k h s. ⊎_elim (λ z. rw z own) (λ z. flag_kept held i k (c.ground_held k z s)) (before k h);
    assigned_flagged = λ k p u s a d. ⊎_elim
        (λ (z : k ≡ i). absurd (let y = rw z at s in omega (arith, y, le)))
        (λ u. c.assigned_flagged k p u s a d)
        (flag_from held i k u);
    waits = λ k p h a d. ⊎_elim (λ z. inl (rw z own)) (λ z. waits_held held nexts (get_or heads (place_of p) 0) k i (c.waits k p z a d)) (before k h);
  }
    where
      own : T (get_or (set held i true) i false)
      own = flag_here held i (omega (arith, l, c.held_places))

      before : (k : ℕ) → k < i + 1 → (k ≡ i) ⊎ (k < i)
      before k h = eq-or-lt_of_le (let z : k ≤ i = omega arith in z)

  -- The next rule tests under NOT a pair whose highest number is one below its own.
  pub closing_ground : (i : ℕ) (held fl : List Bool) (q : List ℕ) (top : ℕ) (heads nexts : List ℕ) → i < t.count → 1 < stratum_at t (suc i)
      → T (one_below hs (stratum_at t (suc i)) (barred (rule_at (rules_of t) (suc i)))) → Closing t hs i held fl q top heads nexts
      → (n : Flagging) → n ≡ flag_all hs (stratum_at t (suc i)) (rule_at (rules_of t) (suc i)).assignments (flagging fl q top)
      → Closing t hs (i + 1) (set held i true) n.flags n.queue n.top heads nexts
  unfolding Waits must_fall depends_under_not
  closing_ground i held fl q top heads nexts l high b c n e =
      let c' = held_more i i held fl q top heads nexts l high why c n (rw e (flagging_of i fl q top l c.queued)) in
      record {
        linked = linked_more (i * 9) ((i + 1) * 9) heads nexts (omega arith) c'.linked;
        queued = c'.queued;
        held_places = c'.held_places;
        next_places = c'.next_places;
        held_right = c'.held_right;
        flags_right = c'.flags_right;
        first_held = λ k h s. ⊎_elim (λ z. rw z own) (λ z. c'.first_held k z s) (before k h);
        ground_held = λ k h s. ⊎_elim (λ z. rw z own) (λ z. c'.ground_held k z s) (before k h);
        assigned_flagged = c'.assigned_flagged;
        waits = λ k p h a d. ⊎_elim (λ z. inl (rw z own)) (λ z. c'.waits k p z a d) (before k h);
      }
    where
      own : T (get_or (set held i true) i false)
      own = flag_here held i (omega (arith, l, c.held_places))

      before : (k : ℕ) → k < i + 1 → (k ≡ i) ⊎ (k < i)
      before k h = eq-or-lt_of_le (let z : k ≤ i = omega arith in z)

      why : Justified weak (rules_of t) (stratum_at t) (suc i)
      why =
          let w = below_e hs (stratum_at t (suc i)) (barred (rule_at (rules_of t) (suc i))) b in
          ⊎_elim
          (λ z. absurd (omega (arith, z, w.2, high)))
          (λ m. one_above m.1 (meet_i w.0 _ _ w.1 m.2) (omega (arith, w.2, m.3)))
          (g.attained w.0 (tested_in t fits sh (suc i) w.0 (number t fits sh i l) (barred_tested (rule_at (rules_of t) (suc i)) w.0 w.1)).in_row)

  -- The next rule waits at the pairs that it needs level with their highest number.
  pub closing_chain : (i : ℕ) (held fl : List Bool) (q : List ℕ) (top : ℕ) (heads nexts : List ℕ) → i < t.count → 1 < stratum_at t (suc i)
      → (¬ T (one_below hs (stratum_at t (suc i)) (barred (rule_at (rules_of t) (suc i))))) → Closing t hs i held fl q top heads nexts
      → Closing t hs (i + 1) held fl q top (heads_with hs (stratum_at t (suc i)) (needed (rule_at (rules_of t) (suc i))) (i * 9) heads) (nexts_with hs (stratum_at t (suc i)) (needed (rule_at (rules_of t) (suc i))) (i * 9) heads nexts)
  unfolding Waits Kept Stands
  closing_chain i held fl q top heads nexts l high n c = record {
    linked = linked_more (i * 9 + length (needed (rule_at (rules_of t) (suc i)))) ((i + 1) * 9) _ _ (omega (arith, few)) w.linked;
    queued = c.queued;
    held_places = c.held_places;
    next_places = nexts_kept;
    held_right = c.held_right;
    flags_right = c.flags_right;
    first_held = λ k h s. ⊎_elim (λ (z : k ≡ i). absurd (let y = rw z at s in omega (arith, y, high))) (λ z. c.first_held k z s) (before k h);
    ground_held = λ k h s. ⊎_elim (λ (z : k ≡ i). absurd (n (rw z at s))) (λ z. c.ground_held k z s) (before k h);
    assigned_flagged = c.assigned_flagged;
    waits = λ k p h a d. ⊎_elim
        (λ (z : k ≡ i). let v = w.new p (rw z at a) (sym (rw z at d)) in inr (v.0 + 1, v.3, omega (arith, v.1, v.2, few, z)))
        (λ z. ⊎_elim (λ u. inl u) (λ u. inr (u.0, w.kept (place_of p) u.0 u.1, u.2)) (c.waits k p z a d))
        (before k h);
  }
    where
      nexts_kept : t.count * 9 ≤ length (nexts_with hs (stratum_at t (suc i)) (needed (rule_at (rules_of t) (suc i))) (i * 9) heads nexts)
      nexts_kept = rw (nexts_length hs (stratum_at t (suc i)) (needed (rule_at (rules_of t) (suc i))) (i * 9) heads nexts) c.next_places

      few : length (needed (rule_at (rules_of t) (suc i))) ≤ 9
      few = rw (rule_at_is t i l) (needed_few (get_or t.rules i zero_rule) (fits.each_fits i l))

      before : (k : ℕ) → k < i + 1 → (k ≡ i) ⊎ (k < i)
      before k h = eq-or-lt_of_le (let z : k ≤ i = omega arith in z)

      here : (p : Pair) (x : ℕ) → T (among p (needed (rule_at (rules_of t) (suc i)))) → get_or hs (place_of p) 0 ≡ stratum_at t (suc i) → i * 9 ≤ x → x < i * 9 + length (needed (rule_at (rules_of t) (suc i))) → Stands t hs (place_of p) (x + 1)
      here p x a d lo hi =
          let z : (x + 1 - 1) / 9 ≡ i = omega (arith, few) in
          rw z (l, (p, a, refl), sym d)

      w : LinkedAll (Stands t hs) hs (stratum_at t (suc i)) (needed (rule_at (rules_of t) (suc i))) (i * 9) heads nexts
      w = linked_all (Stands t hs) hs (stratum_at t (suc i)) (needed (rule_at (rules_of t) (suc i))) (i * 9) heads nexts (omega (arith, few, l, c.next_places))
          (λ p a. tested_in t fits sh (suc i) p (number t fits sh i l) (needed_tested (rule_at (rules_of t) (suc i)) p a)) here c.linked

  -- The same at the table's rules, as the code has them.
  pub as_flagging : (e s : ℕ) (m n : Flagging) → e < t.count → s ≡ (get_or t.rules e zero_rule).stratum → n ≡ flag_all hs s (assignments_of (get_or t.rules e zero_rule)) m
      → n ≡ flag_all hs (stratum_at t (suc e)) (rule_at (rules_of t) (suc e)).assignments m
  as_flagging e s m n l d z = rw (stratum_at_is t e l, ← d, rule_at_is t e l) z

  pub ask_first : (i s : ℕ) (held fl : List Bool) (q : List ℕ) (top : ℕ) (heads nexts : List ℕ) → i < t.count → s ≡ (get_or t.rules i zero_rule).stratum → s ≤ 1
      → Closing t hs i held fl q top heads nexts → Closing t hs (i + 1) (set held i true) fl q top heads nexts
  ask_first i s held fl q top heads nexts l d le c = closing_first i held fl q top heads nexts l (omega (arith, stratum_at_is t i l, d, le)) c

  pub ask_ground : (i s : ℕ) (held fl : List Bool) (q : List ℕ) (top : ℕ) (heads nexts : List ℕ) → i < t.count → s ≡ (get_or t.rules i zero_rule).stratum → 1 < s
      → one_below hs s (barred (rule_of (get_or t.rules i zero_rule))) ≡ true → Closing t hs i held fl q top heads nexts
      → (fl' : List Bool) (q' : List ℕ) (top' : ℕ) → flagging fl' q' top' ≡ flag_all hs s (assignments_of (get_or t.rules i zero_rule)) (flagging fl q top)
      → Closing t hs (i + 1) (set held i true) fl' q' top' heads nexts
  ask_ground i s held fl q top heads nexts l d high b c fl' q' top' z =
      closing_ground i held fl q top heads nexts l (omega (arith, stratum_at_is t i l, d, high)) (rw (stratum_at_is t i l, ← d, rule_at_is t i l, b) tt) c (flagging fl' q' top') (as_flagging i s (flagging fl q top) (flagging fl' q' top') l d z)

  pub ask_chain : (i s : ℕ) (held fl : List Bool) (q : List ℕ) (top : ℕ) (heads nexts : List ℕ) → i < t.count → s ≡ (get_or t.rules i zero_rule).stratum → 1 < s
      → one_below hs s (barred (rule_of (get_or t.rules i zero_rule))) ≡ false → Closing t hs i held fl q top heads nexts
      → Closing t hs (i + 1) held fl q top (heads_with hs s (needed (rule_of (get_or t.rules i zero_rule))) (i * 9) heads) (nexts_with hs s (needed (rule_of (get_or t.rules i zero_rule))) (i * 9) heads nexts)
  ask_chain i s held fl q top heads nexts l d high b c =
      rw (stratum_at_is t i l, ← d, rule_at_is t i l) at (closing_chain i held fl q top heads nexts l (omega (arith, stratum_at_is t i l, d, high)) (λ u. rw (stratum_at_is t i l, ← d, rule_at_is t i l, b) at u) c)
