-- The chains of the queued pairs followed to their ends: what is held then, and that all that is justified is.
-- Assumes nothing.
use mathlib.Core.Path.{◌≡◌, sym, ◌∙◌, subst}
use mathlib.Core.Bool.{Bool, true, false}
use mathlib.Core.List.{List, ◌∷◌}
use mathlib.Core.Logic.{inl, inr, ⊎_elim}
use Prim.Native.Nat.{ℕ, zero, suc, ◌+◌, ◌-◌, ◌/◌, ◌≤◌, ◌<◌, ◌*◌}
use native.Mathlib.Nat.{eq-or-lt_of_le}
use native.Mathlib.Omega.{arith}
use lib.Dec.{T}
use lib.ListN.{length, get_or, set, take}
use lib.Seq.{get_or-take, length-take-le}
use Rattle.laws.specs.Numbers.{Numbered}
use Rattle.laws.specs.inner.Flags.{all_set}
use Rattle.laws.proofs.Truth.{bool_ext, le_or_lt}
use Rattle.laws.proofs.Flags.{flag_here, flag_kept, all_set_i, all_set_e}
use Rattle.model.specs.Rules.{Pair, among}
use Rattle.model.specs.Orders.{rule_at}
use Rattle.model.specs.Strata.{weak, needed, barred, depends_plainly, depends_under_not, may_stay_level, must_fall}
use Rattle.model.specs.inner.Justified.{Justified, level_with}
use Rattle.model.proofs.Pairs.{needed_tested, meet_i, meet_e}
use Rattle.model.proofs.Justified.{all_justified}
use Rattle.table.specs.declared.Table.{Table}
use Rattle.table.specs.Zero.{zero_rule}
use Rattle.table.specs.inner.Shape.{Shaped}
use Rattle.table.specs.Link.{assignments_of, rules_of, stratum_at}
use Rattle.table.specs.inner.Flat.{place_of}
use Rattle.table.specs.inner.Fits.{TableFits}
use Rattle.table.proofs.Flat.{same_place}
use Rattle.table.proofs.Fits.{count_of, number, tested_in, assigned_in}
use Rattle.strata.specs.inner.Heights.{asked_at}
use Rattle.strata.proofs.Heights.{highest_ge}
use Rattle.leastness.proofs.OneBelow.{below_i}
use Rattle.leastness.specs.inner.Flagging.{Flagging, flagging, flag_all}
use Rattle.leastness.specs.CarriesLeast.{carries_least}
use Rattle.leastness.proofs.Flagging.{FlaggedAll}
use Rattle.leastness.proofs.Chains.{On, first, later, Falls, on_none, on_split}
use Rattle.leastness.proofs.Carried.{Carried, Valid, level_pair, last, carries_justified, justified_carries}
use Rattle.leastness.proofs.Closing.{Waits, Stands, Closing, held_more, flagging_of, as_flagging, waits_held}

-- Flags cut to the first n are all set exactly where the first n are.
pub cut_set : (held : List Bool) (n : ℕ) → n ≤ length held → all_set (take n held) (length (take n held)) ≡ all_set held n
cut_set held n l =
    rw (length-take-le n held l) (bool_ext (all_set (take n held) n) (all_set held n)
    (λ u. all_set_i held n (λ k h. rw (get_or-take n held k false h) at (all_set_e (take n held) n u k h)))
    (λ u. all_set_i (take n held) n (λ k h. rw (get_or-take n held k false h) (all_set_e held n u k h))))

module _ (t : Table) (hs : List ℕ) where
  -- The rules that need a pair at one of the first `at` places of the queue, level with its highest number, are held.
  unfoldable pub Done : ℕ → List ℕ → List Bool → Type 0
  Done at q held = (x k : ℕ) (p : Pair) → x < at → k < t.count → T (among p (needed (rule_at (rules_of t) (suc k)))) → place_of p ≡ get_or q x 0 → stratum_at t (suc k) ≡ get_or hs (place_of p) 0 → T (get_or held k false)

  -- Those that need the pair at place a are held or wait from x on; what is on the chain from x on is on that of a.
  pub record Following (a x : ℕ) (held : List Bool) (heads nexts : List ℕ) : Type 0 where
    pub left : (k : ℕ) (p : Pair) → k < t.count → T (among p (needed (rule_at (rules_of t) (suc k)))) → place_of p ≡ a → stratum_at t (suc k) ≡ get_or hs (place_of p) 0 → Waits t hs held nexts x k
    pub part : (y : ℕ) → On nexts x y → On nexts (get_or heads a 0) y
    pub below : x ≤ t.count * 9

  -- Place `at - 1` of the queue, the pair at p, is worked on; its chain is followed from x on.
  pub record Chaining (at p x : ℕ) (held fl : List Bool) (q : List ℕ) (top : ℕ) (heads nexts : List ℕ) : Type 0 where
    pub started : 1 ≤ at
    pub reached : at ≤ top
    pub taken : get_or q (at - 1) 0 ≡ p
    pub is_flagged : T (get_or fl p false)
    pub closing : Closing t hs t.count held fl q top heads nexts
    pub done : Done (at - 1) q held
    pub following : Following p x held heads nexts

module _ (t : Table) (fits : TableFits t) (sh : Shaped t) (hs : List ℕ) (g : Carried t t.count hs) where
  -- At a chain: a rule on it that is not held yet is held, since the pair there is flagged.
  pub closing_wake : (a x : ℕ) (held fl : List Bool) (q : List ℕ) (top : ℕ) (heads nexts : List ℕ) → T (get_or fl a false) → 0 < x → Following t hs a x held heads nexts → Closing t hs t.count held fl q top heads nexts
      → ((x - 1) / 9 < t.count) × (Justified weak (rules_of t) (stratum_at t) (suc ((x - 1) / 9)))
  unfolding Stands may_stay_level depends_plainly
  closing_wake a x held fl q top heads nexts u pos f c =
      let r = c.linked.right a x (f.part x (first {x = x} pos)) in
      let w = c.flags_right a u in
      let e : place_of r.1.0 ≡ place_of w.1 = sym r.1.2 ∙ w.5 in
      let same = same_place r.1.0 w.1 (tested_in t fits sh (suc ((x - 1) / 9)) r.1.0 (number t fits sh ((x - 1) / 9) r.0) (needed_tested (rule_at (rules_of t) (suc ((x - 1) / 9))) r.1.0 r.1.1)).in_row (assigned_in t fits sh w.0 w.1 w.2 w.4).in_row e in
      (r.0, level_with w.2 (levels (suc ((x - 1) / 9)) w.0 r.1.0 w.1 same r.1.1 w.4) (r.2 ∙ sym w.6) w.3)
    where
      levels : (n m : ℕ) (p p' : Pair) → p ≡ p' → T (among p (needed (rule_at (rules_of t) n))) → T (among p' (rule_at (rules_of t) m).assignments) → T (may_stay_level weak (rules_of t) n m)
      levels n m p p' e a b = meet_i p _ _ a (rw e b)

  -- Where the rule at x is held already, the chain goes on.
  pub following_over : (a x : ℕ) (held : List Bool) (heads nexts : List ℕ) → 0 < x → Falls nexts → T (get_or held ((x - 1) / 9) false) → Following t hs a x held heads nexts → Following t hs a (get_or nexts (x - 1) 0) held heads nexts
  unfolding Waits Falls
  following_over a x held heads nexts pos falls h f = record {
    left = λ k p l b d e. ⊎_elim
        (λ u. inl u)
        (λ u. ⊎_elim (λ (z : u.0 ≡ x). inl (subst (λ (i : ℕ). T (get_or held i false)) (let y : (x - 1) / 9 ≡ k = omega (arith, z, u.2) in y) h)) (λ v. inr (u.0, v, u.2)) (on_split nexts u.1))
        (f.left k p l b d e);
    part = λ y w. f.part y (later {x = x} {y = y} pos w);
    below = omega (arith, falls (x - 1), f.below);
  }

  -- More rules are held, and the chain is the same.
  following_held : (a x e : ℕ) (held : List Bool) (heads nexts : List ℕ) → Following t hs a x held heads nexts → Following t hs a x (set held e true) heads nexts
  following_held a x e held heads nexts f = record { left = λ k p l b d z. waits_held t fits sh hs g held nexts x k e (f.left k p l b d z); part = f.part; below = f.below }

  -- A rule is held at a chain, and what it assigns is flagged.
  pub closing_held : (e : ℕ) (held fl : List Bool) (q : List ℕ) (top : ℕ) (heads nexts : List ℕ) → e < t.count → ¬ T (get_or held e false) → Justified weak (rules_of t) (stratum_at t) (suc e)
      → Closing t hs t.count held fl q top heads nexts
      → (n : Flagging) → n ≡ flag_all hs (stratum_at t (suc e)) (rule_at (rules_of t) (suc e)).assignments (flagging fl q top)
      → Closing t hs t.count (set held e true) n.flags n.queue n.top heads nexts × FlaggedAll hs (stratum_at t (suc e)) (rule_at (rules_of t) (suc e)).assignments (flagging fl q top) n
  closing_held e held fl q top heads nexts l not j c n z =
      let w : FlaggedAll hs (stratum_at t (suc e)) (rule_at (rules_of t) (suc e)).assignments (flagging fl q top) n = rw z (flagging_of t fits sh hs g e fl q top l c.queued) in
      (held_more t fits sh hs g t.count e held fl q top heads nexts l (⊎_elim (λ le. absurd (not (c.first_held e l le))) (λ lt. lt) (le_or_lt (stratum_at t (suc e)) 1)) j c n w, w)

  -- A place of the queue is taken: its chain is followed from its head.
  pub following_start : (a : ℕ) (held fl : List Bool) (q : List ℕ) (top : ℕ) (heads nexts : List ℕ) → Closing t hs t.count held fl q top heads nexts → Following t hs a (get_or heads a 0) held heads nexts
  following_start a held fl q top heads nexts c = record {
    left = λ k p l b d e. rw (← d) (c.waits k p l b e);
    part = λ y w. w;
    below = c.linked.low a;
  }

  -- At its end the place is done.
  pub done_more : (at a : ℕ) (held : List Bool) (q heads nexts : List ℕ) → get_or q at 0 ≡ a → Following t hs a 0 held heads nexts → Done t hs at q held → Done t hs (at + 1) q held
  unfolding Done Waits
  done_more at a held q heads nexts e f d x k p h l b z s = ⊎_elim
      (λ (y : x ≡ at). ⊎_elim (λ u. u) (λ u. absurd (on_none nexts u.1)) (f.left k p l b (z ∙ rw y e) s))
      (λ (y : x < at). d x k p y l b z s)
      (eq-or-lt_of_le (let y : x ≤ at = omega arith in y))

  pub done_start : (q : List ℕ) (held : List Bool) → Done t hs 0 q held
  unfolding Done
  done_start q held x k p h = absurd (omega arith)

  -- What was done stays so.
  pub done_kept : (at top e : ℕ) (held : List Bool) (q q' : List ℕ) → at ≤ top → ((x : ℕ) → x < top → get_or q' x 0 ≡ get_or q x 0) → Done t hs at q held → Done t hs at q' (set held e true)
  unfolding Done
  done_kept at top e held q q' le f d x k p h l b z s = flag_kept held e k (d x k p h l b (z ∙ f x (omega arith)) s)

  -- At rest all that is justified is held.
  pub all_closed : (held fl : List Bool) (q : List ℕ) (top : ℕ) (heads nexts : List ℕ) → Closing t hs t.count held fl q top heads nexts → Done t hs top q held → Valid t t.count hs
      → (k : ℕ) → k < t.count → Justified weak (rules_of t) (stratum_at t) (suc k) → T (get_or held k false)
  unfolding Done Valid asked_at must_fall may_stay_level depends_plainly depends_under_not
  all_closed held fl q top heads nexts c d v k l j = all_justified weak (rules_of t) (stratum_at t) (λ n. T (get_or (false ∷ held) n false)) low up level (number t fits sh k l) j
    where
      inside : (n : ℕ) → Numbered (length (rules_of t)) (suc n) → n < t.count
      inside n i = omega (arith, i.last, count_of t fits sh)

      low : (n : ℕ) → Numbered (length (rules_of t)) n → stratum_at t n ≤ 1 → T (get_or (false ∷ held) n false)
      low zero i le = absurd (omega (arith, i.first))
      low (suc n) i le = c.first_held n (inside n i) le

      up : (n m : ℕ) → Numbered (length (rules_of t)) n → Numbered (length (rules_of t)) m → T (must_fall weak (rules_of t) n m) → stratum_at t n ≡ suc (stratum_at t m) → T (get_or (false ∷ held) n false)
      up zero m i j w e = absurd (omega (arith, i.first))
      up (suc n) m i j w e =
          let x = meet_e _ _ w in
          c.ground_held n (inside n i) (below_i hs (stratum_at t (suc n)) x.0 (barred (rule_at (rules_of t) (suc n))) x.1
          (omega (arith, e, g.covers m x.0 j (last t fits sh hs g m j) x.2, highest_ge hs (barred (rule_at (rules_of t) (suc n))) x.0 x.1, v (suc n) (last t fits sh hs g (suc n) i) i)))

      level : (n m : ℕ) → Numbered (length (rules_of t)) n → Numbered (length (rules_of t)) m → T (may_stay_level weak (rules_of t) n m) → stratum_at t n ≡ stratum_at t m → T (get_or (false ∷ held) m false) → T (get_or (false ∷ held) n false)
      level zero m i j w e h = absurd (omega (arith, i.first))
      level (suc n) zero i j w e h = absurd (omega (arith, j.first))
      level (suc n) (suc m) i j w e h = ⊎_elim
          (λ le. c.first_held n (inside n i) le)
          (λ lt.
          let x = meet_e _ _ w in
          let y = level_pair t fits sh hs g v (suc n) (suc m) x.0 i j x.1 x.2 e in
          let u = c.queued.listed (place_of x.0) (c.assigned_flagged m x.0 h (omega (arith, lt, e)) x.2 y) in
          d u.0 n x.0 u.1 (inside n i) x.1 (sym u.2) (e ∙ y))
          (le_or_lt (stratum_at t (suc n)) 1)

  -- So all rules are held exactly where the least are carried.
  pub held_least : (held fl : List Bool) (q : List ℕ) (top : ℕ) (heads nexts : List ℕ) → Closing t hs t.count held fl q top heads nexts → Done t hs top q held → Valid t t.count hs
      → all_set held t.count ≡ carries_least t
  held_least held fl q top heads nexts c d v = bool_ext _ _
      (λ u. justified_carries t fits sh hs g v (λ k l. c.held_right k (all_set_e held t.count u k l)))
      (λ u. all_set_i held t.count (λ k l. all_closed held fl q top heads nexts c d v k l (carries_justified t fits sh u k l)))

  pub chaining_start : (at : ℕ) (held fl : List Bool) (q : List ℕ) (top : ℕ) (heads nexts : List ℕ) → at < top → Closing t hs t.count held fl q top heads nexts → Done t hs at q held
      → Chaining t hs (at + 1) (get_or q at 0) (get_or heads (get_or q at 0) 0) held fl q top heads nexts
  chaining_start at held fl q top heads nexts h c d =
      let e : at + 1 - 1 ≡ at = omega arith in
      record {
        started = omega arith;
        reached = omega arith;
        taken = rw e;
        is_flagged = c.queued.flagged at h;
        closing = c;
        done = rw e d;
        following = following_start (get_or q at 0) held fl q top heads nexts c;
      }

  pub chaining_over : (at p x : ℕ) (held fl : List Bool) (q : List ℕ) (top : ℕ) (heads nexts : List ℕ) → 0 < x → T (get_or held ((x - 1) / 9) false) → Chaining t hs at p x held fl q top heads nexts
      → Chaining t hs at p (get_or nexts (x - 1) 0) held fl q top heads nexts
  chaining_over at p x held fl q top heads nexts pos h c = record {
    started = c.started;
    reached = c.reached;
    taken = c.taken;
    is_flagged = c.is_flagged;
    closing = c.closing;
    done = c.done;
    following = following_over p x held heads nexts pos c.closing.linked.falls h c.following;
  }

  pub chaining_rule : (at p x : ℕ) (held fl : List Bool) (q : List ℕ) (top : ℕ) (heads nexts : List ℕ) → 0 < x → Chaining t hs at p x held fl q top heads nexts → (x - 1) / 9 < t.count
  chaining_rule at p x held fl q top heads nexts pos c = (closing_wake p x held fl q top heads nexts c.is_flagged pos c.following c.closing).0

  pub chaining_held : (at p x s : ℕ) (held fl : List Bool) (q : List ℕ) (top : ℕ) (heads nexts : List ℕ) → 0 < x → get_or held ((x - 1) / 9) false ≡ false → s ≡ (get_or t.rules ((x - 1) / 9) zero_rule).stratum
      → Chaining t hs at p x held fl q top heads nexts
      → (fl' : List Bool) (q' : List ℕ) (top' : ℕ) → flagging fl' q' top' ≡ flag_all hs s (assignments_of (get_or t.rules ((x - 1) / 9) zero_rule)) (flagging fl q top)
      → Chaining t hs at p (get_or nexts (x - 1) 0) (set held ((x - 1) / 9) true) fl' q' top' heads nexts
  chaining_held at p x s held fl q top heads nexts pos not d c fl' q' top' z =
      let w = closing_wake p x held fl q top heads nexts c.is_flagged pos c.following c.closing in
      let r = closing_held ((x - 1) / 9) held fl q top heads nexts w.0 (λ u. rw not at u) w.1 c.closing (flagging fl' q' top') (as_flagging t fits sh hs g ((x - 1) / 9) s (flagging fl q top) (flagging fl' q' top') w.0 d z) in
      record {
        started = c.started;
        reached = omega (arith, c.reached, r.1.no_fewer);
        taken = r.1.kept_queue (at - 1) (omega (arith, c.started, c.reached)) ∙ c.taken;
        is_flagged = r.1.kept_flags p c.is_flagged;
        closing = r.0;
        done = done_kept (at - 1) top ((x - 1) / 9) held q q' (omega (arith, c.reached)) r.1.kept_queue c.done;
        following =
            following_over p x (set held ((x - 1) / 9) true) heads nexts pos c.closing.linked.falls
            (flag_here held ((x - 1) / 9) (omega (arith, w.0, c.closing.held_places)))
            (following_held p x ((x - 1) / 9) held heads nexts c.following);
      }

  pub chaining_end : (at p x : ℕ) (held fl : List Bool) (q : List ℕ) (top : ℕ) (heads nexts : List ℕ) → x ≤ 0 → Chaining t hs at p x held fl q top heads nexts → Done t hs at q held
  chaining_end at p x held fl q top heads nexts le c =
      let z : x ≡ 0 = omega arith in
      let e : at - 1 + 1 ≡ at = omega (arith, c.started) in
      rw e at (done_more (at - 1) p held q heads nexts c.taken (rw z at c.following) c.done)
