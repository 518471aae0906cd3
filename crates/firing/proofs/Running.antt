-- What firing keeps while it goes through a stratum, again and again until nothing of it fires. It needs strata of either kind.
-- Assumes nothing.
use mathlib.Core.Path.{◌≡◌, refl, sym, ◌∙◌, ap, fun_ext}
use mathlib.Core.Bool.{Bool, true, false, true≢false}
use mathlib.Core.List.{List, [], ◌∷◌}
use mathlib.Core.Logic.{⊎_elim}
use Prim.Native.Nat.{ℕ, zero, suc, ◌+◌, ◌-◌, ◌*◌, ◌≤◌, ◌<◌}
use native.Mathlib.Numerals.{add-one}
use native.Mathlib.Omega.{arith}
use native.Mathlib.Nat.{eq-or-lt_of_le}
use lib.ListN.{length, get_or, set, replicate, length-set}
use lib.Seq.{get_or-set_same, get_or-set_other}
use borrow.Author.Tests.{eq-eqb, ne_eqb}
use Rattle.laws.specs.Truth.{◌∨ᵇ◌}
use Rattle.laws.specs.Numbers.{Numbered}
use Rattle.laws.proofs.Equations.{from_true, either}
use Rattle.laws.proofs.Numbers.{is_false}
use Rattle.laws.specs.inner.Flags.{flags_set}
use Rattle.laws.proofs.Filled.{replicate_at}
use Rattle.laws.proofs.Flags.{flags_more, flags_top}
use Rattle.model.specs.Rules.{enabled}
use Rattle.model.specs.Orders.{names, changes}
use Rattle.model.specs.Strata.{Grading, Strata}
use Rattle.model.specs.Response.{response_by}
use Rattle.model.proofs.Orders.{Ready}
use Rattle.model.proofs.Loop.{Reached, start, level_fires, levels_end}
use Rattle.model.proofs.Exists.{loop_end}
use Rattle.table.specs.declared.Table.{Table}
use Rattle.laws.specs.Limits.{rule_limit}
use Rattle.table.specs.Zero.{zero_rule}
use Rattle.table.specs.inner.Shape.{Shaped}
use Rattle.table.specs.Link.{rule_of, rules_of, assignments_of, stratum_at}
use Rattle.table.specs.inner.Flat.{set_of, pairs_of, add_pairs, pair_places}
use Rattle.table.specs.inner.Fits.{TableFits}
use Rattle.table.proofs.Link.{rule_at_is}
use Rattle.table.proofs.Fits.{assigned_placed, count_of, number}
use Rattle.table.proofs.Flat.{added, added_length, pairs_of_set, is_flags}
use Rattle.firing.specs.inner.Firing.{Fired}
use Rattle.testing.specs.declared.waiting.Turn.{Turn}
use Rattle.testing.specs.inner.Waiting.{turn_of}
use Rattle.testing.proofs.Lists.{turn_place, turn_less}
use Rattle.firing.proofs.Sorted.{Sorts}

-- In a pass the flags of fired rules are kept, and where something fired there are more.
pub record Kept (fired₀ fired : List Bool) (moved : Bool) : Type 0 where
  pub size : length fired ≡ length fired₀
  pub not_fewer : flags_set fired₀ ≤ flags_set fired
  pub more : moved ≡ true → flags_set fired₀ < flags_set fired

pub kept_fire : (fired₀ fired : List Bool) (moved : Bool) (i : ℕ) → i < length fired → get_or fired i false ≡ false → Kept fired₀ fired moved → Kept fired₀ (set fired i true) true
kept_fire fired₀ fired moved i h e k =
    let m = flags_more fired i h e in
    record { size = length-set fired i true ∙ k.size; not_fewer = omega (arith, k.not_fewer); more = λ z. omega (arith, k.not_fewer) }

-- How much a pass may still look at: each rule that fires may wake others, and each rule looked at is one less.
unfoldable pub turns_left : List Bool → ℕ → ℕ → ℕ → ℕ
turns_left fired to k left = (length fired - flags_set fired) * (rule_limit + 1) + (left + (to - k))

pub turn_over : (positions woken : List ℕ) (fired : List Bool) (to k left : ℕ) (u : Turn) → u ≡ turn_of positions k woken left → k < to + left → turns_left fired to u.place u.left < turns_left fired to k left
unfolding turns_left
turn_over positions woken fired to k left u e h = omega (arith, turn_less positions k woken left u e to h)

pub turn_fire : (positions woken : List ℕ) (fired : List Bool) (to k left : ℕ) (u : Turn) → u ≡ turn_of positions k woken left → (left' i : ℕ) → i < length fired → get_or fired i false ≡ false
    → left' ≤ rule_limit → turns_left (set fired i true) to u.place left' < turns_left fired to k left
unfolding turns_left
turn_fire positions woken fired to k left u e left' i h un few =
    let m = flags_more fired i h un in
    let n = flags_top (set fired i true) in
    let v = length-set fired i true in
    let w = turn_place positions k woken left u e in
    omega arith

-- How many passes may still come, where no stratum is at a number or above: each fires a rule or is the last of its stratum.
unfoldable pub passes_left : ℕ → ℕ → List Bool → ℕ
passes_left above stratum fired = (above - stratum) + (length fired - flags_set fired)

pub pass_moved : (above s : ℕ) (fired₀ fired : List Bool) (moved : Bool) → Kept fired₀ fired moved → moved ≡ true → passes_left above s fired < passes_left above s fired₀
unfolding passes_left
pass_moved above s fired₀ fired moved k e = omega (arith, k.more e, flags_top fired, k.size)

pub pass_last : (above s : ℕ) (fired₀ fired : List Bool) (moved : Bool) → Kept fired₀ fired moved → s < above → passes_left above (s + 1) fired < passes_left above s fired₀
unfolding passes_left
pass_last above s fired₀ fired moved k h = omega (arith, k.not_fewer, k.size)

module _ (t : Table) (S : List ℕ) (slip : List Bool) (positions : List ℕ) where
  -- The rules of `done`, last first, have fired lowest strata first; the arrays stand for them; nothing ready stands lower than the stratum.
  -- Where nothing has moved since, no rule listed from place `from` on and before place k is ready.
  pub record Running (stratum from k : ℕ) (moved : Bool) (bs fired : List Bool) : Type 0 where
    pub done : List ℕ
    pub reached : Reached (rules_of t) S (pairs_of slip) (stratum_at t) done
    pub low : (m : ℕ) → Ready (rules_of t) S (pairs_of slip) done m → stratum ≤ stratum_at t m
    pub passed : moved ≡ false → (q : ℕ) → from ≤ q → q < k → ¬ Ready (rules_of t) S (pairs_of slip) done (suc (get_or positions q 0))
    pub flagged : (i : ℕ) → i < t.count → get_or fired i false ≡ names done (suc i)
    pub stands : set_of bs ≡ changes (rules_of t) (pairs_of slip) done
    pub changes_size : length bs ≡ pair_places

  -- At the start nothing has fired.
  pub run_start : (fired : List Bool) → fired ≡ replicate (length fired) false → length slip ≡ pair_places → Running 0 0 0 true slip fired
  unfolding changes names
  run_start fired e l = record {
    done = [];
    reached = start;
    low = λ m r. omega arith;
    passed = λ z. absurd (true≢false z);
    flagged = λ i h. ap (λ (bs : List Bool). get_or bs i false) e ∙ replicate_at (length fired) false i;
    stands = fun_ext (λ p. sym (pairs_of_set slip p l));
    changes_size = l;
  }

  -- Before a pass something may have moved.
  pub run_again : (s from k from' k' : ℕ) (b : Bool) (bs fired : List Bool) → Running s from k b bs fired → Running s from' k' true bs fired
  run_again s from k from' k' b bs fired p = record {
    done = p.done;
    reached = p.reached;
    low = p.low;
    passed = λ z. absurd (true≢false z);
    flagged = p.flagged;
    stands = p.stands;
    changes_size = p.changes_size;
  }

  -- At the start of a pass none of its rules is passed yet.
  pub run_pass : (s from k from' : ℕ) (b : Bool) (bs fired : List Bool) → Running s from k b bs fired → Running s from' from' false bs fired
  run_pass s from k from' b bs fired p = record {
    done = p.done;
    reached = p.reached;
    low = p.low;
    passed = λ z q lo hi r. omega arith;
    flagged = p.flagged;
    stands = p.stands;
    changes_size = p.changes_size;
  }

  module _ (fits : TableFits t) (sh : Shaped t) where
    -- A rule that has fired or is not enabled is passed over.
    run_over : (s from k i : ℕ) (b : Bool) (bs fired : List Bool) → i ≡ get_or positions k 0 → i < t.count
        → (get_or fired i false ≡ false → enabled S (set_of bs) (rule_of (get_or t.rules i zero_rule)) ≡ false)
        → Running s from k b bs fired → Running s from (k + 1) b bs fired
    run_over s from k i b bs fired at h off p = rw (add-one k) (record {
      done = p.done;
      reached = p.reached;
      low = p.low;
      passed = λ z q lo hi r. ⊎_elim
          (λ (e : suc q ≡ suc k). let z : q ≡ k = omega arith in not_ready (rw (z, ← at) at r))
          (λ (l : suc q < suc k). p.passed z q lo (omega arith) r)
          (eq-or-lt_of_le hi);
      flagged = p.flagged;
      stands = p.stands;
      changes_size = p.changes_size;
    })
      where
        not_ready : ¬ Ready (rules_of t) S (pairs_of slip) p.done (suc i)
        not_ready r =
            let u = p.flagged i h ∙ is_false (names p.done (suc i)) r.unfired in
            rw (rule_at_is t i h, ← p.stands, off u) at r.enabled_then

    -- So is one that was woken, or the next of the stratum.
    pub run_turn : (s from k left : ℕ) (woken : List ℕ) (b : Bool) (bs fired : List Bool) (u : Turn) → u ≡ turn_of positions k woken left
        → (left ≡ 0 → (get_or positions k 0 < t.count) × (stratum_at t (suc (get_or positions k 0)) ≡ s))
        → (stratum_at t (suc u.rule) ≡ s → get_or fired u.rule false ≡ false → enabled S (set_of bs) (rule_of (get_or t.rules u.rule zero_rule)) ≡ false)
        → Running s from k b bs fired → Running s from u.place b bs fired
    unfolding turn_of
    run_turn s from k zero woken b bs fired u e at off p =
        let i : u.rule ≡ get_or positions k 0 = ap (λ (v : Turn). v.rule) e in
        rw (ap (λ (v : Turn). v.place) e) (run_over s from k u.rule b bs fired i (rw i (at refl).0) (off (rw i (at refl).1)) p)
    run_turn s from k (suc left) woken b bs fired u e at off p = rw (ap (λ (v : Turn). v.place) e) p

    -- Where the stratum's last pass fired nothing, what is ready stands higher.
    pub run_higher : (starts : List ℕ) → Sorts t positions starts → (s from k : ℕ) (b : Bool) (bs fired : List Bool) → from ≡ get_or starts s 0 → get_or starts (s + 1) 0 ≤ k → b ≡ false
        → Running s from k b bs fired → Running (s + 1) 0 0 true bs fired
    run_higher starts sorts s from k b bs fired begins past e p = record {
      done = p.done;
      reached = p.reached;
      low = λ m r. higher m r;
      passed = λ z. absurd (true≢false z);
      flagged = p.flagged;
      stands = p.stands;
      changes_size = p.changes_size;
    }
      where
        none_here : (m : ℕ) → Ready (rules_of t) S (pairs_of slip) p.done m → (s ≡ stratum_at t m) → ⊥
        none_here zero r q = omega (arith, r.rule.first)
        none_here (suc m) r q =
            let w = sorts.has m (omega (arith, r.rule.last, count_of t fits sh)) in
            p.passed e w.0 (rw begins (rw (← q) at w.1)) (omega (arith, rw (← q) at w.2, rw (add-one s) at past)) (rw w.3 r)

        higher : (m : ℕ) → Ready (rules_of t) S (pairs_of slip) p.done m → s + 1 ≤ stratum_at t m
        higher m r = ⊎_elim (λ q. absurd (none_here m r q)) (λ (l : s < stratum_at t m). omega arith) (eq-or-lt_of_le (p.low m r))

    module _ (G : Grading) (strata : Strata G (rules_of t) (stratum_at t)) where
      -- An unfired rule of the stratum that is enabled fires.
      pub run_fire : (s from k k' i : ℕ) (b : Bool) (bs fired : List Bool) → i < t.count → i < length fired → stratum_at t (suc i) ≡ s → get_or fired i false ≡ false
          → enabled S (set_of bs) (rule_of (get_or t.rules i zero_rule)) ≡ true
          → Running s from k b bs fired → Running s from k' true (add_pairs (assignments_of (get_or t.rules i zero_rule)) bs) (set fired i true)
      unfolding changes names ◌∨ᵇ◌
      run_fire s from k k' i b bs fired h room st un en p = record {
        done = suc i ∷ p.done;
        reached = fires.0;
        low = fires.1;
        passed = λ z. absurd (true≢false z);
        flagged = λ j l. ⊎_elim
            (λ (e : j ≡ i). rw (e, eq-eqb (suc i) (suc i) refl) (get_or-set_same fired i true false room))
            (λ n. rw (ne_eqb (suc j) (suc i) (λ e. n (omega arith))) (get_or-set_other fired i j true false n ∙ p.flagged j l))
            (either j i);
        stands = fun_ext (λ q. added (assignments_of (get_or t.rules i zero_rule)) bs q p.changes_size (λ x a. assigned_placed (get_or t.rules i zero_rule) x (fits.each_fits i h) a) ∙ rw (p.stands, rule_at_is t i h));
        changes_size = added_length _ bs ∙ p.changes_size;
      }
        where
          fires : Reached (rules_of t) S (pairs_of slip) (stratum_at t) (suc i ∷ p.done) × ((m : ℕ) → Ready (rules_of t) S (pairs_of slip) (suc i ∷ p.done) m → s ≤ stratum_at t m)
          fires = level_fires (rules_of t) S (pairs_of slip) (stratum_at t) G strata s p.done (suc i) p.reached p.low
              (record {
                rule = number t fits sh i h;
                unfired = λ e. rw (sym (p.flagged i h) ∙ un) at e;
                enabled_then = rw (rule_at_is t i h, ← p.stands) (from_true _ en);
              }) st

      -- Past the last stratum that has rules the arrays are those of the response by the numbers carried.
      pub run_end : (starts : List ℕ) (sorts : Sorts t positions starts) (s from k : ℕ) (b : Bool) (bs fired : List Bool) → s ≤ sorts.top → t.count ≤ get_or starts s 0 → Running s from k b bs fired
          → Fired t slip (response_by (rules_of t) S (pairs_of slip) (stratum_at t)) bs fired
      run_end starts sorts s from k b bs fired small past p = record {
        changes_are = is_flags _ bs p.changes_size (p.stands ∙ ended.1);
        flagged = λ i h. p.flagged i h ∙ ap (λ (f : ℕ → Bool). f (suc i)) ended.0;
      }
        where
          top : (m : ℕ) → Numbered (length (rules_of t)) m → stratum_at t m < s
          top zero i = absurd (omega (arith, i.first))
          top (suc m) i = sorts.past s m small past (omega (arith, i.last, count_of t fits sh))

          order : List ℕ
          order = response_by (rules_of t) S (pairs_of slip) (stratum_at t)

          ended : (names p.done ≡ names order) × (changes (rules_of t) (pairs_of slip) p.done ≡ changes (rules_of t) (pairs_of slip) order)
          ended = loop_end G (rules_of t) (stratum_at t) strata S (pairs_of slip) p.done p.reached
              (levels_end (rules_of t) S (pairs_of slip) (stratum_at t) s p.done p.low top)
