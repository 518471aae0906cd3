-- What the test of the carried strata comes to: the numbers are strata, and each is justified.
-- Assumes nothing.
use mathlib.Core.Path.{◌≡◌, sym, ◌∙◌}
use mathlib.Core.Bool.{false}
use mathlib.Core.List.{List}
use mathlib.Core.Logic.{◌⊎◌, inl, inr, ⊎_elim, ◌↔◌}
use Prim.Native.Nat.{ℕ, zero, suc, ◌+◌, ◌≤◌, ◌<◌}
use native.Mathlib.Nat.{eq-or-lt_of_le}
use native.Mathlib.Omega.{arith}
use lib.Dec.{T, eqb, eqb→eq}
use lib.ListN.{length, get_or, replicate, length-replicate}
use borrow.Author.Tests.{eq-eqb}
use Rattle.laws.specs.Truth.{notᵇ}
use Rattle.laws.specs.Numbers.{Numbered}
use Rattle.laws.proofs.Truth.{and_l, and_r, and_i, not_e, not_i, stable, bool_ext}
use Rattle.laws.proofs.Equations.{from_true}
use Rattle.laws.proofs.Numbers.{some_i, some_e}
use Rattle.laws.proofs.Filled.{replicate_at}
use Rattle.model.specs.Rules.{Pair, among}
use Rattle.model.specs.Orders.{rule_at}
use Rattle.model.specs.Strata.{weak, needed, barred, depends_plainly, depends_under_not, may_stay_level, must_fall, Strata}
use Rattle.model.specs.inner.Justified.{Justified}
use Rattle.model.specs.Circles.{circle_of}
use Rattle.model.specs.Least.{LeastStrata, strata_of}
use Rattle.model.proofs.Pairs.{needed_tested, barred_tested, meet_e}
use Rattle.model.proofs.Gradings.{plain_no_higher, under_not_smaller}
use Rattle.model.proofs.Justified.{justified_least, least_justified}
use Rattle.model.proofs.Strata.{no_circle, least_i, least_e, least_top}
use Rattle.table.specs.declared.Rule.{Rule}
use Rattle.table.specs.declared.Table.{Table}
use Rattle.laws.specs.Limits.{row, rule_limit}
use Rattle.table.specs.Zero.{zero_rule}
use Rattle.table.specs.inner.Shape.{Shaped}
use Rattle.table.specs.Link.{assignments_of, rule_of, rules_of, stratum_at}
use Rattle.table.specs.inner.Flat.{place_of, pair_places}
use Rattle.table.specs.inner.Fits.{RuleFits, TableFits}
use Rattle.table.proofs.Link.{rule_at_is, stratum_at_is}
use Rattle.table.proofs.Flat.{same_place, placed_inside}
use Rattle.table.proofs.Fits.{assigned_placed, count_of, number, tested_in}
use Rattle.strata.specs.inner.Heights.{asked_at, Small, raise_all}
use Rattle.leastness.specs.CarriesLeast.{carries_least}
use Rattle.strata.proofs.Heights.{highest_ge, highest_lt, raise_ge, raise_hit, raise_from, raise_length}

module _ (t : Table) where
  -- The numbers that rules 1 to i carry stand at the pairs that they assign: the highest of those that assign a pair.
  pub record Carried (i : ℕ) (hs : List ℕ) : Type 0 where
    pub covers : (m : ℕ) (p : Pair) → Numbered (length (rules_of t)) m → m ≤ i → T (among p (rule_at (rules_of t) m).assignments) → stratum_at t m ≤ get_or hs (place_of p) 0
    pub attained : (p : Pair) → p.value < row → (get_or hs (place_of p) 0 ≡ 0)
        ⊎ ((m : ℕ) × Numbered (length (rules_of t)) m × T (among p (rule_at (rules_of t) m).assignments) × (stratum_at t m ≡ get_or hs (place_of p) 0))
    pub all_small : (k : ℕ) → get_or hs k 0 ≤ rule_limit
    pub places : length hs ≡ pair_places

  -- Each of the rules 1 to k carries a number as high as it is asked.
  unfoldable pub Valid : ℕ → List ℕ → Type 0
  Valid k hs = (m : ℕ) → m ≤ k → Numbered (length (rules_of t)) m → asked_at hs (rule_at (rules_of t) m) ≤ stratum_at t m

  -- The test's part on strata, rule by rule.
  pub carries_i : circle_of weak (rules_of t) ≡ 0 → ((n : ℕ) → Numbered (length (rules_of t)) n → stratum_at t n ≡ strata_of weak (rules_of t) n) → T (carries_least t)
  unfolding carries_least
  carries_i z e = and_i (eqb (circle_of weak (rules_of t)) 0) _ (from_true (eqb (circle_of weak (rules_of t)) 0) (eq-eqb (circle_of weak (rules_of t)) 0 z))
      (not_i _ (λ u. let w = some_e _ (length (rules_of t)) u in not_e (eqb (stratum_at t w.0) (strata_of weak (rules_of t) w.0)) w.2 (from_true _ (eq-eqb (stratum_at t w.0) (strata_of weak (rules_of t) w.0) (e w.0 w.1)))))

  pub carries_e : T (carries_least t) → (circle_of weak (rules_of t) ≡ 0) × ((n : ℕ) → Numbered (length (rules_of t)) n → stratum_at t n ≡ strata_of weak (rules_of t) n)
  unfolding carries_least
  carries_e u = (
    eqb→eq (circle_of weak (rules_of t)) 0 (and_l (eqb (circle_of weak (rules_of t)) 0) _ u),
    λ n i. eqb→eq (stratum_at t n) (strata_of weak (rules_of t) n) (stable (eqb (stratum_at t n) (strata_of weak (rules_of t) n))
        (λ f. not_e _ (and_r (eqb (circle_of weak (rules_of t)) 0) _ u) (some_i (λ m. notᵇ (eqb (stratum_at t m) (strata_of weak (rules_of t) m))) (length (rules_of t)) n i (not_i (eqb (stratum_at t n) (strata_of weak (rules_of t) n)) f)))),
  )

  -- It passes exactly the least strata.
  pub carries_iff : T (carries_least t) ↔ LeastStrata weak (rules_of t) (stratum_at t)
  carries_iff = (
    λ u. let w = carries_e u in least_i weak (rules_of t) (stratum_at t) w.0 w.1,
    λ l. carries_i (no_circle weak (rules_of t) (stratum_at t) l.strata) (least_e weak (rules_of t) (stratum_at t) l),
  )

module _ (t : Table) (fits : TableFits t) (sh : Shaped t) where
  pub carried_start : Carried t 0 (replicate pair_places 0)
  carried_start = record {
    covers = λ m p i le a. absurd (omega (arith, i.first));
    attained = λ p h. inl (replicate_at {A = ℕ} pair_places 0 (place_of p));
    all_small = λ k. rw (replicate_at {A = ℕ} pair_places 0 k) (omega arith);
    places = length-replicate {A = ℕ} pair_places 0;
  }

  carried : (i : ℕ) (hs : List ℕ) (r : Rule) (s : ℕ) → i < t.count → rule_at (rules_of t) (suc i) ≡ rule_of r → RuleFits r → s ≡ stratum_at t (suc i) → s ≤ rule_limit
      → Carried t i hs → Carried t (i + 1) (raise_all (assignments_of r) s hs)
  carried i hs r s h is f e lt g = record {
    covers = λ m p im le a. ⊎_elim
        (λ (q : m ≡ suc i). rw q (omega (arith, e, hit p (rw (q, is) at a))))
        (λ (q : m < suc i). omega (arith, g.covers m p im (omega arith) a, raise_ge (assignments_of r) s hs (place_of p)))
        (eq-or-lt_of_le (let w : m ≤ suc i = omega arith in w));
    attained = λ p v. ⊎_elim
        (λ d. ⊎_elim (λ z. inl (d ∙ z)) (λ w. inr (w.0, w.1, w.2, w.3 ∙ sym d)) (g.attained p v))
        (λ w. inr (suc i, number t fits sh i h, rw is (rw (same_place w.0 p (assigned_placed r w.0 f w.1).in_row v w.2) at w.1), sym e ∙ sym w.3))
        (raise_from (assignments_of r) s hs (place_of p));
    all_small = λ k. ⊎_elim (λ d. rw d (g.all_small k)) (λ w. rw w.3 lt) (raise_from (assignments_of r) s hs k);
    places = raise_length (assignments_of r) s hs ∙ g.places;
  }
    where
      hit : (p : Pair) → T (among p (assignments_of r)) → s ≤ get_or (raise_all (assignments_of r) s hs) (place_of p) 0
      hit p a = raise_hit (assignments_of r) s hs p (omega (arith, placed_inside p (assigned_placed r p f a), g.places)) a

  pub carried_step : (i : ℕ) (hs : List ℕ) (s : ℕ) → i < t.count → s ≡ (get_or t.rules i zero_rule).stratum → s ≤ rule_limit → Carried t i hs → Carried t (i + 1) (raise_all (assignments_of (get_or t.rules i zero_rule)) s hs)
  carried_step i hs s h e low g = carried i hs (get_or t.rules i zero_rule) s h (rule_at_is t i h) (fits.each_fits i h) (e ∙ sym (stratum_at_is t i h)) low g

  pub carried_small : (i : ℕ) (hs : List ℕ) → Carried t i hs → Small hs
  carried_small i hs g = record { below = λ k. omega (arith, g.all_small k) }

  module _ (hs : List ℕ) (g : Carried t t.count hs) where
    pub last : (m : ℕ) → Numbered (length (rules_of t)) m → m ≤ t.count
    last m i = omega (arith, i.last, count_of t fits sh)

    -- A valid table's numbers are strata.
    pub valid_strata : Valid t t.count hs → Strata weak (rules_of t) (stratum_at t)
    unfolding Valid asked_at may_stay_level must_fall depends_plainly depends_under_not
    valid_strata q = record {
      from_one = λ n i. omega (arith, q n (last n i) i);
      no_higher = λ n m i j w.
          let x = meet_e _ _ w in
          omega (arith, g.covers m x.0 j (last m j) x.2, highest_ge hs (needed (rule_at (rules_of t) n)) x.0 x.1, q n (last n i) i);
      smaller = λ n m i j w.
          let x = meet_e _ _ w in
          omega (arith, g.covers m x.0 j (last m j) x.2, highest_ge hs (barred (rule_at (rules_of t) n)) x.0 x.1, q n (last n i) i);
    }

    -- And strata are valid.
    pub strata_valid : Strata weak (rules_of t) (stratum_at t) → (n : ℕ) → Numbered (length (rules_of t)) n → asked_at hs (rule_at (rules_of t) n) ≤ stratum_at t n
    unfolding asked_at
    strata_valid L n i = omega (
      arith,
      highest_lt hs (needed (rule_at (rules_of t) n)) (suc (stratum_at t n)) (omega arith)
          (λ p a. ⊎_elim
          (λ z. omega (arith, z))
          (λ w. omega (arith, w.3, plain_no_higher weak (rules_of t) (stratum_at t) L n w.0 p i w.1 a w.2))
          (g.attained p (tested_in t fits sh n p i (needed_tested (rule_at (rules_of t) n) p a)).in_row)),
      highest_lt hs (barred (rule_at (rules_of t) n)) (stratum_at t n) (L.from_one n i)
          (λ p a. ⊎_elim
          (λ z. omega (arith, z, L.from_one n i))
          (λ w. omega (arith, w.3, under_not_smaller weak (rules_of t) (stratum_at t) L n w.0 p i w.1 a w.2))
          (g.attained p (tested_in t fits sh n p i (barred_tested (rule_at (rules_of t) n) p a)).in_row)),
    )

    -- Where rules depend plainly on each other within a stratum, the pair between them has its highest number there.
    pub level_pair : Valid t t.count hs → (n m : ℕ) (p : Pair) → Numbered (length (rules_of t)) n → Numbered (length (rules_of t)) m
        → T (among p (needed (rule_at (rules_of t) n))) → T (among p (rule_at (rules_of t) m).assignments) → stratum_at t n ≡ stratum_at t m → stratum_at t m ≡ get_or hs (place_of p) 0
    unfolding Valid asked_at
    level_pair q n m p i j a b e = omega (arith, e, g.covers m p j (last m j) b, highest_ge hs (needed (rule_at (rules_of t) n)) p a, q n (last n i) i)

  pub valid_start : (hs : List ℕ) → Valid t 0 hs
  unfolding Valid
  valid_start hs m le i = absurd (omega (arith, i.first))

  pub valid_more : (k : ℕ) (hs : List ℕ) (s h : ℕ) → k < t.count → s ≡ (get_or t.rules k zero_rule).stratum → h ≡ asked_at hs (rule_of (get_or t.rules k zero_rule)) → h ≤ s
      → Valid t k hs → Valid t (k + 1) hs
  unfolding Valid
  valid_more k hs s h l e d w q = λ m le im. ⊎_elim
      (λ (z : m ≡ suc k). rw (z, rule_at_is t k l, stratum_at_is t k l) (omega (arith, e, d, w)))
      (λ (z : m < suc k). q m (omega arith) im)
      (eq-or-lt_of_le (let x : m ≤ suc k = omega arith in x))

  -- The answers of the code. A rule that carries less than it is asked.
  pub not_valid : (hs : List ℕ) (k : ℕ) (s h : ℕ) → Carried t t.count hs → k < t.count → s ≡ (get_or t.rules k zero_rule).stratum → h ≡ asked_at hs (rule_of (get_or t.rules k zero_rule))
      → s < h → false ≡ carries_least t
  not_valid hs k s h g l e d w = bool_ext false (carries_least t) (λ u. absurd u) (λ u.
      let x = rw (rule_at_is t k l, stratum_at_is t k l) at (strata_valid hs g ((carries_iff t).0 u).strata (suc k) (number t fits sh k l)) in
      omega (arith, e, d, x, w))

  -- Where the least are carried, none is above the number of rules.
  pub carries_low : T (carries_least t) → (k : ℕ) → k < t.count → stratum_at t (suc k) ≤ t.count
  carries_low u k l =
      let w = carries_e t u in
      let i = number t fits sh k l in
      omega (arith, w.1 (suc k) i, least_top weak (rules_of t) w.0 (suc k) i, count_of t fits sh)

  -- A rule that carries more is answered so too.
  pub not_low : (k s : ℕ) → k < t.count → s ≡ (get_or t.rules k zero_rule).stratum → t.count < s → false ≡ carries_least t
  not_low k s l e h = bool_ext false (carries_least t) (λ u. absurd u) (λ u. omega (arith, carries_low u k l, stratum_at_is t k l, e, h))

  -- Where the least are carried, each is justified.
  pub carries_justified : T (carries_least t) → (k : ℕ) → k < t.count → Justified weak (rules_of t) (stratum_at t) (suc k)
  carries_justified u k l = least_justified weak (rules_of t) (stratum_at t) ((carries_iff t).0 u).strata (carries_e t u).1 (suc k) (number t fits sh k l)

  -- Where each is as high as it is asked and justified, they are the least.
  pub justified_carries : (hs : List ℕ) → Carried t t.count hs → Valid t t.count hs → ((k : ℕ) → k < t.count → Justified weak (rules_of t) (stratum_at t) (suc k)) → T (carries_least t)
  justified_carries hs g q h = carries_i t (no_circle weak (rules_of t) (stratum_at t) L) (justified_least weak (rules_of t) (stratum_at t) L each)
    where
      L : Strata weak (rules_of t) (stratum_at t)
      L = valid_strata hs g q

      each : (n : ℕ) → Numbered (length (rules_of t)) n → Justified weak (rules_of t) (stratum_at t) n
      each zero i = absurd (omega (arith, i.first))
      each (suc k) i = h k (omega (arith, i.last, count_of t fits sh))
