-- What rounds and passes keep: no number exceeds any strata, and at rest the numbers are strata, so they are the least.
-- Assumes nothing.
use mathlib.Core.Path.{◌≡◌, refl, ◌∙◌, ap}
use mathlib.Core.Bool.{Bool, true, false, cond, ◌||◌, false≢true, true≢false}
use mathlib.Core.List.{List, [], ◌∷◌}
use mathlib.Core.Logic.{◌⊎◌, inl, inr, ⊎_elim}
use Prim.Native.Nat.{ℕ, zero, suc, ◌+◌, ◌*◌, ◌-◌, ◌≤◌, ◌<◌}
use native.Mathlib.Omega.{arith}
use native.Mathlib.Nat.{eq-or-lt_of_le}
use lib.Dec.{T, ltb}
use Rattle.std.specs.Prelude.{Some, None}
use lib.ListN.{length, get_or, set, replicate, length-set, length-replicate}
use lib.Seq.{get_or-set_same, get_or-set_other}
use borrow.Author.Tests.{lt-ltb, le-ltb}
use Rattle.laws.specs.Numbers.{Numbered}
use Rattle.laws.proofs.Truth.{le_or_lt}
use Rattle.laws.proofs.Equations.{either}
use Rattle.laws.proofs.Tabulated.{is_tabulate}
use Rattle.laws.proofs.Filled.{replicate_at}
use Rattle.model.specs.Rules.{Pair, among}
use Rattle.model.specs.Orders.{rule_at}
use Rattle.model.specs.Strata.{weak, tested, needed, barred, depends_plainly, depends_under_not, may_stay_level, must_fall, Strata}
use Rattle.model.specs.Circles.{circle_of}
use Rattle.model.specs.Least.{strata_of}
use Rattle.model.proofs.Pairs.{needed_tested, barred_tested, meet_e}
use Rattle.model.proofs.Gradings.{plain_no_higher, under_not_smaller}
use Rattle.model.proofs.Strata.{no_circle, least_strata, least_top, least_e}
use Rattle.table.specs.declared.Rule.{Rule}
use Rattle.table.specs.declared.Table.{Table}
use Rattle.laws.specs.Limits.{rule_limit}
use Rattle.table.specs.Zero.{zero_rule}
use Rattle.table.specs.inner.Shape.{Shaped}
use Rattle.table.specs.Link.{assignments_of, rule_of, rules_of}
use Rattle.table.specs.inner.Flat.{place_of, pair_places}
use Rattle.table.specs.inner.Fits.{RuleFits, TableFits}
use Rattle.table.proofs.Link.{rule_at_is}
use Rattle.table.proofs.Flat.{same_place, placed_inside}
use Rattle.table.proofs.Fits.{assigned_placed, count_of, number, tested_in}
use Rattle.strata.specs.inner.Heights.{asked_at, Small, Visited, raise_all, least_numbers}
use Rattle.strata.proofs.Heights.{highest_ge, highest_lt, raise_ge, raise_hit, raise_below, raise_length}

-- The sum of a list.
unfoldable pub sum_of : List ℕ → ℕ
sum_of [] = 0
sum_of (x ∷ xs) = x + sum_of xs

pub sum_set : (xs : List ℕ) (i v : ℕ) → i < length xs → sum_of (set xs i v) + get_or xs i 0 ≡ sum_of xs + v
unfolding sum_of
sum_set [] i v h = absurd (omega arith)
sum_set (x ∷ xs) zero v h = omega arith
sum_set (x ∷ xs) (suc i) v h = omega (arith, sum_set xs i v (omega arith))

pub sum_top : (xs : List ℕ) (b : ℕ) → ((i : ℕ) → get_or xs i 0 ≤ b) → sum_of xs ≤ length xs * b
unfolding sum_of
sum_top [] b h = omega arith
sum_top (x ∷ xs) b h = omega (arith, h 0, sum_top xs b (λ i. h (suc i)))

-- The number of rule n, from 1.
pub number_of : List ℕ → ℕ → ℕ
number_of ns n = get_or (0 ∷ ns) n 0

number_zeros : (n m : ℕ) → number_of (replicate n 0) m ≡ 0
unfolding number_of
number_zeros n zero = refl
number_zeros n (suc m) = replicate_at {A = ℕ} n 0 m

number_same : (ns : List ℕ) (i s : ℕ) → i < length ns → number_of (set ns i s) (suc i) ≡ s
unfolding number_of
number_same ns i s l = get_or-set_same ns i s 0 l

number_other : (ns : List ℕ) (i s m : ℕ) → (m ≡ suc i → ⊥) → number_of (set ns i s) m ≡ number_of ns m
unfolding number_of
number_other ns i s zero e = refl
number_other ns i s (suc m) e = get_or-set_other ns i m s 0 (λ q. e (ap suc q))

module _ (t : Table) where
  -- Between two steps of a pass: ns are the numbers of the rules, hs those at the pairs.
  pub record Rising (ns hs : List ℕ) : Type 0 where
    pub covers : (m : ℕ) (p : Pair) → Numbered (length (rules_of t)) m → T (among p (rule_at (rules_of t) m).assignments) → number_of ns m ≤ get_or hs (place_of p) 0
    pub below : (u : ℕ → ℕ) → Strata weak (rules_of t) u → (m : ℕ) → Numbered (length (rules_of t)) m → number_of ns m ≤ u m
    pub at_needed : (u : ℕ → ℕ) → Strata weak (rules_of t) u → (n : ℕ) (p : Pair) → Numbered (length (rules_of t)) n → T (among p (needed (rule_at (rules_of t) n))) → get_or hs (place_of p) 0 ≤ u n
    pub at_barred : (u : ℕ → ℕ) → Strata weak (rules_of t) u → (n : ℕ) (p : Pair) → Numbered (length (rules_of t)) n → T (among p (barred (rule_at (rules_of t) n))) → get_or hs (place_of p) 0 < u n
    pub low : (k : ℕ) → get_or hs k 0 ≤ t.count
    pub small : (i : ℕ) → get_or ns i 0 ≤ rule_limit
    pub beyond : (i : ℕ) → t.count ≤ i → get_or ns i 0 ≡ 0
    pub numbers_length : length ns ≡ rule_limit
    pub high_length : length hs ≡ pair_places

  -- Each of the rules 1 to k stands as high as it is asked.
  pub Quiet : ℕ → List ℕ → List ℕ → Type 0
  Quiet k ns hs = (m : ℕ) → m ≤ k → Numbered (length (rules_of t)) m → asked_at hs (rule_at (rules_of t) m) ≤ number_of ns m

  -- What visits keep, from the numbers that they started at.
  pub record Risen (ns₀ ns hs : List ℕ) (moved : Bool) : Type 0 where
    pub rising : Rising ns hs
    pub not_less : sum_of ns₀ ≤ sum_of ns
    pub more : moved ≡ true → sum_of ns₀ < sum_of ns

module _ (t : Table) (fits : TableFits t) (sh : Shaped t) where
  pub rising_start : Rising t (replicate rule_limit 0) (replicate pair_places 0)
  rising_start = record {
    covers = λ m p i a. rw number_zeros (omega arith);
    below = λ u L m i. rw number_zeros (omega arith);
    at_needed = λ u L n p i a. rw (replicate_at {A = ℕ} pair_places 0 (place_of p)) (omega arith);
    at_barred = λ u L n p i a. rw (replicate_at {A = ℕ} pair_places 0 (place_of p)) (omega (arith, L.from_one n i));
    low = λ k. rw (replicate_at {A = ℕ} pair_places 0 k) (omega arith);
    small = λ i. rw (replicate_at {A = ℕ} rule_limit 0 i) (omega arith);
    beyond = λ i h. replicate_at {A = ℕ} rule_limit 0 i;
    numbers_length = length-replicate {A = ℕ} rule_limit 0;
    high_length = length-replicate {A = ℕ} pair_places 0;
  }

  -- What is asked of a rule is asked by any strata.
  asked_top : (ns hs : List ℕ) → Rising t ns hs → (u : ℕ → ℕ) → Strata weak (rules_of t) u → (n : ℕ) → Numbered (length (rules_of t)) n → asked_at hs (rule_at (rules_of t) n) ≤ u n
  unfolding asked_at
  asked_top ns hs g u L n i = omega (
    arith,
    highest_lt hs (needed (rule_at (rules_of t) n)) (suc (u n)) (omega arith) (λ p a. omega (arith, g.at_needed u L n p i a)),
    highest_lt hs (barred (rule_at (rules_of t) n)) (u n) (L.from_one n i) (λ p a. g.at_barred u L n p i a),
  )

  -- One rule raised to what it is asked.
  raised : (i : ℕ) (ns hs : List ℕ) (r : Rule) (s : ℕ) → i < t.count → rule_at (rules_of t) (suc i) ≡ rule_of r → RuleFits r
      → s ≡ asked_at hs (rule_of r) → s ≤ t.count → Rising t ns hs → Rising t (set ns i s) (raise_all (assignments_of r) s hs)
  raised i ns hs r s h is f e top g = record {
    covers = λ m p im a. ⊎_elim
        (λ (q : m ≡ suc i). rw (q, number_same ns i s l) (hit p (rw (q, is) at a)))
        (λ q. rw (number_other ns i s m q) (omega (arith, g.covers m p im a, raise_ge (assignments_of r) s hs (place_of p))))
        (either m (suc i));
    below = λ u L m im. ⊎_elim
        (λ (q : m ≡ suc i). rw (q, number_same ns i s l) (top_of u L))
        (λ q. rw (number_other ns i s m q) (g.below u L m im))
        (either m (suc i));
    at_needed = λ u L n p jn a. let z = raise_below (assignments_of r) s hs (place_of p) (suc (u n)) (omega (arith, g.at_needed u L n p jn a))
        (λ q b w. omega (arith, top_of u L, plain_no_higher weak (rules_of t) u L n (suc i) p jn (number t fits sh i h) a (rw is (rw (one_pair n p q jn (needed_tested (rule_at (rules_of t) n) p a) b w) at b)))) in omega (arith, z);
    at_barred = λ u L n p jn a. raise_below (assignments_of r) s hs (place_of p) (u n) (g.at_barred u L n p jn a)
        (λ q b w. omega (arith, top_of u L, under_not_smaller weak (rules_of t) u L n (suc i) p jn (number t fits sh i h) a (rw is (rw (one_pair n p q jn (barred_tested (rule_at (rules_of t) n) p a) b w) at b))));
    low = λ k. let z = raise_below (assignments_of r) s hs k (suc t.count) (omega (arith, g.low k)) (λ q b w. omega (arith, top)) in omega (arith, z);
    small = λ k. ⊎_elim
        (λ (q : k ≡ i). rw (q, get_or-set_same ns i s 0 l) (omega (arith, fits.rules_fit)))
        (λ q. rw (get_or-set_other ns i k s 0 q) (g.small k))
        (either k i);
    beyond = λ k le. get_or-set_other ns i k s 0 (λ (q : k ≡ i). omega arith) ∙ g.beyond k le;
    numbers_length = length-set ns i s ∙ g.numbers_length;
    high_length = raise_length (assignments_of r) s hs ∙ g.high_length;
  }
    where
      l : i < length ns
      l = omega (arith, g.numbers_length, fits.rules_fit)

      hit : (p : Pair) → T (among p (assignments_of r)) → s ≤ get_or (raise_all (assignments_of r) s hs) (place_of p) 0
      hit p a = raise_hit (assignments_of r) s hs p (omega (arith, placed_inside p (assigned_placed r p f a), g.high_length)) a

      top_of : (u : ℕ → ℕ) → Strata weak (rules_of t) u → s ≤ u (suc i)
      top_of u L = omega (arith, e, rw is at (asked_top ns hs g u L (suc i) (number t fits sh i h)))

      one_pair : (n : ℕ) (p q : Pair) → Numbered (length (rules_of t)) n → T (among p (tested (rule_at (rules_of t) n))) → T (among q (assignments_of r)) → place_of q ≡ place_of p → q ≡ p
      one_pair n p q jn a b w =
          same_place q p (assigned_placed r q f b).in_row (tested_in t fits sh n p jn a).in_row w

  rising_step : (i : ℕ) (ns hs : List ℕ) (s : ℕ) → i < t.count → s ≡ asked_at hs (rule_of (get_or t.rules i zero_rule)) → s ≤ t.count
      → Rising t ns hs → Rising t (set ns i s) (raise_all (assignments_of (get_or t.rules i zero_rule)) s hs)
  rising_step i ns hs s l e top g = raised i ns hs (get_or t.rules i zero_rule) s l (rule_at_is t i l) (fits.each_fits i l) e top g

  pub quiet_start : (ns hs : List ℕ) → Quiet t 0 ns hs
  unfolding Quiet
  quiet_start ns hs m le i = absurd (omega (arith, i.first))

  -- A rule that asks for no more is at rest.
  pub quiet_more : (i : ℕ) (ns hs : List ℕ) (s : ℕ) → i < t.count → s ≡ asked_at hs (rule_of (get_or t.rules i zero_rule)) → s ≤ get_or ns i 0
      → Quiet t i ns hs → Quiet t (i + 1) ns hs
  unfolding Quiet number_of
  quiet_more i ns hs s l e lt q = λ m le im. ⊎_elim
      (λ (z : m ≡ suc i). rw (z, rule_at_is t i l) (omega (arith, e)))
      (λ (z : m < suc i). q m (omega arith) im)
      (eq-or-lt_of_le (let w : m ≤ suc i = omega arith in w))

  pub risen_start : (ns hs : List ℕ) → Rising t ns hs → Risen t ns ns hs false
  risen_start ns hs g = record { rising = g; not_less = omega arith; more = λ z. absurd (false≢true z) }

  pub risen_step : (ns₀ : List ℕ) (i s : ℕ) (ns hs : List ℕ) (moved : Bool) → i < t.count → s ≡ asked_at hs (rule_of (get_or t.rules i zero_rule)) → s ≤ t.count → get_or ns i 0 < s
      → Risen t ns₀ ns hs moved → Risen t ns₀ (set ns i s) (raise_all (assignments_of (get_or t.rules i zero_rule)) s hs) true
  risen_step ns₀ i s ns hs moved l e top lt k =
      let z = sum_set ns i s (omega (arith, k.rising.numbers_length, fits.rules_fit)) in
      record {
        rising = rising_step i ns hs s l e top k.rising;
        not_less = omega (arith, z, k.not_less);
        more = λ w. omega (arith, z, k.not_less);
      }

  -- The numbers at the pairs can be raised by one.
  pub rising_small : (ns hs : List ℕ) → Rising t ns hs → Small hs
  rising_small ns hs g = record { below = λ k. omega (arith, g.low k, fits.rules_fit) }

  -- At rest the numbers are strata.
  rest_strata : (ns hs : List ℕ) → Rising t ns hs → Quiet t t.count ns hs → Strata weak (rules_of t) (number_of ns)
  unfolding Quiet may_stay_level must_fall depends_plainly depends_under_not asked_at
  rest_strata ns hs g q = record {
    from_one = λ n i. omega (arith, q n (last n i) i);
    no_higher = λ n m i j w.
        let x = meet_e _ _ w in
        omega (arith, g.covers m x.0 j x.2, highest_ge hs (needed (rule_at (rules_of t) n)) x.0 x.1, q n (last n i) i);
    smaller = λ n m i j w.
        let x = meet_e _ _ w in
        omega (arith, g.covers m x.0 j x.2, highest_ge hs (barred (rule_at (rules_of t) n)) x.0 x.1, q n (last n i) i);
  }
    where
      last : (n : ℕ) → Numbered (length (rules_of t)) n → n ≤ t.count
      last n i = omega (arith, i.last, count_of t fits sh)

  -- Then there is no circle, and they are the least, since no strata are lower.
  pub rest_least : (ns hs : List ℕ) → Rising t ns hs → Quiet t t.count ns hs → (circle_of weak (rules_of t) ≡ 0) × (ns ≡ least_numbers t)
  unfolding least_numbers number_of
  rest_least ns hs g q = (
    no_circle weak (rules_of t) (number_of ns) (rest_strata ns hs g q),
    is_tabulate (λ i. cond (ltb i t.count) (strata_of weak (rules_of t) (suc i)) 0) rule_limit 0 ns g.numbers_length (λ i h. by_count i (le_or_lt t.count i)),
  )
    where
      by_count : (i : ℕ) → (t.count ≤ i) ⊎ (i < t.count) → get_or ns i 0 ≡ cond (ltb i t.count) (strata_of weak (rules_of t) (suc i)) 0
      by_count i (inl le) = rw (le-ltb i t.count le) (g.beyond i le)
      by_count i (inr lt) = rw (lt-ltb i t.count lt) (least_e weak (rules_of t) (number_of ns) (record { strata = rest_strata ns hs g q; least = λ u s n j. g.below u s n j }) (suc i) (number t fits sh i lt))

  -- A number above the number of rules is no least stratum, so there is a circle.
  pub above_circled : (i s : ℕ) (ns hs : List ℕ) → Rising t ns hs → i < t.count → s ≡ asked_at hs (rule_of (get_or t.rules i zero_rule)) → t.count < s → circle_of weak (rules_of t) ≡ 0 → ⊥
  above_circled i s ns hs g l e top z =
      let L = least_strata weak (rules_of t) z in
      omega (
        arith,
        e,
        count_of t fits sh,
        least_top weak (rules_of t) z (suc i) (number t fits sh i l),
        rw (rule_at_is t i l) at (asked_top ns hs g _ L (suc i) (number t fits sh i l)),
      )

  -- What a visit to a rule leaves: something risen if it raised the rule or something had risen before, or a rule at rest; or there is a circle.
  pub visited_risen : (ns₀ : List ℕ) (top i : ℕ) (ns hs ns' hs' : List ℕ) (moved b : Bool) → t.count ≡ top → i < t.count → Visited (get_or t.rules i zero_rule) top i ns hs ns' hs' (Some b)
      → Risen t ns₀ ns hs moved → Risen t ns₀ ns' hs' (moved || b)
  visited_risen ns₀ top i ns hs ns' hs' true true c l (a, m, n, h) k = rw (n, h) (risen_step ns₀ i _ ns hs true l refl (omega (arith, c, a)) m k)
  visited_risen ns₀ top i ns hs ns' hs' false true c l (a, m, n, h) k = rw (n, h) (risen_step ns₀ i _ ns hs false l refl (omega (arith, c, a)) m k)
  visited_risen ns₀ top i ns hs ns' hs' true false c l (a, m, n, h) k = rw (n, h) k
  visited_risen ns₀ top i ns hs ns' hs' false false c l (a, m, n, h) k = rw (n, h) k

  pub visited_quiet : (top i : ℕ) (ns hs ns' hs' : List ℕ) (moved b : Bool) → t.count ≡ top → i < t.count → Visited (get_or t.rules i zero_rule) top i ns hs ns' hs' (Some b)
      → (moved ≡ false → Quiet t i ns hs) → (moved || b) ≡ false → Quiet t (i + 1) ns' hs'
  visited_quiet top i ns hs ns' hs' true true c l v q z = absurd (true≢false z)
  visited_quiet top i ns hs ns' hs' false true c l v q z = absurd (true≢false z)
  visited_quiet top i ns hs ns' hs' true false c l v q z = absurd (true≢false z)
  visited_quiet top i ns hs ns' hs' false false c l (a, m, n, h) q z = rw (n, h) (quiet_more i ns hs _ l refl m (q refl))

  pub visited_circled : (top i : ℕ) (ns hs ns' hs' : List ℕ) → t.count ≡ top → i < t.count → Visited (get_or t.rules i zero_rule) top i ns hs ns' hs' None → Rising t ns hs → circle_of weak (rules_of t) ≡ 0 → ⊥
  visited_circled top i ns hs ns' hs' c l v g = above_circled i _ ns hs g l refl (omega (arith, c, v))

-- The measure of rounds and passes: as many numbers as there can be rules, each at most as high, can rise so often in all; one that moves something raises the sum, and one that moves nothing is the last.
unfoldable pub passes_left : List ℕ → Bool → ℕ
passes_left ns moved = 2 * (rule_limit * rule_limit - sum_of ns) + cond moved 1 0

pub pass_falls : (t : Table) (ns₀ ns hs : List ℕ) (moved : Bool) → Risen t ns₀ ns hs moved → passes_left ns moved < passes_left ns₀ true
unfolding passes_left
pass_falls t ns₀ ns hs moved k = go moved k.more
  where
    top : sum_of ns ≤ rule_limit * rule_limit
    top = omega (arith, sum_top ns rule_limit k.rising.small, k.rising.numbers_length)

    go : (m : Bool) → (m ≡ true → sum_of ns₀ < sum_of ns) → 2 * (rule_limit * rule_limit - sum_of ns) + cond m 1 0 < 2 * (rule_limit * rule_limit - sum_of ns₀) + 1
    go true f = omega (arith, f refl, top)
    go false f = omega (arith, k.not_less, top)
