-- What a loop that fires keeps: the fired rules, last first, are reached by firing lowest strata first. Such rules stay enabled.
-- Assumes nothing.
use Prim.Native.Nat.{ℕ, ◌≤◌, ◌<◌}
use native.Mathlib.Omega.{arith}
use mathlib.Core.Path.{◌≡◌, sym}
use mathlib.Core.List.{List, [], ◌∷◌, reverse, reverse-cons, reverse-reverse}
use mathlib.Core.Logic.{⊎_elim}
use lib.Dec.{T}
use lib.ListN.{length}
use Rattle.laws.specs.Numbers.{Numbered}
use Rattle.laws.proofs.Truth.{or_r, or_e, le_or_lt}
use Rattle.model.specs.Rules.{Pair, Rule, enabled}
use Rattle.model.specs.Orders.{rule_at, names, changes, firing_order, whole_order}
use Rattle.model.specs.Strata.{Grading, Strata}
use Rattle.model.proofs.Changes.{names_more, names_e, names_none, names_reverse}
use Rattle.model.proofs.Enabled.{enabled_up}
use Rattle.model.proofs.Orders.{Ready, fire_none, fire_last, Complete, Consistent, complete_same, consistent_same, whole_i}
use Rattle.model.proofs.Gradings.{plain_no_higher, under_not_smaller}

module _ (rs : List Rule) (S : List ℕ) (I : List Pair) (t : ℕ → ℕ) where
  -- n is ready and of the lowest stratum that has a ready rule.
  pub record Lowest (done : List ℕ) (n : ℕ) : Type 0 where
    pub is_ready : Ready rs S I done n
    pub lowest : (m : ℕ) → Ready rs S I done m → t n ≤ t m

  -- The rules of a list, last first, have fired one after the other, each of the lowest stratum that had a ready rule.
  pub data Reached : List ℕ → Type 0 where
    start : Reached []
    fire : {done : List ℕ} {n : ℕ} → Reached done → Lowest done n → Reached (n ∷ done)

  -- In the order fired they are a firing order.
  pub reached_order : {done : List ℕ} → Reached done → T (firing_order rs S I (reverse done))
  unfolding firing_order
  reached_order start = fire_none rs S I []
  reached_order (fire {done = done} {n = n} r lo) =
      rw (reverse-cons n done) (fire_last rs S I [] (reverse done) n (reached_order r) (rw (reverse-reverse done) lo.is_ready))

  module _ (G : Grading) (strata : Strata G rs t) where
    -- What is ready after n has fired stands no lower than n.
    pub next_no_lower : (done : List ℕ) (n m : ℕ) → Lowest done n → Ready rs S I (n ∷ done) m → t n ≤ t m
    unfolding changes
    next_no_lower done n m lo r = ⊎_elim (λ le. le) (λ (lt : t m < t n). lo.lowest m (before lt)) (le_or_lt (t n) (t m))
      where
        before : t m < t n → Ready rs S I done m
        before lt = record {
          rule = r.rule;
          unfired = λ u. r.unfired (names_more m n done u);
          enabled_then =
              enabled_up S (changes rs I (n ∷ done)) (changes rs I (n ∷ done)) (changes rs I done) (rule_at rs m)
              (λ p a h. ⊎_elim (λ b. absurd (omega (arith, plain_no_higher G rs t strata m n p r.rule lo.is_ready.rule a b))) (λ b. b) (or_e _ _ h))
              (λ p a h. or_r _ _ h) r.enabled_then r.enabled_then;
        }

    -- All that has fired is enabled, and stands no higher than what is ready.
    Kept : List ℕ → Type 0
    Kept done = (n : ℕ) → T (names done n) → Numbered (length rs) n × T (enabled S (changes rs I done) (rule_at rs n)) × ((m : ℕ) → Ready rs S I done m → t n ≤ t m)

    still : (done : List ℕ) (n m : ℕ) → Lowest done n → Numbered (length rs) m → t m ≤ t n → T (enabled S (changes rs I done) (rule_at rs m))
        → T (enabled S (changes rs I (n ∷ done)) (rule_at rs m))
    unfolding changes
    still done n m lo i le h =
        enabled_up S (changes rs I done) (changes rs I done) (changes rs I (n ∷ done)) (rule_at rs m)
        (λ p a b. or_r _ _ b)
        (λ p a b. ⊎_elim (λ c. absurd (omega (arith, under_not_smaller G rs t strata m n p i lo.is_ready.rule a c))) (λ c. c) (or_e _ _ b)) h h

    kept : (done : List ℕ) (n : ℕ) → Lowest done n → Kept done → Kept (n ∷ done)
    unfolding Kept
    kept done n lo k m u =
        ⊎_elim
        (λ (e : m ≡ n). rw e (lo.is_ready.rule, still done n n lo lo.is_ready.rule (omega arith) lo.is_ready.enabled_then, λ x r. next_no_lower done n x lo r))
        (λ (d : T (names done m)). (
          (k m d).0,
          still done n m lo (k m d).0 ((k m d).2 n lo.is_ready) (k m d).1,
          λ x r. omega (arith, next_no_lower done n x lo r, (k m d).2 n lo.is_ready),
        ))
        (names_e m n done u)

    keeps : {done : List ℕ} → Reached done → Kept done
    unfolding Kept
    keeps start = λ n u. absurd (names_none n u)
    keeps (fire {done = done} {n = n} r lo) = kept done n lo (keeps r)

    -- The fired rules of such a loop are enabled at every moment after they fired.
    pub reached_consistent : {done : List ℕ} → Reached done → Consistent rs S I done
    unfolding Consistent Kept
    reached_consistent r n u = (keeps r n u).1

    -- Where nothing is ready any more, the rules in the order fired are a complete and consistent firing order.
    pub reached_whole : (done : List ℕ) → Reached done → Complete rs S I done → T (whole_order rs S I (reverse done))
    reached_whole done r c =
        let e = names_reverse done in
        whole_i rs S I (reverse done) (record {
          order = reached_order r;
          completes = complete_same rs S I done (reverse done) (sym e) c;
          stays_consistent = consistent_same rs S I done (reverse done) (sym e) (reached_consistent r);
        })

    -- A loop that goes through the strata: at `level` nothing that is ready stands lower. A ready rule of that stratum may fire, and this stays so.
    pub level_fires : (level : ℕ) (done : List ℕ) (n : ℕ) → Reached done → ((m : ℕ) → Ready rs S I done m → level ≤ t m) → Ready rs S I done n → t n ≡ level
        → Reached (n ∷ done) × ((m : ℕ) → Ready rs S I (n ∷ done) m → level ≤ t m)
    level_fires level done n r low i e =
        let lo : Lowest done n = record { is_ready = i; lowest = λ m j. omega (arith, low m j) } in
        (fire r lo, λ m j. omega (arith, next_no_lower done n m lo j))

  -- Past the last stratum nothing is ready.
  pub levels_end : (level : ℕ) (done : List ℕ) → ((m : ℕ) → Ready rs S I done m → level ≤ t m) → ((m : ℕ) → Numbered (length rs) m → t m < level) → Complete rs S I done
  unfolding Complete
  levels_end level done low top n r = omega (arith, low n r, top n r.rule)
