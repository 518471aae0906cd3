-- The response is a complete and consistent firing order, and so is what any loop ends with that fires lowest strata first.
-- Assumes nothing.
use Prim.Native.Nat.{ℕ, zero, suc, ◌≤◌, ◌<◌}
use native.Mathlib.Omega.{arith}
use native.Mathlib.Nat.{eq-or-lt_of_le}
use mathlib.Core.Path.{◌≡◌, refl, sym, ◌∙◌}
use mathlib.Core.Bool.{Bool, true, false, not, cond}
use mathlib.Core.List.{List, [], ◌∷◌, reverse, reverse_aux, reverse-reverse}
use mathlib.Core.Logic.{◌⊎◌, inl, inr, ⊎_elim}
use lib.Dec.{T, ltb, ltb→lt, nltb→le}
use lib.ListN.{length}
use Rattle.laws.specs.Truth.{notᵇ}
use Rattle.laws.proofs.Truth.{not_i}
use Rattle.laws.proofs.Numbers.{how_many_zero}
use Rattle.model.specs.Rules.{Pair, Rule}
use Rattle.model.specs.Orders.{names, changes, ready, whole_order}
use Rattle.model.specs.Strata.{Grading, Strata}
use Rattle.model.specs.Response.{lower, next_of, fire_then, fire_on, response_by}
use Rattle.model.proofs.Changes.{names_reverse, changes_same}
use Rattle.model.proofs.Orders.{Ready, ready_e, ready_i, Complete, unfired_count, fewer, all_unfired}
use Rattle.model.proofs.Unique.{unique}
use Rattle.model.proofs.Loop.{Lowest, Reached, start, fire, reached_whole}

module _ (rs : List Rule) (S : List ℕ) (I : List Pair) (t : ℕ → ℕ) where
  -- The rule chosen of 1 to k: none is ready, or it is ready and none of them stands lower.
  Chosen : List ℕ → ℕ → ℕ → Type 0
  Chosen done k b = ((b ≡ 0) × ((m : ℕ) → m ≤ k → ¬ Ready rs S I done m)) ⊎ (Ready rs S I done b × ((m : ℕ) → m ≤ k → Ready rs S I done m → t b ≤ t m))

  lower_chosen : (done : List ℕ) (k : ℕ) → Ready rs S I done (suc k) → (b : ℕ) → Chosen done k b → Chosen done (suc k) (lower t b (suc k))
  unfolding Chosen lower
  lower_chosen done k r zero (inl x) = inr (r, λ m h s. ⊎_elim (λ (e : m ≡ suc k). rw e (omega arith)) (λ (l : m < suc k). absurd (x.1 m (omega arith) s)) (eq-or-lt_of_le h))
  lower_chosen done k r zero (inr x) = absurd (omega (arith, x.0.rule.first))
  lower_chosen done k r (suc b) (inl x) = absurd (omega (arith, x.0))
  lower_chosen done k r (suc b) (inr x) = go (ltb (t (suc k)) (t (suc b))) (ltb→lt _ _) (nltb→le _ _)
    where
      go : (c : Bool) → (T c → t (suc k) < t (suc b)) → (T (not c) → t (suc b) ≤ t (suc k)) → Chosen done (suc k) (cond c (suc k) (suc b))
      go true lt ge = inr (r, λ m h s. ⊎_elim (λ (e : m ≡ suc k). rw e (omega arith)) (λ (l : m < suc k). omega (arith, lt tt, x.1 m (omega arith) s)) (eq-or-lt_of_le h))
      go false lt ge = inr (x.0, λ m h s. ⊎_elim (λ (e : m ≡ suc k). rw e (ge tt)) (λ (l : m < suc k). x.1 m (omega arith) s) (eq-or-lt_of_le h))

  next_chosen : (done : List ℕ) (k : ℕ) (b : ℕ) → Chosen done k b → (c : Bool) → (T c → Ready rs S I done (suc k)) → (Ready rs S I done (suc k) → T c)
      → Chosen done (suc k) (cond c (lower t b (suc k)) b)
  unfolding Chosen
  next_chosen done k b h true f g = lower_chosen done k (f tt) b h
  next_chosen done k b (inl x) false f g = inl (x.0, λ m h r. ⊎_elim (λ (e : m ≡ suc k). g (rw e at r)) (λ (l : m < suc k). x.1 m (omega arith) r) (eq-or-lt_of_le h))
  next_chosen done k b (inr x) false f g = inr (x.0, λ m h r. ⊎_elim (λ (e : m ≡ suc k). absurd (g (rw e at r))) (λ (l : m < suc k). x.1 m (omega arith) r) (eq-or-lt_of_le h))

  chosen : (done : List ℕ) (k : ℕ) → Chosen done k (next_of rs S I t done k)
  unfolding Chosen next_of
  chosen done zero = inl (refl, λ m h r. omega (arith, r.rule.first))
  chosen done (suc k) = next_chosen done k (next_of rs S I t done k) (chosen done k) (ready rs S I done (suc k)) (ready_e rs S I done (suc k)) (ready_i rs S I done (suc k))

  -- The next rule of the response: none where none is ready, else a ready rule of the lowest stratum that has one.
  pub next_right : (done : List ℕ)
      → ((next_of rs S I t done (length rs) ≡ 0) × Complete rs S I done) ⊎ Lowest rs S I t done (next_of rs S I t done (length rs))
  unfolding Chosen Complete
  next_right done =
      ⊎_elim (λ x. inl (x.0, λ n r. x.1 n r.rule.last r)) (λ x. inr (record { is_ready = x.0; lowest = λ m r. x.1 m r.rule.last r })) (chosen done (length rs))

  Ended : List ℕ → List ℕ → Type 0
  Ended done ns = Reached rs S I t (reverse_aux ns done) × Complete rs S I (reverse_aux ns done)

  ended_then : (done : List ℕ) (rest : ℕ → List ℕ) → Reached rs S I t done → ((n : ℕ) → Lowest rs S I t done n → Ended (n ∷ done) (rest n))
      → (b : ℕ) → ((b ≡ 0) × Complete rs S I done) ⊎ Lowest rs S I t done b → Ended done (fire_then b rest)
  unfolding Ended fire_then
  ended_then done rest re rec zero (inl x) = (re, x.1)
  ended_then done rest re rec zero (inr x) = absurd (omega (arith, x.is_ready.rule.first))
  ended_then done rest re rec (suc b) (inl x) = absurd (omega (arith, x.0))
  ended_then done rest re rec (suc b) (inr x) = rec (suc b) x

  ended : (k : ℕ) (done : List ℕ) → unfired_count rs done ≤ k → Reached rs S I t done → Ended done (fire_on rs S I t k done)
  unfolding fire_on Ended Complete unfired_count
  ended zero done le re = (re, λ n r. how_many_zero (λ m. notᵇ (names done m)) (length rs) (omega arith) n r.rule.first r.rule.last (not_i _ r.unfired))
  ended (suc k) done le re =
      ended_then done (λ n. fire_on rs S I t k (n ∷ done)) re
      (λ n lo. ended k (n ∷ done) (omega (arith, fewer rs S I done n lo.is_ready)) (fire re lo)) (next_of rs S I t done (length rs)) (next_right done)

  -- The response fires lowest strata first, until nothing is ready.
  pub response_reached : Reached rs S I t (reverse (response_by rs S I t)) × Complete rs S I (reverse (response_by rs S I t))
  unfolding response_by Ended
  response_reached = ended (length rs) [] (all_unfired rs []) start

-- Existence: the response by any strata is a complete and consistent firing order.
pub response_whole : (G : Grading) (rs : List Rule) (t : ℕ → ℕ) → Strata G rs t → (S : List ℕ) (I : List Pair) → T (whole_order rs S I (response_by rs S I t))
response_whole G rs t s S I =
    let r = response_reached rs S I t in
    rw reverse-reverse at (reached_whole rs S I t G s (reverse (response_by rs S I t)) r.0 r.1)

-- A loop's end: nothing is ready any more. Then it has fired what the response fires, and its C is the response's.
pub loop_end : (G : Grading) (rs : List Rule) (t : ℕ → ℕ) → Strata G rs t → (S : List ℕ) (I : List Pair) (done : List ℕ) → Reached rs S I t done → Complete rs S I done
    → (names done ≡ names (response_by rs S I t)) × (changes rs I done ≡ changes rs I (response_by rs S I t))
loop_end G rs t s S I done r c =
    let u = unique G rs t s S I (reverse done) (response_by rs S I t) (reached_whole rs S I t G s done r c) (response_whole G rs t s S I) in
    let e = sym (names_reverse done) ∙ u.0 in
    (e, changes_same rs I done (response_by rs S I t) e)
