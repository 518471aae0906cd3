-- Any two complete and consistent firing orders of rules that have strata name the same rules and end with the same C.
-- Assumes nothing.
use Prim.Native.Nat.{ℕ, zero, suc, ◌≤◌, ◌<◌}
use native.Mathlib.Omega.{arith}
use mathlib.Core.Path.{◌≡◌, fun_ext}
use mathlib.Core.List.{List, [], ◌∷◌}
use mathlib.Core.Logic.{⊎_elim}
use lib.Dec.{T}
use lib.ListN.{length}
use Rattle.laws.specs.Numbers.{Numbered}
use Rattle.laws.proofs.Truth.{bool_ext}
use Rattle.model.specs.Rules.{Pair, Rule, among, enabled}
use Rattle.model.specs.Orders.{rule_at, names, changes, can_fire, firing_order, whole_order}
use Rattle.model.specs.Strata.{needed, barred, Grading, Strata}
use Rattle.model.proofs.Changes.{names_first, names_more, names_e, names_none, from_slip, from_rule, cause, changes_same}
use Rattle.model.proofs.Enabled.{enabled_up}
use Rattle.model.proofs.Orders.{Ready, fire_first, fire_rest, Complete, Consistent, all_fired, WholeOrder, whole_e, rules_of}
use Rattle.model.proofs.Gradings.{plain_no_higher, under_not_smaller}

module _ (G : Grading) (rs : List Rule) (S : List ℕ) (I : List Pair) (t : ℕ → ℕ) (strata : Strata G rs t) where
  -- One step: n, ready after `done` and enabled at the end `e` of its own order, is in the complete order `f`.
  -- `f` has the rules of `done` up to stratum k, and `e` those of `f` below it.
  carried : (k : ℕ) (done e f : List ℕ) (n : ℕ) → Ready rs S I done n → t n ≤ k
      → ((m : ℕ) → T (names done m) → Numbered (length rs) m × (t m ≤ k → T (names f m)))
      → ((m : ℕ) → T (names f m) → Numbered (length rs) m × (t m < k → T (names e m)))
      → T (enabled S (changes rs I e) (rule_at rs n)) → Complete rs S I f → T (names f n)
  carried k done e f n r le forth back con cpl =
      all_fired rs S I f cpl n r.rule (enabled_up S (changes rs I done) (changes rs I e) (changes rs I f) (rule_at rs n) has lacks r.enabled_then con)
    where
      has : (p : Pair) → T (among p (needed (rule_at rs n))) → T (changes rs I done p) → T (changes rs I f p)
      has p a h =
          ⊎_elim (from_slip rs I f p)
          (λ c. from_rule rs I f p c.0
          ((forth c.0 c.1).1 (omega (arith, plain_no_higher G rs t strata n c.0 p r.rule (forth c.0 c.1).0 a c.2))) c.2)
          (cause rs I done p h)

      lacks : (p : Pair) → T (among p (barred (rule_at rs n))) → T (changes rs I f p) → T (changes rs I e p)
      lacks p a h =
          ⊎_elim (from_slip rs I e p)
          (λ c. from_rule rs I e p c.0
          ((back c.0 c.1).1 (omega (arith, under_not_smaller G rs t strata n c.0 p r.rule (back c.0 c.1).0 a c.2))) c.2)
          (cause rs I f p h)

  -- Along an order: what it fires up to stratum k is in the other one.
  along : (k : ℕ) (e f done ns : List ℕ) → T (can_fire rs S I done ns) → ((m : ℕ) → T (names ns m) → T (names e m))
      → ((m : ℕ) → T (names done m) → Numbered (length rs) m × (t m ≤ k → T (names f m)))
      → ((m : ℕ) → T (names f m) → Numbered (length rs) m × (t m < k → T (names e m)))
      → Consistent rs S I e → Complete rs S I f → (m : ℕ) → T (names ns m) → t m ≤ k → T (names f m)
  unfolding Consistent
  along k e f done [] st ends forth back con cpl m h le = absurd (names_none m h)
  along k e f done (n ∷ ns) st ends forth back con cpl m h le =
      let r = fire_first rs S I done ns n st in
      let fires : t n ≤ k → T (names f n) = λ l. carried k done e f n r l forth back (con n (ends n (names_first n ns))) cpl in
      ⊎_elim
      (λ (q : m ≡ n). rw q (fires (rw q at le)))
      (λ s. along k e f (n ∷ done) ns (fire_rest rs S I done ns n st) (λ x u. ends x (names_more x n ns u))
      (λ x u. ⊎_elim (λ (q : x ≡ n). rw q (r.rule, fires)) (forth x) (names_e x n done u)) back con cpl m s le)
      (names_e m n ns h)

  -- By strata from below: what one order fires, the other fires.
  below : (k : ℕ) (a b : List ℕ) → WholeOrder rs S I a → WholeOrder rs S I b → (m : ℕ) → T (names a m) → t m < k → T (names b m)
  unfolding firing_order
  below zero a b A B m h lt = absurd (omega arith)
  below (suc k) a b A B m h lt =
      along k a b [] a A.order (λ x u. u) (λ x u. absurd (names_none x u)) (λ x u. (rules_of rs S I b B x u, below k b a B A x u))
      A.stays_consistent B.completes m h (omega arith)

  same_fired : (a b : List ℕ) → WholeOrder rs S I a → WholeOrder rs S I b → names a ≡ names b
  same_fired a b A B =
      fun_ext (λ n. bool_ext (names a n) (names b n) (λ h. below (suc (t n)) a b A B n h (omega arith)) (λ h. below (suc (t n)) b a B A n h (omega arith)))

-- Uniqueness, for strata of either kind.
pub unique : (G : Grading) (rs : List Rule) (t : ℕ → ℕ) → Strata G rs t → (S : List ℕ) (I : List Pair) (a b : List ℕ) → T (whole_order rs S I a) → T (whole_order rs S I b)
    → (names a ≡ names b) × (changes rs I a ≡ changes rs I b)
unique G rs t s S I a b A B =
    let e = same_fired G rs S I t s a b (whole_e rs S I a A) (whole_e rs S I b B) in (e, changes_same rs I a b e)
