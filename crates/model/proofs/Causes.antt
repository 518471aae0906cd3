-- Rules that have no cause outside their set fire in no order, whatever the strata.
-- Assumes nothing.
use Prim.Native.Nat.{ℕ}
use mathlib.Core.Path.{◌≡◌}
use mathlib.Core.Bool.{Bool}
use mathlib.Core.List.{List, [], ◌∷◌}
use mathlib.Core.Logic.{⊎_elim}
use lib.Dec.{T}
use lib.ListN.{length}
use Rattle.laws.specs.Numbers.{Numbered}
use Rattle.laws.proofs.Truth.{and_l, and_r, not_e}
use Rattle.model.specs.Rules.{Pair, Rule, was, became}
use Rattle.model.specs.Orders.{rule_at, names, changes, can_fire, firing_order}
use Rattle.model.specs.Causes.{FromInside, NoOutsideCause}
use Rattle.model.proofs.Changes.{names_e, names_none, cause}
use Rattle.model.proofs.Enabled.{needed_became}
use Rattle.model.proofs.Orders.{Ready, fire_first, fire_rest}

module _ (rs : List Rule) (S : List ℕ) (I : List Pair) (X : ℕ → Bool) (closed : NoOutsideCause rs S I X) where
  -- None of them has fired so far.
  abbrev Idle : List ℕ → Type 0
  Idle done = (n : ℕ) → T (names done n) → Numbered (length rs) n × (¬ T (X n))

  -- Then none of them is ready.
  none_ready : (done : List ℕ) → Idle done → (n : ℕ) → Ready rs S I done n → ¬ T (X n)
  unfolding NoOutsideCause FromInside became
  none_ready done idle n r t =
      let w = closed n r.rule t in
      let b = needed_became S (changes rs I done) (rule_at rs n) w.0 r.enabled_then w.1 in
      ⊎_elim (λ h. not_e (was S w.0) (and_l _ _ b) h)
      (λ h. ⊎_elim h.0 (λ c. let d = idle c.0 c.1 in d.1 (h.1 c.0 d.0 c.2)) (cause rs I done w.0 (and_r _ _ b)))
      w.2

  none_fires : (done ns : List ℕ) → Idle done → T (can_fire rs S I done ns) → (n : ℕ) → T (names ns n) → ¬ T (X n)
  none_fires done [] idle t n h = absurd (names_none n h)
  none_fires done (m ∷ ns) idle t n h =
      let r = fire_first rs S I done ns m t in
      let u = none_ready done idle m r in
      ⊎_elim (λ (e : n ≡ m). rw e u)
      (λ s. none_fires (m ∷ done) ns (λ q k. ⊎_elim (λ (e : q ≡ m). rw e (r.rule, u)) (idle q) (names_e q m done k)) (fire_rest rs S I done ns m t) n s)
      (names_e n m ns h)

  -- No firing order names one of them.
  pub uncaused : (ns : List ℕ) → T (firing_order rs S I ns) → (n : ℕ) → T (X n) → ¬ T (names ns n)
  unfolding firing_order
  uncaused ns t n x h = none_fires [] ns (λ q k. absurd (names_none q k)) t n h x
