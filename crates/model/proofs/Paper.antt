-- Complete firing orders are the declarative responses of Definition 1; the response is rule-consistent by Definition 2, and correct where it is slot-consistent.
-- Assumes nothing.
use Prim.Native.Nat.{ℕ, zero, suc, ◌+◌, ◌≤◌, ◌<◌}
use native.Mathlib.Omega.{arith}
use mathlib.Core.Path.{◌≡◌, refl, sym, ap, subst, ◌∙◌}
use mathlib.Core.List.{List, [], ◌∷◌, reverse, reverse_aux, reverse-cons, reverse-reverse}
use mathlib.Core.Logic.{◌⊎◌, inl, inr, ⊎_elim, ◌↔◌}
use lib.Dec.{T}
use lib.ListN.{length}
use Rattle.model.specs.Rules.{Pair, Rule}
use Rattle.model.specs.Orders.{names, changes, can_fire, firing_order, complete, whole_order}
use Rattle.model.specs.Strata.{Grading}
use Rattle.model.specs.Circles.{circle_of}
use Rattle.model.specs.Response.{response}
use Rattle.model.specs.Result.{conflict_slot, Bounded}
use Rattle.model.specs.Paper.{Firing, first_firing, fire, Fireable, NoneFireable, Follows, DeclarativeResponse, RuleConsistent, SlotConsistent, Unambiguous, Correct, firing_of, firings_from, firings}
use Rattle.model.proofs.Changes.{names_reverse, changes_same}
use Rattle.model.proofs.Orders.{unfired_count, all_unfired, fewer, Ready, fire_none, fire_first, fire_rest, fire_last, Complete, complete_e, complete_i, complete_same, Consistent, whole_e, whole_i}
use Rattle.model.proofs.Demand3.{response_is_whole, demand_3}
use Rattle.model.proofs.Results.{no_conflict_e, no_conflict_i}

module _ (rs : List Rule) (S : List ℕ) (I : List Pair) where
  -- Fireable at the firing of a list of rules is ready after them.
  to_ready : (done : List ℕ) (r : ℕ) → Fireable rs S (firing_of rs I done) r → Ready rs S I done r
  unfolding firing_of
  to_ready done r f = record { rule = f.rule; unfired = f.unfired; enabled_then = f.enabled_there }

  of_ready : (done : List ℕ) (r : ℕ) → Ready rs S I done r → Fireable rs S (firing_of rs I done) r
  unfolding firing_of
  of_ready done r y = record { rule = y.rule; unfired = y.unfired; enabled_there = y.enabled_then }

  none_complete : (done : List ℕ) → NoneFireable rs S (firing_of rs I done) → Complete rs S I done
  unfolding NoneFireable Complete
  none_complete done h n r = h n (of_ready done n r)

  complete_none : (done : List ℕ) → Complete rs S I done → NoneFireable rs S (firing_of rs I done)
  unfolding NoneFireable Complete
  complete_none done h r f = h r (to_ready done r f)

  firing_same : (a b : List ℕ) → names a ≡ names b → firing_of rs I a ≡ firing_of rs I b
  unfolding firing_of
  firing_same a b e = let c = changes_same rs I a b e in λ i. record { changed = c i; fired = e i }

  first_is : first_firing I ≡ firing_of rs I []
  unfolding first_firing firing_of changes names
  first_is = refl

  fire_is : (done : List ℕ) (r : ℕ) → fire rs (firing_of rs I done) r ≡ firing_of rs I (r ∷ done)
  unfolding fire firing_of changes names
  fire_is done r = refl

  -- The firings of an order follow one another, and the last one stays.
  follows : (done ns : List ℕ) (i : ℕ) → T (can_fire rs S I done ns) → NoneFireable rs S (firing_of rs I (reverse_aux ns done))
      → Follows rs S (firings_from rs I done ns i) (firings_from rs I done ns (suc i))
  unfolding Follows firings_from
  follows done [] zero st rest = inr (rest, refl)
  follows done [] (suc i) st rest = inr (rest, refl)
  follows done (n ∷ ns) zero st rest = inl (n, of_ready done n (fire_first rs S I done ns n st), sym (fire_is done n))
  follows done (n ∷ ns) (suc i) st rest = follows (n ∷ done) ns i (fire_rest rs S I done ns n st) rest

  last_from : (done ns : List ℕ) → firings_from rs I done ns (length ns) ≡ firing_of rs I (reverse_aux ns done)
  unfolding firings_from
  last_from done [] = refl
  last_from done (n ∷ ns) = last_from (n ∷ done) ns

  -- The firing after the last rule of an order is that of the rules it names.
  pub firings_last : (ns : List ℕ) → firings rs I ns (length ns) ≡ firing_of rs I ns
  unfolding firings
  firings_last ns = last_from [] ns ∙ firing_same (reverse ns) ns (names_reverse ns)

  -- A complete firing order is a declarative response.
  pub order_declarative : (ns : List ℕ) → T (firing_order rs S I ns) → T (complete rs S I ns)
      → DeclarativeResponse rs S I (firings rs I ns) × NoneFireable rs S (firings rs I ns (length ns))
  unfolding firing_order firings firings_from
  order_declarative ns o c =
      let d = complete_e rs S I ns c in
      let rest = complete_none (reverse ns) (complete_same rs S I ns (reverse ns) (sym (names_reverse ns)) d) in
      (record { starts = sym first_is; goes_on = λ i. follows [] ns i o rest }, subst (NoneFireable rs S) (sym (last_from [] ns)) rest)

  module _ (σ : ℕ → Firing) (D : DeclarativeResponse rs S I σ) where
    -- One more firing of a declarative response, where the rules of `done`, last first, have fired.
    next_fired : (k r : ℕ) (done : List ℕ) → T (firing_order rs S I (reverse done)) → σ k ≡ firing_of rs I done → Fireable rs S (σ k) r → σ (suc k) ≡ fire rs (σ k) r
        → Ready rs S I done r × T (firing_order rs S I (reverse (r ∷ done))) × (σ (suc k) ≡ firing_of rs I (r ∷ done))
    unfolding firing_order
    next_fired k r done o e f q =
        let y : Ready rs S I done r = to_ready done r (subst (λ (τ : Firing). Fireable rs S τ r) e f) in (
          y,
          rw (reverse-cons r done) (fire_last rs S I [] (reverse done) r o (rw (reverse-reverse done) y)),
          q ∙ ap (λ (τ : Firing). fire rs τ r) e ∙ fire_is done r,
        )

    prefix : (k : ℕ) → (done : List ℕ) × T (firing_order rs S I (reverse done)) × (σ k ≡ firing_of rs I done)
    unfolding Follows firing_order
    prefix zero = ([], fire_none rs S I [], D.starts ∙ first_is)
    prefix (suc k) =
        let w = prefix k in
        ⊎_elim (λ f. let x = next_fired k f.0 w.0 w.1 w.2 f.1 f.2 in (f.0 ∷ w.0, x.1, x.2)) (λ f. (w.0, w.1, f.1 ∙ w.2)) (D.goes_on k)

    -- Each firing of a declarative response is that of a firing order.
    pub declarative_order : (k : ℕ) → (ns : List ℕ) × T (firing_order rs S I ns) × (σ k ≡ firing_of rs I ns)
    declarative_order k = let w = prefix k in (reverse w.0, w.1, w.2 ∙ firing_same w.0 (reverse w.0) (sym (names_reverse w.0)))

    Ended : ℕ → Type 0
    Ended k = ((m : ℕ) × (m < k) × NoneFireable rs S (σ m))
        ⊎ ((done : List ℕ) × T (firing_order rs S I (reverse done)) × (σ k ≡ firing_of rs I done) × (unfired_count rs done + k ≤ length rs))

    ended : (k : ℕ) → Ended k
    unfolding Ended Follows firing_order
    ended zero = inr ([], fire_none rs S I [], D.starts ∙ first_is, omega (arith, all_unfired rs []))
    ended (suc k) =
        ⊎_elim (λ w. inl (w.0, omega (arith, w.1), w.2))
        (λ w. ⊎_elim
        (λ f. let x = next_fired k f.0 w.0 w.1 w.2 f.1 f.2 in inr (f.0 ∷ w.0, x.1, x.2, omega (arith, w.3, fewer rs S I w.0 f.0 x.0)))
        (λ f. inl (k, omega arith, f.0)) (D.goes_on k))
        (ended k)

    -- A declarative response has a finite length: after at most as many firings as there are rules no rule is fireable.
    pub finite_length : (m : ℕ) × (m ≤ length rs) × NoneFireable rs S (σ m)
    unfolding Ended
    finite_length = ⊎_elim (λ w. (w.0, omega (arith, w.1), w.2)) (λ w. absurd (omega (arith, w.3))) (ended (suc (length rs)))

    -- Where it ends rule-consistent, it is a complete and consistent firing order.
    pub declarative_whole : (k : ℕ) → NoneFireable rs S (σ k) → RuleConsistent rs S (σ k) → (ns : List ℕ) × T (whole_order rs S I ns) × (σ k ≡ firing_of rs I ns)
    unfolding RuleConsistent Consistent firing_of
    declarative_whole k rest con =
        let w = declarative_order k in (
          w.0,
          whole_i rs S I w.0 (record {
            order = w.1;
            completes = none_complete w.0 (subst (NoneFireable rs S) w.2 rest);
            stays_consistent = subst (RuleConsistent rs S) w.2 con;
          }),
          w.2,
        )

module _ (G : Grading) (rs : List Rule) (S : List ℕ) (I : List Pair) (no_circle : circle_of G rs ≡ 0) where
  -- The response is a declarative response of Definition 1, and no rule is fireable after its last rule.
  pub response_declarative : DeclarativeResponse rs S I (firings rs I (response G rs S I)) × NoneFireable rs S (firing_of rs I (response G rs S I))
  response_declarative =
      let o = whole_e rs S I (response G rs S I) (response_is_whole G rs S I no_circle) in
      let d = order_declarative rs S I (response G rs S I) o.order (complete_i rs S I (response G rs S I) o.completes) in
      (d.0, subst (NoneFireable rs S) (firings_last rs S I (response G rs S I)) d.1)

  -- It is rule-consistent by Definition 2.
  pub response_rule_consistent : RuleConsistent rs S (firing_of rs I (response G rs S I))
  unfolding RuleConsistent firing_of Consistent
  response_rule_consistent = (whole_e rs S I (response G rs S I) (response_is_whole G rs S I no_circle)).stays_consistent

  -- Every declarative response that ends rule-consistent ends at the firing of the response: with the same changes and the same fired rules.
  pub declarative_agrees : (σ : ℕ → Firing) (k : ℕ) → DeclarativeResponse rs S I σ → NoneFireable rs S (σ k) → RuleConsistent rs S (σ k) → σ k ≡ firing_of rs I (response G rs S I)
  declarative_agrees σ k D rest con =
      let w = declarative_whole rs S I σ D k rest con in
      w.2 ∙ firing_same rs S I w.0 (response G rs S I) ((demand_3 G rs S I no_circle).1 w.0 w.1).0

  -- It is unambiguous.
  pub response_unambiguous : Unambiguous rs S I (firing_of rs I (response G rs S I))
  unfolding Unambiguous
  response_unambiguous τ k D rest con slots = ap (λ (x : Firing). x.changed) (declarative_agrees τ k D rest con)

  -- Where it is slot-consistent it is correct (section 7).
  pub response_correct : SlotConsistent (firing_of rs I (response G rs S I)) → Correct rs S I (firing_of rs I (response G rs S I))
  response_correct s = record { rule_consistent = response_rule_consistent; slot_consistent = s; unambiguous = response_unambiguous }

  -- It is slot-consistent exactly where no slot is in conflict.
  pub slot_consistent_iff : (slots values : ℕ) → Bounded slots values (changes rs I (response G rs S I))
      → SlotConsistent (firing_of rs I (response G rs S I)) ↔ (conflict_slot slots values (changes rs I (response G rs S I)) ≡ slots)
  unfolding SlotConsistent firing_of
  slot_consistent_iff slots values b = (no_conflict_i values (changes rs I (response G rs S I)) slots b, no_conflict_e values (changes rs I (response G rs S I)) slots b)
