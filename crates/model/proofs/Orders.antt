-- Firing orders by facts: what the tests of a firing order say, and back.
-- Assumes nothing.
use Prim.Native.Nat.{ℕ, ◌≤◌, ◌<◌}
use mathlib.Core.Path.{◌≡◌, sym, subst}
use mathlib.Core.List.{List, [], ◌∷◌, ◌++◌, reverse_aux}
use mathlib.Core.Logic.{⊎_elim}
use lib.Dec.{T, leb→le, le→leb}
use lib.ListN.{length}
use Rattle.laws.specs.Truth.{notᵇ}
use Rattle.laws.specs.Numbers.{Numbered, how_many}
use Rattle.laws.proofs.Truth.{and_l, and_r, and_i, not_e, not_i, stable}
use Rattle.laws.proofs.Numbers.{some_i, some_e, how_many_top, how_many_lt}
use Rattle.model.specs.Rules.{Pair, Pairs, Rule, enabled}
use Rattle.model.specs.Orders.{rule_at, names, changes, ready, can_fire, firing_order, complete, consistent, whole_order}
use Rattle.model.proofs.Changes.{names_first, names_more, names_e, names_none, each_e, each_i, changes_same}

-- How many rules are unfired: so many can still fire.
unfoldable pub unfired_count : List Rule → List ℕ → ℕ
unfired_count rs done = how_many (λ n. notᵇ (names done n)) (length rs)

-- At most all rules are unfired.
pub all_unfired : (rs : List Rule) (done : List ℕ) → unfired_count rs done ≤ length rs
unfolding unfired_count
all_unfired rs done = how_many_top _ (length rs)

module _ (rs : List Rule) (S : List ℕ) (I : List Pair) where
  -- n can fire where the rules of `done` have fired.
  pub record Ready (done : List ℕ) (n : ℕ) : Type 0 where
    pub rule : Numbered (length rs) n
    pub unfired : ¬ T (names done n)
    pub enabled_then : T (enabled S (changes rs I done) (rule_at rs n))

  -- What the test says.
  pub ready_e : (done : List ℕ) (n : ℕ) → T (ready rs S I done n) → Ready done n
  unfolding ready
  ready_e done n t = record {
    rule = record { first = leb→le 1 n (search (and_l, and_r)); last = leb→le n (length rs) (search (and_l, and_r)) };
    unfired = not_e (names done n) (search (and_l, and_r));
    enabled_then = search (and_l, and_r);
  }

  -- And back.
  pub ready_i : (done : List ℕ) (n : ℕ) → Ready done n → T (ready rs S I done n)
  unfolding ready
  ready_i done n r =
      and_i _ _ (and_i _ _ (and_i _ _ (le→leb 1 n r.rule.first) (le→leb n (length rs) r.rule.last)) (not_i _ r.unfired)) r.enabled_then

  -- What can fire depends on what the list names, and not on its order.
  pub ready_same : (a b : List ℕ) (n : ℕ) → names a ≡ names b → Ready a n → Ready b n
  ready_same a b n e r = record {
    rule = r.rule;
    unfired = λ t. r.unfired (rw e t);
    enabled_then = subst (λ (C : Pairs). T (enabled S C (rule_at rs n))) (changes_same rs I a b e) r.enabled_then;
  }

  -- Each firing leaves fewer.
  pub fewer : (done : List ℕ) (n : ℕ) → Ready done n → unfired_count rs (n ∷ done) < unfired_count rs done
  unfolding unfired_count
  fewer done n r =
      how_many_lt _ _ (length rs) (λ i lo hi u. not_i _ (λ h. not_e _ u (names_more i n done h))) n r.rule.first r.rule.last
      (not_i _ (λ h. not_e _ h (names_first n done))) (not_i _ r.unfired)

  -- The first rule of a list that can fire is ready.
  pub fire_first : (done ns : List ℕ) (n : ℕ) → T (can_fire rs S I done (n ∷ ns)) → Ready done n
  unfolding can_fire
  fire_first done ns n t = ready_e done n (and_l _ _ t)

  -- After it the rest can fire.
  pub fire_rest : (done ns : List ℕ) (n : ℕ) → T (can_fire rs S I done (n ∷ ns)) → T (can_fire rs S I (n ∷ done) ns)
  unfolding can_fire
  fire_rest done ns n t = and_r _ _ t

  -- A ready rule, and a list that can fire after it, can fire.
  pub fire_i : (done ns : List ℕ) (n : ℕ) → Ready done n → T (can_fire rs S I (n ∷ done) ns) → T (can_fire rs S I done (n ∷ ns))
  unfolding can_fire
  fire_i done ns n r t = and_i _ _ (ready_i done n r) t

  -- The empty list can fire.
  pub fire_none : (done : List ℕ) → T (can_fire rs S I done [])
  unfolding can_fire
  fire_none done = tt

  -- A list that can fire, and a rule that is ready after it, can fire.
  pub fire_last : (done ns : List ℕ) (n : ℕ) → T (can_fire rs S I done ns) → Ready (reverse_aux ns done) n → T (can_fire rs S I done (ns ++ n ∷ []))
  fire_last done [] n t r = fire_i done [] n r (fire_none (n ∷ done))
  fire_last done (m ∷ ns) n t r = fire_i done (ns ++ n ∷ []) m (fire_first done ns m t) (fire_last (m ∷ done) ns n (fire_rest done ns m t) r)

  -- The numbers of a firing order are numbers of rules.
  pub are_rules : (done ns : List ℕ) → T (can_fire rs S I done ns) → (n : ℕ) → T (names ns n) → Numbered (length rs) n
  are_rules done [] t n h = absurd (names_none n h)
  are_rules done (m ∷ ns) t n h =
      ⊎_elim (λ (e : n ≡ m). rw e (fire_first done ns m t).rule) (λ s. are_rules (m ∷ done) ns (fire_rest done ns m t) n s) (names_e n m ns h)

  -- Nothing is ready where the rules of a list have fired.
  unfoldable pub Complete : List ℕ → Type 0
  Complete ns = (n : ℕ) → ¬ Ready ns n

  -- Every rule of a list is enabled where they have fired.
  unfoldable pub Consistent : List ℕ → Type 0
  Consistent ns = (n : ℕ) → T (names ns n) → T (enabled S (changes rs I ns) (rule_at rs n))

  -- What the test `complete` says.
  pub complete_e : (ns : List ℕ) → T (complete rs S I ns) → Complete ns
  unfolding complete Complete
  complete_e ns t n r = not_e _ t (some_i _ (length rs) n r.rule (ready_i ns n r))

  -- And back.
  pub complete_i : (ns : List ℕ) → Complete ns → T (complete rs S I ns)
  unfolding complete Complete
  complete_i ns c = not_i _ (λ t. let w = some_e _ (length rs) t in c w.0 (ready_e ns w.0 w.2))

  -- What the test `consistent` says.
  pub consistent_e : (ns : List ℕ) → T (consistent rs S I ns) → Consistent ns
  unfolding consistent Consistent
  consistent_e ns t = each_e _ ns t

  -- And back.
  pub consistent_i : (ns : List ℕ) → Consistent ns → T (consistent rs S I ns)
  unfolding consistent Consistent
  consistent_i ns c = each_i _ ns c

  -- Complete in other words: every rule that is enabled has fired.
  pub all_fired : (ns : List ℕ) → Complete ns → (n : ℕ) → Numbered (length rs) n → T (enabled S (changes rs I ns) (rule_at rs n)) → T (names ns n)
  unfolding Complete
  all_fired ns c n i h = stable (names ns n) (λ u. c n (record { rule = i; unfired = u; enabled_then = h }))

  -- Complete does not depend on the order of a list.
  pub complete_same : (a b : List ℕ) → names a ≡ names b → Complete a → Complete b
  unfolding Complete
  complete_same a b e c n r = c n (ready_same b a n (sym e) r)

  -- Consistent does not depend on the order of a list.
  pub consistent_same : (a b : List ℕ) → names a ≡ names b → Consistent a → Consistent b
  unfolding Consistent
  consistent_same a b e c n t = subst (λ (C : Pairs). T (enabled S C (rule_at rs n))) (changes_same rs I a b e) (c n (rw e t))

  -- A complete and consistent firing order.
  pub record WholeOrder (ns : List ℕ) : Type 0 where
    pub order : T (firing_order rs S I ns)
    pub completes : Complete ns
    pub stays_consistent : Consistent ns

  -- What the test `outcome` says.
  pub whole_e : (ns : List ℕ) → T (whole_order rs S I ns) → WholeOrder ns
  unfolding whole_order
  whole_e ns t = record {
    order = and_l _ _ (and_l _ _ t);
    completes = complete_e ns (and_r _ _ (and_l _ _ t));
    stays_consistent = consistent_e ns (and_r _ _ t);
  }

  -- And back.
  pub whole_i : (ns : List ℕ) → WholeOrder ns → T (whole_order rs S I ns)
  unfolding whole_order
  whole_i ns o = and_i _ _ (and_i _ _ o.order (complete_i ns o.completes)) (consistent_i ns o.stays_consistent)

  -- Its numbers are numbers of rules.
  pub rules_of : (ns : List ℕ) → WholeOrder ns → (n : ℕ) → T (names ns n) → Numbered (length rs) n
  unfolding firing_order
  rules_of ns o n t = are_rules [] ns o.order n t
