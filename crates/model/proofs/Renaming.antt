-- The same rules at other numbers: firing orders, outcomes and strata go over by renaming.
-- Assumes nothing.
use Prim.Native.Nat.{ℕ, zero, suc, ◌<◌}
use native.Mathlib.Omega.{arith}
use mathlib.Core.Path.{◌≡◌, refl, sym, ap, ap₂, subst, ◌∙◌}
use mathlib.Core.List.{List, [], ◌∷◌, map}
use mathlib.Core.Logic.{⊎_elim}
use lib.Dec.{T}
use lib.ListN.{length}
use Rattle.laws.specs.Truth.{◌∨ᵇ◌}
use Rattle.laws.specs.Numbers.{Numbered}
use Rattle.laws.specs.Rearranged.{Perm, under, goes}
use Rattle.laws.specs.inner.Back.{p_sym}
use Rattle.laws.proofs.Truth.{bool_ext}
use Rattle.laws.proofs.Rearranged.{under_under, under_at, goes_back, back_goes, goes_at, goes_lt}
use Rattle.model.specs.Rules.{Pair, Pairs, Rule, among}
use Rattle.model.specs.Orders.{no_rule, rule_at, names, changes, can_fire, firing_order, whole_order}
use Rattle.model.specs.Strata.{Grading, Strata}
use Rattle.model.proofs.Changes.{names_first, names_more, names_e, names_none}
use Rattle.model.proofs.Orders.{Ready, fire_none, fire_first, fire_rest, fire_i, Complete, Consistent, whole_e, whole_i}
use Rattle.model.proofs.Gradings.{level_moved, fall_moved}

-- f takes a rule's number to its new number, g back.
pub record Renaming (rs rs' : List Rule) (f g : ℕ → ℕ) : Type 0 where
  pub there_back : (n : ℕ) → g (f n) ≡ n
  pub back_there : (n : ℕ) → f (g n) ≡ n
  pub moved : (n : ℕ) → rule_at rs' (f n) ≡ rule_at rs n
  pub to : (n : ℕ) → Numbered (length rs) n → Numbered (length rs') (f n)
  pub from : (n : ℕ) → Numbered (length rs') n → Numbered (length rs) (g n)

-- The renaming back.
pub back : {rs rs' : List Rule} {f g : ℕ → ℕ} → Renaming rs rs' f g → Renaming rs' rs g f
back {rs} {rs'} {f} {g} R =
    record { there_back = R.back_there; back_there = R.there_back; moved = λ n. sym (R.moved (g n)) ∙ ap (rule_at rs') (R.back_there n); to = R.from; from = R.to }

names_map : (f : ℕ → ℕ) (ns : List ℕ) (n : ℕ) → T (names ns n) → T (names (map f ns) (f n))
names_map f [] n t = absurd (names_none n t)
names_map f (m ∷ ns) n t =
    ⊎_elim (λ (e : n ≡ m). rw e (names_first (f m) (map f ns))) (λ (h : T (names ns n)). names_more (f n) (f m) (map f ns) (names_map f ns n h)) (names_e n m ns t)

module _ (rs rs' : List Rule) (f g : ℕ → ℕ) (R : Renaming rs rs' f g) where
  map_back : (ns : List ℕ) → map g (map f ns) ≡ ns
  map_back [] = refl
  map_back (n ∷ ns) = ap₂ ◌∷◌ (R.there_back n) (map_back ns)

  names_unmap : (ns : List ℕ) (n : ℕ) → T (names (map f ns) n) → T (names ns (g n))
  names_unmap ns n t = rw map_back at (names_map g (map f ns) n t)

  -- A rule is named at its new number exactly where it was at its old one.
  pub names_moved : (ns : List ℕ) (n : ℕ) → names ns n ≡ names (map f ns) (f n)
  names_moved ns n = bool_ext (names ns n) (names (map f ns) (f n)) (names_map f ns n) (λ t. rw R.there_back at (names_unmap ns (f n) t))

  -- C is the same.
  pub changes_moved : (I : List Pair) (ns : List ℕ) → changes rs' I (map f ns) ≡ changes rs I ns
  unfolding changes
  changes_moved I [] = refl
  changes_moved I (n ∷ ns) = ap₂ (λ (r : Rule) (C : Pairs). λ (p : Pair). among p r.assignments ∨ᵇ C p) (R.moved n) (changes_moved I ns)

  module _ (S : List ℕ) (I : List Pair) where
    ready_moved : (done : List ℕ) (n : ℕ) → Ready rs S I done n → Ready rs' S I (map f done) (f n)
    ready_moved done n r = record {
      rule = R.to n r.rule;
      unfired = λ t. r.unfired (rw R.there_back at (names_unmap done (f n) t));
      enabled_then = rw (changes_moved, R.moved) r.enabled_then;
    }

    can_fire_moved : (done ns : List ℕ) → T (can_fire rs S I done ns) → T (can_fire rs' S I (map f done) (map f ns))
    can_fire_moved done [] t = fire_none rs' S I (map f done)
    can_fire_moved done (n ∷ ns) t =
        fire_i rs' S I (map f done) (map f ns) (f n) (ready_moved done n (fire_first rs S I done ns n t)) (can_fire_moved (n ∷ done) ns (fire_rest rs S I done ns n t))

    -- Firing orders go to firing orders.
    pub order_moved : (a : List ℕ) → T (firing_order rs S I a) → T (firing_order rs' S I (map f a))
    unfolding firing_order
    order_moved a t = can_fire_moved [] a t

  -- Strata go to strata.
  pub strata_moved : (G : Grading) (t : ℕ → ℕ) → Strata G rs t → Strata G rs' (λ n. t (g n))
  strata_moved G t s = record {
    from_one = λ n i. s.from_one (g n) (R.from n i);
    no_higher = λ n m i j d. s.no_higher (g n) (g m) (R.from n i) (R.from m j) (subst T (sym (level_moved G rs rs' (g n) (g m) n m ((back R).moved n) ((back R).moved m))) d);
    smaller = λ n m i j d. s.smaller (g n) (g m) (R.from n i) (R.from m j) (subst T (sym (fall_moved G rs rs' (g n) (g m) n m ((back R).moved n) ((back R).moved m))) d);
  }

-- Complete and consistent firing orders go to complete and consistent ones.
module _ (rs rs' : List Rule) (f g : ℕ → ℕ) (R : Renaming rs rs' f g) (S : List ℕ) (I : List Pair) where
  pub whole_moved : (a : List ℕ) → T (whole_order rs S I a) → T (whole_order rs' S I (map f a))
  unfolding Complete Consistent
  whole_moved a t =
      let A = whole_e rs S I a t in
      whole_i rs' S I (map f a) (record {
        order = order_moved rs rs' f g R S I a A.order;
        completes = λ n r. A.completes (g n) (subst (λ (ms : List ℕ). Ready rs S I ms (g n)) (map_back rs rs' f g R a) (ready_moved rs' rs g f (back R) S I (map f a) n r));
        stays_consistent = λ n u. rw (changes_moved rs rs' f g R, ← ((back R).moved n)) (A.stays_consistent (g n) (names_unmap rs rs' f g R a n u));
      })

under_numbered : (h : ℕ → ℕ) (a b : ℕ) → ((i : ℕ) → i < a → h i < b) → (n : ℕ) → Numbered a n → Numbered b (under h n)
under_numbered h a b e zero i = absurd (omega arith)
under_numbered h a b e (suc n) i = record { first = omega arith; last = omega (arith, e n (omega arith)) }

-- A rearrangement of a list of rules is a renaming: positions from 0 become numbers from 1.
pub renaming : (l m : List Rule) (p : Perm l m) → Renaming l m (under (goes p)) (under (goes (p_sym p)))
unfolding rule_at
renaming l m p = record {
  there_back = under_under (goes p) (goes (p_sym p)) (goes_back p);
  back_there = under_under (goes (p_sym p)) (goes p) (back_goes p);
  moved = under_at no_rule no_rule l m (goes p) (goes_at p no_rule);
  to = under_numbered (goes p) (length l) (length m) (goes_lt p);
  from = under_numbered (goes (p_sym p)) (length m) (length l) (goes_lt (p_sym p));
}
