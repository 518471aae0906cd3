-- Links added from one place, and from each pair of a list, to the pairs of another: what is linked then.
-- Assumes nothing.
use mathlib.Core.Path.{◌≡◌}
use mathlib.Core.Bool.{Bool, false}
use mathlib.Core.List.{List, [], ◌∷◌}
use mathlib.Core.Logic.{◌⊎◌, inl, inr, ⊎_elim}
use Prim.Native.Nat.{ℕ, ◌<◌}
use lib.Dec.{T, eqb, eqb→eq, eqb_refl}
use lib.ListN.{length}
use borrow.Author.Tests.{eq-eqb}
use Rattle.laws.specs.Truth.{◌∨ᵇ◌}
use Rattle.laws.proofs.Truth.{or_l, or_r, or_e}
use Rattle.laws.proofs.Equations.{from_true}
use Rattle.model.specs.Rules.{Pair, among}
use Rattle.model.proofs.Pairs.{same_refl, same_eq}
use Rattle.table.specs.inner.Flat.{Placed, place_of, pair_places}
use Rattle.table.proofs.Flat.{placed_inside}
use Rattle.circles.specs.inner.Links.{all_words, linked, add_link, add_links, link_all}
use Rattle.circles.proofs.Links.{link_length, link_here, link_kept, link_from}

-- Every pair of a list has a place.
unfoldable pub AllPlaced : List Pair → Type 0
AllPlaced ps = (p : Pair) → T (among p ps) → Placed p.slot p.value

pub placed_first : (p : Pair) (ps : List Pair) → AllPlaced (p ∷ ps) → Placed p.slot p.value
unfolding AllPlaced among
placed_first p ps h = h p (or_l _ _ (same_refl p))

pub placed_rest : (p : Pair) (ps : List Pair) → AllPlaced (p ∷ ps) → AllPlaced ps
unfolding AllPlaced among
placed_rest p ps h q t = h q (or_r _ _ t)

-- Some pair of a list stands at a place.
unfoldable pub at_place : ℕ → List Pair → Bool
at_place k [] = false
at_place k (p ∷ ps) = eqb k (place_of p) ∨ᵇ at_place k ps

pub at_i : (p : Pair) (ps : List Pair) → T (among p ps) → T (at_place (place_of p) ps)
unfolding at_place among
at_i p [] t = absurd t
at_i p (q ∷ ps) t = ⊎_elim (λ e. rw (same_eq p q e) (or_l (eqb (place_of q) (place_of q)) _ (eqb_refl (place_of q)))) (λ e. or_r (eqb (place_of p) (place_of q)) _ (at_i p ps e)) (or_e _ _ t)

pub at_e : (k : ℕ) (ps : List Pair) → T (at_place k ps) → (p : Pair) × T (among p ps) × (k ≡ place_of p)
unfolding at_place among
at_e k [] t = absurd t
at_e k (q ∷ ps) t = ⊎_elim (λ e. (q, or_l _ _ (same_refl q), eqb→eq k (place_of q) e)) (λ e. let w = at_e k ps e in (w.0, or_r _ _ w.1, w.2)) (or_e (eqb k (place_of q)) _ t)

-- Links from one place to the pairs of a list.
module _ (p : ℕ) (hp : p < pair_places) where
  pub to_length : (qs : List Pair) (ws : List ℕ) → length ws ≡ all_words → AllPlaced qs → length (add_links p qs ws) ≡ all_words
  unfolding add_links
  to_length [] ws l h = l
  to_length (q ∷ qs) ws l h =
      to_length qs (add_link ws p (place_of q)) (link_length ws l p (place_of q) hp (placed_inside q (placed_first q qs h))) (placed_rest q qs h)

  pub to_kept : (qs : List Pair) (ws : List ℕ) → length ws ≡ all_words → AllPlaced qs → (a b : ℕ) → T (linked ws a b) → T (linked (add_links p qs ws) a b)
  unfolding add_links
  to_kept [] ws l h a b t = t
  to_kept (q ∷ qs) ws l h a b t =
      let i = placed_inside q (placed_first q qs h) in
      to_kept qs (add_link ws p (place_of q)) (link_length ws l p (place_of q) hp i) (placed_rest q qs h) a b (link_kept ws l p (place_of q) hp i a b t)

  pub to_here : (qs : List Pair) (ws : List ℕ) → length ws ≡ all_words → AllPlaced qs → (q : Pair) → T (among q qs) → T (linked (add_links p qs ws) p (place_of q))
  unfolding add_links among
  to_here [] ws l h q t = absurd t
  to_here (r ∷ qs) ws l h q t =
      let i = placed_inside r (placed_first r qs h) in
      ⊎_elim
      (λ e. rw (same_eq q r e) (to_kept qs (add_link ws p (place_of r)) (link_length ws l p (place_of r) hp i) (placed_rest r qs h) p (place_of r) (link_here ws l p (place_of r) hp i)))
      (λ e. to_here qs (add_link ws p (place_of r)) (link_length ws l p (place_of r) hp i) (placed_rest r qs h) q e)
      (or_e _ _ t)

  pub to_from : (qs : List Pair) (ws : List ℕ) → length ws ≡ all_words → AllPlaced qs → (a b : ℕ) → b < pair_places
      → T (linked (add_links p qs ws) a b) → ((a ≡ p) × T (at_place b qs)) ⊎ T (linked ws a b)
  unfolding add_links at_place
  to_from [] ws l h a b lb t = inr t
  to_from (q ∷ qs) ws l h a b lb t =
      let i = placed_inside q (placed_first q qs h) in
      ⊎_elim
      (λ x. inl (x.0, or_r (eqb b (place_of q)) _ x.1))
      (λ x. ⊎_elim
      (λ y. inl (y.0, or_l (eqb b (place_of q)) _ (from_true (eqb b (place_of q)) (eq-eqb b (place_of q) y.1))))
      (λ y. inr y)
      (link_from ws l p (place_of q) hp i a b lb x))
      (to_from qs (add_link ws p (place_of q)) (link_length ws l p (place_of q) hp i) (placed_rest q qs h) a b lb t)

-- Links from the pairs of one list to those of another.
module _ (qs : List Pair) (hq : AllPlaced qs) where
  pub all_length : (ps : List Pair) (ws : List ℕ) → length ws ≡ all_words → AllPlaced ps → length (link_all ps qs ws) ≡ all_words
  unfolding link_all
  all_length [] ws l h = l
  all_length (p ∷ ps) ws l h =
      all_length ps (add_links (place_of p) qs ws) (to_length (place_of p) (placed_inside p (placed_first p ps h)) qs ws l hq) (placed_rest p ps h)

  pub all_kept : (ps : List Pair) (ws : List ℕ) → length ws ≡ all_words → AllPlaced ps → (a b : ℕ) → T (linked ws a b) → T (linked (link_all ps qs ws) a b)
  unfolding link_all
  all_kept [] ws l h a b t = t
  all_kept (p ∷ ps) ws l h a b t =
      let i = placed_inside p (placed_first p ps h) in
      all_kept ps (add_links (place_of p) qs ws) (to_length (place_of p) i qs ws l hq) (placed_rest p ps h) a b (to_kept (place_of p) i qs ws l hq a b t)

  pub all_here : (ps : List Pair) (ws : List ℕ) → length ws ≡ all_words → AllPlaced ps → (p q : Pair) → T (among p ps) → T (among q qs) → T (linked (link_all ps qs ws) (place_of p) (place_of q))
  unfolding link_all among
  all_here [] ws l h p q t u = absurd t
  all_here (r ∷ ps) ws l h p q t u =
      let i = placed_inside r (placed_first r ps h) in
      ⊎_elim
      (λ e. rw (same_eq p r e) (all_kept ps (add_links (place_of r) qs ws) (to_length (place_of r) i qs ws l hq) (placed_rest r ps h) (place_of r) (place_of q) (to_here (place_of r) i qs ws l hq q u)))
      (λ e. all_here ps (add_links (place_of r) qs ws) (to_length (place_of r) i qs ws l hq) (placed_rest r ps h) p q e u)
      (or_e _ _ t)

  pub all_from : (ps : List Pair) (ws : List ℕ) → length ws ≡ all_words → AllPlaced ps → (a b : ℕ) → b < pair_places
      → T (linked (link_all ps qs ws) a b) → (T (at_place a ps) × T (at_place b qs)) ⊎ T (linked ws a b)
  unfolding link_all at_place
  all_from [] ws l h a b lb t = inr t
  all_from (p ∷ ps) ws l h a b lb t =
      let i = placed_inside p (placed_first p ps h) in
      ⊎_elim
      (λ x. inl (or_r (eqb a (place_of p)) _ x.0, x.1))
      (λ x. ⊎_elim
      (λ y. inl (or_l (eqb a (place_of p)) _ (from_true (eqb a (place_of p)) (eq-eqb a (place_of p) y.0)), y.1))
      (λ y. inr y)
      (to_from (place_of p) i qs ws l hq a b lb x))
      (all_from ps (add_links (place_of p) qs ws) (to_length (place_of p) i qs ws l hq) (placed_rest p ps h) a b lb t)
