-- Rearranged rules (document 01, 'Agreement'): strata exist too, each rule keeps its stratum, and the outcome is the same with each fired rule at its new number.
-- Assumes nothing.
use Prim.Native.Nat.{ℕ, ◌≤◌}
use native.Mathlib.Nat.{le_antisymm}
use mathlib.Core.Path.{◌≡◌, sym, ap, ◌∙◌}
use mathlib.Core.List.{List, map}
use lib.Dec.{T}
use lib.ListN.{length}
use Rattle.laws.specs.Numbers.{Numbered}
use Rattle.laws.specs.Rearranged.{Perm, under, goes}
use Rattle.laws.specs.inner.Back.{p_sym}
use Rattle.laws.proofs.Rearranged.{p_sym_sym}
use Rattle.model.specs.Rules.{Pair, Rule}
use Rattle.model.specs.Orders.{names, changes, firing_order, whole_order}
use Rattle.model.specs.Strata.{Grading, Strata}
use Rattle.model.specs.Circles.{circle_of}
use Rattle.model.specs.Least.{strata_of}
use Rattle.model.specs.Response.{response}
use Rattle.model.proofs.Unique.{unique}
use Rattle.model.proofs.Strata.{no_circle, least_strata, least_least}
use Rattle.model.proofs.Renaming.{renaming, names_moved, changes_moved, order_moved, strata_moved, whole_moved}
use Rattle.model.proofs.Demand3.{response_is_whole}

module _ (G : Grading) (rs rs' : List Rule) (p : Perm rs rs') where
  rearranged_strata : circle_of G rs ≡ 0 → Strata G rs' (λ n. strata_of G rs (under (goes (p_sym p)) n))
  rearranged_strata e = strata_moved rs rs' (under (goes p)) (under (goes (p_sym p))) (renaming rs rs' p) G (strata_of G rs) (least_strata G rs e)

  -- Rearranged rules have strata too.
  pub accepted_too : circle_of G rs ≡ 0 → circle_of G rs' ≡ 0
  accepted_too e = no_circle G rs' (λ n. strata_of G rs (under (goes (p_sym p)) n)) (rearranged_strata e)

  strata_no_higher : circle_of G rs ≡ 0 → (n : ℕ) → Numbered (length rs') n → strata_of G rs' n ≤ strata_of G rs (under (goes (p_sym p)) n)
  strata_no_higher e n i = least_least G rs' (λ m. strata_of G rs (under (goes (p_sym p)) m)) (rearranged_strata e) n i

-- Each rule keeps its stratum.
pub strata_kept : (G : Grading) (rs rs' : List Rule) (p : Perm rs rs') → circle_of G rs ≡ 0 → (n : ℕ) → Numbered (length rs) n
    → strata_of G rs' (under (goes p) n) ≡ strata_of G rs n
strata_kept G rs rs' p e n i =
    let R = renaming rs rs' p in
    le_antisymm
    (rw R.there_back at (strata_no_higher G rs rs' p e (under (goes p) n) (R.to n i)))
    (rw p_sym_sym at (strata_no_higher G rs' rs (p_sym p) (accepted_too G rs rs' p e) n i))

module _ (rs rs' : List Rule) (p : Perm rs rs') (S : List ℕ) (I : List Pair) where
  -- Firing orders go to firing orders.
  pub rearranged_order : (a : List ℕ) → T (firing_order rs S I a) → T (firing_order rs' S I (map (under (goes p)) a))
  rearranged_order = order_moved rs rs' (under (goes p)) (under (goes (p_sym p))) (renaming rs rs' p) S I

  -- Complete and consistent firing orders go to complete and consistent ones.
  pub whole_too : (a : List ℕ) → T (whole_order rs S I a) → T (whole_order rs' S I (map (under (goes p)) a))
  whole_too = whole_moved rs rs' (under (goes p)) (under (goes (p_sym p))) (renaming rs rs' p) S I

-- Complete and consistent orders of both lists of rules name the same rules, each at its number, and end with the same C.
pub rearranged_whole : (G : Grading) (rs rs' : List Rule) (p : Perm rs rs') → circle_of G rs ≡ 0 → (S : List ℕ) (I : List Pair) (a b : List ℕ)
    → T (whole_order rs S I a) → T (whole_order rs' S I b) → ((n : ℕ) → names a n ≡ names b (under (goes p) n)) × (changes rs I a ≡ changes rs' I b)
rearranged_whole G rs rs' p e S I a b A B =
    let f = under (goes p) in
    let g = under (goes (p_sym p)) in
    let R = renaming rs rs' p in
    let e' = accepted_too G rs rs' p e in
    let u = unique G rs' (strata_of G rs') (least_strata G rs' e') S I (map f a) b (whole_too rs rs' p S I a A) B in
    (λ n. names_moved rs rs' f g R a n ∙ ap (λ h. h (f n)) u.0, sym (changes_moved rs rs' f g R I a) ∙ u.1)

-- So do the two responses.
pub rearranged_response : (G : Grading) (rs rs' : List Rule) (p : Perm rs rs') → circle_of G rs ≡ 0 → (S : List ℕ) (I : List Pair)
    → ((n : ℕ) → names (response G rs S I) n ≡ names (response G rs' S I) (under (goes p) n)) × (changes rs I (response G rs S I) ≡ changes rs' I (response G rs' S I))
rearranged_response G rs rs' p e S I =
    rearranged_whole G rs rs' p e S I (response G rs S I) (response G rs' S I) (response_is_whole G rs S I e) (response_is_whole G rs' S I (accepted_too G rs rs' p e))
