-- What is worked out of C alone is the same wherever C is: the lowest slot in conflict, the changes as a slip, the new card.
-- Assumes nothing.
use Prim.Native.Nat.{ℕ}
use mathlib.Core.Path.{◌≡◌, sym, ap, ◌∙◌}
use mathlib.Core.List.{List}
use lib.Dec.{T}
use Rattle.laws.specs.Rearranged.{Perm}
use Rattle.model.specs.Rules.{Pair, Pairs, Rule, among}
use Rattle.model.specs.Orders.{changes, whole_order}
use Rattle.model.specs.Strata.{Grading}
use Rattle.model.specs.Circles.{circle_of}
use Rattle.model.specs.Response.{response}
use Rattle.model.specs.Result.{conflict_slot, changes_slip, new_card, Bounded}
use Rattle.model.proofs.Demand3.{demand_3}
use Rattle.model.proofs.Rearranged.{rearranged_response}
use Rattle.model.proofs.Results.{slip_exact}

-- The three results of a card and two sets of changes are the same.
pub record SameResults (slots values : ℕ) (S : List ℕ) (C D : Pairs) : Type 0 where
  pub conflict : conflict_slot slots values C ≡ conflict_slot slots values D
  pub slip : changes_slip slots values C ≡ changes_slip slots values D
  pub card : new_card slots values C S ≡ new_card slots values D S

-- Equal sets of changes have the same results.
pub same_results : (slots values : ℕ) (S : List ℕ) (C D : Pairs) → C ≡ D → SameResults slots values S C D
same_results slots values S C D e = record {
  conflict = ap (λ X. conflict_slot slots values X) e;
  slip = ap (λ X. changes_slip slots values X) e;
  card = ap (λ X. new_card slots values X S) e;
}

-- Every complete and consistent firing order has the results of the response.
pub whole_results : (slots values : ℕ) (G : Grading) (rs : List Rule) (S : List ℕ) (I : List Pair) → circle_of G rs ≡ 0 → (a : List ℕ) → T (whole_order rs S I a)
    → SameResults slots values S (changes rs I a) (changes rs I (response G rs S I))
whole_results slots values G rs S I e a A = same_results slots values S _ _ ((demand_3 G rs S I e).1 a A).1

-- Rearranged rules have the same results.
pub rearranged_results : (slots values : ℕ) (G : Grading) (rs rs' : List Rule) → Perm rs rs' → circle_of G rs ≡ 0 → (S : List ℕ) (I : List Pair)
    → SameResults slots values S (changes rs I (response G rs S I)) (changes rs' I (response G rs' S I))
rearranged_results slots values G rs rs' p e S I = same_results slots values S _ _ (rearranged_response G rs rs' p e S I).1

-- Where the response answers, the pairs of its changes are exactly the C of every complete and consistent firing order.
pub whole_changes : (slots values : ℕ) (G : Grading) (rs : List Rule) (S : List ℕ) (I : List Pair) → circle_of G rs ≡ 0
    → Bounded slots values (changes rs I (response G rs S I)) → conflict_slot slots values (changes rs I (response G rs S I)) ≡ slots
    → (a : List ℕ) → T (whole_order rs S I a) → changes rs I a ≡ (λ (p : Pair). among p (changes_slip slots values (changes rs I (response G rs S I))))
whole_changes slots values G rs S I e b none a A =
    ((demand_3 G rs S I e).1 a A).1 ∙ sym (slip_exact values (changes rs I (response G rs S I)) slots b none)
