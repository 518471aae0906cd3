-- Demand 3 for a list of rules (document 01, 'Agreement'): there is a complete and consistent firing order, and all such orders agree with the response.
-- Assumes nothing.
use Prim.Native.Nat.{ℕ}
use mathlib.Core.Path.{◌≡◌, ◌∙◌}
use mathlib.Core.List.{List}
use lib.Dec.{T}
use Rattle.model.specs.Rules.{Pair, Rule}
use Rattle.model.specs.Orders.{names, changes, whole_order}
use Rattle.model.specs.Strata.{Grading, Strata}
use Rattle.model.specs.Circles.{circle_of}
use Rattle.model.specs.Least.{strata_of}
use Rattle.model.specs.Response.{response_by, response}
use Rattle.model.proofs.Orders.{Complete}
use Rattle.model.proofs.Unique.{unique}
use Rattle.model.proofs.Loop.{Reached}
use Rattle.model.proofs.Exists.{response_whole, loop_end}
use Rattle.model.proofs.Strata.{no_circle, least_strata}

module _ (G : Grading) (rs : List Rule) (S : List ℕ) (I : List Pair) where
  -- Where there is no circle the response is a complete and consistent firing order.
  pub response_is_whole : circle_of G rs ≡ 0 → T (whole_order rs S I (response G rs S I))
  unfolding response
  response_is_whole e = response_whole G rs (strata_of G rs) (least_strata G rs e) S I

  -- There is such an order, and any names the rules that the response names and ends with its C.
  pub demand_3 : circle_of G rs ≡ 0
      → T (whole_order rs S I (response G rs S I))
      × ((a : List ℕ) → T (whole_order rs S I a) → (names a ≡ names (response G rs S I)) × (changes rs I a ≡ changes rs I (response G rs S I)))
  demand_3 e =
      (response_is_whole e, λ a A. unique G rs (strata_of G rs) (least_strata G rs e) S I a (response G rs S I) A (response_is_whole e))

  -- Any strata, and not the least alone, give what the response gives.
  pub any_strata : (t : ℕ → ℕ) → Strata G rs t
      → (names (response_by rs S I t) ≡ names (response G rs S I)) × (changes rs I (response_by rs S I t) ≡ changes rs I (response G rs S I))
  any_strata t s = (demand_3 (no_circle G rs t s)).1 (response_by rs S I t) (response_whole G rs t s S I)

  -- A loop that fires lowest strata first, by any strata, ends with what the response gives.
  pub loop_response : (t : ℕ → ℕ) → Strata G rs t → (done : List ℕ) → Reached rs S I t done → Complete rs S I done
      → (names done ≡ names (response G rs S I)) × (changes rs I done ≡ changes rs I (response G rs S I))
  loop_response t s done r c =
      let a = any_strata t s in
      let l = loop_end G rs t s S I done r c in
      (l.0 ∙ a.0, l.1 ∙ a.1)
