-- A firing order names each rule once: it names as many as it is long.
-- Assumes nothing.
use Prim.Native.Nat.{ℕ, zero, suc}
use native.Mathlib.Omega.{arith}
use mathlib.Core.Path.{◌≡◌, refl, ap, ◌∙◌}
use mathlib.Core.List.{List, [], ◌∷◌}
use mathlib.Core.Logic.{⊎_elim}
use lib.Dec.{T}
use lib.ListN.{length}
use Rattle.laws.specs.Numbers.{how_many}
use Rattle.laws.proofs.Truth.{bool_ext}
use Rattle.laws.proofs.Equations.{is_true}
use Rattle.laws.proofs.Numbers.{is_false}
use Rattle.laws.proofs.HowMany.{how_many_one_more}
use Rattle.model.specs.Rules.{Pair, Rule}
use Rattle.model.specs.Orders.{names, can_fire, firing_order}
use Rattle.model.proofs.Changes.{names_first, names_more, names_e, names_none}
use Rattle.model.proofs.Orders.{fire_first, fire_rest}

how_many_none : (k : ℕ) → how_many (names []) k ≡ 0
unfolding how_many names
how_many_none zero = refl
how_many_none (suc k) = omega (arith, how_many_none k)

module _ (rs : List Rule) (S : List ℕ) (I : List Pair) where
  -- A rule that has fired does not fire again.
  not_again : (done ns : List ℕ) → T (can_fire rs S I done ns) → (m : ℕ) → T (names done m) → ¬ T (names ns m)
  not_again done [] t m d h = names_none m h
  not_again done (n ∷ ns) t m d h =
      ⊎_elim (λ (e : m ≡ n). (fire_first rs S I done ns n t).unfired (rw e at d)) (λ s. not_again (n ∷ done) ns (fire_rest rs S I done ns n t) m (names_more m n done d) s) (names_e m n ns h)

  fire_length : (done ns : List ℕ) → T (can_fire rs S I done ns) → how_many (names ns) (length rs) ≡ length ns
  fire_length done [] t = how_many_none (length rs)
  fire_length done (n ∷ ns) t =
      let r = fire_rest rs S I done ns n t in
      how_many_one_more (names (n ∷ ns)) (names ns) (length rs) n (fire_first rs S I done ns n t).rule
      (λ i q. bool_ext (names (n ∷ ns) i) (names ns i) (λ s. ⊎_elim (λ e. absurd (q e)) (λ x. x) (names_e i n ns s)) (names_more i n ns))
      (is_true (names (n ∷ ns) n) (names_first n ns)) (is_false (names ns n) (not_again (n ∷ done) ns r n (names_first n done)))
      ∙ ap suc (fire_length (n ∷ done) ns r)

  -- The rules that it names are as many as it is long.
  pub order_length : (ns : List ℕ) → T (firing_order rs S I ns) → how_many (names ns) (length rs) ≡ length ns
  unfolding firing_order
  order_length ns t = fire_length [] ns t
