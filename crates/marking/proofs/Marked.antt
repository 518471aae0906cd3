-- Marks that change, one step after the other.
-- Assumes nothing.
use mathlib.Core.Path.{◌≡◌, refl, sym, ◌∙◌, subst}
use mathlib.Core.Bool.{true, false}
use mathlib.Core.List.{List, [], ◌∷◌}
use Prim.Native.Nat.{ℕ, ◌+◌, ◌*◌, ◌/◌, ◌≤◌, ◌<◌}
use native.Mathlib.Numerals.{add-one}
use native.Mathlib.Omega.{arith}
use lib.Dec.{T, eqb}
use lib.ListN.{length, get_or}
use borrow.Author.Tests.{eq-eqb, ne_eqb}
use Rattle.laws.specs.Truth.{◌∨ᵇ◌, notᵇ}
use Rattle.laws.specs.Limits.{row, value_limit}
use Rattle.laws.proofs.Truth.{or_l, or_r}
use Rattle.laws.proofs.Equations.{is_true, from_true}
use Rattle.model.specs.Rules.{Pair, among}
use Rattle.model.proofs.Pairs.{same_refl}
use Rattle.table.specs.inner.Flat.{place_of}
use Rattle.judging.specs.declared.truth.Known.{Known}
use Rattle.marking.specs.inner.Marked.{ruled_out, rival_out, rivals_out, marked, assigned_one, assigned, clashes, unassigned_one, unassigned_out}

-- A value is passed over where it is the pair's own or negative,
rival_over : (p q : ℕ) (k : Known) → T (eqb q p ∨ᵇ get_or k.negative q false) → rival_out p q k ≡ k
unfolding rival_out
rival_over p q k t = rw (is_true (eqb q p ∨ᵇ get_or k.negative q false) t)

-- and ruled out elsewhere.
rival_new : (p q : ℕ) (k : Known) → ¬ (q ≡ p) → get_or k.negative q false ≡ false → rival_out p q k ≡ ruled_out q k
unfolding rival_out ◌∨ᵇ◌
rival_new p q k n e = rw (ne_eqb q p n, e)

-- The values of a slot, one after the other.
rivals_next : (p v : ℕ) (k : Known) → rivals_out p (v + 1) k ≡ rival_out p (p / row * row + v) (rivals_out p v k)
unfolding rivals_out
rivals_next p v k = rw (add-one v)

-- Of these the pair's own is not ruled out,
pub rivals_self : (p v : ℕ) (j k : Known) → p / row * row + v ≡ p → j ≡ rivals_out p v k → j ≡ rivals_out p (v + 1) k
rivals_self p v j k e i =
    let q = p / row * row + v in
    i ∙ sym (rivals_next p v k ∙ rival_over p q (rivals_out p v k) (or_l (eqb q p) _ (from_true (eqb q p) (eq-eqb q p e))))

-- nor is a negative one;
pub rivals_negative : (p v : ℕ) (j k : Known) → get_or j.negative (p / row * row + v) false ≡ true → j ≡ rivals_out p v k → j ≡ rivals_out p (v + 1) k
rivals_negative p v j k e i =
    let q = p / row * row + v in
    let t = from_true (get_or (rivals_out p v k).negative q false) (subst (λ (x : Known). get_or x.negative q false ≡ true) i e) in
    i ∙ sym (rivals_next p v k ∙ rival_over p q (rivals_out p v k) (or_r (eqb q p) _ t))

-- every other is.
pub rivals_more : (p v : ℕ) (j k : Known) → ¬ (p / row * row + v ≡ p) → get_or j.negative (p / row * row + v) false ≡ false → j ≡ rivals_out p v k
    → ruled_out (p / row * row + v) j ≡ rivals_out p (v + 1) k
rivals_more p v j k n e i =
    let q = p / row * row + v in
    subst (λ (x : Known). ruled_out q x ≡ rivals_out p (v + 1) k) (sym i)
    (sym (rivals_next p v k ∙ rival_new p q (rivals_out p v k) n (subst (λ (x : Known). get_or x.negative q false ≡ false) i e)))

-- The slots of some pairs have places, and none of them too many values.
unfoldable pub Few : List ℕ → List Pair → Type 0
Few counts ps = (p : Pair) → T (among p ps) → get_or counts p.slot 0 ≤ value_limit

-- So for the first of them,
pub few_first : (counts : List ℕ) (p : Pair) (ps : List Pair) → Few counts (p ∷ ps) → get_or counts p.slot 0 ≤ value_limit
unfolding Few among
few_first counts p ps f = f p (or_l _ _ (same_refl p))

-- and for the rest.
pub few_rest : (counts : List ℕ) (p : Pair) (ps : List Pair) → Few counts (p ∷ ps) → Few counts ps
unfolding Few among
few_rest counts p ps f q t = f q (or_r _ _ t)

module _ (counts : List ℕ) (qs : List Pair) (k : Known) where
  -- Assigning the pairs that are left comes to what assigning all of them from the start comes to.
  pub record Assigning (ps : List Pair) (j : Known) : Type 0 where
    pub same_clash : clashes counts ps j ≡ clashes counts qs k
    pub same_end : assigned counts ps j ≡ assigned counts qs k

  -- At the start all are left.
  pub assigning_start : Assigning qs k
  assigning_start = record { same_clash = refl; same_end = refl }

  -- A pair that is positive is passed over,
  pub assigning_over : (p : Pair) (ps : List Pair) (j : Known) → get_or j.negative (place_of p) false ≡ false → get_or j.positive (place_of p) false ≡ true → Assigning (p ∷ ps) j → Assigning ps j
  unfolding clashes assigned assigned_one ◌∨ᵇ◌
  assigning_over p ps j n e a = record { same_clash = rw (n, e) at a.same_clash; same_end = rw e at a.same_end }

  -- an unknown one becomes positive,
  pub assigning_more : (p : Pair) (ps : List Pair) (j : Known) → get_or j.negative (place_of p) false ≡ false → get_or j.positive (place_of p) false ≡ false → Assigning (p ∷ ps) j
      → Assigning ps (marked (place_of p) (get_or counts p.slot 0) j)
  unfolding clashes assigned assigned_one ◌∨ᵇ◌
  assigning_more p ps j n e a = record { same_clash = rw (n, e) at a.same_clash; same_end = rw e at a.same_end }

  -- and at a negative one is a clash.
  pub assigning_clash : (p : Pair) (ps : List Pair) (j : Known) → get_or j.negative (place_of p) false ≡ true → Assigning (p ∷ ps) j → true ≡ clashes counts qs k
  unfolding clashes ◌∨ᵇ◌
  assigning_clash p ps j e a = rw e at a.same_clash

  -- At the end none is.
  pub assigning_end : (j : Known) → Assigning [] j → (false ≡ clashes counts qs k) × (j ≡ assigned counts qs k)
  unfolding clashes assigned
  assigning_end j a = (a.same_clash, a.same_end)

module _ (live : List ℕ) (p : Pair) (ps : List Pair) (j : Known) where
  -- Of the pairs that a rule assigns one is passed over where a rule is left to assign it or it is known:
  unassigned_over : T (notᵇ (eqb (get_or live (place_of p) 0) 0) ∨ᵇ get_or j.positive (place_of p) false ∨ᵇ get_or j.negative (place_of p) false) → unassigned_out live (p ∷ ps) j ≡ unassigned_out live ps j
  unfolding unassigned_out unassigned_one
  unassigned_over t = rw (is_true (notᵇ (eqb (get_or live (place_of p) 0) 0) ∨ᵇ get_or j.positive (place_of p) false ∨ᵇ get_or j.negative (place_of p) false) t)

  -- where a rule is left to assign it,
  pub unassigned_live : 0 < get_or live (place_of p) 0 → unassigned_out live (p ∷ ps) j ≡ unassigned_out live ps j
  unfolding notᵇ
  unassigned_live h = unassigned_over (or_l _ _ (or_l (notᵇ (eqb (get_or live (place_of p) 0) 0)) _ (rw (ne_eqb (get_or live (place_of p) 0) 0 (λ e. omega arith)) tt)))

  -- where it is positive,
  pub unassigned_positive : get_or j.positive (place_of p) false ≡ true → unassigned_out live (p ∷ ps) j ≡ unassigned_out live ps j
  unassigned_positive e = unassigned_over (or_l _ _ (or_r (notᵇ (eqb (get_or live (place_of p) 0) 0)) _ (from_true (get_or j.positive (place_of p) false) e)))

  -- and where it is negative;
  pub unassigned_negative : get_or j.negative (place_of p) false ≡ true → unassigned_out live (p ∷ ps) j ≡ unassigned_out live ps j
  unassigned_negative e = unassigned_over (or_r (notᵇ (eqb (get_or live (place_of p) 0) 0) ∨ᵇ get_or j.positive (place_of p) false) _ (from_true (get_or j.negative (place_of p) false) e))

  -- any other is ruled out.
  pub unassigned_more : get_or live (place_of p) 0 ≡ 0 → get_or j.positive (place_of p) false ≡ false → get_or j.negative (place_of p) false ≡ false
      → unassigned_out live (p ∷ ps) j ≡ unassigned_out live ps (ruled_out (place_of p) j)
  unfolding unassigned_out unassigned_one notᵇ ◌∨ᵇ◌
  unassigned_more l e n = rw (l, e, n)

-- At the end none is left.
pub unassigned_end : (live : List ℕ) (j : Known) → unassigned_out live [] j ≡ j
unfolding unassigned_out
unassigned_end live j = refl
