-- Chains of places: what is on a chain, and what one more place changes.
-- Assumes nothing.
use mathlib.Core.Path.{◌≡◌, refl, ◌∙◌}
use mathlib.Core.Bool.{Bool, true, false, cond}
use mathlib.Core.List.{List, [], ◌∷◌}
use mathlib.Core.Logic.{◌⊎◌, inl, inr, ⊎_elim}
use Prim.Native.Nat.{ℕ, ◌+◌, ◌-◌, ◌≤◌, ◌<◌}
use native.Mathlib.Omega.{arith}
use lib.Dec.{T, eqb}
use lib.ListN.{length, get_or, set, length-set}
use lib.Seq.{get_or-set_same, get_or-set_other}
use borrow.Author.Tests.{eqb-true, eqb-false, eq-eqb, ne_eqb}
use Rattle.laws.proofs.Truth.{or_l, or_r, or_e}
use Rattle.laws.proofs.Equations.{either}
use Rattle.model.specs.Rules.{Pair, among}
use Rattle.model.proofs.Pairs.{same_refl, same_eq}
use Rattle.table.specs.inner.Flat.{Placed, place_of, pair_places}
use Rattle.table.proofs.Flat.{placed_inside}
use Rattle.leastness.specs.inner.Chains.{head_at, nexts_at, heads_with, nexts_with}

-- One place chained, or not.
pub at_level : (hs : List ℕ) (s k o : ℕ) (heads nexts : List ℕ) → get_or hs k 0 ≡ s → (set heads k (o + 1) ≡ head_at hs s k o heads) × (set nexts o (get_or heads k 0) ≡ nexts_at hs s k o heads nexts)
unfolding head_at nexts_at
at_level hs s k o heads nexts e = (rw (eq-eqb (get_or hs k 0) s e), rw (eq-eqb (get_or hs k 0) s e))

pub off_level : (hs : List ℕ) (s k o : ℕ) (heads nexts : List ℕ) → (get_or hs k 0 ≡ s → ⊥) → (heads ≡ head_at hs s k o heads) × (nexts ≡ nexts_at hs s k o heads nexts)
unfolding head_at nexts_at
off_level hs s k o heads nexts n = (rw (ne_eqb (get_or hs k 0) s n), rw (ne_eqb (get_or hs k 0) s n))

pub heads_next : (hs : List ℕ) (s : ℕ) (p : Pair) (ps : List Pair) (o : ℕ) (heads : List ℕ) → heads_with hs s (p ∷ ps) o heads ≡ heads_with hs s ps (o + 1) (head_at hs s (place_of p) o heads)
unfolding heads_with
heads_next hs s p ps o heads = refl

pub nexts_next : (hs : List ℕ) (s : ℕ) (p : Pair) (ps : List Pair) (o : ℕ) (heads nexts : List ℕ) → nexts_with hs s (p ∷ ps) o heads nexts ≡ nexts_with hs s ps (o + 1) (head_at hs s (place_of p) o heads) (nexts_at hs s (place_of p) o heads nexts)
unfolding nexts_with
nexts_next hs s p ps o heads nexts = refl

pub heads_none : (hs : List ℕ) (s o : ℕ) (heads : List ℕ) → heads_with hs s [] o heads ≡ heads
unfolding heads_with
heads_none hs s o heads = refl

pub nexts_none : (hs : List ℕ) (s o : ℕ) (heads nexts : List ℕ) → nexts_with hs s [] o heads nexts ≡ nexts
unfolding nexts_with
nexts_none hs s o heads nexts = refl

-- The places stay as many.
pub next_length : (hs : List ℕ) (s k o : ℕ) (heads nexts : List ℕ) → length (nexts_at hs s k o heads nexts) ≡ length nexts
unfolding nexts_at
next_length hs s k o heads nexts = go (eqb (get_or hs k 0) s)
  where
    go : (b : Bool) → length (cond b (set nexts o (get_or heads k 0)) nexts) ≡ length nexts
    go true = length-set nexts o _
    go false = refl

pub nexts_length : (hs : List ℕ) (s : ℕ) (ps : List Pair) (o : ℕ) (heads nexts : List ℕ) → length (nexts_with hs s ps o heads nexts) ≡ length nexts
unfolding nexts_with
nexts_length hs s [] o heads nexts = refl
nexts_length hs s (p ∷ ps) o heads nexts = nexts_length hs s ps (o + 1) _ _ ∙ next_length hs s (place_of p) o heads nexts

-- The number y is on the chain that begins with the number x.
pub data On (nexts : List ℕ) : ℕ → ℕ → Type 0 where
  first : {x : ℕ} → 0 < x → On nexts x x
  later : {x y : ℕ} → 0 < x → On nexts (get_or nexts (x - 1) 0) y → On nexts x y

-- Each number on a chain is followed by a smaller one.
unfoldable pub Falls : List ℕ → Type 0
Falls nexts = (o : ℕ) → get_or nexts o 0 ≤ o

-- A chain whose numbers are at most o does not change where the place o does.
pub on_kept : (nexts : List ℕ) (o v : ℕ) → Falls nexts → {x y : ℕ} → x ≤ o → On nexts x y → On (set nexts o v) x y
unfolding Falls
on_kept nexts o v f le (first h) = first h
on_kept nexts o v f le (later {x = x} {y = y} h w) =
    later {y = y} h (rw (get_or-set_other nexts o (x - 1) v 0 (λ (z : x - 1 ≡ o). omega arith)) (on_kept nexts o v f (omega (arith, f (x - 1))) w))

pub on_back : (nexts : List ℕ) (o v : ℕ) → Falls nexts → {x y : ℕ} → x ≤ o → On (set nexts o v) x y → On nexts x y
unfolding Falls
on_back nexts o v f le (first h) = first h
on_back nexts o v f le (later {x = x} {y = y} h w) =
    let e = get_or-set_other nexts o (x - 1) v 0 (λ (z : x - 1 ≡ o). omega arith) in
    later {y = y} h (rw e at (on_back nexts o v f (omega (arith, e, f (x - 1))) w))

-- No number is on the empty chain, and each is on none that begins below it.
pub on_none : (nexts : List ℕ) {y : ℕ} → On nexts 0 y → ⊥
on_none nexts w = go w refl
  where
    go : {x y : ℕ} → On nexts x y → x ≡ 0 → ⊥
    go (first h) e = omega arith
    go (later h w) e = omega arith

pub on_split : (nexts : List ℕ) {x y : ℕ} → On nexts x y → (y ≡ x) ⊎ On nexts (get_or nexts (x - 1) 0) y
on_split nexts (first h) = inl refl
on_split nexts (later h w) = inr w

pub on_positive : (nexts : List ℕ) {x y : ℕ} → On nexts x y → 0 < y
on_positive nexts (first h) = h
on_positive nexts (later h w) = on_positive nexts w

pub on_low : (nexts : List ℕ) → Falls nexts → {x y : ℕ} → On nexts x y → y ≤ x
unfolding Falls
on_low nexts f (first h) = omega arith
on_low nexts f (later {x = x} h w) = omega (arith, on_low nexts f w, f (x - 1))

-- Chains whose numbers are at most o; R says what a number on the chain of a place stands for.
module _ (R : ℕ → ℕ → Type 0) where
  pub record Linked (o : ℕ) (heads nexts : List ℕ) : Type 0 where
    pub falls : Falls nexts
    pub low : (k : ℕ) → get_or heads k 0 ≤ o
    pub right : (k y : ℕ) → On nexts (get_or heads k 0) y → R k y
    pub head_places : length heads ≡ pair_places

  -- What was on a chain stays on it.
  unfoldable pub Kept : List ℕ → List ℕ → List ℕ → List ℕ → Type 0
  Kept heads nexts heads' nexts' = (k y : ℕ) → On nexts (get_or heads k 0) y → On nexts' (get_or heads' k 0) y

  -- One place more.
  linked_one : (heads nexts : List ℕ) (o k : ℕ) → k < pair_places → o < length nexts → R k (o + 1) → Linked o heads nexts
      → Linked (o + 1) (set heads k (o + 1)) (set nexts o (get_or heads k 0)) × (Kept heads nexts (set heads k (o + 1)) (set nexts o (get_or heads k 0)) × On (set nexts o (get_or heads k 0)) (get_or (set heads k (o + 1)) k 0) (o + 1))
  unfolding Falls Kept
  linked_one heads nexts o k hk ho r g = (
    record {
      falls = λ i. ⊎_elim
          (λ (e : i ≡ o). rw (e, own) (g.low k))
          (λ e. rw (get_or-set_other nexts o i (get_or heads k 0) 0 e) (g.falls i))
          (either i o);
      low = λ i. ⊎_elim
          (λ (e : i ≡ k). rw (e, head) (omega arith))
          (λ e. rw (get_or-set_other heads k i (o + 1) 0 e) (omega (arith, g.low i)))
          (either i k);
      right = λ i y. ⊎_elim
          (λ (e : i ≡ k). rw (e, head) (λ w. ⊎_elim
          (λ (z : y ≡ o + 1). rw z r)
          (λ w. g.right k y (on_back nexts o (get_or heads k 0) g.falls (g.low k) (rw (less, own) at w)))
          (on_split (set nexts o (get_or heads k 0)) w)))
          (λ e. rw (get_or-set_other heads k i (o + 1) 0 e) (λ w. g.right i y (on_back nexts o (get_or heads k 0) g.falls (g.low i) w)))
          (either i k);
      head_places = length-set heads k (o + 1) ∙ g.head_places;
    },
    (
      λ i y w. ⊎_elim
          (λ (e : i ≡ k). rw (e, head) (later {x = o + 1} {y = y} (omega arith) (rw (less, own) (on_kept nexts o (get_or heads k 0) g.falls (g.low k) (rw e at w)))))
          (λ e. rw (get_or-set_other heads k i (o + 1) 0 e) (on_kept nexts o (get_or heads k 0) g.falls (g.low i) w))
          (either i k),
      rw head (first {x = o + 1} (omega arith)),
    ),
  )
    where
      own : get_or (set nexts o (get_or heads k 0)) o 0 ≡ get_or heads k 0
      own = get_or-set_same nexts o (get_or heads k 0) 0 ho

      head : get_or (set heads k (o + 1)) k 0 ≡ o + 1
      head = get_or-set_same heads k (o + 1) 0 (omega (arith, g.head_places))

      less : o + 1 - 1 ≡ o
      less = omega arith

  -- The pairs of a list, each at the next place.
  pub record LinkedAll (hs : List ℕ) (s : ℕ) (ps : List Pair) (o : ℕ) (heads nexts : List ℕ) : Type 0 where
    pub linked : Linked (o + length ps) (heads_with hs s ps o heads) (nexts_with hs s ps o heads nexts)
    pub kept : Kept heads nexts (heads_with hs s ps o heads) (nexts_with hs s ps o heads nexts)
    pub new : (p : Pair) → T (among p ps) → get_or hs (place_of p) 0 ≡ s → (i : ℕ) × (o ≤ i) × (i < o + length ps) × On (nexts_with hs s ps o heads nexts) (get_or (heads_with hs s ps o heads) (place_of p) 0) (i + 1)

  linked_step : (hs : List ℕ) (s : ℕ) (p : Pair) (ps : List Pair) (o : ℕ) (heads nexts : List ℕ) → o + length (p ∷ ps) ≤ length nexts → Placed p.slot p.value
      → (get_or hs (place_of p) 0 ≡ s → R (place_of p) (o + 1)) → Linked o heads nexts
      → ((heads' nexts' : List ℕ) → length nexts' ≡ length nexts → Linked (o + 1) heads' nexts' → LinkedAll hs s ps (o + 1) heads' nexts') → LinkedAll hs s (p ∷ ps) o heads nexts
  unfolding among Kept
  linked_step hs s p ps o heads nexts room placed r g tail = go (eqb (get_or hs (place_of p) 0) s) refl
    where
      sum : o + length (p ∷ ps) ≡ o + 1 + length ps
      sum = omega arith

      -- From what the tail has of the chains after the first pair.
      joined : (heads' nexts' : List ℕ) → heads' ≡ head_at hs s (place_of p) o heads → nexts' ≡ nexts_at hs s (place_of p) o heads nexts → Kept heads nexts heads' nexts'
          → (get_or hs (place_of p) 0 ≡ s → On nexts' (get_or heads' (place_of p) 0) (o + 1)) → LinkedAll hs s ps (o + 1) heads' nexts' → LinkedAll hs s (p ∷ ps) o heads nexts
      joined heads' nexts' a b k f w =
          let x = heads_next hs s p ps o heads in
          let y = nexts_next hs s p ps o heads nexts in
          record {
            linked = rw (sum, x, y, ← a, ← b) w.linked;
            kept = λ i z u. rw (x, y, ← a, ← b) (w.kept i z (k i z u));
            new = λ q c d. rw (sum, x, y, ← a, ← b) (⊎_elim
                (λ e. let e' = same_eq q p e in (o, omega arith, omega arith, w.kept (place_of q) (o + 1) (rw e' (f (rw e' at d)))))
                (λ e. let v = w.new q e d in (v.0, omega (arith, v.1), v.2, v.3))
                (or_e _ _ c));
          }

      go : (b : Bool) → eqb (get_or hs (place_of p) 0) s ≡ b → LinkedAll hs s (p ∷ ps) o heads nexts
      go true e =
          let z = eqb-true (get_or hs (place_of p) 0) s e in
          let x = at_level hs s (place_of p) o heads nexts z in
          let one = linked_one heads nexts o (place_of p) (placed_inside p placed) (omega (arith, room, sum)) (r z) g in
          joined (set heads (place_of p) (o + 1)) (set nexts o (get_or heads (place_of p) 0)) x.0 x.1 one.1.0 (λ d. one.1.1) (tail _ _ (length-set nexts o (get_or heads (place_of p) 0)) one.0)
      go false e =
          let n = eqb-false (get_or hs (place_of p) 0) s e in
          let x = off_level hs s (place_of p) o heads nexts n in
          joined heads nexts x.0 x.1 (λ k y u. u) (λ d. absurd (n d))
          (tail heads nexts refl (record { falls = g.falls; low = λ k. omega (arith, g.low k); right = g.right; head_places = g.head_places }))

  pub linked_all : (hs : List ℕ) (s : ℕ) (ps : List Pair) (o : ℕ) (heads nexts : List ℕ) → o + length ps ≤ length nexts
      → ((p : Pair) → T (among p ps) → Placed p.slot p.value) → ((p : Pair) (i : ℕ) → T (among p ps) → get_or hs (place_of p) 0 ≡ s → o ≤ i → i < o + length ps → R (place_of p) (i + 1)) → Linked o heads nexts
      → LinkedAll hs s ps o heads nexts
  unfolding among Kept heads_with nexts_with
  linked_all hs s [] o heads nexts room placed r g = record { linked = rw (let z : o + 0 ≡ o = omega arith in z) g; kept = λ k y w. w; new = λ p a. absurd a }
  linked_all hs s (p ∷ ps) o heads nexts room placed r g =
      linked_step hs s p ps o heads nexts room (placed p (or_l _ _ (same_refl p))) (λ e. r p o (or_l _ _ (same_refl p)) e (omega arith) (omega arith)) g
      (λ heads' nexts' e h. linked_all hs s ps (o + 1) heads' nexts' (omega (arith, room, e)) (λ q a. placed q (or_r _ _ a)) (λ q i a e lo hi. r q i (or_r _ _ a) e (omega (arith, lo)) (omega (arith, hi))) h)
