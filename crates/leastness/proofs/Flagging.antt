-- Flags at pairs and the queue of the places flagged: the laws of flagging one pair after the other, and what flagging a list of pairs comes to.
-- Assumes nothing.
use mathlib.Core.Path.{◌≡◌, refl, ◌∙◌}
use mathlib.Core.Bool.{Bool, true, false}
use mathlib.Core.List.{List, [], ◌∷◌}
use mathlib.Core.Logic.{◌⊎◌, inl, inr, ⊎_elim}
use Prim.Native.Nat.{ℕ, ◌+◌, ◌≤◌, ◌<◌}
use native.Mathlib.Nat.{eq-or-lt_of_le}
use native.Mathlib.Omega.{arith}
use lib.Dec.{T, eqb}
use lib.ListN.{length, get_or, set, length-set}
use lib.Seq.{get_or-set_same, get_or-set_other}
use borrow.Author.Tests.{eq-eqb, ne_eqb}
use Rattle.laws.specs.Truth.{◌∧ᵇ◌, notᵇ}
use Rattle.laws.proofs.Truth.{and_r, or_l, or_r, or_e, not_e}
use Rattle.laws.proofs.Equations.{from_true, either}
use Rattle.laws.proofs.Numbers.{is_false}
use Rattle.laws.proofs.Flags.{flag_here, flag_kept, flag_from, flags_more, flags_top}
use Rattle.model.specs.Rules.{Pair, among}
use Rattle.model.proofs.Pairs.{same_refl, same_eq}
use Rattle.table.specs.inner.Flat.{Placed, place_of, pair_places}
use Rattle.table.proofs.Flat.{placed_inside}
use Rattle.leastness.specs.inner.Flagging.{Flagging, flagging, Room, flag_one, flag_all}

-- Pairs flagged.
pub flag_off : (hs : List ℕ) (s : ℕ) (p : Pair) (ps : List Pair) (m : Flagging) → (get_or hs (place_of p) 0 ≡ s → ⊥) → flag_all hs s (p ∷ ps) m ≡ flag_all hs s ps m
unfolding flag_all flag_one ◌∧ᵇ◌
flag_off hs s p ps m n = rw (ne_eqb (get_or hs (place_of p) 0) s n)

pub flag_old : (hs : List ℕ) (s : ℕ) (p : Pair) (ps : List Pair) (m : Flagging) → get_or m.flags (place_of p) false ≡ true → flag_all hs s (p ∷ ps) m ≡ flag_all hs s ps m
unfolding flag_all flag_one
flag_old hs s p ps m e = rw (e, no (eqb (get_or hs (place_of p) 0) s))
  where
    no : (b : Bool) → (b ∧ᵇ notᵇ true) ≡ false
    no b = is_false _ (λ t. not_e true (and_r _ _ t) tt)

pub flag_new : (hs : List ℕ) (s : ℕ) (p : Pair) (ps : List Pair) (fl : List Bool) (q : List ℕ) (n : ℕ) → get_or hs (place_of p) 0 ≡ s → get_or fl (place_of p) false ≡ false
    → flag_all hs s (p ∷ ps) (flagging fl q n) ≡ flag_all hs s ps (flagging (set fl (place_of p) true) (set q n (place_of p)) (n + 1))
unfolding flag_all flag_one ◌∧ᵇ◌ notᵇ
flag_new hs s p ps fl q n e d = rw (eq-eqb (get_or hs (place_of p) 0) s e, d)

pub flag_none : (hs : List ℕ) (s : ℕ) (m : Flagging) → flag_all hs s [] m ≡ m
unfolding flag_all
flag_none hs s m = refl

-- A place not flagged yet has room, and keeps the count.
pub room_more : (fl : List Bool) (n k : ℕ) → k < pair_places → get_or fl k false ≡ false → Room fl n → (n < pair_places) × Room (set fl k true) (n + 1)
room_more fl n k h e r =
    let z = flags_more fl k (omega (arith, r.flag_places)) e in
    let u = flags_top (set fl k true) in
    let v = length-set fl k true in
    (omega (arith, z, u, v, r.flag_places, r.counted), record { flag_places = v ∙ r.flag_places; counted = omega (arith, z, r.counted) })

-- The queue lists the places flagged.
pub record Queued (fl : List Bool) (q : List ℕ) (top : ℕ) : Type 0 where
  pub room : Room fl top
  pub listed : (k : ℕ) → T (get_or fl k false) → (x : ℕ) × (x < top) × (get_or q x 0 ≡ k)
  pub inside : (x : ℕ) → x < top → get_or q x 0 < pair_places
  pub flagged : (x : ℕ) → x < top → T (get_or fl (get_or q x 0) false)
  pub queue_places : length q ≡ pair_places

-- What flagging the pairs of a list comes to.
pub record FlaggedAll (hs : List ℕ) (s : ℕ) (ps : List Pair) (m n : Flagging) : Type 0 where
  pub queued : Queued n.flags n.queue n.top
  pub kept_flags : (k : ℕ) → T (get_or m.flags k false) → T (get_or n.flags k false)
  pub kept_queue : (x : ℕ) → x < m.top → get_or n.queue x 0 ≡ get_or m.queue x 0
  pub no_fewer : m.top ≤ n.top
  pub here : (p : Pair) → T (among p ps) → get_or hs (place_of p) 0 ≡ s → T (get_or n.flags (place_of p) false)
  pub from : (k : ℕ) → T (get_or n.flags k false) → T (get_or m.flags k false) ⊎ ((p : Pair) × T (among p ps) × (k ≡ place_of p) × (get_or hs (place_of p) 0 ≡ s))

-- One place more in the queue.
queued_more : (fl : List Bool) (q : List ℕ) (n k : ℕ) → k < pair_places → get_or fl k false ≡ false → Queued fl q n → Queued (set fl k true) (set q n k) (n + 1)
queued_more fl q n k h e g =
    let r = room_more fl n k h e g.room in
    let l : n < length q = omega (arith, r.0, g.queue_places) in
    record {
      room = r.1;
      listed = λ j t. ⊎_elim
          (λ (z : j ≡ k). (n, omega arith, rw z (get_or-set_same q n k 0 l)))
          (λ t. let w = g.listed j t in (w.0, omega (arith, w.1), get_or-set_other q n w.0 k 0 (λ (z : w.0 ≡ n). omega (arith, w.1)) ∙ w.2))
          (flag_from fl k j t);
      inside = λ x lt. ⊎_elim
          (λ (z : x ≡ n). rw (z, get_or-set_same q n k 0 l) h)
          (λ z. rw (get_or-set_other q n x k 0 z) (g.inside x (other x n z lt)))
          (either x n);
      flagged = λ x lt. ⊎_elim
          (λ (z : x ≡ n). rw (z, get_or-set_same q n k 0 l) (flag_here fl k (omega (arith, h, g.room.flag_places))))
          (λ z. rw (get_or-set_other q n x k 0 z) (flag_kept fl k (get_or q x 0) (g.flagged x (other x n z lt))))
          (either x n);
      queue_places = length-set q n k ∙ g.queue_places;
    }
  where
    other : (x n : ℕ) → (x ≡ n → ⊥) → x < n + 1 → x < n
    other x n z lt = ⊎_elim (λ a. absurd (z a)) (λ a. a) (eq-or-lt_of_le (let w : x ≤ n = omega arith in w))

-- Nothing is flagged at the first pair.
flagged_over : (hs : List ℕ) (s : ℕ) (p : Pair) (ps : List Pair) (m n : Flagging) → (get_or hs (place_of p) 0 ≡ s → T (get_or m.flags (place_of p) false)) → FlaggedAll hs s ps m n → FlaggedAll hs s (p ∷ ps) m n
unfolding among
flagged_over hs s p ps m n f w = record {
  queued = w.queued;
  kept_flags = w.kept_flags;
  kept_queue = w.kept_queue;
  no_fewer = w.no_fewer;
  here = λ x a d. ⊎_elim (λ c. let z = same_eq x p c in rw z (w.kept_flags (place_of p) (f (rw z at d)))) (λ c. w.here x c d) (or_e _ _ a);
  from = λ k t. ⊎_elim (λ c. inl c) (λ c. inr (c.0, or_r _ _ c.1, c.2, c.3)) (w.from k t);
}

-- The first pair is flagged.
flagged_first : (hs : List ℕ) (s : ℕ) (p : Pair) (ps : List Pair) (fl : List Bool) (q : List ℕ) (n : ℕ) (m : Flagging) → place_of p < length fl → get_or hs (place_of p) 0 ≡ s → length q ≡ pair_places → n < pair_places
    → FlaggedAll hs s ps (flagging (set fl (place_of p) true) (set q n (place_of p)) (n + 1)) m → FlaggedAll hs s (p ∷ ps) (flagging fl q n) m
unfolding among
flagged_first hs s p ps fl q n m h e l r w = record {
  queued = w.queued;
  kept_flags = λ k t. w.kept_flags k (flag_kept fl (place_of p) k t);
  kept_queue = λ x lt. w.kept_queue x (omega (arith, lt)) ∙ get_or-set_other q n x (place_of p) 0 (λ (z : x ≡ n). omega (arith, lt));
  no_fewer = omega (arith, w.no_fewer);
  here = λ x a d. ⊎_elim (λ c. let z = same_eq x p c in rw z (w.kept_flags (place_of p) (flag_here fl (place_of p) h))) (λ c. w.here x c d) (or_e _ _ a);
  from = λ k t. ⊎_elim
      (λ c. ⊎_elim (λ z. inr (p, or_l _ _ (same_refl p), z, e)) (λ z. inl z) (flag_from fl (place_of p) k c))
      (λ c. inr (c.0, or_r _ _ c.1, c.2, c.3)) (w.from k t);
}

pub flagged_all : (hs : List ℕ) (s : ℕ) (ps : List Pair) (fl : List Bool) (q : List ℕ) (n : ℕ) → ((p : Pair) → T (among p ps) → Placed p.slot p.value) → Queued fl q n
    → FlaggedAll hs s ps (flagging fl q n) (flag_all hs s ps (flagging fl q n))
unfolding among
flagged_all hs s [] fl q n placed g = rw (flag_none hs s (flagging fl q n)) (record {
  queued = g;
  kept_flags = λ k t. t;
  kept_queue = λ x h. refl;
  no_fewer = omega arith;
  here = λ p a. absurd a;
  from = λ k t. inl t;
})
flagged_all hs s (p ∷ ps) fl q n placed g =
    step (λ fl' q' n' g'. flagged_all hs s ps fl' q' n' (λ x a. placed x (or_r _ _ a)) g') (placed_inside p (placed p (or_l _ _ (same_refl p)))) (either (get_or hs (place_of p) 0) s) (get_or fl (place_of p) false) refl
  where
    step : ((fl' : List Bool) (q' : List ℕ) (n' : ℕ) → Queued fl' q' n' → FlaggedAll hs s ps (flagging fl' q' n') (flag_all hs s ps (flagging fl' q' n'))) → place_of p < pair_places
        → (get_or hs (place_of p) 0 ≡ s) ⊎ (get_or hs (place_of p) 0 ≡ s → ⊥) → (b : Bool) → get_or fl (place_of p) false ≡ b → FlaggedAll hs s (p ∷ ps) (flagging fl q n) (flag_all hs s (p ∷ ps) (flagging fl q n))
    step rest h (inr e) b f = rw (flag_off hs s p ps (flagging fl q n) e) (flagged_over hs s p ps _ _ (λ d. absurd (e d)) (rest fl q n g))
    step rest h (inl e) true f = rw (flag_old hs s p ps (flagging fl q n) f) (flagged_over hs s p ps _ _ (λ d. from_true _ f) (rest fl q n g))
    step rest h (inl e) false f =
        rw (flag_new hs s p ps fl q n e f)
        (flagged_first hs s p ps fl q n _ (omega (arith, h, g.room.flag_places)) e g.queue_places (room_more fl n (place_of p) h f g.room).0
        (rest (set fl (place_of p) true) (set q n (place_of p)) (n + 1) (queued_more fl q n (place_of p) h f g)))

-- The queue has no more places than there are pairs.
pub queue_few : (fl : List Bool) (q : List ℕ) (top : ℕ) → Queued fl q top → top ≤ pair_places
queue_few fl q top g = omega (arith, flags_top fl, g.room.counted, g.room.flag_places)
