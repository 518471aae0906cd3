-- What unpacking and packing come to: taken where no reason for a refusal holds, else refused for its reason.
-- Assumes nothing.
use Prim.Native.Nat.{ℕ, zero, suc, ◌+◌, ◌≤◌, ◌<◌}
use native.Mathlib.Omega.{arith}
use mathlib.Core.Path.{◌≡◌, refl, sym, ap, subst}
use mathlib.Core.Bool.{Bool, true, false, cond}
use mathlib.Core.List.{List}
use mathlib.Core.Logic.{◌⊎◌, inl, inr, ⊎_elim}
use lib.Dec.{eqb, ltb}
use lib.ListN.{length, get_or}
use borrow.Author.Tests.{eqb-true, eqb-false, ltb-true, ltb-false}
use Rattle.laws.specs.Answers.{Verdict, passed, fault, OrRefused, taken, refused, after}
use Rattle.laws.specs.Limits.{slot_limit}
use Rattle.laws.specs.Packed.{byte_count}
use Rattle.laws.proofs.Truth.{le_or_lt}
use Rattle.model.specs.Rules.{Pair}
use Rattle.cards.specs.Forms.{card_bits, slip_bits, count_in, values_in, changes_in, padding, values_test, card_test, change_fault, slip_test, card_bytes, slip_bytes, read_card, read_slip, write_card, write_slip}
use Rattle.cards.proofs.Tested.{ValuesLeft, values_start, values_next, values_fault, values_end, other_count, same_count, no_pair, ChangesLeft, changes_start, changes_next, changes_fault, changes_end, fault_25, fault_26, fault_27, no_fault}
use Rattle.promises.specs.Reasons.{ValuesReason, another_count, value_above, ValuesRight, CardReason, card_length, values_refused, card_padding, CardRight, PackedCardReason, packed_values, packed_card_room, PackedCardRight, slot_of, value_of, Rises, slot_lacking, not_rising, value_beyond, ChangeFault, ChangeRight, FirstFaulty, ChangesRight, SlipReason, slip_length, slip_change, slip_padding, SlipRight, PackedSlipReason, too_many, packed_change, packed_slip_room, PackedSlipRight}

-- What is taken has a property, and what is refused a reason.
abbrev pub Judged : {A : Type 0} → (ℕ → ℕ → Type 0) → (A → Type 0) → OrRefused A → Type 0
Judged R Q (taken a) = Q a
Judged R Q (refused k s) = R k s

-- The same of a test.
abbrev Tests : (ℕ → ℕ → Type 0) → Type 0 → Verdict → Type 0
Tests R Q passed = Q
Tests R Q (fault k s) = R k s

judged_after : {A : Type 0} (R R' : ℕ → ℕ → Type 0) (Q : Type 0) (P : A → Type 0) (v : Verdict) (u : OrRefused A) → Tests R' Q v → ((k s : ℕ) → R' k s → R k s) → (Q → Judged R P u) → Judged R P (after v u)
unfolding after
judged_after R R' Q P passed u t r q = q t
judged_after R R' Q P (fault k s) u t r q = r k s t

pub judged_if : {A : Type 0} (R : ℕ → ℕ → Type 0) (P : A → Type 0) (b : Bool) (u v : OrRefused A) → (b ≡ true → Judged R P u) → (b ≡ false → Judged R P v) → Judged R P (cond b u v)
judged_if R P true u v g h = g refl
judged_if R P false u v g h = h refl

-- What the values of a card come to.
abbrev ValuesJudged : List ℕ → List ℕ → Type 0
ValuesJudged counts vs = Tests (ValuesReason counts vs) (ValuesRight counts vs) (values_test 0 counts vs)

-- Those before place i + 1 are within their slots where those before i and that of i are.
one_more : (counts vs : List ℕ) (i : ℕ) → ((r : ℕ) → r < i → get_or vs r 0 ≤ get_or counts r 0) → get_or vs i 0 ≤ get_or counts i 0 → (r : ℕ) → r < i + 1 → get_or vs r 0 ≤ get_or counts r 0
one_more counts vs i low l r q = ⊎_elim (λ (w : i ≤ r). let same : r ≡ i = omega (arith, q, w) in rw same l) (low r) (le_or_lt i r)

-- The values of a card from place i on, n of them.
values_from : (counts vs : List ℕ) → length vs ≡ length counts → (n i : ℕ) → i + n ≡ length counts → ((r : ℕ) → r < i → get_or vs r 0 ≤ get_or counts r 0) → ValuesLeft counts vs i → ValuesJudged counts vs
values_from counts vs e zero i z low left =
    subst (Tests (ValuesReason counts vs) (ValuesRight counts vs)) (sym (values_end counts vs i (omega (arith, z)) left)) (record { as_many = e; within = λ s h. low s (omega (arith, h, z)) })
values_from counts vs e (suc n) i z low left =
    let h : i < length counts = omega (arith, z) in
    let g : i < length vs = omega (arith, h, e) in
    ⊎_elim (λ l. values_from counts vs e n (i + 1) (omega (arith, z)) (one_more counts vs i low l) (values_next counts vs i h g left l))
    (λ l. subst (Tests (ValuesReason counts vs) (ValuesRight counts vs)) (sym (values_fault counts vs i h g left l)) (value_above e (record { slot = h; above = l; first = low }))) (le_or_lt (get_or vs i 0) (get_or counts i 0))

values_judged : (counts vs : List ℕ) → Tests (ValuesReason counts vs) (ValuesRight counts vs) (card_test counts vs)
values_judged counts vs = go (eqb (length vs) (length counts)) refl
  where
    go : (b : Bool) → eqb (length vs) (length counts) ≡ b → Tests (ValuesReason counts vs) (ValuesRight counts vs) (card_test counts vs)
    go true q =
        let e = eqb-true (length vs) (length counts) q in
        subst (Tests (ValuesReason counts vs) (ValuesRight counts vs)) (sym (same_count counts vs (values_test 0 counts vs) e refl)) (values_from counts vs e (length counts) 0 (omega arith) (λ r h. absurd (omega (arith, h))) (values_start counts vs))
    go false q = let n = eqb-false (length vs) (length counts) q in subst (Tests (ValuesReason counts vs) (ValuesRight counts vs)) (sym (other_count counts vs n)) (another_count n)

-- The bytes of a card,
pub card_judged : (counts ys : List ℕ) → Judged (CardReason counts ys) (λ vs. (vs ≡ values_in ys) × CardRight counts ys) (read_card counts ys)
unfolding read_card
card_judged counts ys =
    judged_if (CardReason counts ys) (λ vs. (vs ≡ values_in ys) × CardRight counts ys) (eqb (length ys) (byte_count (card_bits (count_in ys)))) _ (refused 20 0)
    (λ b. let l = eqb-true (length ys) _ b in
    judged_after (CardReason counts ys) (ValuesReason counts (values_in ys)) (ValuesRight counts (values_in ys)) _ (card_test counts (values_in ys)) _ (values_judged counts (values_in ys)) (λ k s r. values_refused l r)
    (λ v. judged_if (CardReason counts ys) _ (eqb (padding ys (card_bits (count_in ys))) 0) (taken (values_in ys)) (refused 23 0)
    (λ p. (refl, record { long = l; values_right = v; padded = eqb-true _ 0 p })) (λ p. card_padding l v (eqb-false _ 0 p))))
    (λ b. card_length (eqb-false (length ys) _ b))

-- and a card that is packed.
pub packed_card_judged : (counts vs : List ℕ) (room : ℕ) → Judged (PackedCardReason counts vs room) (λ ys. (ys ≡ card_bytes vs) × PackedCardRight counts vs room) (write_card counts vs room)
unfolding write_card
packed_card_judged counts vs room =
    judged_after (PackedCardReason counts vs room) (ValuesReason counts vs) (ValuesRight counts vs) _ (card_test counts vs) _ (values_judged counts vs) (λ k s r. packed_values r)
    (λ v. judged_if (PackedCardReason counts vs room) _ (ltb room (byte_count (card_bits (length vs)))) (refused 30 1) (taken (card_bytes vs))
    (λ b. packed_card_room v (ltb-true room _ b)) (λ b. (refl, record { values_right = v; enough = ltb-false room _ b })))

-- `low` is 0 at the first change, and else one above the slot of the change before.
Low : List Pair → ℕ → ℕ → Type 0
Low ps i low = ((i ≡ 0) × (low ≡ 0)) ⊎ ((j : ℕ) × (suc j ≡ i) × (low ≡ slot_of ps j + 1))

module _ (counts : List ℕ) (ps : List Pair) where
  rises : (i low : ℕ) → Low ps i low → low ≤ slot_of ps i → Rises ps i
  unfolding Low
  rises i low (inl q) l j e = absurd (omega (arith, q.0, e))
  rises i low (inr q) l j e = let same : q.0 ≡ j = omega (arith, q.1, e) in let w = q.2 in let x = ap (slot_of ps) same in omega (arith, l, w, x)

  falls : (i low : ℕ) → Low ps i low → slot_of ps i < low → (j : ℕ) × (suc j ≡ i) × (slot_of ps i ≤ slot_of ps j)
  unfolding Low
  falls i low (inl q) l = absurd (omega (arith, q.1, l))
  falls i low (inr q) l = (q.0, q.1, omega (arith, q.2, l))

  -- What the changes come to.
  abbrev ChangesJudged : Type 0
  ChangesJudged = Tests (FirstFaulty counts ps) (ChangesRight counts ps) (slip_test counts ps)

  -- The change at place i: a fault of it, or on to the next.
  change_judged : (i low : ℕ) → Low ps i low → ((k : ℕ) → (k ≡ 0 → ⊥) → change_fault counts low (get_or ps i no_pair) ≡ k → ChangeFault counts ps i k → ChangesJudged)
      → (change_fault counts low (get_or ps i no_pair) ≡ 0 → ChangeRight counts ps i → ChangesJudged) → ChangesJudged
  change_judged i low q stops on = ⊎_elim (λ l. stops 25 (λ y. omega (arith, y)) (fault_25 counts low (get_or ps i no_pair) l) (slot_lacking l)) below (le_or_lt (length counts) (slot_of ps i))
    where
      below : slot_of ps i < length counts → ChangesJudged
      below b = ⊎_elim above (λ l. let w = falls i low q l in stops 26 (λ y. omega (arith, y)) (fault_26 counts low (get_or ps i no_pair) b l) (not_rising b w.0 w.1 w.2)) (le_or_lt low (slot_of ps i))
        where
          above : low ≤ slot_of ps i → ChangesJudged
          above a =
              ⊎_elim (λ l. on (no_fault counts low (get_or ps i no_pair) b a l) (record { below = b; rises = rises i low q a; to_last = l }))
              (λ l. stops 27 (λ y. omega (arith, y)) (fault_27 counts low (get_or ps i no_pair) b a l) (value_beyond b (rises i low q a) l)) (le_or_lt (value_of ps i) (get_or counts (slot_of ps i) 0))

  -- The changes from place i on, n of them.
  changes_from : (n i low : ℕ) → i + n ≡ length ps → Low ps i low → ((j : ℕ) → j < i → ChangeRight counts ps j) → ChangesLeft counts ps low i → ChangesJudged
  unfolding Low
  changes_from zero i low z q right left =
      subst (Tests (FirstFaulty counts ps) (ChangesRight counts ps)) (sym (changes_end counts ps low i (omega (arith, z)) left)) (λ j h. right j (omega (arith, h, z)))
  changes_from (suc n) i low z q right left =
      let h : i < length ps = omega (arith, z) in
      change_judged i low q
      (λ k y e c. subst (Tests (FirstFaulty counts ps) (ChangesRight counts ps)) (sym (changes_fault counts ps low i h left k e y)) (record { change = h; faulty = c; first = right }))
      (λ e r. changes_from n (i + 1) (slot_of ps i + 1) (omega (arith, z)) (inr (i, omega arith, refl)) (next right r) (changes_next counts ps low i h left e))
    where
      next : ((j : ℕ) → j < i → ChangeRight counts ps j) → ChangeRight counts ps i → (j : ℕ) → j < i + 1 → ChangeRight counts ps j
      next before r j e = ⊎_elim (λ (w : i ≤ j). let same : j ≡ i = omega (arith, w, e) in subst (ChangeRight counts ps) (sym same) r) (before j) (le_or_lt i j)

  changes_judged : Tests (FirstFaulty counts ps) (ChangesRight counts ps) (slip_test counts ps)
  unfolding Low
  changes_judged = changes_from (length ps) 0 0 (omega arith) (inl (refl, refl)) (λ j h. absurd (omega (arith, h))) (changes_start counts ps)

-- The bytes of a slip,
pub slip_judged : (counts ys : List ℕ) → Judged (SlipReason counts ys) (λ ps. (ps ≡ changes_in ys) × SlipRight counts ys) (read_slip counts ys)
unfolding read_slip
slip_judged counts ys =
    judged_if (SlipReason counts ys) (λ ps. (ps ≡ changes_in ys) × SlipRight counts ys) (eqb (length ys) (byte_count (slip_bits (count_in ys)))) _ (refused 24 0)
    (λ b. let l = eqb-true (length ys) _ b in
    judged_after (SlipReason counts ys) (FirstFaulty counts (changes_in ys)) (ChangesRight counts (changes_in ys)) _ (slip_test counts (changes_in ys)) _ (changes_judged counts (changes_in ys)) (λ k s r. slip_change l r)
    (λ v. judged_if (SlipReason counts ys) _ (eqb (padding ys (slip_bits (count_in ys))) 0) (taken (changes_in ys)) (refused 28 0)
    (λ p. (refl, record { long = l; changes_right = v; padded = eqb-true _ 0 p })) (λ p. slip_padding l v (eqb-false _ 0 p))))
    (λ b. slip_length (eqb-false (length ys) _ b))

-- and a slip that is packed.
pub packed_slip_judged : (counts : List ℕ) (ps : List Pair) (room : ℕ) → Judged (PackedSlipReason counts ps room) (λ ys. (ys ≡ slip_bytes ps) × PackedSlipRight counts ps room) (write_slip counts ps room)
unfolding write_slip
packed_slip_judged counts ps room =
    judged_if (PackedSlipReason counts ps room) (λ ys. (ys ≡ slip_bytes ps) × PackedSlipRight counts ps room) (ltb slot_limit (length ps)) (refused 24 0) _
    (λ b. too_many (ltb-true slot_limit (length ps) b))
    (λ b. let f = ltb-false slot_limit (length ps) b in
    judged_after (PackedSlipReason counts ps room) (FirstFaulty counts ps) (ChangesRight counts ps) _ (slip_test counts ps) _ (changes_judged counts ps) (λ k s r. packed_change f r)
    (λ v. judged_if (PackedSlipReason counts ps room) _ (ltb room (byte_count (slip_bits (length ps)))) (refused 30 2) (taken (slip_bytes ps))
    (λ r. packed_slip_room f v (ltb-true room _ r)) (λ r. (refl, record { few = f; changes_right = v; enough = ltb-false room _ r }))))

-- The reasons of a card and of a slip have numbers below 30.
values_below : (counts vs : List ℕ) (k s : ℕ) → ValuesReason counts vs k s → k < 30
values_below counts vs k s (another_count n) = omega arith
values_below counts vs k s (value_above n f) = omega arith

pub card_below : (counts ys : List ℕ) (k s : ℕ) → CardReason counts ys k s → k < 30
card_below counts ys k s (card_length n) = omega arith
card_below counts ys k s (values_refused l r) = values_below counts _ k s r
card_below counts ys k s (card_padding l v n) = omega arith

change_below : (counts : List ℕ) (ps : List Pair) (j k : ℕ) → ChangeFault counts ps j k → k < 30
change_below counts ps j k (slot_lacking l) = omega arith
change_below counts ps j k (not_rising l i q f) = omega arith
change_below counts ps j k (value_beyond l q f) = omega arith

pub slip_below : (counts ys : List ℕ) (k s : ℕ) → SlipReason counts ys k s → k < 30
slip_below counts ys k s (slip_length n) = omega arith
slip_below counts ys k s (slip_change l f) = change_below counts _ s k f.faulty
slip_below counts ys k s (slip_padding l v n) = omega arith
