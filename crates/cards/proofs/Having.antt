-- Pairs that the slots have: a slip that is taken has such pairs alone, and such pairs with rising slots pass; so do values within their slots.
-- Assumes nothing.
use mathlib.Core.Path.{◌≡◌, refl, sym, ap, subst, ◌∙◌}
use mathlib.Core.Bool.{Bool, true, false, cond}
use mathlib.Core.List.{List, [], ◌∷◌}
use mathlib.Core.Logic.{⊎_elim}
use Prim.Native.Nat.{ℕ, suc, ◌+◌, ◌≤◌, ◌<◌}
use native.Mathlib.Omega.{arith}
use lib.Dec.{T, eqb}
use lib.ListN.{length, get_or}
use borrow.Author.Tests.{eqb-true, eq-eqb, le-ltb}
use Rattle.laws.proofs.Truth.{or_e}
use Rattle.model.specs.Rules.{Pair, same, among}
use Rattle.model.proofs.Pairs.{same_eq}
use Rattle.laws.specs.Answers.{Verdict, passed, fault, taken}
use Rattle.cards.specs.Forms.{values_test, card_test, change_fault, changes_test, slip_test, read_card, read_slip}
use Rattle.cards.proofs.Tested.{change_right, no_fault, no_pair}
use Rattle.cards.proofs.RoundTrip.{card_accepted, slip_accepted}

-- Slots of so many values each have a pair: its slot is one of them, its value NONE or one of that slot's.
pub record Has (counts : List ℕ) (p : Pair) : Type 0 where
  pub below : p.slot < length counts
  pub last : p.value ≤ get_or counts p.slot 0

both_passed : (b : Bool) (v : Verdict) (k s : ℕ) → cond b v (fault k s) ≡ passed → (b ≡ true) × (v ≡ passed)
both_passed true v k s e = (refl, e)
both_passed false v k s e = absurd (let z : ◌≡◌ {A = ℕ} 0 1 = cc in omega arith)

-- A slip that passes its tests has such pairs alone,
pub tested_has : (counts : List ℕ) (low at : ℕ) (ps : List Pair) → changes_test counts low at ps ≡ passed → (p : Pair) → T (among p ps) → Has counts p
unfolding changes_test among
tested_has counts low at [] e p t = absurd t
tested_has counts low at (q ∷ qs) e p t =
    let w = both_passed (eqb (change_fault counts low q) 0) (changes_test counts (suc q.slot) (suc at) qs) (change_fault counts low q) at e in
    let r = change_right counts low q (eqb-true (change_fault counts low q) 0 w.0) in
    ⊎_elim (λ s. rw (same_eq p q s) (record { below = r.below; last = r.last })) (tested_has counts (suc q.slot) (suc at) qs w.1 p) (or_e (same p q) (among p qs) t)

-- none below the lowest slot allowed,
tested_above : (counts : List ℕ) (low at : ℕ) (ps : List Pair) → changes_test counts low at ps ≡ passed → (p : Pair) → T (among p ps) → low ≤ p.slot
unfolding changes_test among
tested_above counts low at [] e p t = absurd t
tested_above counts low at (q ∷ qs) e p t =
    let w = both_passed (eqb (change_fault counts low q) 0) (changes_test counts (suc q.slot) (suc at) qs) (change_fault counts low q) at e in
    let r = change_right counts low q (eqb-true (change_fault counts low q) 0 w.0) in
    ⊎_elim (λ s. rw (same_eq p q s) r.above) (λ s. omega (arith, r.above, tested_above counts (suc q.slot) (suc at) qs w.1 p s)) (or_e (same p q) (among p qs) t)

-- no two of one slot,
pub tested_once : (counts : List ℕ) (low at : ℕ) (ps : List Pair) → changes_test counts low at ps ≡ passed → (p q : Pair) → T (among p ps) → T (among q ps) → p.slot ≡ q.slot → p.value ≡ q.value
unfolding changes_test among
tested_once counts low at [] e p q t u h = absurd t
tested_once counts low at (x ∷ xs) e p q t u h =
    let w = both_passed (eqb (change_fault counts low x) 0) (changes_test counts (suc x.slot) (suc at) xs) (change_fault counts low x) at e in
    let later = tested_above counts (suc x.slot) (suc at) xs w.1 in
    ⊎_elim
    (λ a. ⊎_elim (λ b. ap (λ (y : Pair). y.value) (same_eq p x a ∙ sym (same_eq q x b))) (λ b. absurd (omega (arith, h, ap (λ (y : Pair). y.slot) (same_eq p x a), later q b))) (or_e (same q x) (among q xs) u))
    (λ a. ⊎_elim (λ b. absurd (omega (arith, h, ap (λ (y : Pair). y.slot) (same_eq q x b), later p a))) (λ b. tested_once counts (suc x.slot) (suc at) xs w.1 p q a b h) (or_e (same q x) (among q xs) u))
    (or_e (same p x) (among p xs) t)

-- and no more changes than there are slots.
pub tested_few : (counts : List ℕ) (low at : ℕ) (ps : List Pair) → changes_test counts low at ps ≡ passed → low ≤ length counts → low + length ps ≤ length counts
unfolding changes_test
tested_few counts low at [] e h = omega arith
tested_few counts low at (q ∷ qs) e h =
    let w = both_passed (eqb (change_fault counts low q) 0) (changes_test counts (suc q.slot) (suc at) qs) (change_fault counts low q) at e in
    let r = change_right counts low q (eqb-true (change_fault counts low q) 0 w.0) in
    omega (arith, r.above, tested_few counts (suc q.slot) (suc at) qs w.1 (omega (arith, r.below)))

-- Pairs that the slots have, with rising slots, pass.
pub rising_passes : (counts : List ℕ) (low at : ℕ) (ps : List Pair) → ((i : ℕ) → i < length ps → Has counts (get_or ps i no_pair)) → (0 < length ps → low ≤ (get_or ps 0 no_pair).slot)
    → ((i : ℕ) → suc i < length ps → (get_or ps i no_pair).slot < (get_or ps (suc i) no_pair).slot) → changes_test counts low at ps ≡ passed
unfolding changes_test
rising_passes counts low at [] has first rise = refl
rising_passes counts low at (p ∷ ps) has first rise =
    let h = has 0 (omega arith) in
    let z : change_fault counts low p ≡ 0 = no_fault counts low p h.below (first (omega arith)) h.last in
    rw (eq-eqb (change_fault counts low p) 0 z)
    (rising_passes counts (suc p.slot) (suc at) ps (λ i l. has (suc i) (omega arith)) (λ l. rise 0 (omega arith)) (λ i l. rise (suc i) (omega arith)))

-- Values none of which is above its slot's last pass.
pub within_passes : (at : ℕ) (counts vs : List ℕ) → ((i : ℕ) → i < length vs → get_or vs i 0 ≤ get_or counts i 0) → values_test at counts vs ≡ passed
unfolding values_test
within_passes at [] vs h = refl
within_passes at (n ∷ ns) [] h = refl
within_passes at (n ∷ ns) (v ∷ vs) h = rw (le-ltb n v (h 0 (omega arith))) (within_passes (suc at) ns vs (λ i l. h (suc i) (omega arith)))

-- A card that is taken passes its tests, and so does a slip.
pub card_tested : (counts ys vs : List ℕ) → read_card counts ys ≡ taken vs → card_test counts vs ≡ passed
card_tested counts ys vs e = let a = card_accepted counts ys vs e in subst (λ (us : List ℕ). card_test counts us ≡ passed) a.same_form a.passes

pub slip_tested : (counts ys : List ℕ) (ps : List Pair) → read_slip counts ys ≡ taken ps → slip_test counts ps ≡ passed
slip_tested counts ys ps e = let a = slip_accepted counts ys ps e in subst (λ (qs : List Pair). slip_test counts qs ≡ passed) a.same_form a.passes
