-- The tests of values and of changes, one after the other: what is left from a place on.
-- Assumes nothing.
use mathlib.Core.Path.{◌≡◌, refl, sym}
use mathlib.Core.Bool.{Bool, true, false, cond}
use mathlib.Core.List.{List}
use Prim.Native.Nat.{ℕ, ◌+◌, ◌≤◌, ◌<◌}
use native.Mathlib.Numerals.{add-one}
use native.Mathlib.Omega.{arith}
use lib.Dec.{leb, ltb}
use lib.ListN.{length, get_or, drop, drop_of_length-le}
use lib.Seq.{drop-cons}
use borrow.Author.Tests.{lt-ltb, le-ltb, le-leb, lt-leb, eq-eqb, ne_eqb, ltb-false, leb-false}
use Rattle.refusals.specs.declared.ChangeFault.{ChangeFault}
use Rattle.refusals.specs.declared.ChangeFault.TheVariants as variant
use Rattle.refusals.specs.Numbers.{change_number}
use Rattle.model.specs.Rules.{Pair}
use Rattle.model.specs.Result.{pair}
use Rattle.laws.specs.Answers.{Verdict, passed, fault}
use Rattle.cards.specs.Forms.{values_test, card_test, change_fault, changes_test, slip_test}

-- The values from place i on are left to test, and those before passed.
abbrev pub ValuesLeft : List ℕ → List ℕ → ℕ → Type 0
ValuesLeft counts vs i = values_test i (drop i counts) (drop i vs) ≡ values_test 0 counts vs

pub values_start : (counts vs : List ℕ) → ValuesLeft counts vs 0
values_start counts vs = refl

module _ (counts vs : List ℕ) (i : ℕ) (h : i < length counts) (g : i < length vs) (left : ValuesLeft counts vs i) where
  pub values_next : get_or vs i 0 ≤ get_or counts i 0 → ValuesLeft counts vs (i + 1)
  unfolding values_test
  values_next le = rw (add-one i) (rw (drop-cons counts i 0 h, drop-cons vs i 0 g, le-ltb (get_or counts i 0) (get_or vs i 0) le) at left)

  pub values_fault : get_or counts i 0 < get_or vs i 0 → values_test 0 counts vs ≡ fault 22 i
  unfolding values_test
  values_fault lt = sym (rw (drop-cons counts i 0 h, drop-cons vs i 0 g, lt-ltb (get_or counts i 0) (get_or vs i 0) lt) at left)

pub values_end : (counts vs : List ℕ) (i : ℕ) → length counts ≤ i → ValuesLeft counts vs i → values_test 0 counts vs ≡ passed
unfolding values_test
values_end counts vs i h left = sym (rw (drop_of_length-le counts {i = i} h) at left)

-- The tests of a card.
pub other_count : (counts vs : List ℕ) → (length vs ≡ length counts → ⊥) → card_test counts vs ≡ fault 21 0
unfolding card_test
other_count counts vs n = rw (ne_eqb (length vs) (length counts) n)

pub same_count : (counts vs : List ℕ) (v : Verdict) → length vs ≡ length counts → values_test 0 counts vs ≡ v → card_test counts vs ≡ v
unfolding card_test
same_count counts vs v e t = rw (eq-eqb (length vs) (length counts) e, t)

-- What reading a list of changes past its end gives.
abbrev pub no_pair : Pair
no_pair = pair 0 0

-- The changes from place i on are left to test, and those before passed.
abbrev pub ChangesLeft : List ℕ → List Pair → ℕ → ℕ → Type 0
ChangesLeft counts ps low i = changes_test counts low i (drop i ps) ≡ slip_test counts ps

pub changes_start : (counts : List ℕ) (ps : List Pair) → ChangesLeft counts ps 0 0
changes_start counts ps = refl

module _ (counts : List ℕ) (ps : List Pair) (low i : ℕ) (h : i < length ps) (left : ChangesLeft counts ps low i) where
  pub changes_next : change_fault counts low (get_or ps i no_pair) ≡ 0 → ChangesLeft counts ps ((get_or ps i no_pair).slot + 1) (i + 1)
  unfolding changes_test
  changes_next e = rw (add-one i, add-one (get_or ps i no_pair).slot) (rw (drop-cons ps i no_pair h, eq-eqb (change_fault counts low (get_or ps i no_pair)) 0 e) at left)

  pub changes_fault : (k : ℕ) → change_fault counts low (get_or ps i no_pair) ≡ k → (k ≡ 0 → ⊥) → slip_test counts ps ≡ fault k i
  unfolding changes_test
  changes_fault k e n = sym (rw (drop-cons ps i no_pair h, e, ne_eqb k 0 n) at left)

pub changes_end : (counts : List ℕ) (ps : List Pair) (low i : ℕ) → length ps ≤ i → ChangesLeft counts ps low i → slip_test counts ps ≡ passed
unfolding changes_test
changes_end counts ps low i h left = sym (rw (drop_of_length-le ps {i = i} h) at left)

-- What a change without fault is: a slot below the slot count and not below `low`, a value up to the slot's last.
pub record Right (counts : List ℕ) (low : ℕ) (p : Pair) : Type 0 where
  pub below : p.slot < length counts
  pub above : low ≤ p.slot
  pub last : p.value ≤ get_or counts p.slot 0

pub change_right : (counts : List ℕ) (low : ℕ) (p : Pair) → change_fault counts low p ≡ 0 → Right counts low p
unfolding change_fault
change_right counts low p e = go (leb (length counts) p.slot) (ltb p.slot low) (ltb (get_or counts p.slot 0) p.value) refl refl refl e
  where
    go : (a b c : Bool) → leb (length counts) p.slot ≡ a → ltb p.slot low ≡ b → ltb (get_or counts p.slot 0) p.value ≡ c
        → ◌≡◌ {A = ℕ} (cond a 25 (cond b 26 (cond c 27 0))) 0 → Right counts low p
    go true b c ea eb ec z = absurd (omega arith)
    go false true c ea eb ec z = absurd (omega arith)
    go false false true ea eb ec z = absurd (omega arith)
    go false false false ea eb ec z = record { below = leb-false (length counts) p.slot ea; above = ltb-false p.slot low eb; last = ltb-false (get_or counts p.slot 0) p.value ec }

-- The number of a fault is not that of none.
pub number_not-0 : (f : ChangeFault) → change_number f ≡ 0 → ⊥
number_not-0 variant.UnknownSlot e = omega arith
number_not-0 variant.NotRising e = omega arith
number_not-0 variant.UnknownValue e = omega arith

-- The fault of a change, test by test.
pub fault_25 : (counts : List ℕ) (low : ℕ) (p : Pair) → length counts ≤ p.slot → change_fault counts low p ≡ 25
unfolding change_fault
fault_25 counts low p h = rw (le-leb (length counts) p.slot h)

module _ (counts : List ℕ) (low : ℕ) (p : Pair) (h : p.slot < length counts) where
  pub fault_26 : p.slot < low → change_fault counts low p ≡ 26
  unfolding change_fault
  fault_26 l = rw (lt-leb (length counts) p.slot h, lt-ltb p.slot low l)

  pub fault_27 : low ≤ p.slot → get_or counts p.slot 0 < p.value → change_fault counts low p ≡ 27
  unfolding change_fault
  fault_27 l g = rw (lt-leb (length counts) p.slot h, le-ltb p.slot low l, lt-ltb (get_or counts p.slot 0) p.value g)

  pub no_fault : low ≤ p.slot → p.value ≤ get_or counts p.slot 0 → change_fault counts low p ≡ 0
  unfolding change_fault
  no_fault l g = rw (lt-leb (length counts) p.slot h, le-ltb p.slot low l, le-ltb (get_or counts p.slot 0) p.value g)
