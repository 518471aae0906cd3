-- The declared pairs: those of a slot below the number of slots with NONE or a value up to the slot's last.
-- Assumes nothing.
use Prim.Native.Nat.{ℕ, zero, suc, ◌+◌, ◌≤◌, ◌<◌}
use native.Mathlib.Omega.{arith}
use native.Mathlib.Nat.{eq-or-lt_of_le}
use mathlib.Core.Path.{◌≡◌, refl}
use mathlib.Core.List.{List, [], ◌∷◌}
use mathlib.Core.Logic.{⊎_elim, ◌↔◌}
use lib.Dec.{T}
use lib.ListN.{length, get_or}
use Rattle.laws.specs.Truth.{◌∧ᵇ◌}
use Rattle.laws.specs.Numbers.{Numbered}
use Rattle.laws.specs.Listed.{all_of}
use Rattle.laws.proofs.Truth.{and_l, and_r, or_l, or_e}
use Rattle.laws.proofs.Listed.{all_e}
use Rattle.model.specs.Rules.{Pair, Rule, among}
use Rattle.model.specs.Orders.{no_rule, rule_at}
use Rattle.model.specs.Strata.{tested}
use Rattle.model.specs.Result.{pair}
use Rattle.model.proofs.Pairs.{same_refl, same_eq, append_l, append_r, append_e}
use Rattle.marks.specs.Marks.{slot_pairs, declared_from, declared_pairs}
use Rattle.marks.specs.inner.Declared.{Declared}
use Rattle.marks.proofs.Selections.{all_pairs_e}

-- What the one pair of a list is.
one : (p : Pair) (s k : ℕ) → p ≡ pair s k → (p.slot ≡ s) × (p.value ≤ k)
one p s k e = rw e (refl, omega arith)

values_e : (s k : ℕ) (p : Pair) → T (among p (slot_pairs s k)) → (p.slot ≡ s) × (p.value ≤ k)
unfolding slot_pairs among
values_e s zero p t = ⊎_elim (λ x. one p s 0 (same_eq p (pair s 0) x)) (λ x. absurd x) (or_e _ _ t)
values_e s (suc k) p t =
    ⊎_elim (λ h. let w = values_e s k p h in (w.0, omega (arith, w.1)))
    (λ (h : T (among p (pair s (suc k) ∷ []))). ⊎_elim (λ x. one p s (suc k) (same_eq p (pair s (suc k)) x)) (λ x. absurd x) (or_e _ _ h)) (append_e p (slot_pairs s k) _ t)

values_i : (s k v : ℕ) → v ≤ k → T (among (pair s v) (slot_pairs s k))
unfolding slot_pairs among
values_i s zero v hi = let e : v ≡ 0 = omega arith in rw e (or_l _ _ (same_refl (pair s 0)))
values_i s (suc k) v hi =
    ⊎_elim (λ (e : v ≡ suc k). rw e (append_r (pair s (suc k)) (slot_pairs s k) _ (or_l _ _ (same_refl (pair s (suc k))))))
    (λ (l : v < suc k). append_l (pair s v) (slot_pairs s k) _ (values_i s k v (omega arith))) (eq-or-lt_of_le hi)

from_e : (s : ℕ) (ks : List ℕ) (p : Pair) → T (among p (declared_from s ks)) → (i : ℕ) × (p.slot ≡ s + i) × (i < length ks) × (p.value ≤ get_or ks i 0)
unfolding declared_from among
from_e s [] p t = absurd t
from_e s (k ∷ ks) p t =
    ⊎_elim (λ h. let w = values_e s k p h in (0, omega (arith, w.0), omega arith, w.1))
    (λ h. let w = from_e (suc s) ks p h in (suc w.0, omega (arith, w.1), omega (arith, w.2), w.3)) (append_e p (slot_pairs s k) _ t)

from_i : (s : ℕ) (ks : List ℕ) (i v : ℕ) → i < length ks → v ≤ get_or ks i 0 → T (among (pair (s + i) v) (declared_from s ks))
unfolding declared_from
from_i s [] i v l hi = absurd (omega arith)
from_i s (k ∷ ks) zero v l hi = let z : s + 0 ≡ s = omega arith in rw z (append_l (pair s v) (slot_pairs s k) _ (values_i s k v hi))
from_i s (k ∷ ks) (suc i) v l hi =
    let z : s + suc i ≡ suc s + i = omega arith in rw z (append_r (pair (suc s + i) v) (slot_pairs s k) _ (from_i (suc s) ks i v (omega arith) hi))

-- What is declared.
pub declared_iff : (ks : List ℕ) (p : Pair) → T (among p (declared_pairs ks)) ↔ ((p.slot < length ks) × (p.value ≤ get_or ks p.slot 0))
unfolding declared_pairs
declared_iff ks p = (
  λ t. let w = from_e 0 ks p t in let e : w.0 ≡ p.slot = omega (arith, w.1) in rw (← e) (w.2, w.3),
  λ w. let z : 0 + p.slot ≡ p.slot = omega arith in rw z at (from_i 0 ks p.slot p.value w.0 w.1),
)

-- The pairs of the slip and of the rules are declared where a test over them says so.
pub declared_i : (ps : List Pair) (rs : List Rule) (I : List Pair) → T (all_of (λ p. among p ps) I)
    → T (all_of (λ r. all_of (λ p. among p ps) r.assignments ∧ᵇ all_of (λ p. among p ps) (tested r)) rs) → Declared ps rs I
unfolding rule_at
declared_i ps rs I a b = record {
  slip = all_pairs_e _ I a;
  assigned = λ n p i. (go n p i).0;
  in_tests = λ n p i. (go n p i).1;
}
  where
    go : (n : ℕ) (p : Pair) → Numbered (length rs) n → (T (among p (rule_at rs n).assignments) → T (among p ps)) × (T (among p (tested (rule_at rs n))) → T (among p ps))
    go zero p i = absurd (omega (arith, i.first))
    go (suc n) p i =
        let t = all_e _ rs no_rule b n (omega (arith, i.last)) in (
          λ h. all_pairs_e _ (get_or rs n no_rule).assignments (and_l _ _ t) p h,
          λ h. all_pairs_e _ (tested (get_or rs n no_rule)) (and_r _ _ t) p h,
        )
