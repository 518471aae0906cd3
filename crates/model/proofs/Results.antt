-- Laws of what is worked out of C: the slots in conflict, the changes as a slip, the new card.
-- Assumes nothing.
use Prim.Native.Nat.{ℕ, zero, suc, ◌+◌, ◌≤◌, ◌<◌}
use native.Mathlib.Omega.{arith}
use native.Mathlib.Nat.{eq-or-lt_of_le}
use mathlib.Core.Path.{◌≡◌, subst, fun_ext}
use mathlib.Core.Bool.{Bool, true, false, cond}
use mathlib.Core.List.{List, [], ◌∷◌, ◌++◌, append-nil}
use mathlib.Core.Logic.{⊎_elim}
use lib.Dec.{T, leb→le, le→leb, ltb, ltb→lt, lt→ltb}
use lib.ListN.{length, get_or, length-append, get_or-append}
use lib.Seq.{get_or_at}
use Rattle.laws.specs.Numbers.{Numbered}
use Rattle.laws.specs.Below.{first_below}
use Rattle.laws.proofs.Truth.{bool_ext, le_or_lt, or_l, or_e}
use Rattle.laws.proofs.Numbers.{is_false}
use Rattle.laws.proofs.Below.{first_below_top, first_below_passes, first_below_first, count_two, two_counted}
use Rattle.laws.proofs.Tabulated.{tabulate_length, tabulate_at}
use Rattle.model.specs.Rules.{Pair, Pairs, Rule, among}
use Rattle.model.specs.Orders.{rule_at, changes, firing_order}
use Rattle.model.specs.Result.{pair, value_in, is_changed, in_conflict, conflict_slot, new_value, new_card, changes_slip, Bounded}
use Rattle.model.proofs.Pairs.{same_refl, same_eq, append_l, append_r, append_e, among_at}
use Rattle.model.proofs.Changes.{cause}
use Rattle.model.proofs.Orders.{are_rules}

-- C stays within the bounds of the slip and of the rules.
pub changes_bounded : (slots values : ℕ) (rs : List Rule) (S : List ℕ) (I : List Pair) (ns : List ℕ) → T (firing_order rs S I ns)
    → ((p : Pair) → T (among p I) → (p.slot < slots) × (p.value < values))
    → ((n : ℕ) (p : Pair) → Numbered (length rs) n → T (among p (rule_at rs n).assignments) → (p.slot < slots) × (p.value < values))
    → Bounded slots values (changes rs I ns)
unfolding firing_order
changes_bounded slots values rs S I ns o slip rule = record { slot_below = λ p t. (both p t).0; value_below = λ p t. (both p t).1 }
  where
    both : (p : Pair) → T (changes rs I ns p) → (p.slot < slots) × (p.value < values)
    both p t = ⊎_elim (slip p) (λ c. rule c.0 p (are_rules rs S I [] ns o c.0 c.1) c.2) (cause rs I ns p t)

module _ (values : ℕ) (C : Pairs) where
  -- A slot in conflict has two values in C.
  pub conflict_e : (s : ℕ) → T (in_conflict values C s) → (v : ℕ) × (w : ℕ) × (v < w) × (w < values) × T (C (pair s v)) × T (C (pair s w))
  unfolding in_conflict
  conflict_e s t = two_counted (λ v. C (pair s v)) values (leb→le _ _ t)

  -- A slot with two values in C is in conflict.
  pub conflict_i : (s v w : ℕ) → v < w → w < values → T (C (pair s v)) → T (C (pair s w)) → T (in_conflict values C s)
  unfolding in_conflict
  conflict_i s v w l h a b = le→leb _ _ (count_two (λ v. C (pair s v)) values v w l h a b)

  -- Where the number is below that of the slots, that slot is in conflict.
  pub conflict_slot_right : (slots : ℕ) → conflict_slot slots values C < slots → T (in_conflict values C (conflict_slot slots values C))
  unfolding conflict_slot
  conflict_slot_right slots h = first_below_passes (in_conflict values C) slots h

  -- No slot below it is in conflict.
  pub conflict_slot_lowest : (slots s : ℕ) → s < conflict_slot slots values C → ¬ T (in_conflict values C s)
  unfolding conflict_slot
  conflict_slot_lowest slots s h = first_below_first (in_conflict values C) slots s h

  -- It is at most the number of slots.
  pub conflict_slot_top : (slots : ℕ) → conflict_slot slots values C ≤ slots
  unfolding conflict_slot
  conflict_slot_top slots = first_below_top (in_conflict values C) slots

  -- The value found for a changed slot is in C.
  pub value_in_right : (s : ℕ) → T (is_changed values C s) → T (C (pair s (value_in values C s)))
  unfolding is_changed value_in
  value_in_right s t = first_below_passes (λ v. C (pair s v)) values (ltb→lt _ _ t)

  -- A slot with a value in C is changed.
  pub is_changed_i : (s v : ℕ) → v < values → T (C (pair s v)) → T (is_changed values C s)
  unfolding is_changed value_in
  is_changed_i s v h t =
      ⊎_elim (λ (l : suc (first_below (λ w. C (pair s w)) values) ≤ values). lt→ltb _ _ l)
      (λ (l : values < suc (first_below (λ w. C (pair s w)) values)). absurd (first_below_first (λ w. C (pair s w)) values v (omega arith) t))
      (le_or_lt (suc (first_below (λ w. C (pair s w)) values)) values)

  slip_last : (s : ℕ) (b : Bool) (p : Pair) → T (among p (cond b (pair s (value_in values C s) ∷ []) [])) → T b × (p ≡ pair s (value_in values C s))
  unfolding among
  slip_last s true p t = ⊎_elim (λ a. (tt, same_eq p (pair s (value_in values C s)) a)) (λ a. absurd a) (or_e _ _ t)
  slip_last s false p t = absurd t

  -- A change of the slip has its slot below the bound and is in C.
  pub slip_e : (k : ℕ) (p : Pair) → T (among p (changes_slip k values C)) → (p.slot < k) × T (C p)
  unfolding changes_slip among
  slip_e zero p t = absurd t
  slip_e (suc s) p t =
      ⊎_elim (λ a. let w = slip_e s p a in (omega (arith, w.0), w.1))
      (λ a. let w = slip_last s (is_changed values C s) p a in rw w.1 (omega arith, value_in_right s w.0)) (append_e p (changes_slip s values C) _ t)

  slip_here : (s : ℕ) (b : Bool) → T b → T (among (pair s (value_in values C s)) (cond b (pair s (value_in values C s) ∷ []) []))
  unfolding among
  slip_here s true t = or_l _ _ (same_refl (pair s (value_in values C s)))
  slip_here s false t = absurd t

  -- Each changed slot has its change in the slip.
  pub slip_i : (k s : ℕ) → s < k → T (is_changed values C s) → T (among (pair s (value_in values C s)) (changes_slip k values C))
  unfolding changes_slip
  slip_i zero s h t = absurd (omega arith)
  slip_i (suc k) s h t =
      ⊎_elim (λ (e : suc s ≡ suc k). let z : s ≡ k = omega arith in rw z (append_r _ (changes_slip k values C) _ (slip_here k (is_changed values C k) (rw z at t))))
      (λ (l : suc s < suc k). append_l _ (changes_slip k values C) _ (slip_i k s (omega arith) t)) (eq-or-lt_of_le h)

  -- The slip has at most one change for each slot.
  pub slip_length : (k : ℕ) → length (changes_slip k values C) ≤ k
  unfolding changes_slip
  slip_length zero = omega arith
  slip_length (suc s) = rw length-append (go (is_changed values C s) (slip_length s))
    where
      go : (b : Bool) → length (changes_slip s values C) ≤ s → length (changes_slip s values C) + length (cond b (pair s (value_in values C s) ∷ []) []) ≤ suc s
      go true le = omega arith
      go false le = omega arith

  slot_at : (k i : ℕ) (d : Pair) → i < length (changes_slip k values C) → (get_or (changes_slip k values C) i d).slot < k
  slot_at k i d h = (slip_e k (get_or (changes_slip k values C) i d) (among_at (changes_slip k values C) i d h)).0

  -- Its slots rise.
  pub slip_rising : (k i : ℕ) (d : Pair) → suc i < length (changes_slip k values C) → (get_or (changes_slip k values C) i d).slot < (get_or (changes_slip k values C) (suc i) d).slot
  unfolding changes_slip
  slip_rising zero i d h = absurd (omega arith)
  slip_rising (suc s) i d h = go (is_changed values C s) (slip_rising s i d) h
    where
      go : (b : Bool) → (suc i < length (changes_slip s values C) → (get_or (changes_slip s values C) i d).slot < (get_or (changes_slip s values C) (suc i) d).slot)
          → suc i < length (changes_slip s values C ++ cond b (pair s (value_in values C s) ∷ []) [])
          → (get_or (changes_slip s values C ++ cond b (pair s (value_in values C s) ∷ []) []) i d).slot < (get_or (changes_slip s values C ++ cond b (pair s (value_in values C s) ∷ []) []) (suc i) d).slot
      go false rec h = rw append-nil (rec (rw append-nil at h))
      go true rec h =
          let l = rw length-append at h in
          ⊎_elim
          (λ (e : suc (suc i) ≡ length (changes_slip s values C) + 1).
          let n : length (changes_slip s values C) ≡ suc i = omega arith in
          rw (get_or-append (changes_slip s values C) (pair s (value_in values C s) ∷ []) d i (omega arith), get_or_at (changes_slip s values C) (pair s (value_in values C s)) [] d (suc i) n) (slot_at s i d (omega arith)))
          (λ (m : suc (suc i) < length (changes_slip s values C) + 1).
          rw (
            get_or-append (changes_slip s values C) (pair s (value_in values C s) ∷ []) d i (omega arith),
            get_or-append (changes_slip s values C) (pair s (value_in values C s) ∷ []) d (suc i) (omega arith),
          ) (rec (omega arith)))
          (eq-or-lt_of_le l)

  module _ (slots : ℕ) (bounded : Bounded slots values C) where
    -- Where no slot is in conflict no slot has two values in C.
    pub no_conflict_e : conflict_slot slots values C ≡ slots → (s v w : ℕ) → T (C (pair s v)) → T (C (pair s w)) → v ≡ w
    no_conflict_e e s v w a b =
        ⊎_elim
        (λ (l : v ≤ w). ⊎_elim (λ q. q) (λ (m : v < w). absurd (none (conflict_i s v w m (bounded.value_below (pair s w) b) a b))) (eq-or-lt_of_le l))
        (λ (m : w < v). absurd (none (conflict_i s w v m (bounded.value_below (pair s v) a) b a))) (le_or_lt v w)
      where
        none : ¬ T (in_conflict values C s)
        none = conflict_slot_lowest slots s (omega (arith, bounded.slot_below (pair s v) a))

    -- And back.
    pub no_conflict_i : ((s v w : ℕ) → T (C (pair s v)) → T (C (pair s w)) → v ≡ w) → conflict_slot slots values C ≡ slots
    no_conflict_i one =
        ⊎_elim (λ q. q)
        (λ (l : conflict_slot slots values C < slots).
        let w = conflict_e (conflict_slot slots values C) (conflict_slot_right slots l) in absurd (omega (arith, w.2, one (conflict_slot slots values C) w.0 w.1 w.4 w.5)))
        (eq-or-lt_of_le (conflict_slot_top slots))

    -- Where no slot is in conflict the slip's pairs are exactly those of C.
    pub slip_exact : conflict_slot slots values C ≡ slots → (λ (p : Pair). among p (changes_slip slots values C)) ≡ C
    slip_exact e = fun_ext (λ p. bool_ext (among p (changes_slip slots values C)) (C p) (λ t. (slip_e slots p t).1) (is_listed p))
      where
        is_listed : (p : Pair) → T (C p) → T (among p (changes_slip slots values C))
        is_listed p t =
            let c : T (is_changed values C p.slot) = is_changed_i p.slot p.value (bounded.value_below p t) t in
            let v : value_in values C p.slot ≡ p.value = no_conflict_e e p.slot (value_in values C p.slot) p.value (value_in_right p.slot c) t in
            subst (λ (x : ℕ). T (among (pair p.slot x) (changes_slip slots values C))) v (slip_i slots p.slot (bounded.slot_below p t) c)

  -- The new card has a value for each slot.
  pub new_card_length : (slots : ℕ) (S : List ℕ) → length (new_card slots values C S) ≡ slots
  unfolding new_card
  new_card_length slots S = tabulate_length (new_value values C S) slots

  -- It is the new value of that slot.
  pub new_card_at : (slots s : ℕ) (S : List ℕ) → s < slots → get_or (new_card slots values C S) s 0 ≡ new_value values C S s
  unfolding new_card
  new_card_at slots s S h = tabulate_at (new_value values C S) slots s 0 h

  -- A slot that C has no value for keeps the card's.
  pub new_value_kept : (S : List ℕ) (s : ℕ) → ((v : ℕ) → v < values → ¬ T (C (pair s v))) → new_value values C S s ≡ get_or S s 0
  unfolding new_value is_changed
  new_value_kept S s h = rw (is_false (ltb (value_in values C s) values) (λ t. h (value_in values C s) (ltb→lt _ _ t) (value_in_right s t)))

  -- A slot that C has one value for gets it.
  pub new_value_is : (S : List ℕ) (s v : ℕ) → v < values → T (C (pair s v)) → ((w : ℕ) → T (C (pair s w)) → w ≡ v) → new_value values C S s ≡ v
  unfolding new_value
  new_value_is S s v h t one = go (is_changed values C s) (λ c. one (value_in values C s) (value_in_right s c)) (is_changed_i s v h t)
    where
      go : (b : Bool) → (T b → value_in values C s ≡ v) → T b → cond b (value_in values C s) (get_or S s 0) ≡ v
      go true e c = e tt
      go false e c = absurd c
