-- The answer of changes C over slots of so many values each: its changes and its new card unpack, and where C gives no slot two values, what each slot holds.
-- Assumes nothing.
use Prim.Native.Nat.{ℕ, ◌≤◌, ◌<◌}
use native.Mathlib.Omega.{arith}
use mathlib.Core.Path.{◌≡◌, refl, ap, subst, ◌∙◌}
use mathlib.Core.Bool.{Bool, true, false, cond}
use mathlib.Core.List.{List}
use lib.Dec.{T}
use lib.ListN.{length, get_or}
use Rattle.laws.specs.Answers.{passed, taken}
use Rattle.laws.specs.Limits.{row}
use Rattle.laws.proofs.Truth.{bool_ext}
use Rattle.laws.proofs.Equations.{from_true}
use Rattle.model.specs.Rules.{Pair, Pairs, among}
use Rattle.model.specs.Result.{pair, value_in, is_changed, new_value, new_card, changes_slip}
use Rattle.model.proofs.Pairs.{among_at}
use Rattle.model.proofs.Results.{value_in_right, is_changed_i, slip_e, slip_i, slip_length, slip_rising, new_card_length, new_card_at, new_value_kept, new_value_is}
use Rattle.cards.specs.Forms.{card_test, slip_test, card_bytes, slip_bytes, read_card, read_slip}
use Rattle.cards.proofs.Tested.{same_count, no_pair}
use Rattle.cards.specs.inner.Fitting.{Slots}
use Rattle.cards.proofs.Passed.{values_pass, card_pass}
use Rattle.cards.proofs.Having.{rising_passes, within_passes}
use Rattle.cards.proofs.RoundTrip.{card_reads_back, slip_reads_back}

module _ (counts : List ℕ) (slots : Slots counts) (C : Pairs) (within : (p : Pair) → p.slot < length counts → T (C p) → p.value ≤ get_or counts p.slot 0) where
  abbrev width : ℕ
  width = length counts

  -- The pairs of C for these slots have a place in an array's row.
  small : (p : Pair) → p.slot < width → T (C p) → p.value < row
  small p l t = omega (arith, within p l t, slots.small p.slot l)

  -- The changes are a slip that passes its tests,
  changes_pass : slip_test counts (changes_slip width row C) ≡ passed
  changes_pass =
      rising_passes counts 0 0 (changes_slip width row C)
      (λ i l. let w = slip_e row C width (get_or (changes_slip width row C) i no_pair) (among_at (changes_slip width row C) i no_pair l) in record { below = w.0; last = within _ w.0 w.1 })
      (λ l. omega arith) (λ i l. slip_rising row C width i no_pair l)

  -- and unpack.
  pub changes_unpack : read_slip counts (slip_bytes (changes_slip width row C)) ≡ taken (changes_slip width row C)
  changes_unpack = slip_reads_back counts (changes_slip width row C) slots (omega (arith, slip_length row C width, slots.few)) changes_pass

  module _ (S : List ℕ) (card : card_test counts S ≡ passed) where
    -- The new card passes, as the old one does,
    new_card_passes : card_test counts (new_card width row C S) ≡ passed
    unfolding new_value
    new_card_passes =
        same_count counts (new_card width row C S) passed (new_card_length row C width S)
        (within_passes 0 counts (new_card width row C S) (λ i l. let m : i < width = omega (arith, l, new_card_length row C width S) in rw (new_card_at row C width i S m) (low i m)))
      where
        low : (i : ℕ) → i < width → new_value row C S i ≤ get_or counts i 0
        low i m = go (is_changed row C i) (λ t. within (pair i (value_in row C i)) m (value_in_right row C i t)) (let c = card_pass counts S card in values_pass 0 counts S c.1 i m (omega (arith, m, c.0)))
          where
            go : (b : Bool) → (T b → value_in row C i ≤ get_or counts i 0) → get_or S i 0 ≤ get_or counts i 0 → cond b (value_in row C i) (get_or S i 0) ≤ get_or counts i 0
            go true h l = h tt
            go false h l = l

    -- and unpacks.
    pub card_unpacks : read_card counts (card_bytes (new_card width row C S)) ≡ taken (new_card width row C S)
    card_unpacks = card_reads_back counts (new_card width row C S) slots new_card_passes

    -- A slot that C has no value for has the old card's,
    pub value_old : (s : ℕ) → s < width → ((v : ℕ) → ¬ T (C (pair s v))) → get_or (new_card width row C S) s 0 ≡ get_or S s 0
    value_old s l lacks = new_card_at row C width s S l ∙ new_value_kept row C S s (λ v h. lacks v)

    -- and one that C has one value for has that.
    pub value_new : ((s v w : ℕ) → s < width → T (C (pair s v)) → T (C (pair s w)) → v ≡ w) → (s v : ℕ) → s < width → T (C (pair s v)) → get_or (new_card width row C S) s 0 ≡ v
    value_new one s v l t = new_card_at row C width s S l ∙ new_value_is row C S s v (small (pair s v) l t) t (λ w u. one s w v l u t)

    -- It keeps what it held, a value or none, unless C has another for it.
    pub value_kept : ((s v w : ℕ) → s < width → T (C (pair s v)) → T (C (pair s w)) → v ≡ w) → (s : ℕ) → s < width → ((v : ℕ) → ¬ (v ≡ get_or S s 0) → ¬ T (C (pair s v))) → get_or (new_card width row C S) s 0 ≡ get_or S s 0
    value_kept one s l h = go (C (pair s (get_or S s 0))) refl
      where
        go : (b : Bool) → C (pair s (get_or S s 0)) ≡ b → get_or (new_card width row C S) s 0 ≡ get_or S s 0
        go true e = value_new one s (get_or S s 0) l (from_true _ e)
        go false e = value_old s l (λ v t. h v (λ q. subst T (ap (λ (x : ℕ). C (pair s x)) q ∙ e) t) t)

  -- The changes show the pairs that C has for these slots.
  pub pairs_shown : ((s v w : ℕ) → s < width → T (C (pair s v)) → T (C (pair s w)) → v ≡ w) → (p : Pair) → p.slot < width → C p ≡ among p (changes_slip width row C)
  pairs_shown one p l = bool_ext (C p) (among p (changes_slip width row C)) there (λ t. (slip_e row C width p t).1)
    where
      there : T (C p) → T (among p (changes_slip width row C))
      there t =
          let c : T (is_changed row C p.slot) = is_changed_i row C p.slot p.value (small p l t) t in
          let v : value_in row C p.slot ≡ p.value = one p.slot (value_in row C p.slot) p.value l (value_in_right row C p.slot c) t in
          subst (λ (x : ℕ). T (among (pair p.slot x) (changes_slip width row C))) v (slip_i row C width p.slot l c)
