-- Laws of the lent table of records.
-- Assumes nothing.
use mathlib.Core.Path.{◌≡◌, refl}
use mathlib.Core.Bool.{Bool, true, false, cond}
use Prim.Native.Nat.{ℕ, suc, ◌-◌, ◌≤◌, ◌<◌}
use native.Mathlib.Omega.{arith}
use lib.Dec.{leb, eqb, leb→le, eqb→eq}
use lib.ListN.{length, get_or}
use lib.Seq.{get_or-set_same, get_or-set_other}
use borrow.Author.Tests.{le-leb}
use Rattle.laws.specs.Limits.{editor_limit}
use Rattle.laws.specs.Truth.{◌∧ᵇ◌}
use Rattle.laws.proofs.Truth.{and_l, and_r}
use Rattle.laws.proofs.Equations.{from_true}
use Rattle.tally.specs.declared.Tally.{Tally}
use Rattle.tally.specs.Counting.{fresh}
use Rattle.tally.specs.Editors.{Editors, is_editor, has_record, record_at, with_record}
use Rattle.tally.specs.inner.Places.{record_place}

-- An editor number is one from 1 to 40.
pub editor_i : (n : ℕ) → 1 ≤ n → n ≤ editor_limit → is_editor n ≡ true
unfolding is_editor ◌∧ᵇ◌
editor_i n a b = rw (le-leb 1 n a, le-leb n editor_limit b) refl

pub editor_e : (n : ℕ) → is_editor n ≡ true → (1 ≤ n) × (n ≤ editor_limit)
unfolding is_editor
editor_e n e =
    let t = from_true (is_editor n) e in
    (leb→le 1 n (and_l (leb 1 n) (leb n editor_limit) t), leb→le n editor_limit (and_r (leb 1 n) (leb n editor_limit) t))

-- The caller has a record exactly where there are forty and the number is an editor's.
pub record_i : (y : Editors) → length y.records ≡ editor_limit → is_editor y.caller ≡ true → has_record y ≡ true
unfolding has_record ◌∧ᵇ◌
record_i y l e = rw (l, e) refl

pub record_e : (y : Editors) → has_record y ≡ true → (length y.records ≡ editor_limit) × (is_editor y.caller ≡ true)
unfolding has_record ◌∧ᵇ◌
record_e y e = go (eqb (length y.records) editor_limit) (is_editor y.caller) refl e
  where
    go : (a b : Bool) → eqb (length y.records) editor_limit ≡ a → (a ∧ᵇ b) ≡ true → (length y.records ≡ editor_limit) × (b ≡ true)
    go true b q e = (eqb→eq (length y.records) editor_limit (from_true (eqb (length y.records) editor_limit) q), e)
    go false b q e = absurd (from_true false e)

-- Its place is inside the table.
pub own_inside : (y : Editors) → has_record y ≡ true → y.caller - 1 < length y.records
own_inside y e =
    let r = record_e y e in
    let n = editor_e y.caller r.1 in
    omega (arith, r.0, n.0, n.1)

-- The place that the code goes by: inside the table it is the caller's, past its end there is none.
pub placed_own : (y : Editors) → record_place (length y.records) y.caller < length y.records → (has_record y ≡ true) × (record_place (length y.records) y.caller ≡ y.caller - 1)
unfolding record_place has_record
placed_own y = go (has_record y)
  where
    go : (b : Bool) → cond b (y.caller - 1) (length y.records) < length y.records → (b ≡ true) × (cond b (y.caller - 1) (length y.records) ≡ y.caller - 1)
    go true h = (refl, refl)
    go false h = absurd (omega (arith, h))

pub placed_none : (y : Editors) → length y.records ≤ record_place (length y.records) y.caller → has_record y ≡ false
unfolding record_place has_record
placed_none y = go (has_record y) refl
  where
    go : (b : Bool) → has_record y ≡ b → length y.records ≤ cond b (y.caller - 1) (length y.records) → b ≡ false
    go true e h = absurd (let w = own_inside y e in omega (arith, h, w))
    go false e h = refl

-- The table with another record for the caller: the caller's is that, every other, by its place, is as it was.
pub own_set : (y : Editors) (r : Tally) → has_record y ≡ true → record_at (with_record y r) y.caller ≡ r
own_set y r e = get_or-set_same y.records (y.caller - 1) r fresh (own_inside y e)

pub others_set : (y : Editors) (r : Tally) (i : ℕ) → has_record y ≡ true → ¬ (suc i ≡ y.caller) → get_or (with_record y r) i fresh ≡ get_or y.records i fresh
others_set y r i e ne =
    let n = editor_e y.caller (record_e y e).1 in
    get_or-set_other y.records (y.caller - 1) i r fresh (λ q. ne (omega (arith, q, n.0)))
