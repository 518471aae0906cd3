-- What comes of a call by the caller's record: 44 where there is none, 32 where it is full, else what the table gives; and what is left of the records.
-- Assumes nothing.
use Prim.Native.Nat.{ℕ, ◌-◌}
use mathlib.Core.Path.{◌≡◌, refl, sym, ◌∙◌}
use mathlib.Core.Bool.{Bool, true, false, cond}
use mathlib.Core.List.{List}
use mathlib.Core.Logic.{inl, inr, ⊎_elim}
use lib.Dec.{leb, leb→le}
use lib.Seq.{set-get_or}
use Rattle.laws.specs.Answers.{OrRefused, refused}
use Rattle.laws.specs.Limits.{tally_limit}
use Rattle.laws.proofs.Equations.{is_true, from_true}
use Rattle.laws.proofs.Numbers.{is_false}
use Rattle.laws.proofs.Truth.{or_e, le_or_lt}
use Rattle.table.specs.declared.Table.{Table}
use Rattle.table.specs.declared.Way.{Way}
use Rattle.tally.specs.declared.Tally.{Tally}
use Rattle.tally.specs.Counting.{fresh, is_full}
use Rattle.tally.specs.Editors.{Editors, has_record, own_record, with_record}
use Rattle.tally.proofs.TallyLaws.{full_answered, full_refused, not_full, room_left}
use Rattle.tally.proofs.EditorLaws.{editor_i, editor_e, record_i, record_e}
use Rattle.response.specs.Ending.{Answer}
use Rattle.response.specs.Respond.{Rooms, answer_by_table, answer_at, answer_in, counted, tally_after, records_after}
use Rattle.promises.specs.Reasons.{HasRecord, Full, NotFull, Countable}

-- The caller has a record exactly where the test says so.
pub has_record_i : (y : Editors) → HasRecord y → has_record y ≡ true
has_record_i y h = record_i y h.forty (editor_i y.caller h.number.first h.number.last)

pub has_record_e : (y : Editors) → has_record y ≡ true → HasRecord y
has_record_e y e =
    let r = record_e y e in
    let n = editor_e y.caller r.1 in
    record { forty = r.0; number = record { first = n.0; last = n.1 } }

-- A record is full, or not, exactly where its test says so.
full_i : (r : Tally) → Full r → is_full r ≡ true
full_i r h = ⊎_elim (full_answered r) (λ f. ⊎_elim (full_answered r) (λ l. full_refused r l f) (le_or_lt tally_limit r.answered)) h

full_e : (r : Tally) → is_full r ≡ true → Full r
unfolding is_full
full_e r e = ⊎_elim (λ l. inl (leb→le tally_limit r.answered l)) (λ l. inr (leb→le tally_limit r.refused l)) (or_e (leb tally_limit r.answered) (leb tally_limit r.refused) (from_true (is_full r) e))

not_full_i : (r : Tally) → NotFull r → is_full r ≡ false
not_full_i r h = not_full r h.0 h.1

-- Who calls: one without a record, one whose record is full, or one whose slip can be counted.
pub data Caller (y : Editors) : Type 0 where
  has_none : ¬ HasRecord y → Caller y
  has_full : HasRecord y → Full (own_record y) → Caller y
  can_count : Countable y → Caller y

pub caller_of : (y : Editors) → Caller y
caller_of y = go (has_record y) refl (is_full (own_record y)) refl
  where
    go : (a : Bool) → has_record y ≡ a → (b : Bool) → is_full (own_record y) ≡ b → Caller y
    go true e true f = has_full (has_record_e y e) (full_e (own_record y) f)
    go true e false f = can_count (record { has_one = has_record_e y e; not_full = room_left (own_record y) f })
    go false e b f = has_none (λ h. from_true false (sym e ∙ has_record_i y h))

-- 44 and 32 before what else comes.
abbrev pub by_record : Editors → OrRefused Answer → OrRefused Answer
by_record y u = cond (has_record y) (cond (is_full (own_record y)) (refused 32 0) u) (refused 44 0)

-- So comes what the table gives.
pub answer_by_record : (way : Way) (t : Table) (y : Editors) (card slip : List ℕ) (rooms : Rooms) → answer_in way t y card slip rooms ≡ by_record y (answer_by_table way t card slip rooms)
unfolding answer_in answer_at
answer_by_record way t y card slip rooms = refl

module _ (y : Editors) where
  no_test : ¬ HasRecord y → has_record y ≡ false
  no_test n = is_false (has_record y) (λ t. n (has_record_e y (is_true (has_record y) t)))

  -- 44 comes of a call without a record, and no record changes;
  pub comes_44 : ¬ HasRecord y → (u : OrRefused Answer) → by_record y u ≡ refused 44 0
  comes_44 n u = rw (no_test n) refl

  pub left_44 : ¬ HasRecord y → (u : OrRefused Answer) → records_after y u ≡ y.records
  unfolding records_after
  left_44 n u = rw (no_test n) refl

  -- 32 of one whose record is full, and no record changes;
  pub comes_32 : HasRecord y → Full (own_record y) → (u : OrRefused Answer) → by_record y u ≡ refused 32 0
  comes_32 h f u = rw (has_record_i y h, full_i (own_record y) f) refl

  pub left_32 : HasRecord y → Full (own_record y) → (u : OrRefused Answer) → records_after y u ≡ y.records
  unfolding records_after tally_after
  left_32 h f u = rw (has_record_i y h, full_i (own_record y) f) (set-get_or y.records (y.caller - 1) fresh)

  -- and else what comes after them, and the caller's record counts it.
  pub comes_on : Countable y → (u : OrRefused Answer) → by_record y u ≡ u
  comes_on c u = rw (has_record_i y c.has_one, not_full_i (own_record y) c.not_full) refl

  pub left_on : Countable y → (u : OrRefused Answer) → records_after y u ≡ with_record y (counted (own_record y) u)
  unfolding records_after tally_after
  left_on c u = rw (has_record_i y c.has_one, not_full_i (own_record y) c.not_full) refl
