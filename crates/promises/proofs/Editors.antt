-- A counter for each editor: what a response looks at in the lent records, and what it leaves there.
-- Assumes nothing.
use Prim.Native.Nat.{ℕ, suc, ◌-◌}
use native.Mathlib.Omega.{arith}
use mathlib.Core.Path.{◌≡◌, refl, sym, ap, ◌∙◌}
use mathlib.Core.Bool.{Bool, true, false, cond}
use mathlib.Core.List.{List}
use mathlib.Core.Logic.{◌↔◌, ◌⊎◌, inl, inr}
use lib.ListN.{length, get_or, length-set}
use Rattle.laws.specs.Answers.{OrRefused, taken, refused}
use Rattle.table.specs.declared.Table.{Table}
use Rattle.table.specs.declared.Way.{Way}
use Rattle.tally.specs.declared.Tally.{Tally}
use Rattle.tally.specs.Counting.{fresh, one_refused}
use Rattle.tally.specs.Editors.{Editors, has_record, record_at, own_record, with_record}
use Rattle.tally.proofs.EditorLaws.{own_set, others_set}
use Rattle.response.specs.Ending.{Answer}
use Rattle.response.specs.Respond.{Rooms, Outputs, rooms_of, answer_at, answer_in, outcome_of, counted, tally_after, records_after, response_at, response_in, outputs_after, response_refusal, response_second}
use Rattle.promises.specs.Returned.{told_in, left_in, number_in, second_in}
use Rattle.promises.specs.Reasons.{HasRecord, Full, Countable}
use Rattle.promises.specs.Editors.{own_after, OwnRecordCounts, ForEachEditor}
use Rattle.promises.proofs.Callers.{has_record_i, Caller, has_none, has_full, can_count, caller_of, left_44, left_32, left_on}
use Rattle.promises.proofs.Returned.{number_0, number_above}
use Rattle.promises.proofs.Engines.{always_44, only_44, only_full, always_full}

-- The records after a response: there are as many,
pub records_length : (y : Editors) (u : OrRefused Answer) → length (records_after y u) ≡ length y.records
unfolding records_after
records_length y u = go (has_record y)
  where
    go : (b : Bool) → length (cond b (with_record y (tally_after (own_record y) u)) y.records) ≡ length y.records
    go true = length-set y.records (y.caller - 1) (tally_after (own_record y) u)
    go false = refl

-- every other, by its place, is as it was,
pub records_others : (y : Editors) (u : OrRefused Answer) (i : ℕ) → ¬ (suc i ≡ y.caller) → get_or (records_after y u) i fresh ≡ get_or y.records i fresh
unfolding records_after
records_others y u i n = go (has_record y) refl
  where
    go : (b : Bool) → has_record y ≡ b → get_or (cond b (with_record y (tally_after (own_record y) u)) y.records) i fresh ≡ get_or y.records i fresh
    go true e = others_set y (tally_after (own_record y) u) i e n
    go false e = refl

-- and the caller's, where there is one, is what it is after a response at that record alone,
pub records_caller : (y : Editors) (u : OrRefused Answer) → record_at (records_after y u) y.caller ≡ cond (has_record y) (tally_after (own_record y) u) (own_record y)
unfolding records_after
records_caller y u = go (has_record y) refl
  where
    go : (b : Bool) → has_record y ≡ b → record_at (cond b (with_record y (tally_after (own_record y) u)) y.records) y.caller ≡ cond b (tally_after (own_record y) u) (own_record y)
    go true e = own_set y (tally_after (own_record y) u) e
    go false e = refl

pub records_own : (y : Editors) (u : OrRefused Answer) → HasRecord y → record_at (records_after y u) y.caller ≡ tally_after (own_record y) u
records_own y u h = records_caller y u ∙ ap (λ (b : Bool). cond b (tally_after (own_record y) u) (own_record y)) (has_record_i y h)

-- which comes to the same.
pub answer_own : (way : Way) (t : Table) (y : Editors) (card slip : List ℕ) (rooms : Rooms) → HasRecord y → answer_in way t y card slip rooms ≡ answer_at way t (own_record y) card slip rooms
unfolding answer_in
answer_own way t y card slip rooms h = rw (has_record_i y h) refl

-- A slip that can be counted is counted in the caller's record.
counted_own : (y : Editors) (u : OrRefused Answer) → Countable y → record_at (records_after y u) y.caller ≡ counted (own_record y) u
counted_own y u c = rw (left_on y c u) (own_set y (counted (own_record y) u) (has_record_i y c.has_one))

-- What has another number than 0 is counted as refused.
counted_refused : (r : Tally) (u : OrRefused Answer) → ¬ (response_refusal (outcome_of u) ≡ 0) → counted r u ≡ one_refused r
unfolding outcome_of counted
counted_refused r (taken a) n = absurd (n refl)
counted_refused r (refused k s) n = refl

module _ (way : Way) (t : Table) (y : Editors) (card slip : List ℕ) (o : Outputs) where
  abbrev rooms : Rooms
  rooms = rooms_of o.card o.changes o.fired

  -- What comes of the call.
  abbrev came : OrRefused Answer
  came = answer_in way t y card slip rooms

  -- An answer tells that the slip could be counted.
  pub tells_answer : (a : Answer) → came ≡ taken a → Countable y
  tells_answer a e = go (caller_of y)
    where
      go : Caller y → Countable y
      go (has_none n) = absurd (let q = sym (always_44 way t y card slip rooms n) ∙ e in let z : ◌≡◌ {A = ℕ} 0 1 = cc in omega (arith, z))
      go (has_full h f) = absurd (let q = sym (always_full way t y card slip rooms h f) ∙ e in let z : ◌≡◌ {A = ℕ} 0 1 = cc in omega (arith, z))
      go (can_count c) = c

  -- 44 is told exactly where the caller has no record, and 32 exactly where the caller's is full.
  number_44 : (number_in way t y card slip o ≡ 44) ↔ (¬ HasRecord y)
  unfolding response_in outcome_of
  number_44 = (
    λ e. only_44 way t y card slip rooms (second_in way t y card slip o) (number_above way t y card slip o 44 (omega arith) e),
    λ n. ap (λ (u : OrRefused Answer). response_refusal (outcome_of u)) (always_44 way t y card slip rooms n),
  )

  number_32 : (number_in way t y card slip o ≡ 32) ↔ (HasRecord y × Full (own_record y))
  unfolding response_in outcome_of
  number_32 = (
    λ e. only_full way t y card slip rooms (second_in way t y card slip o) (number_above way t y card slip o 32 (omega arith) e),
    λ h. ap (λ (u : OrRefused Answer). response_refusal (outcome_of u)) (always_full way t y card slip rooms h.0 h.1),
  )

  -- What is refused with second number 0 and leaves the records changes nothing at all.
  nothing : (k : ℕ) → came ≡ refused k 0 → records_after y came ≡ y.records → (second_in way t y card slip o ≡ 0) × ((told_in way t y card slip o).records ≡ y.records) × (left_in way t y card slip o ≡ o)
  unfolding response_in outcome_of outputs_after
  nothing k e r = (ap (λ (u : OrRefused Answer). response_second (outcome_of u)) e, r, ap (λ (u : OrRefused Answer). outputs_after u o) e)

  -- So do 44 and 32.
  none_changed : (number_in way t y card slip o ≡ 44) ⊎ (number_in way t y card slip o ≡ 32)
      → (second_in way t y card slip o ≡ 0) × ((told_in way t y card slip o).records ≡ y.records) × (left_in way t y card slip o ≡ o)
  none_changed (inl e) = let n = number_44.0 e in nothing 44 (always_44 way t y card slip rooms n) (left_44 y n came)
  none_changed (inr e) = let h = number_32.0 e in nothing 32 (always_full way t y card slip rooms h.0 h.1) (left_32 y h.0 h.1 came)

  -- The caller's record counts what comes, and no other changes.
  own_counts : OwnRecordCounts way t y card slip o
  unfolding response_in counted
  own_counts = record {
    as_many = records_length y came;
    others_kept = records_others y came;
    one_more_answered = λ e. let w = number_0 way t y card slip o e in counted_own y came (tells_answer w.0 w.1) ∙ ap (counted (own_record y)) w.1;
    one_more_refused = λ n c. counted_own y came c ∙ counted_refused (own_record y) came n;
  }

-- What comes back to a caller who has a record is the response at that record.
at_own : (way : Way) (t : Table) (y : Editors) (card slip : List ℕ) (o : Outputs) → HasRecord y
    → ((told_in way t y card slip o).outcome ≡ (response_at way t (own_record y) card slip (rooms_of o.card o.changes o.fired)).outcome)
    × (own_after way t y card slip o ≡ (response_at way t (own_record y) card slip (rooms_of o.card o.changes o.fired)).tally)
    × (left_in way t y card slip o ≡ outputs_after (answer_at way t (own_record y) card slip (rooms_of o.card o.changes o.fired)) o)
unfolding response_in response_at
at_own way t y card slip o h =
    let same = answer_own way t y card slip (rooms_of o.card o.changes o.fired) h in
    (ap outcome_of same, records_own y _ h ∙ ap (tally_after (own_record y)) same, ap (λ (u : OrRefused Answer). outputs_after u o) same)

-- Callers with the same record are told and left the same.
others_same : (way : Way) (t : Table) (y y' : Editors) (card slip : List ℕ) (o : Outputs) → HasRecord y → HasRecord y' → own_record y ≡ own_record y'
    → ((told_in way t y card slip o).outcome ≡ (told_in way t y' card slip o).outcome) × (left_in way t y card slip o ≡ left_in way t y' card slip o) × (own_after way t y card slip o ≡ own_after way t y' card slip o)
others_same way t y y' card slip o h h' e =
    let rooms = rooms_of o.card o.changes o.fired in
    let a = at_own way t y card slip o h in
    let b = at_own way t y' card slip o h' in (
      a.0 ∙ ap (λ (r : Tally). (response_at way t r card slip rooms).outcome) e ∙ sym b.0,
      a.2 ∙ ap (λ (r : Tally). outputs_after (answer_at way t r card slip rooms) o) e ∙ sym b.2,
      a.1 ∙ ap (λ (r : Tally). (response_at way t r card slip rooms).tally) e ∙ sym b.1,
    )

-- A COUNTER FOR EACH EDITOR.
pub for_each_editor : ForEachEditor
for_each_editor = record { exactly_44 = number_44; exactly_32 = number_32; nothing_changed = none_changed; own_record_counts = own_counts; others_aside = others_same; at_own_record = at_own }
