-- Engines that document 01, 'Agreement', names as breaking their promises, each met here or in the list of cases.
-- Assumes nothing.
use Prim.Native.Nat.{ℕ, ◌≤◌}
use native.Mathlib.Omega.{arith}
use mathlib.Core.Path.{◌≡◌, refl, sym, ap, subst, ◌∙◌}
use mathlib.Core.Bool.{Bool, true, false, cond}
use mathlib.Core.List.{List, [], ◌∷◌}
use mathlib.Core.Logic.{◌↔◌, ⊎_elim}
use lib.Dec.{T}
use lib.ListN.{get_or}
use Rattle.laws.specs.Truth.{◌∨ᵇ◌}
use Rattle.laws.specs.Limits.{tally_limit}
use Rattle.model.specs.Orders.{firing_order, complete, consistent}
use Rattle.model.specs.Result.{pair}
use Rattle.table.specs.declared.Table.{Table}
use Rattle.table.specs.declared.Way.{Way}
use Rattle.table.specs.declared.Way.TheVariants.{Strata, Marks}
use Rattle.table.specs.Link.{rules_of, value_counts}
use Rattle.soundness.specs.Sound.{stratum_0, takes}
use Rattle.soundness.proofs.Taken.{sound_taken}
use Rattle.marks.proofs.AfterMoves.{selects_all}
use Rattle.reader.specs.Tables.{Accepted}
use Rattle.rule_file.specs.Whole.{reading, reading_without_18}
use Rattle.rule_file.proofs.Answers.{reading_passes}
use Rattle.rule_file.proofs.Unlayered.{unlayered_taken}
use Rattle.laws.specs.Answers.{OrRefused, taken, refused}
use Rattle.cards.specs.Forms.{read_card, read_slip}
use Rattle.tally.specs.declared.Tally.{Tally}
use Rattle.tally.specs.Counting.{fresh}
use Rattle.tally.specs.Editors.{Editors, lent, fresh_records, own_record, with_record}
use Rattle.response.specs.Ending.{Answer, unless_refused, answer_by_marks}
use Rattle.response.specs.Respond.{Rooms, answer_by_rules, answer_by_table, answer_to, answer_in, response_in}
use Rattle.listing.specs.Listing.{program_rooms, program_editors}
use Rattle.promises.specs.Reasons.{HasRecord, Full, Countable}
use Rattle.promises.specs.Day.{Call, records_over, answers_over}
use Rattle.promises.proofs.Cases.{lists, text_C, all_0, x_to_1, answer_C, case_C_bytes}
use Rattle.promises.proofs.Callers.{Caller, has_none, has_full, can_count, caller_of, answer_by_record, comes_44, comes_32, comes_on}
use Rattle.promises.proofs.Refusals.{OneOf, Only, of_rules, Other, only_e, only_more, only_by_record, one_of_other, rules_refused, by_table_other}

-- The call of case C, by strata or by marks, of editor n.
unfoldable pub call_C : Way → ℕ → Call
call_C way n = record { way = way; editor = n; table = (reading text_C).table; card = all_0; slip = x_to_1; rooms = program_rooms }

-- One that fires nothing: in case C the empty list is a firing order and consistent, but not complete. The card and the slip of case C unpack as said here.
pub fires_nothing : (read_card (value_counts (reading text_C).table) all_0 ≡ taken (1 ∷ 1 ∷ 1 ∷ []))
    × (read_slip (value_counts (reading text_C).table) x_to_1 ≡ taken (pair 0 2 ∷ []))
    × (firing_order (rules_of (reading text_C).table) (1 ∷ 1 ∷ 1 ∷ []) (pair 0 2 ∷ []) [] ≡ true)
    × (complete (rules_of (reading text_C).table) (1 ∷ 1 ∷ 1 ∷ []) (pair 0 2 ∷ []) [] ≡ false)
    × (consistent (rules_of (reading text_C).table) (1 ∷ 1 ∷ 1 ∷ []) (pair 0 2 ∷ []) [] ≡ true)
unfolding lists
fires_nothing = (refl, refl, refl, refl, refl)

-- One that finds no strata in any file: case C is accepted. (18 stands exactly where no strata exist: `reading_no_strata_iff`.)
pub finds_strata : (reading text_C).outcome ≡ Accepted
unfolding lists
finds_strata = refl

-- One that returns the card it was given: case C answers with another.
pub not_the_card : (a : Answer) → answer_to (reading text_C).table (program_editors 7) all_0 x_to_1 program_rooms ≡ taken a → ¬ (a.new_card ≡ all_0)
not_the_card a e q =
    let n : 0x88 ≡ get_or a.new_card 1 0 = ap second (sym case_C_bytes ∙ e) in
    omega (arith, n, ap (λ (ys : List ℕ). get_or ys 1 0) q)
  where
    second : OrRefused Answer → ℕ
    second (taken x) = get_or x.new_card 1 0
    second (refused k s) = 0

-- The records of a day on which editor n had so many slips answered.
abbrev with_answered : ℕ → ℕ → List Tally → List Tally
with_answered n k rs = with_record (lent rs n) (record { answered = k; refused = 0 })

-- One that answers the first slip of a day and echoes the rest: the same call twice is answered alike, and counted twice; so also by strata and by marks.
pub same_call_twice : (answers_over fresh_records (call_C Strata 7 ∷ call_C Strata 7 ∷ []) ≡ taken answer_C ∷ taken answer_C ∷ [])
    × (records_over fresh_records (call_C Strata 7 ∷ call_C Strata 7 ∷ []) ≡ with_answered 7 2 fresh_records)
unfolding lists call_C answers_over records_over response_in
same_call_twice = (refl, refl)

pub same_call_both : (answers_over fresh_records (call_C Strata 7 ∷ call_C Marks 7 ∷ []) ≡ taken answer_C ∷ taken answer_C ∷ [])
    × (records_over fresh_records (call_C Strata 7 ∷ call_C Marks 7 ∷ []) ≡ with_answered 7 2 fresh_records)
unfolding lists selects_all stratum_0 ◌∨ᵇ◌ answer_by_marks unless_refused call_C answers_over records_over response_in
same_call_both = (refl, refl)

-- One that counts in a neighbour's record, or in one for all: the same call of two editors, and of one of them again, is answered alike, and each is counted in the editor's own.
pub same_call_editors : (answers_over fresh_records (call_C Strata 7 ∷ call_C Strata 8 ∷ call_C Strata 7 ∷ []) ≡ taken answer_C ∷ taken answer_C ∷ taken answer_C ∷ [])
    × (records_over fresh_records (call_C Strata 7 ∷ call_C Strata 8 ∷ call_C Strata 7 ∷ []) ≡ with_answered 8 1 (with_answered 7 2 fresh_records))
unfolding lists call_C answers_over records_over response_in
same_call_editors = (refl, refl)

module _ (way : Way) (t : Table) (y : Editors) (card slip : List ℕ) (rooms : Rooms) where
  -- What comes of the call, and what the table gives.
  abbrev came : OrRefused Answer
  came = answer_in way t y card slip rooms

  abbrev given : OrRefused Answer
  given = answer_by_table way t card slip rooms

  -- A caller without a record gets 44, one whose own record is full 32, and one whose slip can be counted what the table gives.
  pub always_44 : ¬ HasRecord y → came ≡ refused 44 0
  always_44 n = answer_by_record way t y card slip rooms ∙ comes_44 y n given

  pub always_full : HasRecord y → Full (own_record y) → came ≡ refused 32 0
  always_full h f = answer_by_record way t y card slip rooms ∙ comes_32 y h f given

  pub comes_by_table : Countable y → came ≡ given
  comes_by_table c = answer_by_record way t y card slip rooms ∙ comes_on y c given

  -- 44 is given to one without a record alone.
  pub only_44 : (s : ℕ) → came ≡ refused 44 s → ¬ HasRecord y
  only_44 s e h = go (caller_of y)
    where
      go : Caller y → ⊥
      go (has_none n) = n h
      go (has_full g f) = let q = sym (always_full g f) ∙ e in let z : ◌≡◌ {A = ℕ} 32 44 = cc in omega (arith, z)
      go (can_count c) = only_e (Other 44) given 44 s (by_table_other way t card slip rooms 44 tt) (sym (comes_by_table c) ∙ e) refl

  -- One that says 32 on a fresh record, or because another's is full: 32 is given at a full record of the caller's alone, and there always.
  pub only_full : (s : ℕ) → came ≡ refused 32 s → HasRecord y × Full (own_record y)
  only_full s e = go (caller_of y)
    where
      go : Caller y → HasRecord y × Full (own_record y)
      go (has_none n) = absurd (let q = sym (always_44 n) ∙ e in let z : ◌≡◌ {A = ℕ} 44 32 = cc in omega (arith, z))
      go (has_full h f) = (h, f)
      go (can_count c) = absurd (only_e (Other 32) given 32 s (by_table_other way t card slip rooms 32 tt) (sym (comes_by_table c) ∙ e) refl)

  pub fresh_no_32 : own_record y ≡ fresh → (s : ℕ) → ¬ (came ≡ refused 32 s)
  fresh_no_32 q s e = ⊎_elim (λ (l : tally_limit ≤ 0). omega (arith, l)) (λ (l : tally_limit ≤ 0). omega (arith, l)) (subst Full q (only_full s e).1)

  -- 31 is given, where the slip can be counted, exactly for a table that does not pass its test.
  pub exactly_31 : Countable y → (came ≡ refused 31 0) ↔ (¬ T (takes way t))
  unfolding answer_by_table
  exactly_31 c = rw (comes_by_table c) (go (takes way t))
    where
      answer : OrRefused Answer
      answer = answer_by_rules way (value_counts t) (rules_of t) card slip rooms

      go : (b : Bool) → (cond b answer (refused 31 0) ≡ refused 31 0) ↔ (¬ T b)
      go true = (
        λ e h. only_e (Other 31) answer 31 0 (only_more (OneOf of_rules) (Other 31) (one_of_other of_rules 31 tt) answer (rules_refused way (value_counts t) (rules_of t) card slip rooms)) e refl,
        λ n. absurd (n tt),
      )
      go false = (λ e h. h, λ n. refl)

-- So a table that passes it gets no 31.
pub taken_no_31 : (way : Way) (t : Table) → T (takes way t) → (y : Editors) (card slip : List ℕ) (rooms : Rooms) (s : ℕ) → ¬ (answer_in way t y card slip rooms ≡ refused 31 s)
unfolding answer_by_table
taken_no_31 way t passes y card slip rooms s e =
    only_e (Other 31) (answer_in way t y card slip rooms) 31 s
    (rw (answer_by_record way t y card slip rooms) (only_by_record (Other 31) y (answer_by_table way t card slip rooms) (λ q. omega (arith, q)) (λ q. omega (arith, q)) (made (takes way t) passes))) e refl
  where
    answer : OrRefused Answer
    answer = answer_by_rules way (value_counts t) (rules_of t) card slip rooms

    made : (b : Bool) → T b → Only (Other 31) (cond b answer (refused 31 0))
    made true h = only_more (OneOf of_rules) (Other 31) (one_of_other of_rules 31 tt) answer (rules_refused way (value_counts t) (rules_of t) card slip rooms)
    made false h = absurd h

-- A table that the reading hands out gets no 31, by strata or by marks; one that is read without test 18 gets none by marks.
pub reading_no_31 : (way : Way) (text : List ℕ) (y : Editors) (card slip : List ℕ) (rooms : Rooms) (s : ℕ) → ¬ (answer_in way (reading text).table y card slip rooms ≡ refused 31 s)
reading_no_31 way text = taken_no_31 way (reading text).table (sound_taken way (reading text).table (reading_passes text))

pub unlayered_no_31 : (text : List ℕ) (y : Editors) (card slip : List ℕ) (rooms : Rooms) (s : ℕ) → ¬ (answer_in Marks (reading_without_18 text).table y card slip rooms ≡ refused 31 s)
unlayered_no_31 text = taken_no_31 Marks (reading_without_18 text).table (unlayered_taken text)
