-- The program's records: an editor's number finds a fresh one, any other number comes to 44.
-- Assumes nothing.
use Prim.Native.Nat.{ℕ, ◌-◌}
use mathlib.Core.Path.{◌≡◌, refl, ap, ap₂, ◌∙◌}
use mathlib.Core.Bool.{Bool, true, false, cond}
use mathlib.Core.List.{List}
use Rattle.laws.specs.Limits.{editor_limit}
use Rattle.laws.specs.Truth.{◌∧ᵇ◌}
use Rattle.laws.specs.Answers.{OrRefused, taken, refused}
use Rattle.laws.proofs.Filled.{replicate_at}
use Rattle.table.specs.declared.Table.{Table}
use Rattle.table.specs.declared.Way.TheVariants.{Strata}
use Rattle.rule_file.specs.Whole.{program_reading}
use Rattle.tally.specs.declared.Tally.{Tally}
use Rattle.tally.specs.Counting.{fresh}
use Rattle.tally.specs.Editors.{is_editor, has_record, record_at, own_record, with_record}
use Rattle.tally.proofs.EditorLaws.{own_set}
use Rattle.response.specs.Ending.{Answer}
use Rattle.response.specs.Respond.{Rooms, answer_at, answer_in, answer_to, tally_after, records_after}
use Rattle.listing.specs.Listing.{Listing, refusal, editor_number, program_editors, list_response, list_reading, listing_in, listing}
use Rattle.listing.specs.inner.AnswerLines.{list_answer}

-- There are forty of them, so that the number alone decides.
pub program_record : (n : ℕ) → has_record (program_editors n) ≡ is_editor n
unfolding has_record ◌∧ᵇ◌
program_record n = refl

-- Each is fresh.
pub own_fresh : (n : ℕ) → own_record (program_editors n) ≡ fresh
own_fresh n = replicate_at editor_limit fresh (n - 1)

module _ (n : ℕ) (e : is_editor n ≡ true) where
  -- An editor has one of them.
  there : has_record (program_editors n) ≡ true
  there = program_record n ∙ e

  -- The response to an editor's slip is the one at a fresh record.
  pub program_answer : (t : Table) (card slip : List ℕ) (rooms : Rooms) → answer_to t (program_editors n) card slip rooms ≡ answer_at Strata t fresh card slip rooms
  unfolding answer_in
  program_answer t card slip rooms = ap₂ (λ (b : Bool) (y : Tally). cond b (answer_at Strata t y card slip rooms) (refused 44 0)) there (own_fresh n)

  -- What it leaves the editor is what it leaves of a fresh record.
  pub program_after : (u : OrRefused Answer) → record_at (records_after (program_editors n) u) n ≡ tally_after fresh u
  unfolding records_after
  program_after u =
      ap₂ (λ (b : Bool) (y : Tally). record_at (cond b (with_record (program_editors n) (tally_after y u)) (program_editors n).records) n) there (own_fresh n)
      ∙ own_set (program_editors n) (tally_after fresh u) there

  -- So is an answer to the editor listed.
  pub program_listed : (text : List ℕ) (t : Table) (a : Answer) → list_response text t (program_editors n) (taken a) ≡ list_answer text t a n (tally_after fresh (taken a))
  unfolding list_response
  program_listed text t a = ap (λ (y : Tally). list_answer text t a n y) (program_after (taken a))

-- The listing is what the reading comes to where the editor file holds an editor's number, else 44.
module _ (text card slip editor : List ℕ) where
  abbrev read : Listing
  read = list_reading text (program_reading text).outcome (program_reading text).table (program_editors (editor_number editor)) card slip

  by_number : (b : Bool) → is_editor (editor_number editor) ≡ b → listing text card slip editor ≡ cond b read (refusal 44 0)
  unfolding listing listing_in
  by_number b e = ap (λ (b : Bool). cond b read (refusal 44 0)) (program_record (editor_number editor) ∙ e)

  pub listing_read : is_editor (editor_number editor) ≡ true → listing text card slip editor ≡ read
  listing_read e = by_number true e

  pub listing_44 : is_editor (editor_number editor) ≡ false → listing text card slip editor ≡ refusal 44 0
  listing_44 e = by_number false e
