-- The reading without test 18: what it accepts, what its tables have, and how the reading with test 18 stands to it.
-- Assumes nothing.
use Prim.Native.Nat.{ℕ, ◌≤◌, ◌<◌}
use mathlib.Core.Path.{◌≡◌, refl, ap, ◌∙◌}
use mathlib.Core.List.{List}
use mathlib.Core.Logic.{⊎_elim, ◌↔◌}
use native.Mathlib.Omega.{arith}
use lib.Dec.{T}
use Rattle.laws.proofs.Truth.{le_or_lt}
use Rattle.table.specs.declared.Way.TheVariants.{Strata, Marks}
use Rattle.table.specs.Empty.{empty_table}
use Rattle.table.specs.Link.{rules_of, value_counts}
use Rattle.strata.specs.Layered.{with_strata}
use Rattle.grammar.specs.Files.{File, slot_counts}
use Rattle.grammar.specs.Meaning.{IsFile}
use Rattle.grammar.proofs.Accepts.{one_meaning}
use Rattle.soundness.specs.Sound.{stratum_0}
use Rattle.reader.specs.Tables.{FileRead, Refused, reading_refusal}
use Rattle.rule_file.specs.Whole.{reading, reading_without_18}
use Rattle.rule_file.specs.Carries.{CarriesBy}
use Rattle.rule_file.proofs.Answers.{reading_no_refusal}
use Rattle.rule_file.proofs.Unlayered.{unlayered_accepted_iff, unlayered_no_refusal, unlayered_carries, unlayered_stratum_0, unlayered_taken, accepted_both, accepted_18, refused_both, refused_without_18}
use Rattle.tally.specs.Editors.{Editors}
use Rattle.response.specs.Respond.{Rooms, answer_in}
use Rattle.promises.specs.Returned.{IsAccepted}
use Rattle.promises.specs.ByMarks.{IsRead}
use Rattle.promises.proofs.Outcomes.{by_numbers, OfFile, text_comes}
use Rattle.promises.proofs.Ends.{comes, taken_response}

-- The texts of files, and no others, are accepted.
pub read_iff : (text : List ℕ) → ((f : File) × IsFile text f) ↔ IsRead text
read_iff text = (λ w. ap reading_refusal ((unlayered_accepted_iff text).0 w), λ e. (unlayered_accepted_iff text).1 (unlayered_no_refusal text e))

module _ (text : List ℕ) (f : File) (h : IsFile text f) where
  -- The table carries the file, with stratum 0 throughout.
  pub read_carried : (c : CarriesBy Marks text (reading_without_18 text).table) × (c.file ≡ f) × T (stratum_0 (reading_without_18 text).table)
  read_carried = let c = unlayered_carries text ((unlayered_accepted_iff text).0 (f, h)) in (c, one_meaning text c.file f c.is_file h, unlayered_stratum_0 text)

  -- So it has the file's rules and as many values for each slot.
  pub read_rules : rules_of (reading_without_18 text).table ≡ f.rules
  read_rules = let w = read_carried in w.0.rules_are ∙ ap (λ (g : File). g.rules) w.1

  pub read_counts : value_counts (reading_without_18 text).table ≡ slot_counts f.slots
  read_counts = let w = read_carried in w.0.counts_are ∙ ap (λ (g : File). slot_counts g.slots) w.1

  -- The response by marks goes by the file's slots and rules.
  pub read_response : (y : Editors) (card slip : List ℕ) (rooms : Rooms) → answer_in Marks (reading_without_18 text).table y card slip rooms ≡ comes Marks f y card slip rooms
  read_response = taken_response Marks f (reading_without_18 text).table (unlayered_taken text) read_rules read_counts

-- What is refused without test 18 is refused with it, with both numbers,
pub refused_alike : (text : List ℕ) → ¬ IsRead text → (10 ≤ reading_refusal (reading_without_18 text).outcome) × (reading_refusal (reading_without_18 text).outcome ≤ 17) × (reading text ≡ reading_without_18 text)
refused_alike text n = refused_without_18 text _ _ (by_numbers (reading_without_18 text).outcome _ _ (⊎_elim (λ z. absurd (n (omega (arith, z)))) (λ l. l) (le_or_lt (reading_refusal (reading_without_18 text).outcome) 0)) refl refl)

-- and all that that refuses with another number than 18;
pub refused_too : (text : List ℕ) → ¬ IsAccepted text → ¬ (reading_refusal (reading text).outcome ≡ 18) → reading_without_18 text ≡ reading text
refused_too text a n = ⊎_elim (λ o. absurd (a (ap reading_refusal o))) (λ w. refused w (ap (λ (r : FileRead). r.outcome) w.3)) (text_comes Strata text)
  where
    refused : (w : (k : ℕ) × (m : ℕ) × OfFile k × (reading text ≡ record { outcome = Refused k m; table = empty_table })) → (reading text).outcome ≡ Refused w.0 w.1 → reading_without_18 text ≡ reading text
    refused w o = ⊎_elim (λ (l : w.0 ≤ 17). refused_both text w.0 w.1 l o) (λ (l : 17 < w.0). absurd (n (ap reading_refusal o ∙ omega (arith, l, w.2.1)))) (le_or_lt w.0 17)

-- what that refuses with 18, or accepts, is accepted, and the tables then differ in their strata alone.
pub read_with_18 : (text : List ℕ) → reading_refusal (reading text).outcome ≡ 18 → IsRead text
read_with_18 text e = ap reading_refusal (accepted_18 text _ (by_numbers (reading text).outcome 18 _ (omega arith) e refl))

pub read_accepted : (text : List ℕ) → IsAccepted text → IsRead text × ((reading text).table ≡ with_strata (reading_without_18 text).table)
read_accepted text a = let w = accepted_both text (reading_no_refusal text a) in (ap reading_refusal w.0, w.1)
