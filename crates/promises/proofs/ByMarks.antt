-- The response by marks, document 02, section 3, as a caller sees it.
-- Assumes nothing.
use Prim.Native.Nat.{ℕ}
use mathlib.Core.Path.{◌≡◌}
use mathlib.Core.List.{List}
use Rattle.model.specs.Strata.{weak}
use Rattle.model.specs.Circles.{circle_of}
use Rattle.table.specs.declared.Table.{Table}
use Rattle.table.specs.declared.Way.TheVariants as ways
use Rattle.table.specs.Link.{rules_of, value_counts}
use Rattle.grammar.specs.Files.{File, slot_counts}
use Rattle.grammar.specs.Meaning.{IsFile}
use Rattle.grammar.proofs.Declared.{DeclaredFile, file_declared}
use Rattle.soundness.proofs.Taken.{sound_taken}
use Rattle.rule_file.specs.Whole.{reading, reading_without_18}
use Rattle.rule_file.proofs.Answers.{reading_passes, reading_no_refusal}
use Rattle.rule_file.proofs.Unlayered.{unlayered_taken}
use Rattle.tally.specs.Editors.{Editors}
use Rattle.response.specs.Respond.{Outputs}
use Rattle.promises.specs.Returned.{IsAccepted}
use Rattle.promises.specs.ByMarks.{BothCalled, ByMarks}
use Rattle.promises.proofs.Ends.{file_table, file_no_circle}
use Rattle.promises.proofs.ByMarksCalled.{marks_called}
use Rattle.promises.proofs.ByMarksStrata.{same_unless_refused, same_earlier, strict_numbers}
use Rattle.promises.proofs.ByMarksMoved.{unmoved_marks}
use Rattle.promises.proofs.ByMarksRead.{read_iff, read_carried, read_rules, read_counts, refused_alike, refused_too, read_with_18, read_accepted}
use Rattle.promises.proofs.ByMarksTables.{marks_31_iff, stratum_0_by_strata, stratum_0_unpacking, stratum_0_packing, same_by_both}

-- The two responses, with the tables of a text that test 18 accepts.
both : (text : List ℕ) (f : File) → IsFile text f → IsAccepted text → (y : Editors) (card slip : List ℕ) (o : Outputs) → BothCalled f (reading_without_18 text).table (reading text).table y card slip o
both text f h a y card slip o = record {
  neither_41_nor_42 = same_unless_refused f D z t (unlayered_taken text) (read_rules text f h) (read_counts text f h) t' (sound_taken ways.Strata t' (reading_passes text)) w.0 w.1 y card slip o;
  refused_before_40 = same_earlier f D z t (unlayered_taken text) (read_rules text f h) (read_counts text f h) t' (sound_taken ways.Strata t' (reading_passes text)) w.0 w.1 y card slip o;
  with_section_7 = strict_numbers f D z t (unlayered_taken text) (read_rules text f h) (read_counts text f h) t' (sound_taken ways.Strata t' (reading_passes text)) w.0 w.1 y card slip o;
}
  where
    t : Table
    t = (reading_without_18 text).table

    t' : Table
    t' = (reading text).table

    D : DeclaredFile f
    D = file_declared text f h

    z : circle_of weak f.rules ≡ 0
    z = file_no_circle text f h (reading_no_refusal text a)

    w : (rules_of t' ≡ f.rules) × (value_counts t' ≡ slot_counts f.slots)
    w = file_table text f h (reading_no_refusal text a)

-- DOCUMENT 02, SECTION 3.
pub by_marks : ByMarks
by_marks = record {
  accepted = read_iff;
  carried = read_carried;
  refused_alike = refused_alike;
  refused_too = refused_too;
  read_with_18 = read_with_18;
  read_accepted = read_accepted;
  exactly_31 = marks_31_iff;
  strata_31 = stratum_0_by_strata;
  unpacking_31 = stratum_0_unpacking;
  packing_31 = stratum_0_packing;
  called = λ text f h y card slip o. marks_called f (file_declared text f h) (reading_without_18 text).table (unlayered_taken text) (read_rules text f h) (read_counts text f h) y card slip o;
  both_tables = same_by_both;
  both_called = both;
  rearranged = unmoved_marks;
}
