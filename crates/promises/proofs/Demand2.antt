-- Demand 2: the reading is the grammar's, the response the paper's, and accepted cards and slips pack back to the same bytes.
-- Assumes nothing.
use Prim.Native.Nat.{ℕ, ◌≤◌}
use native.Mathlib.Omega.{arith}
use mathlib.Core.Path.{◌≡◌, refl, ap}
use mathlib.Core.List.{List}
use lib.ListN.{length}
use Rattle.laws.specs.Answers.{OrRefused, taken, refused, written, output_of}
use Rattle.laws.specs.Packed.{Bytes}
use Rattle.model.specs.Rules.{Pair}
use Rattle.model.specs.Orders.{changes}
use Rattle.model.specs.Strata.{weak}
use Rattle.model.specs.Least.{LeastStrata}
use Rattle.model.specs.Response.{response}
use Rattle.model.proofs.Strata.{least_i}
use Rattle.model.proofs.Paper.{response_declarative, response_rule_consistent, response_correct}
use Rattle.table.specs.declared.Table.{Table}
use Rattle.table.specs.declared.Way.TheVariants.{Strata}
use Rattle.table.specs.Link.{rules_of, stratum_at, value_counts}
use Rattle.grammar.specs.Files.{File, slot_counts}
use Rattle.grammar.specs.Meaning.{IsFile}
use Rattle.grammar.proofs.Accepts.{one_meaning}
use Rattle.soundness.specs.Sound.{sound}
use Rattle.reader.specs.Tables.{Accepted, reading_refusal, reading_second}
use Rattle.rule_file.specs.Whole.{reading}
use Rattle.rule_file.proofs.Answers.{reading_accepted_iff, reading_carries, reading_no_strata_iff, reading_18_iff, reading_no_refusal}
use Rattle.cards.specs.Packings.{Packed}
use Rattle.cards.specs.Forms.{read_card, read_slip}
use Rattle.cards.specs.Cards.{if_sound, unpacked_card, unpacked_slip, card_read, slip_read, packing_of, unpacking_refusal}
use Rattle.cards.proofs.EntryTrips.{unpack_pack_card, unpack_pack_slip}
use Rattle.response.specs.Ending.{Answer}
use Rattle.promises.specs.Returned.{card_packing, card_left, slip_packing, slip_left}
use Rattle.promises.specs.Agreement.{Shows, LowestConflict, Agreed}
use Rattle.promises.specs.Paper.{Declarative, PaperAnswer, PaperConflict, Demand2}
use Rattle.promises.proofs.Refusals.{OneOf, Only, of_card, of_slip, Other, only_e, only_cond, only_more, one_of_other, card_refused, slip_refused}
use Rattle.promises.proofs.Returned.{answers, number_0, number_40}
use Rattle.promises.proofs.Outcomes.{by_numbers}
use Rattle.promises.proofs.Ends.{file_table, file_no_circle}
use Rattle.promises.proofs.Conflicts.{one_value}
use Rattle.promises.proofs.Demand3.{demand_3}

module _ (text : List ℕ) (f : File) (h : IsFile text f) (o : (reading text).outcome ≡ Accepted) (card slip : List ℕ) where
  module _ {Shown : List ℕ → List Pair → List ℕ → Type 0} (A : Agreed f card slip Shown) where
    -- The rules that the response fires, in the order fired.
    abbrev ours : List ℕ
    ours = response weak f.rules A.S A.I

    -- They are a declarative response.
    declared : Declarative f card slip A.S A.I ours
    declared =
        let z = file_no_circle text f h o in
        let d = response_declarative weak f.rules A.S A.I z in
        record { card_is = A.card_is; slip_is = A.slip_is; declarative = d.0; ended = d.1; stays_enabled = response_rule_consistent weak f.rules A.S A.I z }

  answer : (a : Answer) → Agreed f card slip (λ S I ns. Shows f S I a ns) → PaperAnswer f card slip a
  answer a A =
      let shown = A.each_order (ours A) A.ours in
      record {
        S = A.S;
        I = A.I;
        fired = ours A;
        response = declared A;
        shows = shown;
        correct = response_correct weak f.rules A.S A.I (file_no_circle text f h o) (one_value f.rules A.I (ours A) shown.no_conflict);
      }

  conflict : (s : ℕ) → Agreed f card slip (λ S I ns. LowestConflict (changes f.rules I ns) s) → PaperConflict f card slip s
  conflict s A = record { S = A.S; I = A.I; fired = ours A; response = declared A; lowest = A.each_order (ours A) A.ours }

-- The table of an accepted text has the file's rules, as many values for each slot, and the least strata.
carried_least : (text : List ℕ) (f : File) → IsFile text f → (reading text).outcome ≡ Accepted
    → (rules_of (reading text).table ≡ f.rules) × (value_counts (reading text).table ≡ slot_counts f.slots) × LeastStrata weak f.rules (stratum_at (reading text).table)
carried_least text f h o =
    let c = reading_carries text o in
    let w = file_table text f h o in
    (w.0, w.1, rw (one_meaning text c.file f c.is_file h) at (least_i weak c.file.rules (stratum_at (reading text).table) c.no_circle c.strata_are))

-- No refusal has number 0.
other_0 : {A : Type 0} (t : Table) (u : OrRefused A) → Only (Other 0) u → Only (Other 0) (if_sound t u)
unfolding if_sound
other_0 t u h = only_cond (Other 0) (sound t) u (refused 31 0) h (λ e. omega (arith, e))

-- What is unpacked is packed to the same bytes,
card_again : (t : Table) (ys out : List ℕ) → Bytes ys → length ys ≤ length out → (u : OrRefused (List ℕ)) → unpacked_card t ys ≡ u → unpacking_refusal (card_read u).outcome ≡ 0
    → (card_packing t (card_read u).card out ≡ Packed (length ys)) × (card_left t (card_read u).card out ≡ written ys out)
unfolding unpacked_card card_read packing_of output_of
card_again t ys out b l (taken vs) e z = let p = unpack_pack_card t ys vs (length out) b l e in (ap packing_of p, ap (λ (w : OrRefused (List ℕ)). output_of w out) p)
card_again t ys out b l (refused k s) e z =
    absurd (only_e (Other 0) (unpacked_card t ys) k s (other_0 t (read_card (value_counts t) ys) (only_more (OneOf of_card) (Other 0) (one_of_other of_card 0 tt) (read_card (value_counts t) ys) (card_refused (value_counts t) ys))) e z)

slip_again : (t : Table) (ys out : List ℕ) → Bytes ys → length ys ≤ length out → (u : OrRefused (List Pair)) → unpacked_slip t ys ≡ u → unpacking_refusal (slip_read u).outcome ≡ 0
    → (slip_packing t (slip_read u).slip out ≡ Packed (length ys)) × (slip_left t (slip_read u).slip out ≡ written ys out)
unfolding unpacked_slip slip_read packing_of output_of
slip_again t ys out b l (taken ps) e z = let p = unpack_pack_slip t ys ps (length out) b l e in (ap packing_of p, ap (λ (w : OrRefused (List ℕ)). output_of w out) p)
slip_again t ys out b l (refused k s) e z =
    absurd (only_e (Other 0) (unpacked_slip t ys) k s (other_0 t (read_slip (value_counts t) ys) (only_more (OneOf of_slip) (Other 0) (one_of_other of_slip 0 tt) (read_slip (value_counts t) ys) (slip_refused (value_counts t) ys))) e z)

-- DEMAND 2.
pub demand_2 : Demand2
demand_2 = record {
  accepted = λ text. (λ w. ap reading_refusal ((reading_accepted_iff text).0 w), λ a. (reading_accepted_iff text).1 (reading_no_refusal text a));
  carried = λ text f h a. carried_least text f h (reading_no_refusal text a);
  no_strata = λ text. (
    λ e. (reading_no_strata_iff text).0 (_, by_numbers (reading text).outcome 18 _ (omega arith) e refl),
    λ w. let z = (reading_no_strata_iff text).1 w in ap reading_refusal z.1,
  );
  circle = λ text n. (λ e. (reading_18_iff text n).0 (by_numbers (reading text).outcome 18 n (omega arith) e.0 e.1), λ w. let z = (reading_18_iff text n).1 w in (ap reading_refusal z, ap reading_second z));
  each_answer = λ text f h a y card slip o e.
      let t = (reading text).table in
      let w = number_0 Strata t y card slip o e in
      let q = reading_no_refusal text a in
      (w.0, answers Strata t y card slip o w.0 w.1, answer text f h q card slip w.0 ((demand_3 text f h q).where_answered y card slip _ w.0 w.1));
  each_conflict = λ text f h a y card slip o e.
      let q = reading_no_refusal text a in
      conflict text f h q card slip _ ((demand_3 text f h q).where_40 y card slip _ _ (number_40 Strata (reading text).table y card slip o e));
  card_back = λ t ys out b l e. card_again t ys out b l (unpacked_card t ys) refl e;
  slip_back = λ t ys out b l e. slip_again t ys out b l (unpacked_slip t ys) refl e;
}
