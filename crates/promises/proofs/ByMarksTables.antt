-- Tables with stratum 0 throughout: what 31 of the response by marks tests, and who else calls them 31.
-- Assumes nothing.
use Prim.Native.Nat.{ℕ, ◌<◌}
use native.Mathlib.Omega.{arith}
use mathlib.Core.Path.{◌≡◌, refl, sym, ap, ◌∙◌}
use mathlib.Core.Bool.{false}
use mathlib.Core.List.{List}
use mathlib.Core.Logic.{◌⊎◌, inl, inr, ⊎_elim, ◌↔◌}
use lib.Dec.{T}
use lib.ListN.{length}
use Rattle.laws.specs.Answers.{OrRefused}
use Rattle.laws.proofs.Truth.{and_i, or_l, or_r, or_e}
use Rattle.laws.proofs.Numbers.{is_false}
use Rattle.model.specs.Strata.{weak}
use Rattle.model.specs.Least.{LeastStrata}
use Rattle.leastness.specs.CarriesLeast.{carries_least}
use Rattle.leastness.proofs.Carried.{carries_iff}
use Rattle.table.specs.declared.Table.{Table}
use Rattle.table.specs.declared.Way.{Way}
use Rattle.table.specs.declared.Way.TheVariants.{Strata, Marks}
use Rattle.table.specs.Link.{rules_of, stratum_at}
use Rattle.soundness.specs.Sound.{well_formed, sound, stratum_0, strata_right, takes}
use Rattle.soundness.proofs.WellFormed.{sound_parts}
use Rattle.soundness.proofs.Taken.{takes_parts, takes_strata, stratum_0_sound}
use Rattle.rule_file.specs.Whole.{reading, reading_without_18}
use Rattle.rule_file.proofs.Answers.{reading_accepted_iff, reading_no_refusal}
use Rattle.cards.specs.declared.Card.{Card}
use Rattle.cards.specs.declared.Slip.{Slip}
use Rattle.cards.specs.Cards.{if_sound, unpacked_card, unpacked_slip, packed_card, packed_slip, card_read, slip_read, packing_of, unpacking_refusal, unpacking_second, packing_refusal, packing_second}
use Rattle.tally.specs.Editors.{Editors}
use Rattle.response.specs.Ending.{Answer}
use Rattle.response.specs.Respond.{Outputs, rooms_of, response_in, outcome_of, response_refusal, response_second}
use Rattle.promises.specs.Returned.{IsAccepted, card_told, slip_told, card_packing, slip_packing, number_in, second_in}
use Rattle.promises.specs.Reasons.{Countable}
use Rattle.promises.specs.ByMarks.{SameReturned}
use Rattle.promises.proofs.Ends.{file_response}
use Rattle.promises.proofs.Engines.{exactly_31, taken_no_31}
use Rattle.promises.proofs.Returned.{number_above}
use Rattle.promises.proofs.ByMarksStrata.{same_returned}
use Rattle.promises.proofs.ByMarksRead.{read_response}

-- The response by marks takes a table that is in order but for its strata, and carries stratum 0 throughout or the least strata.
takes_iff : (t : Table) → T (takes Marks t) ↔ (T (well_formed t) × (T (stratum_0 t) ⊎ LeastStrata weak (rules_of t) (stratum_at t)))
unfolding takes strata_right
takes_iff t = (
  λ h. let p = takes_parts Marks t h in (p.0, ⊎_elim inl (λ c. inr ((carries_iff t).0 c)) (or_e (stratum_0 t) (carries_least t) p.1)),
  λ w. and_i _ _ w.0 (⊎_elim (or_l (stratum_0 t) (carries_least t)) (λ l. or_r (stratum_0 t) (carries_least t) ((carries_iff t).1 l)) w.1),
)

-- 31 by its number is given where the table is not taken, and with second number 0.
numbers_31 : (way : Way) (t : Table) (y : Editors) (card slip : List ℕ) (o : Outputs) → Countable y → ¬ T (takes way t) → (number_in way t y card slip o ≡ 31) × (second_in way t y card slip o ≡ 0)
unfolding response_in outcome_of
numbers_31 way t y card slip o n h =
    let e = (exactly_31 way t y card slip (rooms_of o.card o.changes o.fired) n).1 h in
    (ap (λ (u : OrRefused Answer). response_refusal (outcome_of u)) e, ap (λ (u : OrRefused Answer). response_second (outcome_of u)) e)

-- By marks it is given nowhere else.
pub marks_31_iff : (t : Table) (y : Editors) (card slip : List ℕ) (o : Outputs) → Countable y
    → (number_in Marks t y card slip o ≡ 31) ↔ (¬ (T (well_formed t) × (T (stratum_0 t) ⊎ LeastStrata weak (rules_of t) (stratum_at t))))
marks_31_iff t y card slip o n = (
  λ e w. taken_no_31 Marks t ((takes_iff t).1 w) y card slip (rooms_of o.card o.changes o.fired) _ (number_above Marks t y card slip o 31 (omega arith) e),
  λ w. (numbers_31 Marks t y card slip o n (λ h. w ((takes_iff t).0 h))).0,
)

module _ (t : Table) (z : T (stratum_0 t)) (l : 0 < length (rules_of t)) where
  -- A table with rules and stratum 0 throughout does not carry the least strata.
  not_sound : sound t ≡ false
  not_sound = is_false (sound t) (λ s. omega (arith, l, (stratum_0_sound t (sound_parts t s).0 z).0 s))

  -- So it is 31 by strata, in unpacking and in packing.
  pub stratum_0_by_strata : (y : Editors) (card slip : List ℕ) (o : Outputs) → Countable y → (number_in Strata t y card slip o ≡ 31) × (second_in Strata t y card slip o ≡ 0)
  stratum_0_by_strata y card slip o n = numbers_31 Strata t y card slip o n (λ h. rw (takes_strata t, not_sound) at h)

  pub stratum_0_unpacking : (ys : List ℕ) → (unpacking_refusal (card_told t ys).outcome ≡ 31) × (unpacking_second (card_told t ys).outcome ≡ 0)
      × (unpacking_refusal (slip_told t ys).outcome ≡ 31) × (unpacking_second (slip_told t ys).outcome ≡ 0)
  unfolding unpacked_card unpacked_slip if_sound card_read slip_read
  stratum_0_unpacking ys = rw not_sound (refl, refl, refl, refl)

  pub stratum_0_packing : (card : Card) (slip : Slip) (out : List ℕ) → (packing_refusal (card_packing t card out) ≡ 31) × (packing_second (card_packing t card out) ≡ 0)
      × (packing_refusal (slip_packing t slip out) ≡ 31) × (packing_second (slip_packing t slip out) ≡ 0)
  unfolding packed_card packed_slip if_sound packing_of
  stratum_0_packing card slip out = rw not_sound (refl, refl, refl, refl)

-- Both tables of a text get the same.
pub same_by_both : (text : List ℕ) → IsAccepted text → (y : Editors) (card slip : List ℕ) (o : Outputs) → SameReturned Marks Marks (reading_without_18 text).table (reading text).table y card slip o
same_by_both text a y card slip o =
    let q = reading_no_refusal text a in
    let w = (reading_accepted_iff text).1 q in
    same_returned Marks Marks (reading_without_18 text).table (reading text).table y card slip o
    (read_response text w.0 w.1 y card slip (rooms_of o.card o.changes o.fired) ∙ sym (file_response Marks text w.0 w.1 q y card slip (rooms_of o.card o.changes o.fired)))
