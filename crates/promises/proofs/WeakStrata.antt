-- Document 02, section 2: the least strata, what 31 tests, rules without a cause outside their set, and files with strata of section 7.
-- Assumes nothing.
use Prim.Native.Nat.{ℕ}
use mathlib.Core.Path.{◌≡◌, sym, ◌∙◌}
use mathlib.Core.Bool.{Bool, false}
use mathlib.Core.List.{List}
use lib.Dec.{T}
use Rattle.laws.specs.Answers.{taken}
use Rattle.laws.proofs.Truth.{and_l}
use Rattle.laws.proofs.Numbers.{is_false}
use Rattle.model.specs.Rules.{Pair}
use Rattle.model.specs.Orders.{names, whole_order}
use Rattle.model.specs.Strata.{strict, weak}
use Rattle.model.specs.Causes.{NoOutsideCause}
use Rattle.model.specs.Response.{response}
use Rattle.model.proofs.Causes.{uncaused}
use Rattle.model.proofs.Gradings.{to_weak}
use Rattle.model.proofs.Exists.{response_whole}
use Rattle.table.specs.declared.Way.TheVariants.{Strata}
use Rattle.grammar.specs.Files.{File, slot_counts}
use Rattle.grammar.specs.Meaning.{IsFile}
use Rattle.reader.specs.Tables.{Accepted}
use Rattle.rule_file.specs.Whole.{reading}
use Rattle.rule_file.proofs.Answers.{reading_accepted_iff}
use Rattle.soundness.proofs.Sound.{sound_iff_least}
use Rattle.soundness.proofs.Taken.{takes_strata}
use Rattle.cards.specs.Forms.{read_card, read_slip}
use Rattle.tally.specs.Editors.{Editors}
use Rattle.response.specs.Ending.{Answer}
use Rattle.response.specs.Respond.{Rooms}
use Rattle.results.specs.Record.{bit_of}
use Rattle.promises.specs.Agreement.{responds}
use Rattle.promises.specs.WeakStrata.{WeakStrata}
use Rattle.promises.proofs.Demand3.{demand_3}
use Rattle.promises.proofs.Engines.{exactly_31}

module _ (text : List ℕ) (f : File) (h : IsFile text f) where
  none_fired : (reading text).outcome ≡ Accepted → (y : Editors) (card slip : List ℕ) (rooms : Rooms) (a : Answer) → responds text y card slip rooms ≡ taken a
      → (S : List ℕ) (I : List Pair) → read_card (slot_counts f.slots) card ≡ taken S → read_slip (slot_counts f.slots) slip ≡ taken I
      → (X : ℕ → Bool) → NoOutsideCause f.rules S I X → (n : ℕ) → T (X n) → bit_of a.fired n ≡ false
  unfolding whole_order
  none_fired o y card slip rooms a e S I d i X c n x =
      let A = (demand_3 text f h o).where_answered y card slip rooms a e in
      let ns = response weak f.rules A.S A.I in
      let same_card : A.S ≡ S = one_card A.S S (sym A.card_is ∙ d) in
      let same_slip : A.I ≡ I = one_slip A.I I (sym A.slip_is ∙ i) in
      let u = uncaused f.rules A.S A.I X (rw (same_card, same_slip) c) ns (and_l _ _ (and_l _ _ A.ours)) n x in
      sym ((A.each_order ns A.ours).same_fired n) ∙ is_false (names ns n) u
    where
      one_card : (xs ys : List ℕ) → taken xs ≡ taken ys → xs ≡ ys
      one_card xs ys z = let w : xs ≡ ys = cc in w

      one_slip : (ps qs : List Pair) → taken ps ≡ taken qs → ps ≡ qs
      one_slip ps qs z = let w : ps ≡ qs = cc in w

pub weak_strata : WeakStrata
weak_strata = record {
  tested = sound_iff_least;
  refused_31 = λ t w y q card slip rooms.
      let i = exactly_31 Strata t y card slip rooms q in
      let s = sound_iff_least t w in
      (λ e l. i.0 e (rw (takes_strata t) (s.1 l)), λ n. i.1 (λ u. n (s.0 (rw (takes_strata t) at u))));
  idle = none_fired;
  section_7 = λ text f h u s. let w = to_weak strict f.rules u s in ((reading_accepted_iff text).0 (f, h, (u, w)), λ S I. response_whole weak f.rules u w S I);
}
