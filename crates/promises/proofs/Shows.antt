-- For the rules of a file, a card and a slip that pass their tests: the answer of a firing order's changes and rules shows every firing order that ends with the same C and names the same rules.
-- Assumes nothing.
use Prim.Native.Nat.{ℕ, ◌≤◌, ◌<◌}
use native.Mathlib.Omega.{arith}
use mathlib.Core.Path.{◌≡◌, sym, ap, subst, ◌∙◌}
use mathlib.Core.Bool.{Bool}
use mathlib.Core.List.{List, []}
use mathlib.Core.Logic.{⊎_elim}
use lib.Dec.{T}
use lib.ListN.{length, get_or, get_or-eq_default}
use Rattle.laws.specs.Numbers.{how_many}
use Rattle.laws.proofs.Truth.{le_or_lt}
use Rattle.model.specs.Rules.{Pair, Pairs}
use Rattle.model.specs.Orders.{names, changes, firing_order}
use Rattle.model.specs.Result.{pair, conflict_slot, new_card, changes_slip, Bounded}
use Rattle.model.proofs.Orders.{are_rules}
use Rattle.model.proofs.Lengths.{order_length}
use Rattle.model.proofs.Results.{no_conflict_e, slip_exact, new_card_length}
use Rattle.laws.specs.Limits.{row}
use Rattle.grammar.specs.Files.{File, slot_counts}
use Rattle.grammar.proofs.Declared.{DeclaredFile}
use Rattle.laws.specs.Answers.{passed, taken}
use Rattle.cards.specs.Forms.{card_test, slip_test, read_card, read_slip}
use Rattle.cards.proofs.Passed.{card_pass}
use Rattle.cards.proofs.Having.{Has}
use Rattle.results.specs.Record.{ones_in}
use Rattle.response.specs.Ending.{fired_record, answer_of}
use Rattle.promises.specs.Agreement.{InConflict, Shows}
use Rattle.promises.proofs.FiredBits.{record_bit, record_length, record_ones}
use Rattle.promises.proofs.Bounds.{file_slots, changes_has, changes_bounded}
use Rattle.promises.proofs.Held.{changes_unpack, card_unpacks, value_new, value_old}

module _ (f : File) (declared : DeclaredFile f) (S : List ℕ) (I : List Pair)
    (card : card_test (slot_counts f.slots) S ≡ passed) (slip : slip_test (slot_counts f.slots) I ≡ passed)
    (ours : List ℕ) (order : T (firing_order f.rules S I ours)) where
  -- The C that the order ends with.
  abbrev C : Pairs
  C = changes f.rules I ours

  abbrev width : ℕ
  width = length (slot_counts f.slots)

  -- Its pairs are pairs that the file has.
  has : (p : Pair) → T (C p) → Has (slot_counts f.slots) p
  has = changes_has f declared S I slip ours order

  bounded : Bounded width row C
  bounded = changes_bounded f declared S I slip ours order

  within : (p : Pair) → p.slot < width → T (C p) → p.value ≤ get_or (slot_counts f.slots) p.slot 0
  within p l t = (has p t).last

  -- The changes and the new card unpack.
  slip_unpacks : read_slip (slot_counts f.slots) (answer_of width (length f.rules) S C ours).changes ≡ taken (changes_slip width row C)
  unfolding answer_of
  slip_unpacks = changes_unpack (slot_counts f.slots) (file_slots f declared) C within

  new_card_unpacks : read_card (slot_counts f.slots) (answer_of width (length f.rules) S C ours).new_card ≡ taken (new_card width row C S)
  unfolding answer_of
  new_card_unpacks = card_unpacks (slot_counts f.slots) (file_slots f declared) C within S card

  module _ (none : conflict_slot width row C ≡ width) where
    one : (s v w : ℕ) → s < width → T (C (pair s v)) → T (C (pair s w)) → v ≡ w
    one s v w l a b = no_conflict_e row C width bounded none s v w a b

    -- The new card has C's value where C has one, and else the old card's.
    card_new : (s v : ℕ) → T (C (pair s v)) → get_or (new_card width row C S) s 0 ≡ v
    card_new s v t = value_new (slot_counts f.slots) (file_slots f declared) C within S card one s v (bounded.slot_below (pair s v) t) t

    card_old : (s : ℕ) → ((v : ℕ) → ¬ T (C (pair s v))) → get_or (new_card width row C S) s 0 ≡ get_or S s 0
    card_old s lacks =
        ⊎_elim
        (λ (l : width ≤ s). get_or-eq_default (new_card width row C S) 0 {n = s} (rw (new_card_length row C width S) l) ∙ sym (get_or-eq_default S 0 {n = s} (rw (card_pass (slot_counts f.slots) S card).0 l)))
        (λ (l : s < width). value_old (slot_counts f.slots) (file_slots f declared) C within S card s l lacks) (le_or_lt width s)

    -- Where no slot is in conflict the answer shows every such order.
    pub shows_alike : (ns : List ℕ) → T (firing_order f.rules S I ns) → changes f.rules I ns ≡ C → names ns ≡ names ours → Shows f S I (answer_of width (length f.rules) S C ours) ns
    unfolding answer_of InConflict firing_order
    shows_alike ns A e g =
        let n : ones_in (fired_record (length f.rules) ours) ≡ how_many (names ns) (length f.rules) =
        record_ones (length f.rules) ours ∙ ap (λ (h : ℕ → Bool). how_many h (length f.rules)) (sym g) in
        record {
          pairs = changes_slip width row C;
          changes_are = slip_unpacks;
          same_changes = λ p. ap (λ (D : Pairs). D p) (e ∙ sym (slip_exact row C width bounded none));
          same_fired = λ m. ap (λ (h : ℕ → Bool). h m) g ∙ record_bit (length f.rules) ours (are_rules f.rules S I [] ours order) m;
          fired_length = record_length (length f.rules) ours;
          how_many_fired = (n, n ∙ order_length f.rules S I ns A);
          no_conflict = λ s w. omega (arith, w.2, no_conflict_e row C width bounded none s w.0 w.1 (subst (λ (D : Pairs). T (D (pair s w.0))) e w.3) (subst (λ (D : Pairs). T (D (pair s w.1))) e w.4));
          values = new_card width row C S;
          card_is = new_card_unpacks;
          new_value = λ s v t. card_new s v (subst (λ (D : Pairs). T (D (pair s v))) e t);
          old_value = λ s lacks. card_old s (λ v t. lacks v (subst (λ (D : Pairs). T (D (pair s v))) (sym e) t));
        }
