-- For the rules of a file without a circle, a card and a slip that pass their tests: what the answer shows, and what 40 names, of every complete and consistent firing order.
-- Assumes nothing.
use Prim.Native.Nat.{ℕ, ◌<◌}
use mathlib.Core.Path.{◌≡◌, sym, subst, ◌∙◌}
use mathlib.Core.List.{List}
use lib.Dec.{T}
use lib.ListN.{length}
use Rattle.model.specs.Rules.{Pair, Pairs}
use Rattle.model.specs.Orders.{names, changes, whole_order, firing_order}
use Rattle.model.specs.Strata.{weak}
use Rattle.model.specs.Circles.{circle_of}
use Rattle.model.specs.Response.{response}
use Rattle.model.specs.Result.{conflict_slot}
use Rattle.model.proofs.Orders.{whole_e}
use Rattle.model.proofs.Demand3.{response_is_whole, demand_3}
use Rattle.laws.specs.Limits.{row}
use Rattle.grammar.specs.Files.{File, slot_counts}
use Rattle.grammar.proofs.Declared.{DeclaredFile}
use Rattle.laws.specs.Answers.{passed, taken}
use Rattle.cards.specs.Forms.{card_test, slip_test, read_card, read_slip}
use Rattle.response.specs.Ending.{answer_of}
use Rattle.promises.specs.Agreement.{LowestConflict, Shows, Agreed}
use Rattle.promises.proofs.Conflicts.{lowest_of}
use Rattle.promises.proofs.Bounds.{changes_bounded}
use Rattle.promises.proofs.Shows.{shows_alike}

module _ (f : File) (declared : DeclaredFile f) (no_circle : circle_of weak f.rules ≡ 0) (S : List ℕ) (I : List Pair)
    (card : card_test (slot_counts f.slots) S ≡ passed) (slip : slip_test (slot_counts f.slots) I ≡ passed) where
  -- The rules that the response fires, in the order fired, and the C that they end with.
  abbrev ours : List ℕ
  ours = response weak f.rules S I

  abbrev C : Pairs
  C = changes f.rules I ours

  abbrev width : ℕ
  width = length (slot_counts f.slots)

  order : T (firing_order f.rules S I ours)
  order = (whole_e f.rules S I ours (response_is_whole weak f.rules S I no_circle)).order

  same_C : (ns : List ℕ) → T (whole_order f.rules S I ns) → changes f.rules I ns ≡ C
  same_C ns A = ((demand_3 weak f.rules S I no_circle).1 ns A).1

  same_names : (ns : List ℕ) → T (whole_order f.rules S I ns) → names ns ≡ names ours
  same_names ns A = ((demand_3 weak f.rules S I no_circle).1 ns A).0

  -- All complete and consistent firing orders agree; where each is as `Shown` says, this is agreed of the card and the slip.
  pub agreed : (card_bytes slip_bytes : List ℕ) → read_card (slot_counts f.slots) card_bytes ≡ taken S → read_slip (slot_counts f.slots) slip_bytes ≡ taken I
      → (Shown : List ℕ → List Pair → List ℕ → Type 0) → ((ns : List ℕ) → T (whole_order f.rules S I ns) → Shown S I ns) → Agreed f card_bytes slip_bytes Shown
  agreed card_bytes slip_bytes c i Shown each = record {
    S = S;
    I = I;
    card_is = c;
    slip_is = i;
    some_order = (ours, response_is_whole weak f.rules S I no_circle);
    all_agree = λ a b A B. (same_C a A ∙ sym (same_C b B), same_names a A ∙ sym (same_names b B));
    ours = response_is_whole weak f.rules S I no_circle;
    each_order = each;
  }

  -- Where no slot is in conflict the answer shows every such order.
  pub shows_order : conflict_slot width row C ≡ width → (ns : List ℕ) → T (whole_order f.rules S I ns) → Shows f S I (answer_of width (length f.rules) S C ours) ns
  shows_order none ns A = shows_alike f declared S I card slip ours order none ns (whole_e f.rules S I ns A).order (same_C ns A) (same_names ns A)

  -- Where a slot is in conflict, the lowest is that of every such order.
  pub lowest_conflict : conflict_slot width row C < width → (ns : List ℕ) → T (whole_order f.rules S I ns) → LowestConflict (changes f.rules I ns) (conflict_slot width row C)
  lowest_conflict l ns A = subst (λ (D : Pairs). LowestConflict D (conflict_slot width row C)) (sym (same_C ns A)) (lowest_of C width (changes_bounded f declared S I slip ours order).value_below l)
