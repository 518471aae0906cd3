-- What the orders of selection by a file's rules come to, and what the response by marks makes of it.
-- Assumes nothing.
use Prim.Native.Nat.{ℕ, zero, suc}
use native.Mathlib.Omega.{arith}
use mathlib.Core.Path.{◌≡◌, refl, sym, subst, ◌∙◌}
use mathlib.Core.Bool.{Bool, true, false, cond}
use mathlib.Core.List.{List}
use mathlib.Core.Logic.{⊎_elim}
use lib.Dec.{T}
use lib.ListN.{length}
use Rattle.laws.specs.Truth.{notᵇ}
use Rattle.laws.specs.Listed.{all_of}
use Rattle.laws.specs.Answers.{passed, taken}
use Rattle.laws.proofs.Truth.{not_e}
use Rattle.laws.proofs.Equations.{from_true}
use Rattle.model.specs.Rules.{Pair, among}
use Rattle.marks.specs.Marks.{Marks, is_both, is_unknown}
use Rattle.marks.specs.Selection.{Move, order_fired, marks_after, no_clash, all_known, selection_refusal, EndAlike}
use Rattle.marks.specs.inner.Declared.{Declared}
use Rattle.marks.proofs.Selections.{all_pairs_e}
use Rattle.marks.proofs.Pairs.{declared_iff}
use Rattle.marks.proofs.Sweeps.{selection_whole}
use Rattle.marks.proofs.Agree.{orders_agree}
use Rattle.marks.proofs.Correct.{selection_agrees}
use Rattle.grammar.specs.Files.{File, slot_counts}
use Rattle.grammar.proofs.Declared.{DeclaredFile}
use Rattle.cards.specs.Forms.{slip_test, read_card, read_slip}
use Rattle.cards.proofs.Having.{Has, tested_has, slip_tested}
use Rattle.response.specs.Ending.{Answer, answer_of, unless_refused, answer_by_marks}
use Rattle.promises.specs.Selections.{file_pairs, our_selection, ComesTo, SelectionsAgree}
use Rattle.promises.proofs.Bounds.{assigned_has, tests_has}
use Rattle.promises.proofs.ResponseReasons.{one_fails}

-- The pairs of a file's rules, and of a slip that passes its tests, are declared.
pub file_declares : (f : File) → DeclaredFile f → (I : List Pair) → slip_test (slot_counts f.slots) I ≡ passed → Declared (file_pairs f) f.rules I
file_declares f D I slip = record {
  slip = λ p t. here p (tested_has (slot_counts f.slots) 0 0 I slip p t);
  assigned = λ n p i t. here p (assigned_has f D n p i t);
  in_tests = λ n p i t. here p (tests_has f D n p i t);
}
  where
    here : (p : Pair) → Has (slot_counts f.slots) p → T (among p (file_pairs f))
    here p h = (declared_iff (slot_counts f.slots) p).1 (h.below, h.last)

-- The number of an order tells what it ends with.
pub comes_to : (f : File) (S : List ℕ) (I : List Pair) (cs : List Move) → ComesTo f I cs (selection_refusal (file_pairs f) f.rules S I cs)
unfolding selection_refusal no_clash all_known
comes_to f S I cs = go (all_of (λ p. notᵇ (is_both Z p)) ps) refl (all_of (λ p. notᵇ (is_unknown Z p)) ps) refl
  where
    ps : List Pair
    ps = file_pairs f

    Z : Marks
    Z = marks_after f.rules I cs

    none : (h : Pair → Bool) → all_of (λ p. notᵇ (h p)) ps ≡ true → ((p : Pair) × T (among p ps) × T (h p)) → ⊥
    none h e w = not_e (h w.0) (all_pairs_e (λ q. notᵇ (h q)) ps (from_true _ e) w.0 w.1) w.2

    go : (clear : Bool) → all_of (λ p. notᵇ (is_both Z p)) ps ≡ clear → (known : Bool) → all_of (λ p. notᵇ (is_unknown Z p)) ps ≡ known → ComesTo f I cs (cond clear (cond known 0 42) 41)
    go true c true k = record {
      exactly_41 = (λ e. absurd (omega (arith, e)), λ w. absurd (none (is_both Z) c w));
      exactly_42 = (λ e. absurd (omega (arith, e)), λ w. absurd (none (is_unknown Z) k w.1));
      exactly_0 = (λ e. (none (is_both Z) c, none (is_unknown Z) k), λ w. refl);
    }
    go true c false k = record {
      exactly_41 = (λ e. absurd (omega (arith, e)), λ w. absurd (none (is_both Z) c w));
      exactly_42 = (λ e. (none (is_both Z) c, one_fails (is_unknown Z) ps k), λ w. refl);
      exactly_0 = (λ e. absurd (omega (arith, e)), λ w. absurd (w.1 (one_fails (is_unknown Z) ps k)));
    }
    go false c known k = record {
      exactly_41 = (λ e. one_fails (is_both Z) ps c, λ w. refl);
      exactly_42 = (λ e. absurd (omega (arith, e)), λ w. absurd (w.0 (one_fails (is_both Z) ps c)));
      exactly_0 = (λ e. absurd (omega (arith, e)), λ w. absurd (w.0 (one_fails (is_both Z) ps c)));
    }

-- Orders that end alike come to the same number.
pub same_number : (f : File) (S : List ℕ) (I : List Pair) (a b : List Move) → EndAlike (file_pairs f) S I f.rules f.rules (λ n. n) a b
    → selection_refusal (file_pairs f) f.rules S I a ≡ selection_refusal (file_pairs f) f.rules S I b
unfolding EndAlike
same_number f S I a b e = ⊎_elim (λ w. w.0 ∙ sym w.1) (λ w. w.2) e

-- What all complete orders of selection from a card and a slip come to.
pub selections_agree : (f : File) → DeclaredFile f → (card slip : List ℕ) (S : List ℕ) (I : List Pair) → read_card (slot_counts f.slots) card ≡ taken S → read_slip (slot_counts f.slots) slip ≡ taken I
    → SelectionsAgree f card slip (selection_refusal (file_pairs f) f.rules S I (our_selection f S I))
selections_agree f D card slip S I c i =
    let declares = file_declares f D I (slip_tested (slot_counts f.slots) slip I i) in
    record {
      S = S;
      I = I;
      card_is = c;
      slip_is = i;
      ours = selection_whole (file_pairs f) f.rules S I;
      all_alike = orders_agree (file_pairs f) S I f.rules declares;
      each_comes = λ cs W. subst (ComesTo f I cs) (same_number f S I cs (our_selection f S I) (selection_agrees (file_pairs f) f.rules S I declares cs W)) (comes_to f S I cs);
    }

module _ (f : File) (S : List ℕ) (I : List Pair) where
  -- The answer of the positive pairs and the rules fired.
  abbrev pub marks_answer : Answer
  marks_answer = answer_of (length (slot_counts f.slots)) (length f.rules) S (marks_after f.rules I (our_selection f S I)).positive (order_fired (our_selection f S I))

  -- An answer: the selection is accepted, and these are its bytes.
  pub taken_by_marks : (a : Answer) → answer_by_marks f.rules (slot_counts f.slots) S I ≡ taken a → (selection_refusal (file_pairs f) f.rules S I (our_selection f S I) ≡ 0) × (marks_answer ≡ a)
  unfolding answer_by_marks unless_refused
  taken_by_marks a e = go (selection_refusal (file_pairs f) f.rules S I (our_selection f S I)) marks_answer e
    where
      go : (k : ℕ) (b : Answer) → unless_refused k b ≡ taken a → (k ≡ 0) × (b ≡ a)
      go zero b e = (refl, let x : b ≡ a = cc in x)
      go (suc k) b e = absurd (let z : ◌≡◌ {A = ℕ} 0 1 = cc in omega arith)
