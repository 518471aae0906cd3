-- All complete orders of selection end in the same marks, or all in 41 (document 02, section 3; the RL paper, section 6.2), for rearranged rules too.
-- Assumes nothing.
use Prim.Native.Nat.{ℕ}
use mathlib.Core.Path.{◌≡◌, refl, fun_ext}
use mathlib.Core.Bool.{Bool, true, false}
use mathlib.Core.List.{List}
use mathlib.Core.Logic.{inl, inr}
use lib.Dec.{T}
use Rattle.laws.specs.Rearranged.{Perm, under, goes}
use Rattle.laws.specs.inner.Back.{p_sym}
use Rattle.laws.proofs.Truth.{bool_ext, and_l, and_r}
use Rattle.model.specs.Rules.{Pair, Rule}
use Rattle.model.specs.Orders.{names}
use Rattle.model.proofs.Renaming.{Renaming, back, renaming}
use Rattle.marks.specs.Marks.{Marks}
use Rattle.marks.specs.Selection.{Move, fired, marks_after, no_clash, all_known, whole_selection, selection_refusal, EndAlike}
use Rattle.marks.specs.inner.Declared.{Declared}
use Rattle.marks.proofs.Selections.{ends_e, no_clash_i}
use Rattle.marks.proofs.Closed.{Closed, Within, within, whole_closed}

-- Marks with the same positive and the same negative pairs are the same.
marks_ext : (Y Z : Marks) → ((p : Pair) → T (Y.positive p) → T (Z.positive p)) → ((p : Pair) → T (Z.positive p) → T (Y.positive p))
    → ((p : Pair) → T (Y.negative p) → T (Z.negative p)) → ((p : Pair) → T (Z.negative p) → T (Y.negative p)) → Y ≡ Z
marks_ext Y Z a b c d =
    let e : Y.positive ≡ Z.positive = fun_ext (λ p. bool_ext _ _ (a p) (b p)) in
    let f : Y.negative ≡ Z.negative = fun_ext (λ p. bool_ext _ _ (c p) (d p)) in
    λ i. record { positive = e i; negative = f i }

module _ (ps : List Pair) (S : List ℕ) (I : List Pair) where
  -- Pairs stay declared for the same rules at other numbers.
  pub declared_moved : (rs rs' : List Rule) (f g : ℕ → ℕ) → Renaming rs rs' f g → Declared ps rs I → Declared ps rs' I
  declared_moved rs rs' f g R D = record {
    slip = D.slip;
    assigned = λ n p i h. D.assigned (g n) p (R.from n i) (rw ((back R).moved n) h);
    in_tests = λ n p i h. D.in_tests (g n) p (R.from n i) (rw ((back R).moved n) h);
  }

  closed_moved : (rs rs' : List Rule) (f g : ℕ → ℕ) → Renaming rs rs' f g → (Z : Marks) (F : ℕ → Bool) → Closed ps rs S I Z F → Closed ps rs' S I Z (λ n. F (g n))
  closed_moved rs rs' f g R Z F C = record {
    never_both = C.never_both;
    slip_in = C.slip_in;
    slip_out = C.slip_out;
    True_fired = λ n i h. C.True_fired (g n) (R.from n i) (rw ((back R).moved n) h);
    fired_marked = λ n p i h. C.fired_marked (g n) p i (rw ((back R).moved n) h);
    fired_out = λ n p i h. C.fired_out (g n) p i (rw ((back R).moved n) h);
    False_out = λ p l s h. C.False_out p l s (λ n i a. rw (R.moved n) at (h (f n) (R.to n i) (rw (R.moved n) a)));
  }

  -- A complete order of rs without clash bounds every order of rs'.
  bounded : (rs rs' : List Rule) (f g : ℕ → ℕ) → Renaming rs rs' f g → Declared ps rs I → (a b : List Move) → T (whole_selection ps rs S I a) → T (whole_selection ps rs' S I b)
      → T (no_clash ps rs S I a) → T (no_clash ps rs' S I b) × Within ps rs' S I b (marks_after rs I a) (λ n. names (fired a) (g n))
  unfolding whole_selection
  bounded rs rs' f g R D a b A B k =
      let C = closed_moved rs rs' f g R (marks_after rs I a) (names (fired a)) (whole_closed ps rs S I D a (and_l _ _ A) (ends_e ps rs S I a (and_r _ _ A)) k) in
      let w = within ps rs' S I (marks_after rs I a) (λ n. names (fired a) (g n)) C b (and_l _ _ B) in
      (no_clash_i ps rs' S I b (λ p x y. C.never_both p (w.positive_in p x) (w.negative_in p y)), w)

  end_alike : (rs rs' : List Rule) (f g : ℕ → ℕ) → Renaming rs rs' f g → Declared ps rs I → (a b : List Move) → T (whole_selection ps rs S I a) → T (whole_selection ps rs' S I b)
      → EndAlike ps S I rs rs' f a b
  unfolding EndAlike selection_refusal all_known
  end_alike rs rs' f g R D a b A B = go (no_clash ps rs S I a) (no_clash ps rs' S I b) refl refl
    where
      forth : T (no_clash ps rs S I a) → T (no_clash ps rs' S I b) × Within ps rs' S I b (marks_after rs I a) (λ n. names (fired a) (g n))
      forth = bounded rs rs' f g R D a b A B

      back_again : T (no_clash ps rs' S I b) → T (no_clash ps rs S I a) × Within ps rs S I a (marks_after rs' I b) (λ n. names (fired b) (f n))
      back_again = bounded rs' rs g f (back R) (declared_moved rs rs' f g R D) b a B A

      go : (x y : Bool) → no_clash ps rs S I a ≡ x → no_clash ps rs' S I b ≡ y → EndAlike ps S I rs rs' f a b
      go true true d e =
          let w = (forth (rw d tt)).1 in
          let v = (back_again (rw e tt)).1 in
          let m : marks_after rs I a ≡ marks_after rs' I b = marks_ext (marks_after rs I a) (marks_after rs' I b) v.positive_in w.positive_in v.negative_in w.negative_in in
          inr (
            m,
            λ n. bool_ext (names (fired a) n) (names (fired b) (f n)) (v.fired_in n) (λ t. rw R.there_back at (w.fired_in (f n) t)),
            rw (d, e, m),
          )
      go true false d e = absurd (rw e at (forth (rw d tt)).0)
      go false true d e = absurd (rw d at (back_again (rw e tt)).0)
      go false false d e = inl (rw d, rw e)

-- The rules at their own numbers.
unmoved : (rs : List Rule) → Renaming rs rs (λ n. n) (λ n. n)
unmoved rs = record { there_back = λ n. refl; back_there = λ n. refl; moved = λ n. refl; to = λ n i. i; from = λ n i. i }

module _ (ps : List Pair) (S : List ℕ) (I : List Pair) where
  -- All complete orders of selection end alike.
  pub orders_agree : (rs : List Rule) → Declared ps rs I → (a b : List Move) → T (whole_selection ps rs S I a) → T (whole_selection ps rs S I b) → EndAlike ps S I rs rs (λ n. n) a b
  orders_agree rs D a b A B = end_alike ps S I rs rs (λ n. n) (λ n. n) (unmoved rs) D a b A B

  -- So do those of rearranged rules, each fired rule at its new number.
  pub rearranged_agree : (rs rs' : List Rule) (p : Perm rs rs') → Declared ps rs I → (a b : List Move) → T (whole_selection ps rs S I a) → T (whole_selection ps rs' S I b)
      → EndAlike ps S I rs rs' (under (goes p)) a b
  rearranged_agree rs rs' p D a b A B = end_alike ps S I rs rs' (under (goes p)) (under (goes (p_sym p))) (renaming rs rs' p) D a b A B
