-- The theorems of document 02, section 3, for the selection: it ends as every complete order does; its answers are correct by Definition 2, are what
-- demand 3 owes, and equal those of the strata response; rearranged rules give the same.
-- Assumes nothing.
use Prim.Native.Nat.{ℕ}
use native.Mathlib.Omega.{arith}
use mathlib.Core.Path.{◌≡◌, sym, ap, subst, ◌∙◌}
use mathlib.Core.Bool.{Bool, true, false, cond}
use mathlib.Core.List.{List}
use lib.Dec.{T}
use Rattle.laws.specs.Rearranged.{Perm, under, goes}
use Rattle.laws.proofs.Truth.{and_l}
use Rattle.model.specs.Rules.{Pair, Rule, among}
use Rattle.model.specs.Orders.{names, changes, whole_order}
use Rattle.model.specs.Strata.{Grading}
use Rattle.model.specs.Circles.{circle_of}
use Rattle.model.specs.Response.{response}
use Rattle.model.specs.Paper.{Firing, NoneFireable, DeclarativeResponse, RuleConsistent, SlotConsistent, Unambiguous, Correct, firing_of, firings}
use Rattle.model.proofs.Orders.{Consistent, complete_i, whole_e}
use Rattle.model.proofs.Demand3.{demand_3}
use Rattle.model.proofs.Paper.{firings_last, order_declarative, declarative_whole}
use Rattle.marks.specs.Selection.{Move, order_fired, marks_after, no_clash, all_known, selects, whole_selection, selection_refusal, selection, EndAlike}
use Rattle.marks.specs.inner.Declared.{Declared}
use Rattle.marks.proofs.Selections.{positive_declared}
use Rattle.marks.proofs.Agree.{orders_agree, rearranged_agree}
use Rattle.marks.proofs.Sweeps.{selection_whole}
use Rattle.marks.proofs.Answered.{order_no_clash, answer_whole, answer_one_value, answer_only}

module _ (ps : List Pair) (rs : List Rule) (S : List ℕ) (I : List Pair) (D : Declared ps rs I) where
  module _ (cs : List Move) (W : T (whole_selection ps rs S I cs)) (A : selection_refusal ps rs S I cs ≡ 0) where
    -- The firings of the rules fired are a declarative response of Definition 1 (the map of Definition 4), and no rule is fireable at its end.
    pub answer_declarative : DeclarativeResponse rs S I (firings rs I (order_fired cs)) × NoneFireable rs S (firing_of rs I (order_fired cs))
    answer_declarative =
        let o = whole_e rs S I (order_fired cs) (answer_whole ps rs S I D cs W A) in
        let d = order_declarative rs S I (order_fired cs) o.order (complete_i rs S I (order_fired cs) o.completes) in
        (d.0, subst (NoneFireable rs S) (firings_last rs S I (order_fired cs)) d.1)

    -- It is correct by Definition 2 (Theorem Soundness of section 6.2).
    pub answer_correct : Correct rs S I (firing_of rs I (order_fired cs))
    unfolding RuleConsistent Unambiguous Consistent firing_of
    answer_correct = record {
      rule_consistent = (whole_e rs S I (order_fired cs) (answer_whole ps rs S I D cs W A)).stays_consistent;
      slot_consistent = answer_one_value ps rs S I D cs W A;
      unambiguous = λ τ k R rest con one.
          let w = declarative_whole rs S I τ R k rest con in
          ap (λ (σ : Firing). σ.changed) w.2 ∙ (answer_only ps rs S I D cs W A w.0 w.1 (subst SlotConsistent w.2 one)).0;
    }

    -- Where there are strata, of either grading, the strata response has these changes and these fired rules, and gives no slot two values.
    pub strata_equal : (G : Grading) → circle_of G rs ≡ 0
        → (changes rs I (response G rs S I) ≡ changes rs I (order_fired cs)) × (names (response G rs S I) ≡ names (order_fired cs)) × SlotConsistent (firing_of rs I (response G rs S I))
    unfolding SlotConsistent firing_of
    strata_equal G e =
        let u = (demand_3 G rs S I e).1 (order_fired cs) (answer_whole ps rs S I D cs W A) in
        (sym u.1, sym u.0, λ x v w a b. answer_one_value ps rs S I D cs W A x v w (rw u.1 a) (rw u.1 b))

  -- 41 is given only where no complete and consistent firing order gives every slot at most one value.
  pub clash_right : (cs : List Move) → T (selects ps rs S I cs) → selection_refusal ps rs S I cs ≡ 41 → (b : List ℕ) → T (whole_order rs S I b) → ¬ SlotConsistent (firing_of rs I b)
  unfolding selection_refusal
  clash_right cs t e b B one = go (no_clash ps rs S I cs) (all_known ps rs S I cs) (order_no_clash ps rs S I b (whole_e rs S I b B) one cs t) e
    where
      go : (x y : Bool) → T x → ◌≡◌ {A = ℕ} (cond x (cond y 0 42) 41) 41 → ⊥
      go true true k e = omega arith
      go true false k e = omega arith
      go false y k e = k

  -- Every complete order of selection ends as the selection does.
  pub selection_agrees : (cs : List Move) → T (whole_selection ps rs S I cs) → EndAlike ps S I rs rs (λ n. n) cs (selection ps rs S I)
  selection_agrees cs W = orders_agree ps S I rs D cs (selection ps rs S I) W (selection_whole ps rs S I)

  -- Its positive pairs are declared.
  pub selection_positive_declared : (p : Pair) → T ((marks_after rs I (selection ps rs S I)).positive p) → T (among p ps)
  unfolding whole_selection
  selection_positive_declared p t = positive_declared ps rs S I D (selection ps rs S I) (and_l _ _ (selection_whole ps rs S I)) p t

-- The selections of rearranged rules end alike, each fired rule at its new number.
pub rearranged_selection : (ps : List Pair) (rs rs' : List Rule) (p : Perm rs rs') (S : List ℕ) (I : List Pair) → Declared ps rs I
    → EndAlike ps S I rs rs' (under (goes p)) (selection ps rs S I) (selection ps rs' S I)
rearranged_selection ps rs rs' p S I D = rearranged_agree ps S I rs rs' p D (selection ps rs S I) (selection ps rs' S I) (selection_whole ps rs S I) (selection_whole ps rs' S I)
