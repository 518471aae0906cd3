-- `marking::pairs::assign` meets its contract.
use mathlib.Core.Bool.{false}
use mathlib.Core.Path.{◌≡◌, refl, sym, ◌∙◌, ap, ap₂, subst}
use mathlib.Core.List.{List, [], ◌∷◌}
use Prim.Native.Nat.{ℕ, ◌+◌, ◌/◌}
use native.Mathlib.Omega.{arith}
use lib.ListN.{get_or}
use borrow.Author.Rules.{rules}
use Rattle.laws.specs.Limits.{row}
use Rattle.model.specs.Rules.{Pair}
use Rattle.table.specs.declared.Rule.{Rule}
use Rattle.table.specs.Link.{assignments_of}
use Rattle.table.proofs.Walks.{assigned_from, assigned_end}
use Rattle.rows.specs.inner.Rows.{rule_in, pair_in}
use Rattle.rows.proofs.Laws.{row_assigned_next}
use Rattle.judging.specs.declared.truth.Known.{Known}
use Rattle.marking.specs.inner.Marked.{marked, assigned, clashes}
use Rattle.marking.proofs.Marked.{Few, few_first, few_rest, Assigning, assigning_start, assigning_over, assigning_more, assigning_clash, assigning_end}
use Rattle.marking.proofs.pairs.assign.Goals.{After-place-p, After-map_or-count}
use Rattle.marking.proofs.pairs.assign.Goals as goal

-- The pair at hand is the next of those assigned.
first : (c : After-place-p) →
    let counts = c.args.counts.now in
    let ps = pair_in c.assignment-number.result ∷ assigned_from (rule_in c.args.row.now.numbers) (c.assignments.k + 1) in
    Few counts ps
    × Assigning counts (assignments_of (rule_in c.args.row.now.numbers)) c.args.marks.now ps c.assignments.marks
first c =
    let counts = c.args.counts.now in
    let e = row_assigned_next c.args.row.now.numbers c.args.row.now.fits c.assignments.k c.assignment-number.result (search rules) c.assignment-number.ensures in (
      subst (Few counts) e c.assignments.invariant.0,
      subst (λ (ps : List Pair). Assigning counts (assignments_of (rule_in c.args.row.now.numbers)) c.args.marks.now ps c.assignments.marks) e c.assignments.invariant.1,
    )

-- Its slot.
same-slot : (c : After-place-p) → c.place-p.result / row ≡ (pair_in c.assignment-number.result).slot
same-slot c = let e = c.place-p.ensures.0 in omega (arith, e)

-- How many values it has.
count-is : (c : After-map_or-count) → c.map_or-count.result ≡ get_or c.args.counts.now (pair_in c.assignment-number.result).slot 0
count-is c =
    let e : c.map_or-count.result ≡ get_or c.args.counts.now (c.place-p.result / row) 0 = search rules in
    e ∙ ap (λ (y : ℕ). get_or c.args.counts.now y 0) (same-slot (goal.at.After-map_or-count c).After-place-p)

-- What is assigned where no pair is left.
assigned_all : (counts : List ℕ) (r : Rule) (k : ℕ) (i j : Known) → assigned_from r k ≡ [] → Assigning counts (assignments_of r) i (assigned_from r k) j
    → (false ≡ clashes counts (assignments_of r) i) × (j ≡ assigned counts (assignments_of r) i)
assigned_all counts r k i j none a = assigning_end counts (assignments_of r) i j (subst (λ (ps : List Pair). Assigning counts (assignments_of r) i ps j) none a)

pub assignments-init : goal.assignments-init
unfolding assigned_from Few
assignments-init c = (c.requires.0, assigning_start _ _ _, c.requires.3, refl, refl)

pub returns-then-marks-p-clause-clash : goal.returns-then-marks-p-clause-clash
returns-then-marks-p-clause-clash c = assigning_clash _ _ _ _ _ _ (rw c.place-p.ensures.0 at c.if-marks-p.true) (first (goal.at.returns-then-marks-p-clause-clash c).After-place-p).1

pub assignments-preserved-then-marks-p-2 : goal.assignments-preserved-then-marks-p-2
assignments-preserved-then-marks-p-2 c = (few_rest _ _ _ (first (goal.at.assignments-preserved-then-marks-p-2 c).After-place-p).0, assigning_over _ _ _ _ _ _ (rw c.place-p.ensures.0 at c.if-marks-p.false) (rw c.place-p.ensures.0 at c.if-marks-p-2.true) (first (goal.at.assignments-preserved-then-marks-p-2 c).After-place-p).1, c.assignments.invariant.2, c.assignments.invariant.3, c.assignments.invariant.4)

pub mark-top-requires : goal.mark-top-requires
mark-top-requires c = (c.place-p.ensures.1, rw (count-is (goal.at.mark-top-requires c).After-map_or-count) (few_first _ _ _ (first (goal.at.mark-top-requires c).After-place-p).0), c.requires.1, c.requires.2, c.assignments.invariant.2, search rules)

pub assignments-preserved : goal.assignments-preserved
assignments-preserved c =
    let counts = c.args.counts.now in
    let j = c.assignments.marks in
    let k = c.args.marks.now in
    let r = rule_in c.args.row.now.numbers in
    let rest = assigned_from r (c.assignments.k + 1) in
    let p = pair_in c.assignment-number.result in
    let made = c.mark-top.ensures.0 ∙ ap₂ (λ (x y : ℕ). marked x y j) c.place-p.ensures.0 (count-is (goal.at.assignments-preserved c).After-map_or-count) in
    let more = assigning_more counts (assignments_of r) k p rest j (rw c.place-p.ensures.0 at c.if-marks-p.false) (rw c.place-p.ensures.0 at c.if-marks-p-2.false) (first (goal.at.assignments-preserved c).After-place-p).1 in
    (few_rest _ _ _ (first (goal.at.assignments-preserved c).After-place-p).0, subst (Assigning counts (assignments_of r) k rest) (sym made) more, c.mark-top.ensures.1, search rules, search rules)

pub returns-clause-clash : goal.returns-clause-clash
returns-clause-clash c =
    let r = rule_in c.args.row.now.numbers in
    (assigned_all c.args.counts.now r c.assignments.k c.args.marks.now c.assignments.marks (assigned_end r c.assignments.k (search rules)) c.assignments.invariant.1).0

pub returns-clause-marks : goal.returns-clause-marks
returns-clause-marks c =
    let r = rule_in c.args.row.now.numbers in
    (assigned_all c.args.counts.now r c.assignments.k c.args.marks.now c.assignments.marks (assigned_end r c.assignments.k (search rules)) c.assignments.invariant.1).1
