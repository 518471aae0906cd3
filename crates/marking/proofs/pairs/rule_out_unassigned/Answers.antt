-- `marking::pairs::rule_out_unassigned` meets its contract.
use mathlib.Core.Path.{◌≡◌, refl, sym, ◌∙◌, ap}
use mathlib.Core.List.{List, ◌∷◌}
use Prim.Native.Nat.{ℕ, ◌+◌, ◌≤◌}
use native.Mathlib.Omega.{arith}
use lib.ListN.{get_or}
use borrow.Author.Rules.{rules}
use Rattle.model.specs.Rules.{Pair}
use Rattle.table.specs.Link.{assignments_of}
use Rattle.table.specs.inner.Flat.{place_of}
use Rattle.table.proofs.Walks.{assigned_from, assigned_start, assigned_end}
use Rattle.rows.specs.inner.Rows.{rule_in, pair_in}
use Rattle.rows.proofs.Laws.{row_assigned_next}
use Rattle.marking.specs.inner.Marked.{ruled_out, unassigned_out}
use Rattle.marking.proofs.Marked.{unassigned_live, unassigned_positive, unassigned_negative, unassigned_more, unassigned_end}
use Rattle.marking.proofs.pairs.rule_out_unassigned.Goals.{After-place-p, In-assignments, then-live-p-gt0-via-then-live-p-gt0, then-live-p-gt0-via-else-live-p-gt0+then-marks-p, then-live-p-gt0-via-else-live-p-gt0+else-marks-p+then-marks-p-2}
use Rattle.marking.proofs.pairs.rule_out_unassigned.Goals as goal

-- The pair at hand is the next of those assigned.
first : (c : After-place-p) →
    let pair = pair_in c.assignment-number.result in
    unassigned_out c.args.live.now (pair ∷ assigned_from (rule_in c.args.row.now.numbers) (c.assignments.k + 1)) c.assignments.marks
    ≡ unassigned_out c.args.live.now (assignments_of (rule_in c.args.row.now.numbers)) c.args.marks.now
first c = rw (row_assigned_next c.args.row.now.numbers c.args.row.now.fits c.assignments.k c.assignment-number.result (search rules) c.assignment-number.ensures) at c.assignments.invariant.0

pub assignments-init : goal.assignments-init
assignments-init c =
    let k = c.args.marks.now in
    (ap (λ (ps : List Pair). unassigned_out c.args.live.now ps k) (assigned_start (rule_in c.args.row.now.numbers)), c.requires.2, refl, refl)

pub assignments-preserved-then-live-p-gt0 : goal.assignments-preserved-then-live-p-gt0
assignments-preserved-then-live-p-gt0 c =
    let e = first (goal.at.assignments-preserved-then-live-p-gt0 c).After-place-p in (
      elim c.then-live-p-gt0.branch [
        | then-live-p-gt0-via-then-live-p-gt0 w ↦ sym (unassigned_live _ _ _ _ (rw c.place-p.ensures.0 at w.if-live-p-gt0.true)) ∙ e
        | then-live-p-gt0-via-else-live-p-gt0+then-marks-p w ↦ sym (unassigned_positive _ _ _ _ (rw c.place-p.ensures.0 at w.if-marks-p.true)) ∙ e
        | then-live-p-gt0-via-else-live-p-gt0+else-marks-p+then-marks-p-2 w ↦ sym (unassigned_negative _ _ _ _ (rw c.place-p.ensures.0 at w.if-marks-p-2.true)) ∙ e
      ],
      c.assignments.invariant.1,
      c.assignments.invariant.2,
      c.assignments.invariant.3,
    )

pub assignments-preserved : goal.assignments-preserved
assignments-preserved c =
    let live = c.args.live.now in
    let p = pair_in c.assignment-number.result in
    let rest = assigned_from (rule_in c.args.row.now.numbers) (c.assignments.k + 1) in
    let j = c.assignments.marks in
    let none : get_or live (place_of p) 0 ≤ 0 = rw c.place-p.ensures.0 at c.if-live-p-gt0.false in
    let more = unassigned_more live p rest j (omega arith) (rw c.place-p.ensures.0 at c.if-marks-p.false) (rw c.place-p.ensures.0 at c.if-marks-p-2.false) in
    let out = c.rule_out-top.ensures.0 ∙ ap (λ (x : ℕ). ruled_out x j) c.place-p.ensures.0 in
    (ap (unassigned_out live rest) out ∙ sym more ∙ first (goal.at.assignments-preserved c).After-place-p, c.rule_out-top.ensures.1, search rules, search rules)

pub returns : goal.returns
returns c =
    let j = c.assignments.marks in
    (sym (unassigned_end c.args.live.now j) ∙ (rw (assigned_end (rule_in c.args.row.now.numbers) c.assignments.k (search rules)) at c.assignments.invariant.0), c.assignments.invariant.1)
