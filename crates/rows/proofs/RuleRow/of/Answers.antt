-- `rows::RuleRow::of` meets its contract.
use borrow.Author.Rules.{rules}
use mathlib.Core.Path.{◌≡◌, refl}
use native.Mathlib.Omega.{arith}
use Prim.Native.Nat.{ℕ}
use lib.ListN.{replicate}
use Rattle.rows.specs.inner.Rows.{Row}
use Rattle.rows.proofs.Laws.{fits_bounded, written_start, written_literal, written_assignment, written_end}
use Rattle.table.proofs.Shape.{rule_shaped}
use Rattle.rows.proofs.RuleRow.of.Goals.{After-assignments}
use Rattle.rows.proofs.RuleRow.of.Goals as goal

pub overflow_cast-row : goal.overflow_cast-row
overflow_cast-row c = record { fits = omega (arith, c.requires.literals_fit) }

pub overflow_cast-row-2 : goal.overflow_cast-row-2
overflow_cast-row-2 c = record { fits = omega (arith, c.requires.assignments_fit) }

pub literals-init : goal.literals-init
literals-init c = written_start c.args.r (replicate {A = ℕ} 16 0) c.place_number-trigger.result refl c.place_number-trigger.ensures.1 c.place_number-trigger.ensures.0

pub literal_number-requires : goal.literal_number-requires
literal_number-requires c = c.requires.literal c.literals.j (search rules)

pub literals-preserved : goal.literals-preserved
literals-preserved c = written_literal c.args.r c.literals.row c.literals.j c.literal_number.result (omega (arith, c.requires.literals_fit, c.literals-test.true)) c.literal_number.ensures.0 c.literal_number.ensures.1 c.literals.invariant

pub assignments-init : goal.assignments-init
assignments-init c =
    let e : c.literals.j ≡ c.args.r.tested = omega arith in
    rw e at c.literals.invariant

pub place_number-requires : goal.place_number-requires
place_number-requires c = c.requires.assignment c.assignments.i (search rules)

pub assignments-preserved : goal.assignments-preserved
assignments-preserved c = written_assignment c.args.r c.assignments.row _ c.assignments.i c.place_number.result c.requires.literals_fit (omega (arith, c.requires.assignments_fit, c.assignments-test.true)) c.place_number.ensures.0 c.assignments.invariant

-- All is written.
whole : (c : After-assignments) → Row c.args.r c.assignments.row
whole c =
    let e : c.assignments.i ≡ c.args.r.assigned = omega arith in
    written_end c.args.r c.assignments.row c.requires (rule_shaped c.args.r _ c.well_formed.0) (rw e at c.assignments.invariant)

pub invariant_of-result : goal.invariant_of-result
invariant_of-result c = record { fits = fits_bounded c.assignments.row (whole (goal.at.invariant_of-result c).After-assignments).fits }

pub returns : goal.returns
returns c = whole (goal.at.returns c).After-assignments
