-- `judging::truth::literal_truth` meets its contract.
use mathlib.Core.Path.{◌≡◌, ap, ◌∙◌}
use Prim.Native.Nat.{◌*◌, ◌/◌}
use borrow.Author.Tests.{eq-eqb, ne_eqb}
use Rattle.truths.specs.Truths.{NOT₃}
use Rattle.table.specs.Link.{literal_of}
use Rattle.table.specs.inner.Flat.{pair_places}
use Rattle.rows.specs.inner.Rows.{literal_in}
use Rattle.judging.specs.inner.Known.{marks_of}
use Rattle.judging.proofs.Tests.{literal_not, literal_plain, test_without_not}
use native.Mathlib.Omega.{arith}
use Rattle.judging.proofs.truth.literal_truth.Goals as goal

pub returns-then-number-ge-UNDER_NOT : goal.returns-then-number-ge-UNDER_NOT
returns-then-number-ge-UNDER_NOT c =
    let x = c.args.number in
    let under : x / (2 * pair_places) ≡ 1 = omega (arith, c.requires, c.if-number-ge-UNDER_NOT.true) in
    λ S k h e. c.not.ensures.0 ∙ ap NOT₃ (c.test_truth-test.ensures S k h e ∙ test_without_not S (marks_of k) x) ∙ literal_not S (marks_of k) (literal_of (literal_in x)) (eq-eqb (x / (2 * pair_places)) 1 under)

pub returns-else-number-ge-UNDER_NOT : goal.returns-else-number-ge-UNDER_NOT
returns-else-number-ge-UNDER_NOT c =
    let x = c.args.number in
    λ S k h e. c.test_truth-test.ensures S k h e ∙ test_without_not S (marks_of k) x ∙ literal_plain S (marks_of k) (literal_of (literal_in x)) (ne_eqb (x / (2 * pair_places)) 1 (λ (z : x / (2 * pair_places) ≡ 1). omega (arith, z, c.if-number-ge-UNDER_NOT.false)))
