-- `judging::truth::rule_truth` meets its contract.
use mathlib.Core.Path.{◌≡◌, sym, ap, ◌∙◌}
use mathlib.Core.List.{List}
use Prim.Native.Nat.{ℕ, ◌+◌, ◌-◌, ◌<◌}
use Rattle.table.proofs.Walks.{literals_from}
use Rattle.rows.specs.inner.Rows.{rule_in}
use Rattle.marks.specs.Marks.{truth_turns, truth_condition}
use Rattle.table.specs.Link.{rule_of}
use Rattle.judging.specs.declared.truth.Known.{Known}
use Rattle.judging.specs.inner.Known.{marks_of, Truths}
use Rattle.judging.proofs.Tests.{trigger_test}
use Rattle.judging.proofs.Joining.{condition_none, condition_next, rule_joined, trigger_decides, literals_decide}
use native.Mathlib.Omega.{arith}
use Rattle.judging.proofs.truth.rule_truth.Goals.{After-and-condition, After-test_truth-trigger, In-literals}
use Rattle.judging.proofs.truth.rule_truth.Goals as goal

-- What the trigger comes to.
trigger-is : (c : After-test_truth-trigger) (S : List ℕ) (k : Known) → Truths S k → c.args.truth.now ≡ k.truth
    → c.test_truth-trigger.result ≡ truth_turns S (marks_of k) (rule_of (rule_in c.args.row.now.numbers)).trigger
trigger-is c S k t e =
    c.test_truth-trigger.ensures S k t e
    ∙ trigger_test S (marks_of k) c.awaited-number.result c.awaited-number.ensures.1
    ∙ ap (truth_turns S (marks_of k)) c.awaited-number.ensures.0

-- The place at hand is that of a literal.
used : (c : In-literals) → c.literals.j - 1 < (rule_in c.args.row.now.numbers).tested
used c = omega (arith, c.tested-j.ensures)

-- It is joined to those after it.
joins : (c : After-and-condition) →
    (S : List ℕ) (k : Known) → Truths S k → c.args.truth.now ≡ k.truth → c.and-condition.result ≡ truth_condition S (marks_of k) (literals_from (rule_in c.args.row.now.numbers) (c.literals.j - 1))
joins c S k t e =
    let j : c.literals.j ≡ (c.literals.j - 1) + 1 = omega arith in
    rw (c.and-condition.ensures.0, c.literal_truth-x.ensures S k t e, c.literals.invariant S k t e) (condition_next S (marks_of k) c.args.row.now.numbers c.args.row.now.fits (c.literals.j - 1) c.literals.j c.literal-next.result j (used c.before.before.before) c.literal-next.ensures.0)

pub returns-in-False : goal.returns-in-False
returns-in-False c = λ S k t e. trigger_decides S (marks_of k) (rule_in c.args.row.now.numbers) (sym (trigger-is (goal.at.returns-in-False c).After-test_truth-trigger S k t e) ∙ c.in-False.is)

pub literals-init : goal.literals-init
literals-init c = λ S k t e. condition_none S (marks_of k) (rule_in c.args.row.now.numbers) c.tested-j.result (omega (arith, c.tested-j.ensures))

pub returns-in-False-condition : goal.returns-in-False-condition
returns-in-False-condition c = λ S k t e. literals_decide S (marks_of k) (rule_in c.args.row.now.numbers) (c.literals.j - 1) (sym (joins (goal.at.returns-in-False-condition c).After-and-condition S k t e) ∙ c.in-False-condition.is)

pub literals-preserved : goal.literals-preserved
literals-preserved c = joins (goal.at.literals-preserved c).After-and-condition

pub returns : goal.returns
returns c =
    let j : c.literals.j ≡ 0 = omega arith in
    λ S k t e. rw (c.and.ensures.0, trigger-is (goal.at.returns c).After-test_truth-trigger S k t e, c.literals.invariant S k t e, j) (rule_joined S (marks_of k) (rule_in c.args.row.now.numbers))
