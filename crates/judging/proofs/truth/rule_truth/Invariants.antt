use mathlib.Core.Path.{◌≡◌}
use mathlib.Core.List.{List}
use Prim.Native.Nat.{ℕ}
use Rattle.table.proofs.Walks.{literals_from}
use Rattle.rows.specs.inner.Rows.{rule_in}
use Rattle.marks.specs.Marks.{truth_condition}
use Rattle.judging.specs.declared.truth.Known.{Known}
use Rattle.judging.specs.inner.Known.{marks_of, Truths}
use Rattle.judging.proofs.truth.rule_truth.Given as goal

abbrev pub invariant-literals : goal.invariant-literals
invariant-literals l = (S : List ℕ) (k : Known) → Truths S k → l.truth ≡ k.truth → l.condition ≡ truth_condition S (marks_of k) (literals_from (rule_in l.row.numbers) l.j)
