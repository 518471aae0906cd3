-- `soundness::right::assigned_from` meets its contract.
use mathlib.Core.Path.{◌∙◌}
use Prim.Native.Nat.{◌-◌}
use lib.ListN.{take, drop}
use Rattle.soundness.proofs.RuleTests.{any_from}
use borrow.Author.Rules.{rules}
use Rattle.std.proofs.Common.{eqb, tests}
use Rattle.std.proofs.lemmas.Iterator.{YieldsList-from_slice}
use Rattle.std.proofs.lemmas.Iterator.Search.{any_from_yields_List}
use Rattle.soundness.proofs.right.assigned_from.Goals as goal

pub returns : goal.returns
returns c =
    any_from_yields_List {all = take (c.args.r.assigned - c.args.k) (drop c.args.k c.args.r.assignments)} (λ a. eqb a.slot c.args.slot) _ _ c.any.result c.any.ensures.ran (YieldsList-from_slice _ (cc)) (λ x b q k. search (rules, tests))
    ∙ any_from c.args.r.assignments c.args.k c.args.r.assigned c.args.slot c.requires.1
