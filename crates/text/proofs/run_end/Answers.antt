use Rattle.std.proofs.Common.{ℕ, ◌+◌, [], ◌∷◌, ap, rules, tests}
use Rattle.std.proofs.lemmas.Iterator.{YieldsList-from_slice}
use Rattle.std.proofs.lemmas.Iterator.Consumers.{count_from_yields_List}
use Rattle.std.proofs.lemmas.Iterator.Search.{YieldsList-from_take_while}
use Rattle.classes.specs.Classes.{one_of, class_of}
use Rattle.text.specs.Tokens.{run}
use Rattle.text.proofs.Steps as steps
use Rattle.text.proofs.run_end.Goals as goal

pub returns : goal.returns
returns c =
    let a = c.args in
    ap (λ (n : ℕ). a.at + n) (steps.prefix_counted (λ x. one_of (2 ∷ 3 ∷ []) (class_of x)) run steps.prefix_run a.text.now a.at c.min-start.result c.count.result (search rules)
    (count_from_yields_List c.take_while.result _ c.count.ensures.ran
    (YieldsList-from_take_while _ (λ x. one_of (2 ∷ 3 ∷ []) (class_of x)) (YieldsList-from_slice _ (cc)) c.take_while.ensures.closure c.take_while.ensures.done (λ x b q k. search (rules, tests)))))
