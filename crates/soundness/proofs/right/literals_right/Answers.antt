-- `soundness::right::literals_right` meets its contract.
use mathlib.Core.Path.{◌∙◌}
use lib.ListN.{length, take}
use borrow.Author.Rules.{rules}
use Rattle.model.specs.Result.{pair}
use Rattle.std.proofs.lemmas.Iterator.{YieldsList-from_slice}
use Rattle.std.proofs.lemmas.Iterator.Search.{all_from_yields_List}
use Rattle.soundness.specs.Sound.{has_pair}
use Rattle.soundness.proofs.RuleTests.{all_pairs}
use Rattle.soundness.proofs.right.literals_right.Goals as goal

pub returns : goal.returns
returns c =
    all_from_yields_List (λ l. has_pair (length c.args.counts.now) c.args.counts.now (pair l.slot l.value)) _ _ c.all.result c.all.ensures.ran (YieldsList-from_slice _ (cc)) (λ x b q k. search rules)
    ∙ all_pairs (has_pair (length c.args.counts.now) c.args.counts.now) (take c.args.r.tested c.args.r.literals)
