-- `clauses::literal::literal_next` meets its contract.
use mathlib.Core.Path.{◌∙◌}
use Rattle.clauses.proofs.LiteralLaws as literals
use Rattle.clauses.proofs.literal.literal_next.Goals as goal

pub returns : goal.returns
returns c =
    let n = c.skip_nots-nots.ensures in
    let m = c.name_of-named.ensures c.args.s.tokens.rest.now n.at n.here in
    (λ base slots L. n.nots base slots ∙ c.plain_literal.ensures.0 base _ slots (m.0 base) L, literals.lies_earlier _ _ _ c.plain_literal.result n.later (c.plain_literal.ensures.1 n.at m.1))
