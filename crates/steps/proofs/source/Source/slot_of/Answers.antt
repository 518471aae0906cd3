-- `steps::source::Source::slot_of` meets its contract.
use mathlib.Core.Path.{◌≡◌}
use lib.ListN.{length}
use borrow.Author.Rules.{rules}
use Rattle.grammar.specs.Files.{slot_names}
use Rattle.steps.proofs.Spans as spans
use Rattle.steps.proofs.source.Source.slot_of.Goals as goal

pub returns : goal.returns
returns c =
    let rest = c.args.self.tokens.rest.now in
    let h : length c.args.self.slotspans.now ≡ 32 = search rules in
    (λ base ts slots e l. spans.slot_part slots ts rest base c.place_of.result (c.place_of.ensures.0 base ts (slot_names slots) e l), λ at l. rw h at (c.place_of.ensures.1 at l))
