-- `packing::pack_card` meets its contract.
use Rattle.cards.specs.Cards.{packed_card}
use Rattle.packing.proofs.pack_card.Goals as goal

pub returns : goal.returns
unfolding packed_card
returns c = c.pack_form.ensures
