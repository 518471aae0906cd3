-- `packing::pack_slip` meets its contract.
use Rattle.cards.specs.Cards.{packed_slip}
use Rattle.packing.proofs.pack_slip.Goals as goal

pub returns : goal.returns
unfolding packed_slip
returns c = c.pack_form.ensures
