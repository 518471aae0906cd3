use Rattle.cards.specs.Cards.{card_values}
use Rattle.cards.proofs.Tested.{ValuesLeft}
use Rattle.packing.proofs.pack.check_card.Given as goal

abbrev pub invariant-loop-i : goal.invariant-loop-i
invariant-loop-i l = ValuesLeft l.counts (card_values l.c) l.i
