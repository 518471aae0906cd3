use Rattle.cards.specs.Cards.{card_values}
use Rattle.cards.proofs.Written.{Written, card_upto}
use Rattle.packing.proofs.pack.write_card.Given as goal

abbrev pub invariant-loop-i : goal.invariant-loop-i
invariant-loop-i l = Written (card_upto (card_values l.c) l.i) l.initial.out l.out
