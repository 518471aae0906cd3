use Rattle.cards.specs.Cards.{changes_of}
use Rattle.cards.proofs.Tested.{ChangesLeft}
use Rattle.packing.proofs.pack.check_slip.Given as goal

abbrev pub invariant-loop-i : goal.invariant-loop-i
invariant-loop-i l = ChangesLeft l.counts (changes_of l.s) l.low l.i
