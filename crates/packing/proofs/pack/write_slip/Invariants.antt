use Rattle.cards.specs.Cards.{changes_of}
use Rattle.cards.proofs.Written.{Written, slip_upto}
use Rattle.packing.proofs.pack.write_slip.Given as goal

abbrev pub invariant-loop-i : goal.invariant-loop-i
invariant-loop-i l = Written (slip_upto (changes_of l.s) l.i) l.initial.out l.out
