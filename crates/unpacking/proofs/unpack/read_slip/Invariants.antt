use Prim.Native.Nat.{◌≤◌}
use lib.ListN.{length}
use Rattle.cards.specs.Forms.{changes_in}
use Rattle.cards.specs.Cards.{no_change, change_of}
use Rattle.cards.proofs.Tested.{ChangesLeft}
use Rattle.cards.proofs.Taken.{Gathered}
use Rattle.unpacking.proofs.unpack.read_slip.Given as goal

abbrev pub invariant-loop-i : goal.invariant-loop-i
invariant-loop-i l = Gathered change_of no_change (changes_in l.bytes) l.i l.changes × ChangesLeft l.counts (changes_in l.bytes) l.low l.i × (l.i ≤ l.low) × (l.low ≤ length l.counts)
