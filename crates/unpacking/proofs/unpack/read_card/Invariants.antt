use Prim.Native.Nat.{ℕ}
use Rattle.cards.specs.Forms.{values_in}
use Rattle.cards.proofs.Tested.{ValuesLeft}
use Rattle.cards.proofs.Taken.{Gathered}
use Rattle.unpacking.proofs.unpack.read_card.Given as goal

abbrev pub invariant-loop-i : goal.invariant-loop-i
invariant-loop-i l = Gathered (λ (v : ℕ). v) 0 (values_in l.bytes) l.i l.values × ValuesLeft l.counts (values_in l.bytes) l.i
