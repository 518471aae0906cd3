-- `numbers::put_number` meets its contract.
use native.Mathlib.Omega.{arith}
use Rattle.writing.proofs.Putting.{puts_on, room_first, room_rest}
use Rattle.listing.proofs.Digits.{decimal_one, decimal_more}
use Rattle.listing.proofs.numbers.+put_number.Goals.{then-n-ge10, else-n-ge10}
use Rattle.listing.proofs.numbers.+put_number.Goals as goal

pub put_number-requires : goal.put_number-requires
put_number-requires t c = (omega (arith, c.if-n-ge10.true, c.decreases), room_first _ _ _ (rw (decimal_more c.args.n c.if-n-ge10.true) at c.requires))

pub put-requires : goal.put-requires
put-requires t c = elim c.if-n-ge10.branch [
  | then-n-ge10 w ↦ rw w.sheet-is (room_rest _ w.put_number.ensures (rw (decimal_more c.args.n w.if-n-ge10.true) at c.requires))
  | else-n-ge10 w ↦ rw w.sheet-is (rw (decimal_one c.args.n w.if-n-ge10.false) at c.requires)
]

pub returns : goal.returns
returns t c = elim c.if-n-ge10.branch [
  | then-n-ge10 w ↦ rw (decimal_more c.args.n w.if-n-ge10.true) (puts_on w.put_number.ensures (rw w.sheet-is at c.put.ensures))
  | else-n-ge10 w ↦ rw (decimal_one c.args.n w.if-n-ge10.false) (rw w.sheet-is at c.put.ensures)
]
