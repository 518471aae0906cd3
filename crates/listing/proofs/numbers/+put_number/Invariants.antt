-- `numbers::put_number` ends, since a tenth is less.
use Rattle.listing.proofs.numbers.+put_number.Given as goal

abbrev pub decreases-put_number : goal.decreases-put_number
decreases-put_number l = l.n
