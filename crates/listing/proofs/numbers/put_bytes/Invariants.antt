use lib.ListN.{drop}
use Rattle.writing.proofs.Putting.{Left}
use Rattle.listing.specs.Printed.{hexadecimal}
use Rattle.listing.proofs.numbers.put_bytes.Given as goal

abbrev pub invariant-loop-byte : goal.invariant-loop-byte
invariant-loop-byte l = Left l.initial.sheet (hexadecimal l.bytes) l.sheet (hexadecimal (drop l.byte-index l.bytes))
