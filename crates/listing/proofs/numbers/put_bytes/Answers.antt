-- `numbers::put_bytes` meets its contract.
use Prim.Native.Nat.{◌+◌}
use mathlib.Core.List.{◌++◌}
use lib.ListN.{get_or, drop}
use borrow.Author.Rules.{rules}
use Rattle.writing.proofs.Putting.{Left, left_on, left_room, left_as, left_end}
use Rattle.listing.specs.Printed.{hex_digits, hexadecimal}
use Rattle.listing.proofs.Digits.{hex_next, hex_end}
use Rattle.listing.proofs.numbers.put_bytes.Goals.{In-loop-byte}
use Rattle.listing.proofs.numbers.put_bytes.Goals as goal

-- The digits of the next byte are left, and those of the bytes behind it.
next : (c : In-loop-byte) → let i = c.loop-byte.byte-index in
    Left c.args.sheet.now (hexadecimal c.args.bytes.now) c.loop-byte.sheet (hex_digits (get_or c.args.bytes.now i 0) ++ hexadecimal (drop (i + 1) c.args.bytes.now))
next c = left_as (hex_next c.args.bytes.now c.loop-byte.byte-index (search rules)) c.loop-byte.invariant

pub put_byte-requires : goal.put_byte-requires
put_byte-requires c = left_room (hex_digits (get_or c.args.bytes.now c.loop-byte.byte-index 0)) _ (next (goal.at.put_byte-requires c).In-loop-byte)

pub loop-byte-preserved : goal.loop-byte-preserved
loop-byte-preserved c = left_on _ (next (goal.at.loop-byte-preserved c).In-loop-byte) c.put_byte.ensures

pub returns : goal.returns
returns c = left_end (left_as (hex_end c.args.bytes.now c.loop-byte.byte-index (search rules)) c.loop-byte.invariant)
