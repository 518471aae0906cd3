-- `answers::put_refusal` meets its contract.
use Rattle.std.proofs.Common.{rules}
use Rattle.laws.specs.Quoted.{bytes_from, bytes}
use Rattle.listing.specs.Printed.{refusal_text}
use Rattle.listing.proofs.Digits.{refusal_room}
use Rattle.writing.proofs.Putting.{puts_on, room_first, room_rest, puts_in}
use Rattle.listing.proofs.answers.put_refusal.Goals as goal

pub put_number-requires : goal.put_number-requires
unfolding refusal_text bytes bytes_from
put_number-requires c = rw c.from.ensures (room_first _ _ _ (room_rest _ c.put.ensures (refusal_room c.args.number c.args.second c.ranges.number.fits c.ranges.second.fits)))

pub put-requires-2 : goal.put-requires-2
unfolding refusal_text bytes bytes_from
put-requires-2 c = room_first _ (bytes " ") _ (room_rest _ (rw c.from.ensures at c.put_number.ensures) (room_rest _ c.put.ensures (refusal_room c.args.number c.args.second c.ranges.number.fits c.ranges.second.fits)))

pub put_number-requires-2 : goal.put_number-requires-2
unfolding refusal_text bytes bytes_from
put_number-requires-2 c = room_first _ _ _ (room_rest _ c.put-2.ensures (room_rest _ (rw c.from.ensures at c.put_number.ensures) (room_rest _ c.put.ensures (refusal_room c.args.number c.args.second c.ranges.number.fits c.ranges.second.fits))))

pub put-requires-3 : goal.put-requires-3
unfolding refusal_text bytes bytes_from
put-requires-3 c = room_rest _ c.put_number-2.ensures (room_rest _ c.put-2.ensures (room_rest _ (rw c.from.ensures at c.put_number.ensures) (room_rest _ c.put.ensures (refusal_room c.args.number c.args.second c.ranges.number.fits c.ranges.second.fits))))

pub returns : goal.returns
unfolding refusal_text bytes bytes_from
returns c = let p = puts_on c.put.ensures (puts_on (rw c.from.ensures at c.put_number.ensures) (puts_on c.put-2.ensures (puts_on c.put_number-2.ensures c.put-3.ensures))) in puts_in {s1 = c.put-3.new.self} p (search (rules, p.same_output))
