-- `rules::put_rule` meets its contract.
use Rattle.laws.specs.Quoted.{bytes_from, bytes}
use Rattle.writing.proofs.Putting.{puts_on, room_rest}
use Rattle.listing.specs.Printed.{rule_text, fired_word}
use Rattle.listing.proofs.rules.put_rule.Goals as goal

pub put-requires-then-fired : goal.put-requires-then-fired
unfolding rule_text fired_word bytes bytes_from
put-requires-then-fired c = room_rest _ c.put_number-2.ensures (room_rest _ c.put-2.ensures (room_rest _ c.put_number.ensures (room_rest _ c.put.ensures (rw c.if-fired.true at c.requires))))

pub put-requires-else-fired : goal.put-requires-else-fired
unfolding rule_text fired_word bytes bytes_from
put-requires-else-fired c = room_rest _ c.put_number-2.ensures (room_rest _ c.put-2.ensures (room_rest _ c.put_number.ensures (room_rest _ c.put.ensures (rw c.if-fired.false at c.requires))))

pub returns-then-fired : goal.returns-then-fired
unfolding rule_text fired_word bytes bytes_from
returns-then-fired c = rw c.if-fired.true (puts_on c.put.ensures (puts_on c.put_number.ensures (puts_on c.put-2.ensures (puts_on c.put_number-2.ensures c.put-then-fired.ensures))))

pub returns-else-fired : goal.returns-else-fired
unfolding rule_text fired_word bytes bytes_from
returns-else-fired c = rw c.if-fired.false (puts_on c.put.ensures (puts_on c.put_number.ensures (puts_on c.put-2.ensures (puts_on c.put_number-2.ensures c.put-else-fired.ensures))))
