-- `sheet::Sheet::put_condition` meets its contract.
use Prim.Native.Nat.{◌+◌, ◌<◌}
use native.Mathlib.Omega.{arith}
use mathlib.Core.Path.{◌≡◌, sym}
use mathlib.Core.List.{◌++◌}
use Rattle.laws.specs.Quoted.{bytes_from, bytes}
use Rattle.table.proofs.Shape.{rule_shaped}
use Rattle.table.specs.Link.{literals_of}
use Rattle.writing.specs.inner.Written.{condition_bytes}
use Rattle.writing.specs.inner.Spelled.{paired}
use Rattle.writing.proofs.Putting.{Left, puts_on, puts_as, room_first, room_rest, left_start, left_on, left_room, left_as, left_end}
use Rattle.writing.proofs.Clauses.{literal_at, more_literals, condition_none, condition_some, literals_on, literals_over}
use Rattle.writing.proofs.sheet.Sheet.put_condition.Goals.{Start, In-loop-j}
use Rattle.writing.proofs.sheet.Sheet.put_condition.Goals as goal

-- The first literal, and the others.
some : (s : Start) → 0 < s.args.r.tested → condition_bytes (paired s.args.spelling) (literals_of s.args.r) ≡ literal_at (paired s.args.spelling) s.args.r 0 ++ more_literals (paired s.args.spelling) s.args.r 1
some s h = condition_some (paired s.args.spelling) s.args.r (rule_shaped s.args.r _ s.well_formed.1.1.0) h s.requires.0.literals_fit

-- In the loop a literal after AND is left, and those behind it.
next : (c : In-loop-j) → Left c.put_literal.new.self (more_literals (paired c.args.spelling) c.args.r 1) c.loop-j.self (bytes " AND " ++ (literal_at (paired c.args.spelling) c.args.r c.loop-j.j ++ more_literals (paired c.args.spelling) c.args.r (c.loop-j.j + 1)))
next c = left_as (literals_on (paired c.args.spelling) c.args.r (rule_shaped c.args.r _ c.well_formed.1.1.0) c.loop-j.j (omega arith) c.requires.0.literals_fit) c.loop-j.invariant

pub put-requires : goal.put-requires
unfolding bytes bytes_from
put-requires c = rw (condition_none (paired c.args.spelling) c.args.r c.if-n-eq0.true) at c.requires.1

pub returns-then-n-eq0 : goal.returns-then-n-eq0
unfolding bytes bytes_from
returns-then-n-eq0 c = puts_as (sym (condition_none (paired c.args.spelling) c.args.r c.if-n-eq0.true)) c.put.ensures

pub put_literal-requires : goal.put_literal-requires
put_literal-requires c = (c.requires.0.literal 0 (omega arith), room_first _ _ _ (rw (some (goal.at.put_literal-requires c).Start (omega arith)) at c.requires.1))

pub loop-j-init : goal.loop-j-init
loop-j-init c = left_start _ _ (room_rest _ c.put_literal.ensures (rw (some (goal.at.loop-j-init c).Start (omega arith)) at c.requires.1))

pub put-requires-in-loop-j : goal.put-requires-in-loop-j
unfolding bytes bytes_from
put-requires-in-loop-j c = left_room (bytes " AND ") _ (next (goal.at.put-requires-in-loop-j c).In-loop-j)

pub put_literal-requires-in-loop-j : goal.put_literal-requires-in-loop-j
unfolding bytes bytes_from
put_literal-requires-in-loop-j c = (c.requires.0.literal c.loop-j.j (omega arith), left_room _ _ (left_on _ (next (goal.at.put_literal-requires-in-loop-j c).In-loop-j) c.put-in-loop-j.ensures))

pub loop-j-preserved : goal.loop-j-preserved
unfolding bytes bytes_from
loop-j-preserved c = left_on _ (left_on _ (next (goal.at.loop-j-preserved c).In-loop-j) c.put-in-loop-j.ensures) c.put_literal-in-loop-j.ensures

pub returns : goal.returns
returns c =
    puts_as (sym (some (goal.at.returns c).Start (omega arith)))
    (puts_on c.put_literal.ensures (left_end (left_as (literals_over (paired c.args.spelling) c.args.r c.loop-j.j (omega arith)) c.loop-j.invariant)))
