-- `sheet::Sheet::put_assignments` meets its contract.
use Prim.Native.Nat.{◌+◌}
use native.Mathlib.Omega.{arith}
use mathlib.Core.Path.{◌≡◌, sym}
use mathlib.Core.List.{◌++◌}
use Rattle.laws.specs.Quoted.{bytes_from, bytes}
use Rattle.table.proofs.Shape.{rule_shaped}
use Rattle.writing.specs.inner.Spelled.{paired}
use Rattle.writing.proofs.Putting.{Left, puts_on, puts_as, room_first, room_rest, left_start, left_on, left_room, left_as, left_end}
use Rattle.writing.proofs.Clauses.{listed, assignment_at, more_assignments, listed_some, assignments_on, assignments_over}
use Rattle.writing.proofs.sheet.Sheet.put_assignments.Goals.{Start, In-loop-j}
use Rattle.writing.proofs.sheet.Sheet.put_assignments.Goals as goal

-- The first assignment, and the others.
some : (s : Start) → listed (paired s.args.spelling) s.args.r ≡ assignment_at (paired s.args.spelling) s.args.r 0 ++ more_assignments (paired s.args.spelling) s.args.r 1
some s = listed_some (paired s.args.spelling) s.args.r (rule_shaped s.args.r _ s.well_formed.1.1.0) s.requires.1 s.requires.0.assignments_fit

-- In the loop an assignment after a comma is left, and those behind it.
next : (c : In-loop-j) → Left c.put_pair.new.self (more_assignments (paired c.args.spelling) c.args.r 1) c.loop-j.self (bytes ", " ++ (assignment_at (paired c.args.spelling) c.args.r c.loop-j.j ++ more_assignments (paired c.args.spelling) c.args.r (c.loop-j.j + 1)))
next c = left_as (assignments_on (paired c.args.spelling) c.args.r (rule_shaped c.args.r _ c.well_formed.1.1.0) c.loop-j.j (omega arith) c.requires.0.assignments_fit) c.loop-j.invariant

pub put_pair-requires : goal.put_pair-requires
unfolding bytes bytes_from
put_pair-requires c = (c.requires.0.assignment 0 c.requires.1, room_first _ _ _ (rw (some (goal.at.put_pair-requires c).Start) at c.requires.2))

pub loop-j-init : goal.loop-j-init
unfolding bytes bytes_from
loop-j-init c = left_start _ _ (room_rest _ c.put_pair.ensures (rw (some (goal.at.loop-j-init c).Start) at c.requires.2))

pub put-requires : goal.put-requires
unfolding bytes bytes_from
put-requires c = left_room (bytes ", ") _ (next (goal.at.put-requires c).In-loop-j)

pub put_pair-requires-in-loop-j : goal.put_pair-requires-in-loop-j
unfolding bytes bytes_from
put_pair-requires-in-loop-j c = (c.requires.0.assignment c.loop-j.j (omega arith), left_room _ _ (left_on _ (next (goal.at.put_pair-requires-in-loop-j c).In-loop-j) c.put.ensures))

pub loop-j-preserved : goal.loop-j-preserved
unfolding bytes bytes_from
loop-j-preserved c = left_on _ (left_on _ (next (goal.at.loop-j-preserved c).In-loop-j) c.put.ensures) c.put_pair-in-loop-j.ensures

pub returns : goal.returns
unfolding bytes bytes_from
returns c =
    puts_as (sym (some (goal.at.returns c).Start))
    (puts_on c.put_pair.ensures (left_end (left_as (assignments_over (paired c.args.spelling) c.args.r c.loop-j.j (omega arith)) c.loop-j.invariant)))
