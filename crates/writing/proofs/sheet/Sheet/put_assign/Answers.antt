-- `sheet::Sheet::put_assign` meets its contract.
use native.Mathlib.Omega.{arith}
use mathlib.Core.Path.{◌≡◌, sym}
use mathlib.Core.List.{◌++◌}
use Rattle.laws.specs.Quoted.{bytes_from, bytes}
use Rattle.table.proofs.Shape.{rule_shaped}
use Rattle.table.specs.Link.{assignments_of}
use Rattle.writing.specs.inner.Written.{assign_bytes}
use Rattle.writing.specs.inner.Spelled.{paired}
use Rattle.writing.proofs.Putting.{puts_on, puts_as, room_first, room_rest}
use Rattle.writing.proofs.Clauses.{listed, assign_one, assign_more}
use Rattle.writing.proofs.sheet.Sheet.put_assign.Goals.{Start}
use Rattle.writing.proofs.sheet.Sheet.put_assign.Goals as goal

-- One assignment, or two and more in braces.
one : (s : Start) → s.args.r.assigned ≡ 1 → assign_bytes (paired s.args.spelling) (assignments_of s.args.r) ≡ listed (paired s.args.spelling) s.args.r
one s e = assign_one (paired s.args.spelling) s.args.r (rule_shaped s.args.r _ s.well_formed.1.1.0) e s.requires.0.assignments_fit

more : (s : Start) → (s.args.r.assigned ≡ 1 → ⊥) → assign_bytes (paired s.args.spelling) (assignments_of s.args.r) ≡ bytes "{ " ++ (listed (paired s.args.spelling) s.args.r ++ bytes " }")
more s e = assign_more (paired s.args.spelling) s.args.r (rule_shaped s.args.r _ s.well_formed.1.1.0) (omega (arith, s.requires.1, e)) s.requires.0.assignments_fit

pub put_assignments-requires : goal.put_assignments-requires
put_assignments-requires c = (c.requires.0, c.requires.1, rw (one (goal.at.put_assignments-requires c).Start c.if-r-eq1.true) at c.requires.2)

pub returns-then-r-eq1 : goal.returns-then-r-eq1
returns-then-r-eq1 c = puts_as (sym (one (goal.at.returns-then-r-eq1 c).Start c.if-r-eq1.true)) c.put_assignments.ensures

pub put-requires : goal.put-requires
unfolding bytes bytes_from
put-requires c = room_first _ (bytes "{ ") _ (rw (more (goal.at.put-requires c).Start c.if-r-eq1.false) at c.requires.2)

pub put_assignments-requires-2 : goal.put_assignments-requires-2
unfolding bytes bytes_from
put_assignments-requires-2 c = (c.requires.0, c.requires.1, room_first _ _ _ (room_rest _ c.put.ensures (rw (more (goal.at.put_assignments-requires-2 c).Start c.if-r-eq1.false) at c.requires.2)))

pub put-requires-2 : goal.put-requires-2
unfolding bytes bytes_from
put-requires-2 c = room_rest _ c.put_assignments-2.ensures (room_rest _ c.put.ensures (rw (more (goal.at.put-requires-2 c).Start c.if-r-eq1.false) at c.requires.2))

pub returns : goal.returns
unfolding bytes bytes_from
returns c = puts_as (sym (more (goal.at.returns c).Start c.if-r-eq1.false)) (puts_on c.put.ensures (puts_on c.put_assignments-2.ensures c.put-2.ensures))
