-- `sheet::Sheet::put_literal` meets its contract.
use mathlib.Core.Path.{◌≡◌, ap}
use mathlib.Core.Bool.{Bool, true, false, cond}
use mathlib.Core.List.{[], ◌++◌}
use Rattle.laws.specs.Quoted.{bytes_from, bytes}
use Rattle.model.specs.Rules.{Literal}
use Rattle.table.specs.Link.{literal_of}
use Rattle.writing.specs.inner.Written.{Pairing, test_bytes, literal_bytes}
use Rattle.writing.specs.inner.Spelled.{paired}
use Rattle.writing.proofs.Putting.{puts_on, room_first, room_rest}
use Rattle.writing.proofs.sheet.Sheet.put_literal.Goals.{then-l, else-l}
use Rattle.writing.proofs.sheet.Sheet.put_literal.Goals as goal

-- A literal under NOT, and a plain one.
negated : (by : Pairing) (l : Literal) → l.negated ≡ true → literal_bytes by l ≡ bytes "NOT " ++ test_bytes by l
unfolding literal_bytes
negated by l e = ap (λ (b : Bool). cond b (bytes "NOT ") [] ++ test_bytes by l) e

plain : (by : Pairing) (l : Literal) → l.negated ≡ false → literal_bytes by l ≡ test_bytes by l
unfolding literal_bytes
plain by l e = ap (λ (b : Bool). cond b (bytes "NOT ") [] ++ test_bytes by l) e

pub put-requires : goal.put-requires
unfolding bytes bytes_from
put-requires c = room_first _ (bytes "NOT ") _ (rw (negated (paired c.args.spelling) (literal_of c.args.l) c.if-l.true) at c.requires.1)

pub put_test-requires : goal.put_test-requires
unfolding bytes bytes_from
put_test-requires c =
    let by = paired c.args.spelling in
    (c.requires.0, elim c.if-l.branch [ then-l w ↦ rw w.self-is (room_rest _ w.put.ensures (rw (negated by (literal_of c.args.l) w.if-l.true) at c.requires.1)) | else-l w ↦ rw w.self-is (rw (plain by (literal_of c.args.l) w.if-l.false) at c.requires.1) ])

pub returns : goal.returns
unfolding bytes bytes_from
returns c =
    let by = paired c.args.spelling in
    elim c.if-l.branch [ then-l w ↦ rw (negated by (literal_of c.args.l) w.if-l.true) (puts_on w.put.ensures (rw w.self-is at c.put_test.ensures)) | else-l w ↦ rw (plain by (literal_of c.args.l) w.if-l.false) (rw w.self-is at c.put_test.ensures) ]
