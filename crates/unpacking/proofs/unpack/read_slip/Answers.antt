-- `unpacking::unpack::read_slip` meets its contract.
use mathlib.Core.Path.{◌≡◌, sym, ap, ap₂, ◌∙◌}
use Prim.Native.Nat.{ℕ, ◌<◌}
use lib.ListN.{length, get_or}
use native.Mathlib.Omega.{arith}
use Rattle.laws.specs.Packed.{byte_count}
use Rattle.laws.specs.Answers.{passed}
use Rattle.model.specs.Result.{pair}
use Rattle.refusals.specs.Numbers.{change_number}
use Rattle.cards.specs.Forms.{slip_bits, count_in, changes_in, padding, change_fault, slip_test}
use Rattle.cards.specs.Cards.{no_change, change_of, slip_read, slip_of}
use Rattle.cards.specs.inner.Fitting.{change_number_of}
use Rattle.cards.proofs.Tested.{no_pair, changes_start, changes_next, changes_fault, changes_end, Right, change_right, number_not-0}
use Rattle.cards.proofs.Taken.{changes_length, change_at, slip_short, slip_fault, slip_padded, slip_taken, gathered_start, gathered_next, gathered_all}
use Rattle.unpacking.proofs.unpack.read_slip.Goals.{After-change_fault, After-loop-i, After-read_field, Else-size-bytes_for, In_default}
use Rattle.unpacking.proofs.unpack.read_slip.Goals as goal

-- The length is that of the count.
long : (c : Else-size-bytes_for) → length c.args.bytes.now ≡ byte_count (slip_bits (count_in c.args.bytes.now))
long c = c.if-size-bytes_for.false ∙ c.bytes_for.ensures ∙ ap (λ (n : ℕ). byte_count (slip_bits n)) c.read_field-count.ensures.0

pub returns-then-size-eq0 : goal.returns-then-size-eq0
unfolding slip_read
returns-then-size-eq0 c = ap slip_read (sym (slip_short c.args.counts.now c.args.bytes.now (λ e. omega (arith, e, c.if-size-eq0.true))))

pub returns-then-size-bytes_for : goal.returns-then-size-bytes_for
unfolding slip_read
returns-then-size-bytes_for c =
    ap slip_read (sym (slip_short c.args.counts.now c.args.bytes.now (λ e. c.if-size-bytes_for.true (e ∙ sym (c.bytes_for.ensures ∙ ap (λ (n : ℕ). byte_count (slip_bits n)) c.read_field-count.ensures.0)))))

pub loop-i-init : goal.loop-i-init
loop-i-init c = (gathered_start change_of no_change (changes_in c.args.bytes.now), changes_start _ _, omega arith, omega arith)

-- What was read at a place in the loop is the change there, with its fault.
read : (c : After-change_fault) → get_or (changes_in c.args.bytes.now) c.loop-i.i no_pair ≡ pair c.read_field-slot.result c.read_field-value.result
read c = change_at c.args.bytes.now c.loop-i.i (omega (arith, c.read_field-count.ensures.0)) ∙ ap₂ (λ (x y : ℕ). pair x y) (sym c.read_field-slot.ensures.0) (sym c.read_field-value.ensures.0)

found : (c : After-change_fault) → change_fault c.args.counts.now c.loop-i.low (get_or (changes_in c.args.bytes.now) c.loop-i.i no_pair) ≡ change_number_of c.change_fault.result
found c = rw (read c) (sym c.change_fault.ensures)

pub returns-in-Err : goal.returns-in-Err
unfolding slip_read
returns-in-Err c =
    let ys = c.args.bytes.now in
    let ns = c.args.counts.now in
    let o = c.loop-i in
    let k = change_number c.in-Err.fault in
    let e = found (goal.at.returns-in-Err c).After-change_fault in
    ap slip_read (sym (slip_fault ns ys (long (goal.at.returns-in-Err c).Else-size-bytes_for) k o.i
    (changes_fault ns (changes_in ys) o.low o.i (omega (arith, c.read_field-count.ensures.0, changes_length ys)) o.invariant.1 k (rw c.in-Err.is at e) (number_not-0 c.in-Err.fault))))

-- A change without fault; slots rise, so it has a place.
right : (c : In_default) → Right c.args.counts.now c.loop-i.low (pair c.read_field-slot.result c.read_field-value.result)
right c = change_right _ _ _ (sym c.in_default.ensures)

inside : (c : In_default) → c.loop-i.i < 32
inside c = let r = right c in omega (arith, r.below, r.above, c.loop-i.invariant.2, c.requires)

pub bounds-changes-i : goal.bounds-changes-i
bounds-changes-i c = inside (goal.at.bounds-changes-i c).In_default

pub loop-i-preserved : goal.loop-i-preserved
loop-i-preserved c =
    let ys = c.args.bytes.now in
    let o = c.loop-i in
    let e = found (goal.at.loop-i-preserved c).After-change_fault in
    let w = read (goal.at.loop-i-preserved c).After-change_fault in
    let r = right (goal.at.loop-i-preserved c).In_default in
    let h : o.i < length (changes_in ys) = omega (arith, c.read_field-count.ensures.0, changes_length ys) in (
      rw w at (gathered_next change_of no_change (changes_in ys) o.i no_pair o.changes h (inside (goal.at.loop-i-preserved c).In_default) o.invariant.0),
      rw w at (changes_next c.args.counts.now (changes_in ys) o.low o.i h o.invariant.1 (rw c.in_default.is at e)),
      omega (arith, r.above, o.invariant.2),
      omega (arith, r.below),
    )

-- After the loop all changes passed, and the padding was read.
passes : (c : After-loop-i) → slip_test c.args.counts.now (changes_in c.args.bytes.now) ≡ passed
passes c = changes_end c.args.counts.now (changes_in c.args.bytes.now) c.loop-i.low c.loop-i.i (omega (arith, changes_length c.args.bytes.now, c.read_field-count.ensures.0)) c.loop-i.invariant.1

padded : (c : After-read_field) → c.read_field.result ≡ padding c.args.bytes.now (slip_bits (count_in c.args.bytes.now))
padded c =
    let ys = c.args.bytes.now in
    c.read_field.ensures.0 ∙ ap (λ (n : ℕ). padding ys (slip_bits n)) c.read_field-count.ensures.0

pub returns-then-read_field-ne0 : goal.returns-then-read_field-ne0
unfolding slip_read
returns-then-read_field-ne0 c =
    ap slip_read (sym (slip_padded c.args.counts.now c.args.bytes.now (long (goal.at.returns-then-read_field-ne0 c).Else-size-bytes_for) (passes (goal.at.returns-then-read_field-ne0 c).After-loop-i) (λ z. c.if-read_field-ne0.true (padded (goal.at.returns-then-read_field-ne0 c).After-read_field ∙ z))))

pub returns : goal.returns
unfolding slip_read slip_of
returns c =
    let ys = c.args.bytes.now in
    let o = c.loop-i in
    let r = c.read_field-count.ensures.0 in
    let t = slip_taken c.args.counts.now ys (long (goal.at.returns c).Else-size-bytes_for) (passes (goal.at.returns c).After-loop-i) (sym (padded (goal.at.returns c).After-read_field) ∙ c.if-read_field-ne0.false) in
    let g = gathered_all change_of no_change (changes_in ys) o.i o.changes (omega (arith, r, changes_length ys)) o.invariant.0 in
    rw (t, g, changes_length ys, r)
