-- `unpacking::unpack::read_card` meets its contract.
use mathlib.Core.Path.{◌≡◌, sym, ap, ◌∙◌}
use Prim.Native.Nat.{ℕ}
use lib.ListN.{length, get_or}
use native.Mathlib.Omega.{arith}
use Rattle.laws.specs.Filled.{filled}
use Rattle.laws.specs.Packed.{byte_count}
use Rattle.laws.specs.Limits.{slot_limit}
use Rattle.laws.specs.Answers.{passed, fault}
use Rattle.cards.specs.Forms.{card_bits, count_in, values_in, padding, card_test}
use Rattle.cards.specs.Cards.{card_read, card_of}
use Rattle.cards.proofs.Tested.{values_start, values_next, values_fault, values_end, other_count, same_count}
use Rattle.cards.proofs.Taken.{values_length, value_at, card_short, card_fault, card_padded, card_taken, map_same, gathered_start, gathered_next, gathered_all}
use Rattle.unpacking.proofs.unpack.read_card.Goals.{After-loop-i, After-read_field, After-read_field-value, Else-size-bytes_for}
use Rattle.unpacking.proofs.unpack.read_card.Goals as goal

-- The length is that of the count.
long : (c : Else-size-bytes_for) → length c.args.bytes.now ≡ byte_count (card_bits (count_in c.args.bytes.now))
long c = c.if-size-bytes_for.false ∙ c.bytes_for.ensures ∙ ap (λ (n : ℕ). byte_count (card_bits n)) c.read_field-count.ensures.0

pub returns-then-size-eq0 : goal.returns-then-size-eq0
unfolding card_read
returns-then-size-eq0 c = ap card_read (sym (card_short c.args.counts.now c.args.bytes.now (λ e. omega (arith, e, c.if-size-eq0.true))))

pub returns-then-size-bytes_for : goal.returns-then-size-bytes_for
unfolding card_read
returns-then-size-bytes_for c =
    ap card_read (sym (card_short c.args.counts.now c.args.bytes.now (λ e. c.if-size-bytes_for.true (e ∙ sym (c.bytes_for.ensures ∙ ap (λ (n : ℕ). byte_count (card_bits n)) c.read_field-count.ensures.0)))))

pub returns-then-count-counts : goal.returns-then-count-counts
unfolding card_read
returns-then-count-counts c =
    let ys = c.args.bytes.now in
    let ns = c.args.counts.now in
    ap card_read (sym (card_fault ns ys (long (goal.at.returns-then-count-counts c).Else-size-bytes_for) 21 0 (other_count ns (values_in ys) (λ e. c.if-count-counts.true (c.read_field-count.ensures.0 ∙ sym (values_length ys) ∙ e)))))

pub loop-i-init : goal.loop-i-init
loop-i-init c = (gathered_start (λ (v : ℕ). v) 0 (values_in c.args.bytes.now), values_start _ _)

-- What was read at a place in the loop is the value there.
read : (c : After-read_field-value) → get_or (values_in c.args.bytes.now) c.loop-i.i 0 ≡ c.read_field-value.result
read c = value_at c.args.bytes.now c.loop-i.i (omega (arith, c.read_field-count.ensures.0)) ∙ sym c.read_field-value.ensures.0

pub returns-then-last-value : goal.returns-then-last-value
unfolding card_read
returns-then-last-value c =
    let ys = c.args.bytes.now in
    let ns = c.args.counts.now in
    let i = c.loop-i.i in
    let n = c.read_field-count.ensures.0 in
    let l = values_length ys in
    let f = values_fault ns (values_in ys) i (omega arith) (omega (arith, n, l)) c.loop-i.invariant.1 (omega (arith, read (goal.at.returns-then-last-value c).After-read_field-value)) in
    ap card_read (sym (card_fault ns ys (long (goal.at.returns-then-last-value c).Else-size-bytes_for) 22 i (same_count ns (values_in ys) (fault 22 i) (omega (arith, n, l)) f)))

pub loop-i-preserved : goal.loop-i-preserved
loop-i-preserved c =
    let ys = c.args.bytes.now in
    let ns = c.args.counts.now in
    let i = c.loop-i.i in
    let n = c.read_field-count.ensures.0 in
    let l = values_length ys in
    let r = read (goal.at.loop-i-preserved c).After-read_field-value in (
      rw r at (gathered_next (λ (v : ℕ). v) 0 (values_in ys) i 0 c.loop-i.values (omega (arith, n, l)) (omega (arith, c.requires)) c.loop-i.invariant.0),
      values_next ns (values_in ys) i (omega arith) (omega (arith, n, l)) c.loop-i.invariant.1 (omega (arith, r)),
    )

-- After the loop all values passed, and the padding was read.
passes : (c : After-loop-i) → card_test c.args.counts.now (values_in c.args.bytes.now) ≡ passed
passes c =
    let ns = c.args.counts.now in
    let vs = values_in c.args.bytes.now in
    same_count ns vs passed (omega (arith, c.read_field-count.ensures.0, values_length c.args.bytes.now)) (values_end ns vs c.loop-i.i (omega arith) c.loop-i.invariant.1)

padded : (c : After-read_field) → c.read_field.result ≡ padding c.args.bytes.now (card_bits (count_in c.args.bytes.now))
padded c =
    let ys = c.args.bytes.now in
    c.read_field.ensures.0 ∙ ap (λ (n : ℕ). padding ys (card_bits n)) c.read_field-count.ensures.0

pub returns-then-read_field-ne0 : goal.returns-then-read_field-ne0
unfolding card_read
returns-then-read_field-ne0 c =
    ap card_read (sym (card_padded c.args.counts.now c.args.bytes.now (long (goal.at.returns-then-read_field-ne0 c).Else-size-bytes_for) (passes (goal.at.returns-then-read_field-ne0 c).After-loop-i) (λ z. c.if-read_field-ne0.true (padded (goal.at.returns-then-read_field-ne0 c).After-read_field ∙ z))))

pub returns : goal.returns
unfolding card_read card_of
returns c =
    let ys = c.args.bytes.now in
    let l = c.loop-i in
    let r = c.read_field-count.ensures.0 in
    let t = card_taken c.args.counts.now ys (long (goal.at.returns c).Else-size-bytes_for) (passes (goal.at.returns c).After-loop-i) (sym (padded (goal.at.returns c).After-read_field) ∙ c.if-read_field-ne0.false) in
    let g = gathered_all (λ (v : ℕ). v) 0 (values_in ys) l.i l.values (omega (arith, r, values_length ys)) l.invariant.0 in
    let f : l.values ≡ filled slot_limit 0 (values_in ys) = g ∙ ap (filled slot_limit 0) (map_same (values_in ys)) in
    rw (t, f, values_length ys, r)
