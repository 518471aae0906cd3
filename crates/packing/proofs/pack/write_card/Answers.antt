-- `packing::pack::write_card` meets its contract.
use mathlib.Core.Path.{◌≡◌, sym, ap, ◌∙◌}
use mathlib.Core.List.{List, ◌++◌}
use Prim.Native.Nat.{ℕ, ◌*◌, ◌≤◌, ◌<◌}
use lib.ListN.{length, get_or, drop}
use Rattle.laws.specs.Packed.{byte_count}
use Rattle.laws.specs.inner.Put.{put_at}
use Rattle.cards.specs.declared.Card.{Card}
use Rattle.cards.specs.Forms.{card_bits, card_bytes}
use Rattle.cards.specs.Cards.{card_values}
use Rattle.cards.proofs.Formed.{card_length, card_at}
use Rattle.cards.proofs.Written.{Written, written_start, written_more, written_length, written_after, written_self, card_upto, card_bits_upto, card_next, card_all}
use native.Mathlib.Omega.{arith}
use Rattle.packing.proofs.pack.write_card.Goals.{In-loop-i, Start}
use Rattle.packing.proofs.pack.write_card.Goals as goal

-- The output has room.
room : (c : Start) → card_bits c.args.c.count ≤ 8 * length c.args.out.now
room c = omega (arith, c.requires.1)

-- The count is put first, which leaves the length.
module _ (k : Card) (out new : List ℕ) (has_room : card_bits k.count ≤ 8 * length out) (put : new ≡ put_at out 0 6 k.count) where
  first : Written (card_upto (card_values k) 0) out new
  first = put ∙ rw (card_length k) (written_start out 6 k.count (omega (arith, has_room)))

  first-length : length new ≡ length out
  first-length = written_length (card_upto (card_values k) 0) out new (omega (arith, card_bits_upto (card_values k) 0 (omega arith), has_room)) first

pub loop-i-init : goal.loop-i-init
loop-i-init c = written_self (card_upto (card_values c.args.c) 0) c.args.out.now c.put_field.new.out (first c.args.c c.args.out.now c.put_field.new.out (room (goal.at.loop-i-init c).Start) c.put_field.ensures)

pub loop-i-preserved : goal.loop-i-preserved
loop-i-preserved c =
    let vs = card_values c.args.c in
    let i = c.loop-i.i in
    let n = card_length c.args.c in
    let h : i < length vs = omega arith in
    let v : get_or vs i 0 ≡ c.from.result = card_at c.args.c i (omega arith) ∙ sym c.from.ensures in
    let b = card_bits_upto vs i (omega arith) in
    let m = written_more (card_upto vs i) c.put_field.new.out c.loop-i.out (card_bits i) 4 (get_or vs i 0) b (omega (arith, first-length c.args.c c.args.out.now c.put_field.new.out (room (goal.at.loop-i-preserved c).Start) c.put_field.ensures, room (goal.at.loop-i-preserved c).Start)) c.loop-i.invariant in
    rw (card_next vs i h) (c.put_field-in-loop-i.ensures ∙ rw (← v) m)

pub returns : goal.returns
returns c =
    let vs = card_values c.args.c in
    let n = card_length c.args.c in
    let e = card_all vs c.put_field.new.out c.loop-i.out c.loop-i.i (omega arith) c.loop-i.invariant in
    let k = byte_count (card_bits (length vs)) in
    let d = written_after (card_upto vs 0) c.args.out.now c.put_field.new.out k (omega (arith, card_bits_upto vs 0 (omega arith))) (first c.args.c c.args.out.now c.put_field.new.out (room (goal.at.returns c).Start) c.put_field.ensures) in
    (c.bytes_for.ensures, e ∙ ap (λ (zs : List ℕ). card_bytes vs ++ zs) d ∙ ap (λ (m : ℕ). card_bytes vs ++ drop (byte_count (card_bits m)) c.args.out.now) n)
