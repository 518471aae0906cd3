-- `packing::pack::write_slip` meets its contract.
use mathlib.Core.Path.{◌≡◌, sym, ap, ◌∙◌}
use mathlib.Core.List.{List, [], ◌∷◌, ◌++◌}
use Prim.Native.Nat.{ℕ, ◌+◌, ◌*◌, ◌≤◌, ◌<◌}
use lib.ListN.{length, get_or, drop}
use Rattle.laws.specs.Packed.{field, byte_count, field_bits}
use Rattle.model.specs.Rules.{Pair}
use Rattle.laws.specs.inner.Put.{put_at}
use Rattle.cards.specs.declared.Slip.{Slip}
use Rattle.cards.specs.Forms.{change_fields, slip_bits, slip_bytes}
use Rattle.cards.specs.Cards.{changes_of, no_change}
use Rattle.cards.proofs.Tested.{no_pair}
use Rattle.cards.proofs.Formed.{slip_length, slip_at}
use Rattle.cards.proofs.Written.{Written, written_start, written_more, more_length, written_length, written_after, written_self, slip_upto, slip_bits_upto, slip_next, slip_all}
use native.Mathlib.Omega.{arith}
use Rattle.packing.proofs.pack.write_slip.Goals.{In-loop-i, Start}
use Rattle.packing.proofs.pack.write_slip.Goals as goal

-- The output has room.
room : (c : Start) → slip_bits c.args.s.count ≤ 8 * length c.args.out.now
room c = omega (arith, c.requires.1)

-- The count is put first, which leaves the length.
module _ (k : Slip) (out new : List ℕ) (has_room : slip_bits k.count ≤ 8 * length out) (put : new ≡ put_at out 0 6 k.count) where
  first : Written (slip_upto (changes_of k) 0) out new
  unfolding change_fields
  first = put ∙ rw (slip_length k) (written_start out 6 k.count (omega (arith, has_room)))

  first-length : length new ≡ length out
  first-length = written_length (slip_upto (changes_of k) 0) out new (omega (arith, slip_bits_upto (changes_of k) 0 (omega arith), has_room)) first

  -- A change is put: its slot first.
  module _ (i x : ℕ) (now put_slot : List ℕ) (h : i < k.count) (w : Written (slip_upto (changes_of k) i) new now) (is : x ≡ (get_or k.changes i no_change).slot) (puts : put_slot ≡ put_at now (slip_bits i) 5 x) where
    slot-put : Written (slip_upto (changes_of k) i ++ field 5 (get_or (changes_of k) i no_pair).slot ∷ []) new put_slot
    slot-put =
        let ps = changes_of k in
        let n = slip_length k in
        let p : (get_or ps i no_pair).slot ≡ x = ap (λ (q : Pair). q.slot) (slip_at k i h) ∙ sym is in
        let b = slip_bits_upto ps i (omega arith) in
        let m = written_more (slip_upto ps i) new now (slip_bits i) 5 (get_or ps i no_pair).slot b (omega (arith, first-length, has_room)) w in
        puts ∙ rw (← p) m

pub loop-i-init : goal.loop-i-init
loop-i-init c = written_self (slip_upto (changes_of c.args.s) 0) c.args.out.now c.put_field.new.out (first c.args.s c.args.out.now c.put_field.new.out (room (goal.at.loop-i-init c).Start) c.put_field.ensures)

-- then its value.
pub loop-i-preserved : goal.loop-i-preserved
loop-i-preserved c =
    let ps = changes_of c.args.s in
    let i = c.loop-i.i in
    let n = slip_length c.args.s in
    let h : i < length ps = omega arith in
    let p : (get_or ps i no_pair).value ≡ c.from-in-loop-i.result = ap (λ (q : Pair). q.value) (slip_at c.args.s i (omega arith)) ∙ sym c.from-in-loop-i.ensures in
    let b = slip_bits_upto ps i (omega arith) in
    let x : length (field_bits (slip_upto ps i ++ field 5 (get_or ps i no_pair).slot ∷ [])) ≡ 11 + 9 * i = more_length (slip_upto ps i) 5 (get_or ps i no_pair).slot ∙ omega (arith, b) in
    let m = written_more _ c.put_field.new.out c.put_field-in-loop-i.new.out (11 + 9 * i) 4 (get_or ps i no_pair).value x (omega (arith, first-length c.args.s c.args.out.now c.put_field.new.out (room (goal.at.loop-i-preserved c).Start) c.put_field.ensures, room (goal.at.loop-i-preserved c).Start)) (slot-put c.args.s c.args.out.now c.put_field.new.out (room (goal.at.loop-i-preserved c).Start) c.put_field.ensures c.loop-i.i c.from.result c.loop-i.out c.put_field-in-loop-i.new.out (omega arith) c.loop-i.invariant c.from.ensures c.put_field-in-loop-i.ensures) in
    rw (slip_next ps i h) (c.put_field-in-loop-i-2.ensures ∙ rw (← p) m)

pub returns : goal.returns
returns c =
    let vs = changes_of c.args.s in
    let n = slip_length c.args.s in
    let e = slip_all vs c.put_field.new.out c.loop-i.out c.loop-i.i (omega arith) c.loop-i.invariant in
    let k = byte_count (slip_bits (length vs)) in
    let d = written_after (slip_upto vs 0) c.args.out.now c.put_field.new.out k (omega (arith, slip_bits_upto vs 0 (omega arith))) (first c.args.s c.args.out.now c.put_field.new.out (room (goal.at.returns c).Start) c.put_field.ensures) in
    (c.bytes_for.ensures, e ∙ ap (λ (zs : List ℕ). slip_bytes vs ++ zs) d ∙ ap (λ (m : ℕ). slip_bytes vs ++ drop (byte_count (slip_bits m)) c.args.out.now) n)
