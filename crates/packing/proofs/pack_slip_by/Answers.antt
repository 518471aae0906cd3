-- `packing::pack_slip_by` meets its contract.
use mathlib.Core.Path.{◌≡◌, sym, ap, ◌∙◌}
use mathlib.Core.List.{◌++◌}
use Prim.Native.Nat.{ℕ}
use lib.ListN.{length, drop}
use native.Mathlib.Omega.{arith}
use borrow.Author.Rules.{rules}
use Rattle.std.specs.Prelude.{Err}
use Rattle.laws.specs.Packed.{byte_count}
use Rattle.refusals.specs.Numbers.{refusal_number, refusal_second}
use Rattle.cards.specs.Forms.{slip_bits, slip_bytes}
use Rattle.cards.specs.Cards.{changes_of}
use Rattle.cards.proofs.Formed.{slip_length}
use Rattle.cards.proofs.Written.{slip_bytes_length}
use Rattle.cards.proofs.Passed.{slip_fits}
use Rattle.cards.proofs.Answered.{answer_refused, answer_taken, slip_too_many, slip_faulty, slip_without_room, slip_with_room}
use Rattle.packing.proofs.pack_slip_by.Goals as goal

pub returns-then-s-gt-SLOTS : goal.returns-then-s-gt-SLOTS
returns-then-s-gt-SLOTS c = answer_refused _ 24 0 c.args.out.now (slip_too_many c.args.counts.now c.args.s (length c.args.out.now) (omega arith))

pub returns-in_err-check_slip : goal.returns-in_err-check_slip
returns-in_err-check_slip c =
    let r = c.in_err-check_slip.field-0.0 in
    let z : c.from_residual.result ≡ Err r = search rules in
    rw z (answer_refused _ (refusal_number r) (refusal_second r) c.args.out.now (slip_faulty c.args.counts.now c.args.s (length c.args.out.now) (omega arith) (refusal_number r) (refusal_second r) (sym c.in_err-check_slip.ensures)))

pub returns-then-out-bytes_for : goal.returns-then-out-bytes_for
returns-then-out-bytes_for c = answer_refused _ 30 2 c.args.out.now (slip_without_room c.args.counts.now c.args.s (length c.args.out.now) (omega arith) (sym c.in_ok-check_slip.ensures) (omega (arith, c.bytes_for.ensures)))

pub write_slip-requires : goal.write_slip-requires
write_slip-requires c = (slip_fits c.args.counts.now c.args.s c.requires (omega arith) (sym c.in_ok-check_slip.ensures), omega (arith, c.bytes_for.ensures))

pub returns : goal.returns
returns c =
    let ps = changes_of c.args.s in
    let r = slip_with_room c.args.counts.now c.args.s (length c.args.out.now) (omega arith) (sym c.in_ok-check_slip.ensures) (omega (arith, c.bytes_for.ensures)) in
    let l : c.write_slip.result ≡ length (slip_bytes ps) = c.write_slip.ensures.0 ∙ sym (slip_bytes_length ps ∙ ap (λ (n : ℕ). byte_count (slip_bits n)) (slip_length c.args.s)) in
    answer_taken _ (slip_bytes ps) c.args.out.now _ c.write_slip.result r l (c.write_slip.ensures.1 ∙ ap (λ (n : ℕ). slip_bytes ps ++ drop n c.args.out.now) (sym c.write_slip.ensures.0))
