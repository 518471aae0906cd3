-- `packing::pack_card_by` meets its contract.
use mathlib.Core.Path.{◌≡◌, sym, ap, ◌∙◌}
use mathlib.Core.List.{◌++◌}
use Prim.Native.Nat.{ℕ, ◌≤◌}
use lib.ListN.{length, drop}
use native.Mathlib.Omega.{arith}
use borrow.Author.Rules.{rules}
use Rattle.std.specs.Prelude.{Err}
use Rattle.laws.specs.Packed.{byte_count}
use Rattle.refusals.specs.Numbers.{refusal_number, refusal_second}
use Rattle.cards.specs.Forms.{card_bits, card_bytes}
use Rattle.cards.specs.Cards.{card_values}
use Rattle.cards.proofs.Formed.{card_length}
use Rattle.cards.proofs.Written.{card_bytes_length}
use Rattle.cards.proofs.Passed.{card_pass, card_fits}
use Rattle.cards.proofs.Answered.{answer_refused, answer_taken, card_faulty, card_without_room, card_with_room}
use Rattle.packing.proofs.pack_card_by.Goals.{In_ok-check_card}
use Rattle.packing.proofs.pack_card_by.Goals as goal

-- A card that passed counts the slots, at most 32.
few : (c : In_ok-check_card) → c.args.c.count ≤ 32
few c = omega (arith, c.requires.few, (card_pass c.args.counts.now (card_values c.args.c) (sym c.in_ok-check_card.ensures)).0, card_length c.args.c)

pub returns-in_err-check_card : goal.returns-in_err-check_card
returns-in_err-check_card c =
    let r = c.in_err-check_card.field-0.0 in
    let z : c.from_residual.result ≡ Err r = search rules in
    rw z (answer_refused _ (refusal_number r) (refusal_second r) c.args.out.now (card_faulty c.args.counts.now c.args.c (length c.args.out.now) (refusal_number r) (refusal_second r) (sym c.in_err-check_card.ensures)))

pub overflow_mul-c : goal.overflow_mul-c
overflow_mul-c c = record { fits = omega (arith, few (goal.at.overflow_mul-c c).In_ok-check_card) }

pub overflow_add-c : goal.overflow_add-c
overflow_add-c c = record { fits = omega (arith, few (goal.at.overflow_add-c c).In_ok-check_card) }

pub bytes_for-requires : goal.bytes_for-requires
bytes_for-requires c = omega (arith, few (goal.at.bytes_for-requires c).In_ok-check_card)

pub returns-then-out-bytes_for : goal.returns-then-out-bytes_for
returns-then-out-bytes_for c = answer_refused _ 30 1 c.args.out.now (card_without_room c.args.counts.now c.args.c (length c.args.out.now) (sym c.in_ok-check_card.ensures) (omega (arith, c.bytes_for.ensures)))

pub write_card-requires : goal.write_card-requires
write_card-requires c = (card_fits c.args.counts.now c.args.c c.requires (sym c.in_ok-check_card.ensures), omega (arith, c.bytes_for.ensures))

pub returns : goal.returns
returns c =
    let vs = card_values c.args.c in
    let r = card_with_room c.args.counts.now c.args.c (length c.args.out.now) (sym c.in_ok-check_card.ensures) (omega (arith, c.bytes_for.ensures)) in
    let l : c.write_card.result ≡ length (card_bytes vs) = c.write_card.ensures.0 ∙ sym (card_bytes_length vs ∙ ap (λ (n : ℕ). byte_count (card_bits n)) (card_length c.args.c)) in
    answer_taken _ (card_bytes vs) c.args.out.now _ c.write_card.result r l (c.write_card.ensures.1 ∙ ap (λ (n : ℕ). card_bytes vs ++ drop n c.args.out.now) (sym c.write_card.ensures.0))
