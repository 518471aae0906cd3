-- `response::answering::write_answer` meets its contract.
use mathlib.Core.Path.{refl, ap, ◌∙◌}
use mathlib.Core.List.{List, ◌++◌}
use Prim.Native.Nat.{ℕ}
use lib.ListN.{take, drop}
use Rattle.laws.specs.Packed.{byte_count}
use Rattle.table.specs.inner.Flat.{set_of}
use Rattle.cards.specs.Forms.{card_bits, card_bytes}
use Rattle.cards.specs.Cards.{card_values}
use Rattle.results.specs.Record.{ones_in}
use Rattle.response.proofs.AnswerLaws.{next_in_order, listed_fits, listed_room, answer_ends}
use native.Mathlib.Omega.{arith}
use Rattle.response.proofs.answering.write_answer.Goals.{After-record_size-size}
use Rattle.response.proofs.answering.write_answer.Goals as goal

pub write_card-requires : goal.write_card-requires
write_card-requires c = (rw c.new_values.ensures (next_in_order c.args.card.count c.args.card c.args.ended.now c.requires.1.few refl c.requires.1), c.requires.2.card_room)

pub write_slip-length-requires : goal.write_slip-length-requires
write_slip-length-requires c = rw c.slip_of-listed.ensures (listed_fits _ c.args.card.count c.requires.1.few, omega (arith, listed_room (set_of c.args.ended.now) c.args.card.count c.requires.1.few, c.requires.2.changes_there))

pub returns : goal.returns
returns c =
    λ C ns same_changes same_rules rest.
    answer_ends c.args.card.count c.args.card c.args.ended.now c.args.ran.now C ns same_changes same_rules rest _ _ _ _ _ _ _ _
    (c.write_card.ensures.1
    ∙ ap (λ (vs : List ℕ). card_bytes (card_values (record { values = vs; count = c.args.card.count })) ++ drop (byte_count (card_bits c.args.card.count)) c.args.renewed.now) c.new_values.ensures)
    c.slip_of-listed.result c.slip_of-listed.ensures c.write_slip-length.ensures.0 c.write_slip-length.ensures.1 c.record_of.ensures
    (c.count_fired-total.ensures ∙ ap (λ (n : ℕ). ones_in (take n c.record_of.new.out)) c.record_size-size.ensures)
