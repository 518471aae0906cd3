-- `response::answering::finish` meets its contract.
use mathlib.Core.Path.{◌≡◌, sym, ap, ◌∙◌}
use Prim.Native.Nat.{ℕ, ◌≤◌}
use lib.ListN.{length}
use native.Mathlib.Omega.{arith}
use Rattle.laws.specs.Packed.{byte_count}
use Rattle.laws.specs.Answers.{OrRefused}
use Rattle.table.specs.Link.{rules_of}
use Rattle.rows.specs.inner.RuleRows.{rows_table}
use Rattle.cards.specs.Forms.{card_bits}
use Rattle.cards.specs.Cards.{card_values, changes_of}
use Rattle.response.specs.Ending.{Answer, answer_by_firing}
use Rattle.response.specs.Respond.{rooms_of, if_room}
use Rattle.response.specs.inner.InOrder.{HasRoom}
use Rattle.response.proofs.RespondLaws.{ends_refused, ends_same, short_card, short_changes, short_fired, room_enough, by_strata, by_marks}
use Rattle.response.proofs.answering.finish.Goals.{Else-fired-record_size, Else-renewed-bytes_for, Start}
use Rattle.response.proofs.answering.finish.Goals as goal

-- The first output has room for the card.
card_room : (c : Else-renewed-bytes_for) → byte_count (card_bits c.args.card.count) ≤ length c.args.renewed.now
card_room c = omega (arith, c.if-renewed-bytes_for.false, c.bytes_for.ensures)

-- All outputs have room.
has_room : (e : Else-fired-record_size) → let g = e.args in HasRoom g.card.count (length g.rows.now) (rooms_of g.renewed.now g.changes.now g.fired.now)
has_room e = record { card_room = omega (arith, e.if-renewed-bytes_for.false, e.bytes_for.ensures); changes_there = omega (arith, e.if-changes-lt-CHANGES.false); fired_room = omega (arith, e.if-fired-record_size.false, e.record_size.ensures) }

enough : (e : Else-fired-record_size) (u : OrRefused Answer) → let g = e.args in if_room g.card.count (length g.rows.now) (rooms_of g.renewed.now g.changes.now g.fired.now) u ≡ u
enough e u = let r = has_room e in room_enough _ _ _ u r.card_room r.changes_there r.fired_room

pub returns-then-renewed-bytes_for : goal.returns-then-renewed-bytes_for
returns-then-renewed-bytes_for c = ends_refused _ _ _ _ (short_card _ _ _ _ (omega (arith, c.if-renewed-bytes_for.true, c.bytes_for.ensures)))

pub returns-then-changes-lt-CHANGES : goal.returns-then-changes-lt-CHANGES
returns-then-changes-lt-CHANGES c = ends_refused _ _ _ _ (short_changes _ _ _ _ (card_room (goal.at.returns-then-changes-lt-CHANGES c).Else-renewed-bytes_for) c.if-changes-lt-CHANGES.true)

pub returns-then-fired-record_size : goal.returns-then-fired-record_size
returns-then-fired-record_size c = ends_refused _ _ _ _ (short_fired _ _ _ _ (card_room (goal.at.returns-then-fired-record_size c).Else-renewed-bytes_for) (omega (arith, c.if-changes-lt-CHANGES.false)) (omega (arith, c.if-fired-record_size.true, c.record_size.ensures)))

pub returns-in-Strata : goal.returns-in-Strata
returns-in-Strata c =
    let g = c.args in
    ends_same _ _ _ _ _ (enough (goal.at.returns-in-Strata c).Else-fired-record_size _ ∙ by_strata g.way g.counts.now _ _ _ c.in-Strata.is ∙ ap (λ (w : ℕ). answer_by_firing (rules_of (rows_table g.rows.now)) w (card_values g.card) (changes_of g.slip)) (sym c.requires.0.same_width)) c.settle.ensures

pub returns-in-Marks : goal.returns-in-Marks
returns-in-Marks c =
    let g = c.args in
    ends_same _ _ _ _ _ (enough (goal.at.returns-in-Marks c).Else-fired-record_size _ ∙ by_marks g.way g.counts.now _ _ _ c.in-Marks.is) c.settle_by_marks.ensures
