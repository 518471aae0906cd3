-- `packing::pack::check_card` meets its contract.
use mathlib.Core.Path.{sym, ◌∙◌}
use native.Mathlib.Omega.{arith}
use Rattle.laws.specs.Answers.{passed, fault}
use Rattle.cards.specs.Cards.{card_values}
use Rattle.cards.proofs.Tested.{values_next, values_fault, values_end, other_count, same_count}
use Rattle.cards.proofs.Formed.{card_length, card_at}
use Rattle.packing.proofs.pack.check_card.Goals as goal

pub returns-then-c-counts : goal.returns-then-c-counts
returns-then-c-counts c = sym (other_count c.args.counts.now (card_values c.args.c) (λ e. c.if-c-counts.true (sym (card_length c.args.c) ∙ e)))

pub returns-then-last-from : goal.returns-then-last-from
returns-then-last-from c =
    let l = card_length c.args.c in
    let v = card_at c.args.c c.loop-i.i (omega arith) in
    sym (same_count c.args.counts.now (card_values c.args.c) (fault 22 c.loop-i.i) (omega (arith, l))
    (values_fault c.args.counts.now (card_values c.args.c) c.loop-i.i (omega arith) (omega (arith, l)) c.loop-i.invariant (omega (arith, v, c.from.ensures))))

pub loop-i-preserved : goal.loop-i-preserved
loop-i-preserved c =
    let l = card_length c.args.c in
    let v = card_at c.args.c c.loop-i.i (omega arith) in
    values_next c.args.counts.now (card_values c.args.c) c.loop-i.i (omega arith) (omega (arith, l)) c.loop-i.invariant (omega (arith, v, c.from.ensures))

pub returns : goal.returns
returns c =
    sym (same_count c.args.counts.now (card_values c.args.c) passed (omega (arith, card_length c.args.c)) (values_end c.args.counts.now (card_values c.args.c) c.loop-i.i (omega arith) c.loop-i.invariant))
