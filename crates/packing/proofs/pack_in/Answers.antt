-- `packing::pack_in` meets its contract.
use mathlib.Core.Path.{sym}
use lib.Seq.{length-take-le}
use borrow.Author.Rules.{rules}
use native.Mathlib.Omega.{arith}
use Rattle.cards.proofs.Passed.{entered_width, entered_counts, sound_slots}
use Rattle.cards.proofs.Answered.{answer_refused, unsound, when_sound}
use Rattle.packing.proofs.pack_in.Goals as goal

pub returns-in_default : goal.returns-in_default
returns-in_default g c = answer_refused _ 31 0 c.args.out.now (unsound c.args.t.now _ (sym c.in_default.ensures.entered))

pub slice_bounds-counts-end : goal.slice_bounds-counts-end
slice_bounds-counts-end g c = omega (arith, entered_width c.args.t.now c.in-Some.ensures.entered.1.shaped _ _ _ (sym c.in-Some.ensures.entered.0) c.in-Some.ensures.entered.1)

pub slice_bounds-pack_by-end : goal.slice_bounds-pack_by-end
slice_bounds-pack_by-end g c = sym (length-take-le _ _ (omega (arith, entered_width c.args.t.now c.in-Some.ensures.entered.1.shaped _ _ _ (sym c.in-Some.ensures.entered.0) c.in-Some.ensures.entered.1)))

pub pack_by-requires : goal.pack_by-requires
pack_by-requires g c =
    let sh = c.in-Some.ensures.entered.1.shaped in
    rw (entered_counts c.args.t.now sh _ _ _ (sym c.in-Some.ensures.entered.0) c.in-Some.ensures.entered.1 (search rules)) (sound_slots c.args.t.now sh (sym c.in-Some.ensures.entered.0))

pub returns : goal.returns
returns g c =
    let sh = c.in-Some.ensures.entered.1.shaped in
    rw (when_sound c.args.t.now _ (sym c.in-Some.ensures.entered.0), ← entered_counts c.args.t.now sh _ _ _ (sym c.in-Some.ensures.entered.0) c.in-Some.ensures.entered.1 (search rules)) c.pack_by.ensures
