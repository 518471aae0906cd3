-- `unpacking::unpack_in` meets its contract.
use mathlib.Core.Path.{◌≡◌, refl, sym, ◌∙◌}
use mathlib.Core.Bool.{true, false}
use lib.Seq.{length-take-le}
use borrow.Author.Rules.{rules}
use native.Mathlib.Omega.{arith}
use Rattle.cards.proofs.Passed.{entered_width, entered_counts}
use Rattle.unpacking.proofs.unpack_in.Goals as goal

pub returns-in_default : goal.returns-in_default
returns-in_default g c = (λ e. refl, λ e. absurd (let z : true ≡ false = sym e ∙ sym c.in_default.ensures.entered in search rules))

pub slice_bounds-counts-end : goal.slice_bounds-counts-end
slice_bounds-counts-end g c = omega (arith, entered_width c.args.t.now c.in-Some.ensures.entered.1.shaped _ _ _ (sym c.in-Some.ensures.entered.0) c.in-Some.ensures.entered.1)

pub slice_bounds-read-end : goal.slice_bounds-read-end
slice_bounds-read-end g c = sym (length-take-le _ _ (omega (arith, entered_width c.args.t.now c.in-Some.ensures.entered.1.shaped _ _ _ (sym c.in-Some.ensures.entered.0) c.in-Some.ensures.entered.1)))

pub read-requires : goal.read-requires
read-requires g c =
    let w = entered_width c.args.t.now c.in-Some.ensures.entered.1.shaped _ _ _ (sym c.in-Some.ensures.entered.0) c.in-Some.ensures.entered.1 in
    rw (length-take-le c.in-Some.entry.width c.admit.new.counts (omega (arith, w))) w

pub returns : goal.returns
returns g c =
    let sh = c.in-Some.ensures.entered.1.shaped in (
      λ e. absurd (let z : true ≡ false = c.in-Some.ensures.entered.0 ∙ e in search rules),
      λ e. rw (← entered_counts c.args.t.now sh _ _ _ (sym c.in-Some.ensures.entered.0) c.in-Some.ensures.entered.1 (search rules)) c.read.ensures,
    )
