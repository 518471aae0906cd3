-- `circles::spread` meets its contract.
use mathlib.Core.Path.{◌≡◌, refl, sym, ◌∙◌, ap}
use mathlib.Core.Bool.{Bool, false}
use mathlib.Core.List.{List}
use lib.ListN.{get_or}
use borrow.Author.Tests.{not-true, not-false}
use Rattle.table.specs.inner.Flat.{pair_places}
use Rattle.circles.specs.inner.Links.{flag_connected, spread}
use Rattle.circles.proofs.Leading.{spread_over, spread_next}
use native.Mathlib.Omega.{arith}
use Rattle.circles.proofs.spread.Goals as goal

pub flagged-init : goal.flagged-init
unfolding spread
flagged-init c = refl

pub flagged-preserved-then-not-flags-k : goal.flagged-preserved-then-not-flags-k
flagged-preserved-then-not-flags-k c = c.flagged.invariant ∙ sym (spread_over c.args.links.now c.args.flags.now c.flagged.k (not-true (get_or c.args.flags.now c.flagged.k false) c.if-not-flags-k.true-raw))

pub flagged-preserved : goal.flagged-preserved
flagged-preserved c =
    c.flag_connected.ensures ∙ ap (λ (bs : List Bool). flag_connected c.args.links.now c.flagged.k bs pair_places) c.flagged.invariant
    ∙ sym (spread_next c.args.links.now c.args.flags.now c.flagged.k (not-false (get_or c.args.flags.now c.flagged.k false) c.if-not-flags-k.false-raw))

pub returns : goal.returns
returns c =
    let e : c.flagged.k ≡ pair_places = omega arith in
    rw e at c.flagged.invariant
