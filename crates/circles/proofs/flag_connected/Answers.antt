-- `circles::flag_connected` meets its contract.
use mathlib.Core.Path.{◌≡◌, refl, sym, ◌∙◌, ap}
use mathlib.Core.Bool.{Bool, true}
use mathlib.Core.List.{List}
use lib.ListN.{set}
use borrow.Author.Tests.{not-true, not-false}
use Rattle.table.specs.inner.Flat.{pair_places}
use Rattle.circles.specs.inner.Links.{flag_connected}
use Rattle.circles.proofs.Leading.{connect_over, connect_next}
use native.Mathlib.Omega.{arith}
use Rattle.circles.proofs.flag_connected.Goals as goal

pub pairs-init : goal.pairs-init
unfolding flag_connected
pairs-init c = refl

pub pairs-preserved-then-not-connected : goal.pairs-preserved-then-not-connected
pairs-preserved-then-not-connected c = c.pairs.invariant ∙ sym (connect_over c.args.links.now c.args.k c.args.flags.now c.pairs.p (sym c.connected.ensures ∙ not-true c.connected.result c.if-not-connected.true-raw))

pub pairs-preserved : goal.pairs-preserved
pairs-preserved c = ap (λ (bs : List Bool). set bs c.pairs.p true) c.pairs.invariant ∙ sym (connect_next c.args.links.now c.args.k c.args.flags.now c.pairs.p (sym c.connected.ensures ∙ not-false c.connected.result c.if-not-connected.false-raw))

pub returns : goal.returns
returns c =
    let e : c.pairs.p ≡ pair_places = omega arith in
    rw e at c.pairs.invariant
