-- `circles::close` meets its contract.
use mathlib.Core.Path.{◌≡◌, refl, sym, ◌∙◌, ap}
use Prim.Native.Nat.{ℕ}
use mathlib.Core.List.{List}
use native.Mathlib.Numerals.{add-one}
use borrow.Author.Tests.{not-true, not-false}
use Rattle.laws.proofs.Equations.{from_true}
use Rattle.table.specs.inner.Flat.{pair_places}
use Rattle.circles.specs.inner.Links.{join_linked, join_through, close_through}
use Rattle.circles.proofs.Leading.{join_over, join_here, through_empty}
use native.Mathlib.Omega.{arith}
use Rattle.circles.proofs.close.Goals as goal

pub through-init : goal.through-init
unfolding close_through
through-init c = refl

pub through-preserved-then-is_empty : goal.through-preserved-then-is_empty
unfolding close_through
through-preserved-then-is_empty c =
    rw (add-one c.through.k) (sym (through_empty c.through.links c.through.k pair_places (from_true _ (sym c.is_empty.ensures ∙ c.if-is_empty.true)))
    ∙ ap (λ (ws : List ℕ). join_through ws c.through.k pair_places) c.through.invariant)

pub from-init : goal.from-init
unfolding join_through
from-init c = refl

pub from-preserved-then-not-linked : goal.from-preserved-then-not-linked
unfolding join_through
from-preserved-then-not-linked c = rw (add-one c.from.p) (sym (join_over c.from.links c.from.p c.through.k (sym c.linked.ensures ∙ not-true c.linked.result c.if-not-linked.true-raw)) ∙ ap (λ (ws : List ℕ). join_linked ws c.from.p c.through.k) c.from.invariant)

pub from-preserved : goal.from-preserved
unfolding join_through
from-preserved c = rw (add-one c.from.p) (c.join.ensures ∙ sym (join_here c.from.links c.from.p c.through.k (sym c.linked.ensures ∙ not-false c.linked.result c.if-not-linked.false-raw)) ∙ ap (λ (ws : List ℕ). join_linked ws c.from.p c.through.k) c.from.invariant)

pub through-preserved : goal.through-preserved
unfolding close_through
through-preserved c =
    let e : c.from.p ≡ pair_places = omega arith in
    rw (add-one c.through.k) ((rw e at c.from.invariant) ∙ ap (λ (ws : List ℕ). join_through ws c.through.k pair_places) c.through.invariant)

pub returns : goal.returns
returns c =
    let e : c.through.k ≡ pair_places = omega arith in
    rw e at c.through.invariant
