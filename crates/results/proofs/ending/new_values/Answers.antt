-- `results::ending::new_values` meets its contract.
use mathlib.Core.Path.{◌≡◌, refl, ◌∙◌}
use Rattle.laws.specs.Filled.{filled}
use Rattle.laws.specs.Tabulated.{tabulate}
use Rattle.model.specs.Result.{new_value, new_card}
use Rattle.laws.specs.Limits.{slot_limit, row}
use Rattle.table.specs.inner.Flat.{set_of}
use Rattle.results.specs.inner.Ending.{new_places}
use Rattle.results.proofs.Values.{new_changed, new_kept, filled_next}
use native.Mathlib.Omega.{arith}
use borrow.Author.Rules.{rules}
use Rattle.results.proofs.ending.new_values.Goals.{in-Some, in-None}
use Rattle.results.proofs.ending.new_values.Goals as goal

pub loop-s-init : goal.loop-s-init
unfolding filled tabulate
loop-s-init c = refl

pub loop-s-preserved : goal.loop-s-preserved
loop-s-preserved c =
    let C = set_of c.args.changes.now in
    let q : c.match-changed_value.values ≡ new_value row C c.args.card.now c.loop-s.s = elim c.match-changed_value.branch [
      | in-Some w ↦ w.values-is ∙ new_changed C c.args.card.now c.loop-s.s w.in-Some.v w.in-Some.ensures.1 w.in-Some.ensures.0
      | in-None w ↦ w.values-is ∙ new_kept C c.args.card.now c.loop-s.s row w.in-None.ensures (omega arith)
    ] in
    rw (q, c.loop-s.invariant) (filled_next slot_limit c.loop-s.s (new_value row C c.args.card.now) (search rules))

pub returns : goal.returns
unfolding new_places new_card
returns c =
    let e : c.loop-s.s ≡ c.args.width = omega arith in
    rw e at c.loop-s.invariant
