-- `soundness::admit` meets its contract.
use mathlib.Core.Path.{◌≡◌, sym, ◌∙◌}
use borrow.Author.Rules.{rules}
use Rattle.std.specs.Prelude.{None}
use Rattle.soundness.proofs.WellFormed.{sound_form, unsound_form}
use Rattle.soundness.proofs.Admitted.{kept_least, kept_bounded}
use Rattle.soundness.proofs.admit.Goals as goal

pub returns-in_err-entry-clause-entered : goal.returns-in_err-entry-clause-entered
returns-in_err-entry-clause-entered g c =
    let z : c.from_residual.result ≡ None = search rules in
    rw z (sym (unsound_form c.args.t.now (sym c.in_err-entry.ensures.entered)))

pub are_least-requires : goal.are_least-requires
are_least-requires g c = kept_bounded c.args.t.now c.in_ok-entry.entry _ _ c.in_ok-entry.ensures.entered.1

pub returns-then-are_least-clause-entered : goal.returns-then-are_least-clause-entered
returns-then-are_least-clause-entered g c =
    let w = c.in_ok-entry.ensures.entered in
    (sym c.if-are_least.true ∙ c.are_least.ensures ∙ kept_least c.args.t.now c.in_ok-entry.entry _ _ w.1 ∙ sym (sound_form c.args.t.now (sym w.0)), w.1)

pub returns-else-are_least-clause-entered : goal.returns-else-are_least-clause-entered
returns-else-are_least-clause-entered g c =
    let w = c.in_ok-entry.ensures.entered in
    sym c.if-are_least.false ∙ c.are_least.ensures ∙ kept_least c.args.t.now c.in_ok-entry.entry _ _ w.1 ∙ sym (sound_form c.args.t.now (sym w.0))
