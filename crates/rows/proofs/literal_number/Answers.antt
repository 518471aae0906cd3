-- `rows::literal_number` meets its contract.
use mathlib.Core.Path.{◌≡◌, ◌∙◌}
use mathlib.Core.Bool.{cond}
use mathlib.Core.Logic.{⊎_elim}
use native.Mathlib.Omega.{arith}
use Rattle.rows.proofs.Laws.{test_number}
use Rattle.rows.proofs.literal_number.Goals as goal

pub overflow_add-result : goal.overflow_add-result
overflow_add-result c = let p = c.place_number-p.ensures.1 in record { fits = ⊎_elim (λ w. omega (arith, w, p)) (λ w. omega (arith, w, p)) c.if-l.branch-raw }

pub overflow_add-result-2 : goal.overflow_add-result-2
overflow_add-result-2 c = let p = c.place_number-p.ensures.1 in record { fits = ⊎_elim (λ w. ⊎_elim (λ v. omega (arith, w, v, p)) (λ v. omega (arith, w, v, p)) c.if-l-2.branch-raw) (λ w. ⊎_elim (λ v. omega (arith, w, v, p)) (λ v. omega (arith, w, v, p)) c.if-l-2.branch-raw) c.if-l.branch-raw }

pub returns : goal.returns
returns c =
    let l = c.args.l in
    let b : c.if-l.b ≡ cond l.becomes 512 0 = ⊎_elim (λ w. w.b-is ∙ rw w.if-l.true) (λ w. w.b-is ∙ rw w.if-l.false) c.if-l.branch-raw in
    let n : c.if-l-2.n ≡ cond l.negated 1024 0 = ⊎_elim (λ w. w.n-is ∙ rw w.if-l-2.true) (λ w. w.n-is ∙ rw w.if-l-2.false) c.if-l-2.branch-raw in
    rw (b, n) (test_number c.place_number-p.result l.becomes l.negated l.slot l.value c.place_number-p.ensures.1 c.place_number-p.ensures.0)
