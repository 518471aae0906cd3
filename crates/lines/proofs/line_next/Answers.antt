-- `lines::line_next` meets its contract.
use native.Mathlib.Omega.{arith}
use mathlib.Core.Path.{◌≡◌}
use borrow.Author.Rules.{rules}
use Rattle.std.specs.Prelude.{Err}
use Rattle.lines.proofs.LineLaws as lines
use Rattle.lines.proofs.line_next.Goals as goal

pub returns-in_err-head : goal.returns-in_err-head
returns-in_err-head c =
    let z : c.from_residual.result ≡ Err c.in_err-head.field-0.0 = search rules in
    rw z (λ ts slots w l. lines.line_head slots ts _ _ w (c.in_err-head.ensures.0 slots l), tt)

pub returns-in_err-values : goal.returns-in_err-values
returns-in_err-values c =
    let z : c.from_residual-in_err-values.result ≡ Err c.in_err-values.field-0.0 = search rules in
    rw z (λ ts slots w l. lines.line_values slots ts _ _ _ _ w (c.in_ok-head.ensures.0 slots l) c.in_err-values.ensures.0, tt)

pub returns-in_err-next : goal.returns-in_err-next
returns-in_err-next c =
    let z : c.from_residual-in_err-next.result ≡ Err c.in_err-next.field-0.0 = search rules in
    rw z (λ ts slots w l. lines.line_stop slots ts _ _ _ _ _ _ w (c.in_ok-head.ensures.0 slots l) c.in_ok-values.ensures.0 (c.in_err-next.ensures.0 c.args.f.base), tt)

pub returns : goal.returns
returns c =
    let n = c.in_ok-head.ensures in
    let v = c.in_ok-values.ensures in
    let m = c.in_ok-next.ensures in (
      λ ts slots w l. lines.line_end slots ts _ _ _ _ _ _ w (n.0 slots l) v.0 (m.0 c.args.f.base),
      (omega (arith, n.1.2, v.1.0, m.1.0), m.1.1, n.1.0, n.1.1, v.1.2),
    )
