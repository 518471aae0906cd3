-- `lines::head_next` meets its contract.
use native.Mathlib.Omega.{arith}
use mathlib.Core.Path.{◌≡◌}
use borrow.Author.Rules.{rules}
use Rattle.std.specs.Prelude.{Err}
use Rattle.grammar.specs.Files.{slot_names}
use Rattle.lines.proofs.LineLaws as lines
use Rattle.lines.proofs.head_next.Goals as goal

pub returns-in_err-name : goal.returns-in_err-name
returns-in_err-name c =
    let z : c.from_residual.result ≡ Err c.in_err-name.field-0.0 = search rules in
    rw z (λ slots l. lines.head_name slots _ _ (c.in_err-name.ensures.0 (slot_names slots) l), tt)

pub returns-in_err-next : goal.returns-in_err-next
returns-in_err-next c =
    let z : c.from_residual-in_err-next.result ≡ Err c.in_err-next.field-0.0 = search rules in
    rw z (λ slots l. lines.head_open slots _ _ _ _ (c.in_ok-name.ensures.0 (slot_names slots) l) (c.in_err-next.ensures.0 c.args.f.base), tt)

pub returns : goal.returns
returns c =
    let n = c.in_ok-name.ensures in
    let m = c.in_ok-next.ensures in
    (λ slots l. lines.head_read slots _ _ _ _ (n.0 (slot_names slots) l) (m.0 c.args.f.base), (n.1.0, n.1.1, omega (arith, n.1.2, m.1.0), m.1.1))
