-- `text::run_token` meets its contract.
use mathlib.Core.Path.{sym}
use Rattle.text.proofs.Here as here
use Rattle.text.proofs.run_token.Goals as goal

pub returns-in-Some : goal.returns-in-Some
returns-in-Some c =
    let a = c.args in
    let p = c.requires in
    sym (here.run_word a.text.now a.start a.end c.in-Some.word p.0 p.1 c.if-size-gt-NAME_LIMIT.false c.in-Some.ensures)
