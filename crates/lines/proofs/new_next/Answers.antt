-- `lines::new_next` meets its contract.
use mathlib.Core.Path.{◌≡◌, ap, ◌∙◌}
use lib.ListN.{take, drop}
use native.Mathlib.Nat.{add-sub_cancel_left}
use borrow.Author.Rules.{rules}
use Rattle.std.specs.Prelude.{Err}
use Rattle.text.specs.Tokens.{Name}
use Rattle.grammar.specs.Files.{spellings}
use Rattle.grammar.specs.Reading.{took}
use Rattle.steps.specs.inner.Spans.{key_of}
use Rattle.steps.specs.inner.Places.{tokens_past}
use Rattle.lines.proofs.Index as index
use Rattle.lines.proofs.LineLaws as lines
use Rattle.lines.proofs.new_next.Goals as goal

pub returns-in_err-named : goal.returns-in_err-named
returns-in_err-named c =
    let z : c.from_residual.result ≡ Err c.in_err-named.field-0.0 = search rules in
    rw z (λ names l. lines.new_none names _ _ (c.in_err-named.ensures.0 c.args.f.base), tt)

pub returns-in-Some : goal.returns-in-Some
returns-in-Some c = (λ names l. lines.new_taken names _ _ _ _ (c.in_ok-named.ensures.0 c.args.f.base) (rw add-sub_cancel_left at (c.in-Some.ensures.place (spellings names) l)), tt)

pub returns-in-None : goal.returns-in-None
returns-in-None c =
    let x = c.args in
    let n = c.in_ok-named.named in
    let e = c.in_ok-named.ensures in
    let k : c.key_of.result ≡ key_of (take n.value.size (drop n.value.start x.f.tokens.rest.now)) = rw add-sub_cancel_left at c.key_of.ensures.0 in (
      λ names l. lines.new_free names _ _ _ (e.0 x.f.base) (rw add-sub_cancel_left at (c.in-None.ensures.place (spellings names) l))
          ∙ ap (λ (m : Name). took m (tokens_past x.f.tokens.rest.now x.f.base n.next)) (index.span_past x.f.text.now x.f.tokens.rest.now x.f.base x.at n c.key_of.result x.f.remains e.1),
      index.past_lies x.f.text.now x.f.tokens.rest.now x.f.base x.at n c.key_of.result x.f.remains e.1 k,
    )
