-- `clauses::literal::skip_nots` meets its contract.
use mathlib.Core.Path.{◌≡◌, refl, sym, ap, ◌∙◌}
use native.Mathlib.Omega.{arith}
use borrow.Author.Rules.{rules}
use Rattle.grammar.specs.Reading.{read_literal, plain_literal}
use Rattle.text.specs.declared.Token.TheVariants as v
use Rattle.text.specs.declared.Word.TheVariants as w
use Rattle.steps.proofs.Places as places
use Rattle.clauses.proofs.LiteralLaws as literals
use Rattle.clauses.proofs.literal.skip_nots.Goals as goal

pub returns-then-ne : goal.returns-then-ne
returns-then-ne c =
    let l = c.loop-next in
    let rest = c.args.tokens.rest.now in
    let t : c.token_by-next.result.token ≡ v.Word w.Not → ⊥ = search rules in
    record {
      at = l.at;
      later = l.invariant.0;
      nots = λ base slots.
          let e = places.stands rest base l.at _ _ c.token_by-next.ensures refl in
          l.invariant.1 base slots ∙ ap (λ ts. read_literal ts slots l.negated) e ∙ literals.literal_plain rest base _ _ slots l.negated t ∙ ap (plain_literal slots l.negated) (sym e);
      here = c.token_by-next.ensures;
    }

pub loop-next-smaller : goal.loop-next-smaller
loop-next-smaller c =
    let t : c.token_by-next.result.token ≡ v.Word w.Not = search rules in
    let n = places.lies c.args.tokens.rest.now c.loop-next.at _ _ c.token_by-next.ensures t in
    omega (arith, n.0, n.1)

pub loop-next-preserved : goal.loop-next-preserved
loop-next-preserved c =
    let l = c.loop-next in
    let rest = c.args.tokens.rest.now in
    let t : c.token_by-next.result.token ≡ v.Word w.Not = search rules in
    let n = places.lies rest l.at _ _ c.token_by-next.ensures t in
    (omega (arith, n.0, l.invariant.0), λ base slots. l.invariant.1 base slots ∙ ap (λ ts. read_literal ts slots l.negated) (places.stands rest base l.at _ _ c.token_by-next.ensures t) ∙ literals.literal_not _ slots l.negated)
