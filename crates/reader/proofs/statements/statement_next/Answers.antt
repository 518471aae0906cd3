-- `reader::statements::statement_next` meets its contract.
use Prim.Native.Nat.{ℕ}
use mathlib.Core.Path.{◌≡◌, refl, sym, ap, subst, ◌∙◌}
use mathlib.Core.List.{List}
use lib.ListN.{length}
use borrow.Author.Rules.{rules}
use Rattle.std.specs.Prelude.{Err}
use Rattle.model.specs.Rules as model
use Rattle.text.specs.Tokens.{SLOT}
use Rattle.text.specs.declared.Token.TheVariants as v
use Rattle.steps.specs.inner.Places.{tokens_past}
use Rattle.reader.specs.inner.Statements.{read_on, RuleNext, statement_answer, StatementLies}
use Rattle.steps.proofs.Places as places
use Rattle.reader.proofs.StatementLaws as statements
use Rattle.reader.proofs.statements.statement_next.Goals.{After-word_of-2, then-count-eq0+in_default, else-count-eq0}
use Rattle.reader.proofs.statements.statement_next.Goals as goal

-- Where no slot line stands, a rule must.
rule_stands : (c : After-word_of-2) (rules : List model.Rule) → c.args.count ≡ length rules → RuleNext rules (tokens_past c.args.s.tokens.rest.now c.args.base 0)
rule_stands c rs f =
    let n = c.first-first.ensures in
    let r = c.args.s.tokens.rest.now in
    let b = c.args.base in
    let t : c.first-first.result.token ≡ v.End → ⊥ = search rules in
    statements.rule_stands rs _ (λ z. statements.not_ended r b _ _ t (sym (places.stands r b 0 _ _ n refl) ∙ z))
    (λ z. elim c.if-count-eq0.branch [ then-count-eq0+in_default w ↦ places.expects_stop SLOT _ _ ((w.in_default.ensures r 0 n).0 b) | else-count-eq0 w ↦ absurd (w.if-count-eq0.false (f ∙ z)) ])

pub returns-then-eq : goal.returns-then-eq
returns-then-eq c =
    let s = c.args in
    let t : c.first-first.result.token ≡ v.End = search rules in
    (λ slots rs I e f. ap (read_on s.most slots rs) (places.stands s.s.tokens.rest.now s.base 0 _ _ c.first-first.ensures t) ∙ statements.on_end _ slots rs, tt)

pub returns-in-Ok : goal.returns-in-Ok
returns-in-Ok c =
    let s = c.args in
    let z = c.if-count-eq0.true in
    let w = c.in-Ok.ensures s.s.tokens.rest.now 0 c.first-first.ensures in (
      λ slots rs I e f. let r = statements.no_rules rs (sym f ∙ z) in
          subst (λ (xs : List model.Rule). read_on s.most slots xs (tokens_past s.s.tokens.rest.now s.base 0) ≡ statement_answer s.most s.s.text.now s.s.tokens.rest.now s.base slots xs c.slot_statement.result) (sym r)
          (c.slot_statement.ensures.0 s.most slots I e (w.0 s.base)),
      subst (λ (k : ℕ). StatementLies s.most s.s.text.now (length s.s.tokens.rest.now) s.width k c.slot_statement.result) (sym z) (c.slot_statement.ensures.1 s.most),
    )

pub returns-in_err-at : goal.returns-in_err-at
returns-in_err-at c =
    let z : c.from_residual.result ≡ Err c.in_err-at.field-0.0 = search rules in
    rw z (λ slots rs I e f. statements.no_when _ slots rs _ _ (rule_stands (goal.at.returns-in_err-at c).After-word_of-2 rs f) ((c.in_err-at.ensures c.args.s.tokens.rest.now 0 c.first-first.ensures).0 c.args.base), tt)

pub returns : goal.returns
returns c =
    let w = c.in_ok-at.ensures c.args.s.tokens.rest.now 0 c.first-first.ensures in
    (λ slots rs I e f. c.rule_statement.ensures.0 c.args.base slots rs I f (rule_stands (goal.at.returns c).After-word_of-2 rs f) (w.0 c.args.base), c.rule_statement.ensures.1 c.args.width)
