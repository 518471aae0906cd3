-- `steps::lookup::place_of` meets its contract.
use Prim.Native.Nat.{suc}
use native.Mathlib.Omega.{arith}
use mathlib.Core.Path.{◌≡◌, refl, ap, subst, ◌∙◌}
use lib.ListN.{length}
use native.Mathlib.Nat.{add-sub_cancel_left}
use borrow.Author.Rules.{rules}
use Rattle.std.specs.Prelude.{Ok, Err}
use Rattle.grammar.specs.Files.{spellings}
use Rattle.steps.specs.inner.Places.{named_part, NamedLies}
use Rattle.steps.proofs.Spans as spans
use Rattle.steps.proofs.lookup.place_of.Goals as goal

pub returns-in_err-read : goal.returns-in_err-read
returns-in_err-read c =
    let n : c.args.named ≡ Err c.in_err-read.field-0.0 = search rules in
    let z : c.from_residual.result ≡ Err c.in_err-read.field-0.0 = search rules in
    rw z (λ base ts names e l. spans.place_none names ts _ (e ∙ ap (named_part _ base) n), λ at l. tt)

pub returns-in-Some : goal.returns-in-Some
returns-in-Some c =
    let n : c.args.named ≡ Ok c.in_ok-read.read = search rules in (
      λ base ts names e l. spans.place_found names ts _ _ (suc c.in-Some.value) (e ∙ ap (named_part _ base) n) (rw add-sub_cancel_left at (c.in-Some.ensures.place (spellings names) l)) (λ z. omega arith),
      λ at l. let k = subst (NamedLies (length c.args.rest.now) at) n l in (c.in-Some.ensures.within, k.0, k.1),
    )

pub returns-in-None : goal.returns-in-None
returns-in-None c =
    let n : c.args.named ≡ Ok c.in_ok-read.read = search rules in
    (λ base ts names e l. spans.place_lacking names ts _ _ 0 (e ∙ ap (named_part _ base) n) (rw add-sub_cancel_left at (c.in-None.ensures.place (spellings names) l)) refl, λ at l. tt)
