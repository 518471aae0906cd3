-- `lines::slot_of` meets its contract.
use native.Mathlib.Omega.{arith}
use mathlib.Core.Path.{◌≡◌, sym, ◌∙◌}
use mathlib.Core.List.{map}
use lib.ListN.{length}
use borrow.Author.Rules.{rules}
use Rattle.std.proofs.Math.ListN.{get_or-map}
use Rattle.std.proofs.lemmas.List.{ext_get_or, length-map}
use Rattle.lines.specs.inner.Index.{stretch_at}
use Rattle.lines.proofs.slot_of.Goals as goal

pub returns : goal.returns
returns c =
    let spans = c.args.spans in
    let values = c.map-values.result in
    let m = c.map-values.ensures.items in
    let l : length spans ≡ 15 = search rules in
    let d = stretch_at 0 in
    let same : values ≡ map stretch_at spans = ext_get_or d values (map stretch_at spans) (m.long ∙ sym (length-map spans stretch_at ∙ l))
    (λ i h. let k = (m.at i 0 d (omega (arith, m.long, h))).2 in search (rules, get_or-map stretch_at spans i 0)) in
    rw (same, c.name_of.ensures)
