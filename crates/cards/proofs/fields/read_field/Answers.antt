-- `cards::fields::read_field` meets its contract.
use mathlib.Core.Path.{◌≡◌, sym, ◌∙◌}
use Prim.Native.Nat.{◌^◌}
use native.Mathlib.Nat.{mod-lt, one-mul}
use lib.Pow.{pow_pos}
use Rattle.laws.proofs.Put.{field_word}
use Rattle.cards.proofs.fields.read_field.Goals as goal

pub returns : goal.returns
returns c =
    let s : c.shifted.result ≡ 2 ^ c.args.width = c.shifted.ensures ∙ one-mul (2 ^ c.args.width) in
    let f = field_word c.args.bytes.now c.args.at c.args.width c.byte.result c.byte-2.result
    c.requires.0 c.requires.2 c.byte.ensures.0 c.byte-2.ensures.0 c.byte-2.ensures.1 in
    rw s (sym f, mod-lt _ (pow_pos c.args.width))
