-- `cards::fields::put_field` meets its contract.
use mathlib.Core.Path.{◌≡◌, ap, ◌∙◌}
use Prim.Native.Nat.{ℕ, ◌+◌, ◌*◌, ◌^◌, ◌%◌, ◌-◌, ◌≤◌, ◌<◌}
use lib.Pow.{pow_mono, shl_lt}
use Rattle.laws.proofs.Put.{kept_lt, put_one, put_two}
use native.Mathlib.Omega.{arith}
use Rattle.cards.proofs.fields.put_field.Goals.{After-shifted, After-shifted-word}
use Rattle.cards.proofs.fields.put_field.Goals as goal

-- The bits kept and the field after them fill no more than the bits used.
joined-lt : (c : After-shifted) → c.shifted.result + c.args.x < 2 ^ (c.args.at % 8 + c.args.width)
joined-lt c = rw c.shifted.ensures (kept_lt (c.args.at % 8) c.args.width c.args.x c.number.result (omega arith) c.number.ensures.1 c.requires.2)

-- The word is one of two bytes.
word_lt : (c : After-shifted-word) → c.shifted-word.result < 65536
word_lt c =
    let h = c.args.at % 8 + c.args.width in
    let z : h + (16 - h) ≡ 16 = omega (arith, c.requires.1) in
    rw c.shifted-word.ensures (rw z at (shl_lt h (16 - h) ((let it : c.shifted.result + c.args.x < 2 ^ (c.args.at % 8 + c.args.width) = rw c.shifted.ensures (kept_lt (c.args.at % 8) c.args.width c.args.x c.number.result (omega arith) c.number.ensures.1 c.requires.2) in it))))

pub overflow_cast-out : goal.overflow_cast-out
overflow_cast-out c = record { fits = omega (arith, word_lt (goal.at.overflow_cast-out c).After-shifted-word) }

pub returns-then-used-gt8 : goal.returns-then-used-gt8
returns-then-used-gt8 c =
    let n = c.number in
    let m = c.shifted-word.ensures ∙ ap (λ (z : ℕ). (z + c.args.x) * 2 ^ (16 - (c.args.at % 8 + c.args.width))) c.shifted.ensures in
    put_two c.args.out.now c.args.at c.args.width c.args.x n.result c.shifted-word.result c.requires.0 c.requires.1 c.requires.2 c.requires.4 n.ensures.0 n.ensures.1 m c.if-used-gt8.true

pub returns-else-used-gt8 : goal.returns-else-used-gt8
returns-else-used-gt8 c =
    let n = c.number in
    let m = c.shifted-word.ensures ∙ ap (λ (z : ℕ). (z + c.args.x) * 2 ^ (16 - (c.args.at % 8 + c.args.width))) c.shifted.ensures in
    put_one c.args.out.now c.args.at c.args.width c.args.x n.result c.shifted-word.result c.requires.0 c.requires.1 c.requires.2 c.requires.4 n.ensures.0 n.ensures.1 m c.if-used-gt8.false
